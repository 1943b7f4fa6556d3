-- Writing a text by calls that are each offered all that is not written yet.
use Rattle.std.specs.Prelude.{ℕ, ◌+◌, ◌<◌, List, length, drop, Ok, Err}
use Rattle.std.specs.declared.result.Result.{Result}
use Rattle.qir_ports.specs.declared.port.Failed.{Failed}

-- `may k offered r k'` says that a call at k that is offered these bytes may answer r and lead to k'
module _ {K : Type 0} (may : K → List ℕ → Result ℕ Failed → K → Type 0) (first : K) (bytes : List ℕ) where
  -- such calls wrote the first bytes, so many of them, and led to a sink
  pub data Offers : ℕ → K → Type 0 where
    none : Offers 0 first
    more : {written n : ℕ} {k now : K} → Offers written k → written < length bytes
        → may k (drop written bytes) (Ok n) now → Offers (written + n) now

  -- and the call after them failed
  pub record OffersToFailure (written : ℕ) (now : K) : Type 0 where
    pub before : K
    pub offers : Offers written before
    pub e : Failed
    pub fails : may before (drop written bytes) (Err e) now

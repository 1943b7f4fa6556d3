-- The states of a source and of a sink in memory, and what a call does to them.
use Rattle.std.specs.Prelude.{◌≡◌, ℕ, ◌+◌, ◌-◌, ◌^◌, ◌==◌, ◌&&◌, ◌||◌, ◌++◌, Bool, not, nat_lt, min, List, length, take, is_err, IfOk, OnErr}
use Rattle.std.specs.List.{list_any}
use Rattle.std.specs.declared.result.Result.{Result}
use Rattle.ir_values.specs.Counts.{one_more}
use Rattle.qir_ports.specs.declared.port.Failed.{Failed}

pub record SourceState : Type 0 where
  pub rest : List ℕ  -- the bytes left
  pub piece : ℕ  -- the most bytes that one call gives
  pub failing : List ℕ  -- the numbers of the calls that fail
  pub calls : ℕ  -- the calls so far, up to the last value of a u64
  pub faults : ℕ  -- those of them that failed, up to the same value

pub record SinkState : Type 0 where
  pub taken : List ℕ  -- the bytes taken
  pub piece : ℕ  -- the most bytes that one call takes
  pub room : ℕ  -- the most bytes that all calls take
  pub failing : List ℕ  -- the numbers of the calls that fail
  pub calls : ℕ  -- the calls so far, up to the last value of a u64
  pub faults : ℕ  -- those of them that failed, up to the same value

-- whether the list numbers, from 1, the call after so many. A call after number 2^64 - 1 has no number
abbrev pub next_fails : List ℕ → ℕ → Bool
next_fails failing calls = nat_lt calls (2 ^ 64 - 1) && list_any (λ number. number == calls + 1) failing

-- a write to a sink in memory that is offered these bytes. It fails exactly where there are some and the call
-- is numbered or no room is left. Otherwise it takes the least of their number, the piece and the room left
pub record MemWrite (old : SinkState) (bytes : List ℕ) (result : Result ℕ Failed) (new : SinkState) : Type 0 where
  pub fails : is_err result ≡ not (length bytes == 0) && (next_fails old.failing old.calls || (length old.taken == old.room))
  pub count : IfOk result (λ n. n ≡ min (length bytes) (min old.piece (old.room - length old.taken)))
  pub ok : IfOk result (λ n. new ≡ record old { taken = old.taken ++ take n bytes; calls = one_more old.calls })
  pub err : OnErr result (new ≡ record old { calls = one_more old.calls; faults = one_more old.faults })

-- A backend that answers given bits, in order, and fails at one call.
use Rattle.std.specs.Prelude.{◌≡◌, ◌==◌, ℕ, ◌+◌, ◌-◌, ◌^◌, ◌&&◌, nat_lt, nat_le, Bool, true, Result, Ok, Err, Some, List, if◌then◌else◌}
use Rattle.backend_api.specs.declared.backend.Stop.{Stop}
use Rattle.backend_api.specs.declared.backend.Stop.TheVariants as stop
use Rattle.backend_api.specs.declared.backend.Turned.{Turned}
use Rattle.backend_api.specs.declared.operation.Event.{Event}
use Rattle.backend_api.specs.Backend.{BackendState}
use Rattle.ir_values.specs.Counts.{one_more}
use Rattle.scripted_backend.specs.Script.{ScriptState}
use Rattle.scripted_backend.specs.Script as script

pub record FlakyState : Type 0 where
  pub script : ScriptState  -- the events, the bits left, and the room for events
  pub fails_at : ℕ  -- the number of the call that fails, or 0
  pub counted : ℕ  -- the calls that were counted, up to the last value of a u64

-- the next call that is counted is the one that fails. A call after number 2^64 - 1 has no number
abbrev pub fails_next : FlakyState → Bool
fails_next s = nat_lt s.counted (2 ^ 64 - 1) && (s.counted + 1 == s.fails_at)

-- 1 after the call that fails, and 0 before it
abbrev pub faults_of : FlakyState → ℕ
faults_of s = if nat_lt 0 s.fails_at && nat_le s.fails_at s.counted then 1 else 0

-- all but the faults are those of the script
abbrev pub seen : FlakyState → BackendState
seen s = record (script.seen s.script) { faults = faults_of s }

abbrev pub told_fits : (s : FlakyState) (es : List Event) → (seen s).events ≡ Some es → (seen s).fits es ≡ true
told_fits s = script.told_fits s.script

-- a refusal is counted where it is a failure
abbrev pub counted_refusal : Stop → ℕ → ℕ
counted_refusal stop.Unsupported n = n
counted_refusal stop.Empty n = n
counted_refusal stop.Failed n = one_more n
counted_refusal stop.Memory n = n

-- how many calls are counted after one more, by what it answered
abbrev pub counted_after : {A : Type 0} → Result A Turned → ℕ → ℕ
counted_after (Ok a) n = one_more n
counted_after (Err turned) n = counted_refusal turned.why n

-- the call failed
abbrev pub Fails : {A : Type 0} → Result A Turned → Type 0
Fails (Ok a) = ⊥
Fails (Err turned) = turned.why ≡ stop.Failed

-- A call that is counted keeps what it has to keep.
use Rattle.std.proofs.Common.{◌≡◌, ℕ, ◌≤◌, arith, subst, sym}
use Rattle.std.proofs.lemmas.Bool.Decides.{nat_tests}
use Rattle.backend_api.specs.Backend.{Keeps}
use Rattle.scripted_backend.specs.Script.{ScriptState}
use Rattle.scripted_backend.specs.Script as script
use Rattle.failing_backend.specs.Flaky.{FlakyState, faults_of, seen}

abbrev pub counted : FlakyState → ScriptState → ℕ → FlakyState
counted s now n = record { script = now; fails_at = s.fails_at; counted = n }

rise : (s : FlakyState) (now : ScriptState) (n : ℕ) → s.counted ≤ n → faults_of s ≤ faults_of (counted s now n)
rise s now n h = grind (arith, nat_tests)

pub counting_keeps : (s after : FlakyState) (now : ScriptState) (n : ℕ) → Keeps (script.seen s.script) (script.seen now) → s.counted ≤ after.counted
    → after ≡ counted s now n → Keeps (seen s) (seen after)
counting_keeps s after now n k h e =
    subst (λ a. Keeps (seen s) (seen a)) (sym e) (record { can = k.can; fits = k.fits; faults = rise s now n (subst (λ a. s.counted ≤ a.counted) e h) })

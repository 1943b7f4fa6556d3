-- A backend that answers given bits, in order.
use Rattle.std.specs.Prelude.{◌≡◌, ℕ, Bool, true, Some, List, ◌++◌, length, refl}
use Rattle.std.specs.Bool.{beq}
use Rattle.std.specs.Cmp.{booleans_Decides}
use Rattle.std.specs.List.{starts_with}
use Rattle.std.proofs.Common.{ap}
use Rattle.std.proofs.lemmas.Slice.Eq.{starts_is}
use Rattle.backend_api.specs.declared.operation.Event.{Event}
use Rattle.backend_api.specs.Backend.{BackendState}
use Rattle.backend_api.specs.Operations.{bits_in}

pub record ScriptState : Type 0 where
  pub events : List Event  -- the operations that it answered, the oldest first
  pub left : List Bool  -- the bits left, the next one first
  pub spare : ℕ  -- so many events more need no memory

-- all the bits that it was given: those that it answered, and then those left
abbrev pub given : ScriptState → List Bool
given s = bits_in s.events ++ s.left

-- it can do every operation, has no faults, and its events fit where their bits are the first of those given
abbrev pub seen : ScriptState → BackendState
seen s = record {
  events = Some s.events;
  fits = λ es. starts_with beq (given s) (bits_in es);
  faults = 0;
  can = λ _. true;
  outcomes = Some (length s.left);
  spare = s.spare;
}

pub told_fits : (s : ScriptState) (es : List Event) → (seen s).events ≡ Some es → (seen s).fits es ≡ true
told_fits s es e =
    (starts_is {E = beq} booleans_Decides (given s) (bits_in es) _ refl).1 s.left (ap (λ l. bits_in l ++ s.left) (events_told e))
  where
    events_told : Some s.events ≡ Some es → s.events ≡ es
    events_told told = cc

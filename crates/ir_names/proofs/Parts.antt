-- The faults of parts, one behind the other.
use Rattle.std.proofs.Common.{◌≡◌, List, [], ◌∷◌, ◌++◌, refl}
use Rattle.ir_names.specs.declared.fault.Fault.{Fault}
use Rattle.ir_names.specs.declared.fault.Stop.{Stop}
use Rattle.ir_names.specs.declared.fault.Stop.TheVariants.{Memory, At}
use Rattle.ir_names.specs.code.Answers.{Fails}

pub fails_front : (fs gs : List Fault) (e : Stop) → Fails fs e → Fails (fs ++ gs) e
fails_front fs gs Memory h = tt
fails_front [] gs (At f) h = absurd h
fails_front (g ∷ fs) gs (At f) h = h

pub fails_behind : (fs gs : List Fault) (e : Stop) → fs ≡ [] → Fails gs e → Fails (fs ++ gs) e
fails_behind fs gs e z h = rw z h

pub clean : (fs gs : List Fault) → fs ≡ [] → gs ≡ [] → (fs ++ gs) ≡ []
clean fs gs z y = rw (z, y) refl

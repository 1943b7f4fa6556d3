-- What the code finds at a point.
use Rattle.std.specs.Prelude.{◌≡◌, ⊤}
use Rattle.ir_module.specs.Steps.{Step, PhiAt, InstAt, TermAt, NoStep}
use Rattle.step_parts.specs.declared.places.Found.{Found}
use Rattle.step_parts.specs.declared.places.Found.TheVariants as found

-- neither an instruction nor a terminator
abbrev pub IsNeither : Step → Type 0
IsNeither (PhiAt phi) = ⊤
IsNeither NoStep = ⊤
IsNeither (InstAt i) = ⊥
IsNeither (TermAt t) = ⊥

abbrev pub IsFound : Step → Found → Type 0
IsFound s (found.Inst i) = s ≡ InstAt i.now
IsFound s (found.Term t) = s ≡ TermAt t.now
IsFound s found.Nothing = IsNeither s

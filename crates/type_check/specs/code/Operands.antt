-- What the rules ask of the operands of a step, found in one traversal.
use Rattle.std.specs.Prelude.{◌≡◌, ℕ, ◌+◌, max, nat_lt, if◌then◌else◌, ◌&&◌, ◌||◌, Bool, true, is_some, Option, None, Some, List, [], ◌∷◌, map}
use Rattle.ir_values.specs.declared.sig.TyWord.{TyWord}
use Rattle.ir_values.specs.declared.ty.Ty.{Ty}
use Rattle.ir_module.specs.declared.tree.Function.{Function}
use Rattle.ir_module.specs.declared.tree.Module.{Module}
use Rattle.ir_module.specs.declared.tree.Operand.{Operand}
use Rattle.ir_module.specs.Steps.{Step, steps_of}
use Rattle.ir_module.specs.Classes.{type_words, class_of_function}
use Rattle.type_check.specs.declared.signatures.Signature.{Signature}
use Rattle.type_check.specs.declared.scene.Scene.{Scene}
use Rattle.type_check.specs.declared.seen.Seen.{Seen}
use Rattle.type_check.specs.Required.{qubit_numbers, result_numbers}
use Rattle.type_check.specs.Rules.{operand_known}
use Rattle.type_check.specs.Typing.{operand_has, wants}

-- what is found once of each function
abbrev pub signature_of : Function → Signature
signature_of f = record { words = type_words f; known = is_some f.blocks || is_some (class_of_function f) }

-- the table is that of the module
abbrev pub IsTold : Scene → Type 0
IsTold s = s.signatures.now ≡ map signature_of s.tree.now.funcs

-- the greatest number, if there is one
abbrev pub greater : Option ℕ → Option ℕ → Option ℕ
greater None b = b
greater (Some m) None = Some m
greater (Some m) (Some n) = Some (max m n)

abbrev pub greatest : List ℕ → Option ℕ
greatest [] = None
greatest (n ∷ ns) = greater (Some n) (greatest ns)

unfoldable pub nothing : Seen
nothing = record { types = true; known = true; qubit = None; result = None }

unfoldable pub both : Seen → Seen → Seen
both a b = record {
  types = a.types && b.types;
  known = a.known && b.known;
  qubit = greater a.qubit b.qubit;
  result = greater a.result b.result;
}

-- what is seen of one operand and of several
unfoldable pub seen_one : Module → Function → Ty × Operand → Seen
seen_one m f w = record {
  types = operand_has m f w.1 w.0;
  known = operand_known m w.1;
  qubit = greatest (qubit_numbers w);
  result = greatest (result_numbers w);
}

-- what is seen of the elements of a list one after another
abbrev pub collected : {A : Type 0} → (A → Seen) → List A → Seen
collected h [] = nothing
collected h (x ∷ xs) = both (h x) (collected h xs)

abbrev pub seen : Module → Function → List (Ty × Operand) → Seen
seen m f ws = collected (seen_one m f) ws

-- of a step, of a function and of a module
abbrev pub seen_at : Module → Function → Step → Seen
seen_at m f s = seen m f (wants f s)

abbrev pub seen_in : Module → Function → Seen
seen_in m f = collected (seen_at m f) (steps_of f)

abbrev pub seen_in_all : Module → Seen
seen_in_all m = collected (seen_in m) m.funcs

-- one more than the greatest number, but at most the limit
abbrev pub above : ℕ → Option ℕ → ℕ
above limit None = 0
above limit (Some n) = if nat_lt n limit then n + 1 else limit

-- The class of a function, by the table of the classes.
use Rattle.std.proofs.Common.{◌≡◌, ℕ, Option, Some, List, map, ◌∙◌, ap, slice_get}
use Rattle.std.specs.Option.{option_map}
use Rattle.std.proofs.lemmas.Option.{slice_get-map}
use Rattle.ir_module.specs.declared.tree.Function.{Function}
use Rattle.ir_module.specs.Classes.{class_of_function}
use Rattle.ir_values.specs.declared.class.Class.{Class}

pub class_at : (fs : List Function) (cs : List (Option Class)) (g : ℕ) (f : Function) → cs ≡ map class_of_function fs → slice_get fs g ≡ Some f
    → slice_get cs g ≡ Some (class_of_function f)
class_at fs cs g f e h = ap (λ l. slice_get l g) e ∙ (slice_get-map class_of_function fs g ∙ ap (option_map class_of_function) h)

-- What was found, before what is found next.
use Rattle.std.proofs.Common.{◌≡◌, Option, None, Some, List, [], ◌∷◌, ◌++◌, refl, ap, append_assoc}
use Rattle.ir_values.specs.declared.ty.Ty.{Ty}
use Rattle.kept_items.specs.declared.val.Val.{Val}
use Rattle.static_steps.specs.Operations.{one_more_arg}
use Rattle.static_steps.specs.Values.{one_val}

abbrev pub ahead : {A : Type 0} → List A → Option (List A) → Option (List A)
ahead ms None = None
ahead ms (Some ns) = Some (ms ++ ns)

pub ahead_arg : (ms : List (Ty × Val)) (t : Ty) (v : Val) (o : Option (List (Ty × Val))) →
    ahead (ms ++ (t, v) ∷ []) o ≡ ahead ms (one_more_arg t v o)
ahead_arg ms t v None = refl
ahead_arg ms t v (Some ns) = ap Some (append_assoc ms ((t, v) ∷ []) ns)

pub ahead_val : (ms : List Val) (v : Val) (o : Option (List Val)) →
    ahead (ms ++ v ∷ []) o ≡ ahead ms (one_val (Some v) o)
ahead_val ms v None = refl
ahead_val ms v (Some ns) = ap Some (append_assoc ms (v ∷ []) ns)

-- Parts of a node.
use Rattle.std.proofs.Common.{◌≡◌, List, [], ◌∷◌, ◌++◌, Option, None, Some, refl, append_assoc}
use Rattle.std.specs.Option.{option_map}
use Rattle.ir_module.specs.declared.tree.FlagPart.{FlagPart}
use Rattle.ir_names.specs.Metadata.{with_part}

pub one_more_part : (out : List FlagPart) (p : FlagPart) (o : Option (List FlagPart)) → option_map (λ ps. out ++ ps) (option_map (with_part p) o) ≡ option_map (λ ps. (out ++ p ∷ []) ++ ps) o
one_more_part out p None = refl
one_more_part out p (Some ps) = simp append_assoc

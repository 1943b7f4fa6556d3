-- A function whose name is a number has no class.
use Rattle.std.proofs.Common.{◌≡◌, refl, None, List, []}
use Rattle.ir_values.specs.declared.sig.TyWord.{TyWord}
use Rattle.ir_values.specs.Calls.{class_of}

pub nameless : (words : List TyWord) → None ≡ class_of [] words
unfolding class_of
nameless words = refl

use Rattle.std.proofs.Common.{◌≡◌, ◌-◌, List, ◌∷◌, ◌++◌, length, take}
use Rattle.std.specs.Prelude.{flat_map}
use Rattle.ir_values.specs.declared.sig.TyWord.{TyWord}
use Rattle.ir_values.specs.declared.sig.TyWord.TheVariants as word
use Rattle.ir_values.specs.Types as spec
use Rattle.ir_values.specs.Words.{is_sig, spells}
use Rattle.ir_values.proofs.sig.Sig.new.Given as goal

abbrev pub invariant-loop-param : goal.invariant-loop-param
invariant-loop-param l = record {
  words : l.words ≡ word.Func (length l.params) ∷ (spec.words_of l.ret ++ flat_map spec.words_of (take l.param-index l.params));
  left : (ws : List TyWord) → is_sig (l.words ++ ws) ≡ spells ws (length l.params - l.param-index);
}

use Rattle.std.proofs.Common.{◌≡◌, ◌∙◌, ◌-◌, [], length, ap, arith, append-nil}
use Rattle.std.proofs.lemmas.Grind.{common_steps}
use Rattle.ir_values.proofs.Spelling.{spells-append}
use Rattle.ir_values.proofs.sig.Sig.new.Goals as goal

pub loop-param-init : goal.loop-param-init
loop-param-init c = record {
  words = grind (arith, common_steps);
  left = λ ws. grind (arith, common_steps, spells-append, c.push_words.ensures.one);
}

pub loop-param-preserved : goal.loop-param-preserved
loop-param-preserved c = record {
  words = grind (arith, common_steps, c.loop-param.invariant.words);
  left = λ ws. grind (arith, common_steps, spells-append, c.loop-param.invariant.left);
}

pub from_words-requires : goal.from_words-requires
from_words-requires c =
    let e = simp append-nil at (c.loop-param.invariant.left []) in
    let none : length c.args.params.now - c.loop-param.param-index ≡ 0 = omega (arith, ap length c.as_slice-param-items.ensures) in e ∙ rw none

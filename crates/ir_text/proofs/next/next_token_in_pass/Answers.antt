use Rattle.std.proofs.Common.{ap, ◌∙◌}
use Rattle.std.proofs.lemmas.Bool.{ltb-true}
use Rattle.ir_text.specs.code.Next.{after_gap}
use Rattle.ir_text.proofs.Contract.{left_within}
use Rattle.ir_text.proofs.LabelFree.{first_plain, ok_plain}
use Rattle.ir_text.proofs.next.next_token_in_pass.Goals as goal

pub overflow_sub-label_free : goal.overflow_sub-label_free
overflow_sub-label_free c = left_within c.args.bytes.now c.after_gap-rest.result.now c.args.at c.requires.within (c.after_gap-rest.ensures ∙ ap (after_gap _) c.split_at.ensures.back)

pub next_at-requires-clause-label_free : goal.next_at-requires-clause-label_free
next_at-requires-clause-label_free c = λ h. first_plain c.args.bytes.now c.after_gap-rest.result.now c.args.at _ c.requires.within (c.after_gap-rest.ensures ∙ ap (after_gap _) c.split_at.ensures.back) c.label_free_from-label_free_to.ensures (ltb-true _ _ h)

pub returns-clause-label_free : goal.returns-clause-label_free
returns-clause-label_free c = ok_plain _ c.args.bytes.now _ _ c.next_at.ensures.behind c.label_free_from-label_free_to.ensures

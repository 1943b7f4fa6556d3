use Rattle.std.proofs.Common.{ap, arith, length}
use Rattle.ir_text.proofs.Contract.{left_within}
use Rattle.ir_text.proofs.LabelFree.{at_rest, rest_drop, later, found_plain, length-behind_label_free}
use Rattle.ir_text.proofs.next.label_free_from.Goals as goal

pub overflow_sub-bytes : goal.overflow_sub-bytes
overflow_sub-bytes c = left_within c.args.bytes.now c.args.rest.now c.args.at c.requires.within c.requires.rest

pub overflow_sub-result : goal.overflow_sub-result
overflow_sub-result c = omega (arith, left_within c.args.bytes.now c.args.rest.now c.args.at c.requires.within c.requires.rest, ap length c.behind_label_free.ensures, length-behind_label_free c.args.rest.now)

pub returns-then-bytes-rest : goal.returns-then-bytes-rest
returns-then-bytes-rest c = later c.args.bytes.now c.args.at _ _ (at_rest c.args.bytes.now c.args.rest.now c.args.at c.requires.within c.requires.rest) c.requires.label_free

pub returns-else-bytes-rest : goal.returns-else-bytes-rest
returns-else-bytes-rest c = rw (ap length c.behind_label_free.ensures) (found_plain c.args.bytes.now c.args.rest.now (rest_drop c.args.bytes.now c.args.rest.now c.args.at c.requires.within c.requires.rest) (left_within c.args.bytes.now c.args.rest.now c.args.at c.requires.within c.requires.rest))

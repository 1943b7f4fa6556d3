use Rattle.std.proofs.Common.{◌≤◌, ◌-◌, length}
use Rattle.ir_text.specs.code.LabelFree.{IsLabelFree}
use Rattle.ir_tokens.proofs.Scanning.{SoFar}
use Rattle.ir_tokens.proofs.text.scan.Given as goal

abbrev pub invariant-loop-kind : goal.invariant-loop-kind
invariant-loop-kind l = record {
  within : l.at ≤ length l.bytes;
  label_free : IsLabelFree l.bytes l.at l.label_free_to;
  found : SoFar l.bytes l.at l.tokens.items;
}

abbrev pub decreases-loop-kind : goal.decreases-loop-kind
decreases-loop-kind l = length l.bytes - l.at

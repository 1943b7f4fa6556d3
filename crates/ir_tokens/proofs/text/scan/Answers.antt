use Rattle.std.proofs.Common.{sym, ◌∙◌, arith}
use Rattle.ir_tokens.proofs.Scanning.{goes_on}
use Rattle.ir_tokens.proofs.text.scan.Goals as goal

pub loop-kind-preserved : goal.loop-kind-preserved
loop-kind-preserved c =
    let n = c.next_token_in_pass-answer.ensures in
    let s = rw c.in-Ok.is at n.slice in
    let e = sym c.in-Ok.is ∙ n.next in
    record {
      within = s.2;
      label_free = rw c.in-Ok.is at n.label_free;
      found = rw c.in_ok-push-in-Ok.ensures.items (rw c.token_of.ensures (goes_on c.tokens_are_one.ensures.step c.args.bytes.now c.loop-kind.at c.in-Ok.kind c.in-Ok.span c.loop-kind.tokens.items e (sym c.is_end.ensures ∙ c.if-is_end.false) (omega (arith, s.0, s.1)) c.loop-kind.invariant.found));
    }

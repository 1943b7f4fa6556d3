use Rattle.std.proofs.Common.{sym, ◌∙◌}
use Rattle.bit_backend.specs.code.Table.{bit_in}
use Rattle.bit_backend.proofs.Histories.{fits-answered, bits-answered}
use Rattle.bit_backend.proofs.bits.Bits.perform.Goals as goal

pub invariant_of-self-inside-2 : goal.invariant_of-self-inside-2
invariant_of-self-inside-2 c =
    rw (c.in_ok-push.ensures.ok, c.answer_to-answer.ensures) (
      fits-answered c.self.inside.events.items (bit_in c.reserve.new.self) (λ p. rw c.reserve.ensures.entries (c.self.invariant p)) c.args.op c.in-Some.action
          (sym c.in-Some.ensures) c.self.inside.fitting,
      tt,
    )

pub invariant_of-self-2 : goal.invariant_of-self-2
invariant_of-self-2 c p =
    rw (c.in_ok-push.ensures.ok, c.answer_to-answer.ensures)
    (c.apply.ensures p
    ∙ bits-answered c.self.inside.events.items (bit_in c.reserve.new.self) (λ q. rw c.reserve.ensures.entries (c.self.invariant q)) c.args.op c.in-Some.action
    (sym c.in-Some.ensures) p)

use Rattle.std.proofs.Common.{ℕ, subst, sym}
use Rattle.ir_module.specs.Places.{ComesAfter}
use Rattle.ir_module.specs.declared.places.Point.{Point}
use Rattle.ir_module.specs.declared.places.Spot.TheVariants as spot
use Rattle.ir_names.specs.Places.{block_tokens}
use Rattle.ir_names.proofs.Order.{behind_block}
use Rattle.ir_names.proofs.marks.Marks.block.Goals as goal

pub returns-clause-after : goal.returns-clause-after
returns-clause-after c =
    let places = c.inner.new.self.places in
    let after = subst (λ (q : Point). ComesAfter places (spot.At q)) c.in_ok-inner.ensures.next c.in_ok-inner.ensures.after in
    subst (λ (n : ℕ). ComesAfter places (spot.At (record c.args.point { block = record { 0 = n } }))) (sym c.in_ok-next.ensures)
    (behind_block places c.args.point (block_tokens c.args.block.now) after)

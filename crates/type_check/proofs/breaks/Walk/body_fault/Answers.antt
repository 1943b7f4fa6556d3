use Rattle.std.proofs.Common.{sym, subst, ◌∙◌}
use Rattle.ir_module.specs.Tree.{blocks_of}
use Rattle.type_check.specs.code.Phis.{AreLeft}
use Rattle.type_check.proofs.ArcsLeft.{all-left}
use Rattle.type_check.proofs.breaks.Walk.body_fault.Goals as goal

pub blocks_fault-requires-clause-left : goal.blocks_fault-requires-clause-left
blocks_fault-requires-clause-left c =
    let blocks = blocks_of c.args.self.now.scene.function.now in
    let left = subst (λ bs. AreLeft bs 0 c.in_ok-arcs.arcs) (c.as_slice.ensures ∙ c.requires.own) (all-left c.as_slice.result.now c.in_ok-arcs.arcs c.in_ok-arcs.ensures) in
    subst (AreLeft blocks 0) (sym c.as_slice-2.ensures) left

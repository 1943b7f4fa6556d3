use Rattle.std.proofs.Common.{subst, sym, ap, ◌∙◌, IfSome, Some, Option}
use Rattle.ir_module.specs.declared.tree.Function.{Function}
use Rattle.name_flow.specs.Tables.{IsFlowOf}
use Rattle.name_flow.proofs.Liveness.{IsFlowOf-built, ok-then}
use Rattle.name_flow.proofs.flow.Flow.build.Goals as goal

pub returns : goal.returns
returns c =
    let function : Function = c.function.result.now in
    ok-then c.of_blocks.result (λ flow built. subst (λ (o : Option Function). IfSome o (λ g. IsFlowOf g flow)) (sym c.function.ensures) (IsFlowOf-built function c.as_slice.result.now flow (c.in-Some.is ∙ ap Some (sym c.as_slice.ensures)) built)) c.of_blocks.ensures

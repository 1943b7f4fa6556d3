use Rattle.std.proofs.Common.{◌≡◌, ℕ, sym, ap, ◌∙◌, subst, map, flat_map}
use Rattle.std.proofs.lemmas.Result.{IfOk-weaker}
use Rattle.ir_module.specs.declared.tree.Function.{Function}
use Rattle.ir_module.specs.Steps.{steps_of}
use Rattle.profile_rules.specs.Adaptive.{call_graph, number_called}
use Rattle.returning_edges.specs.Returns.{IsClosed, AreReturning}
use Rattle.adaptive_profile.specs.code.Graphs.{AreReturningCalls}
use Rattle.adaptive_profile.specs.code.Pairs.{holds}
use Rattle.adaptive_profile.proofs.Called.{closed}
use Rattle.adaptive_profile.proofs.Told.{of-edges}
use Rattle.adaptive_profile.proofs.violations.returning_calls.Goals as goal

pub edges_that_return-requires : goal.edges_that_return-requires
edges_that_return-requires c =
    let e : c.in_ok-graph.graph ≡ call_graph c.args.m.now = c.in_ok-graph.ensures ∙ ap (map (λ (f : Function). flat_map number_called (steps_of f))) c.as_slice.ensures in
    subst IsClosed (sym e) (closed c.args.m.now c.requires)

pub returns : goal.returns
returns c =
    let m = c.args.m.now in
    let edges = c.in_ok-edges.edges in
    let e : c.in_ok-graph.graph ≡ call_graph m = c.in_ok-graph.ensures ∙ ap (map (λ (f : Function). flat_map number_called (steps_of f))) c.as_slice.ensures in
    IfOk-weaker c.of.result (λ pairs. (q : ℕ × ℕ) → holds pairs q ≡ holds c.as_slice-2.result.now q) (AreReturningCalls m)
    (λ pairs h. of-edges m edges pairs (subst (λ g. AreReturning g edges) e c.in_ok-edges.ensures) (λ q. h q ∙ ap (λ es. holds es q) c.as_slice-2.ensures))
    c.of.ensures

use Rattle.std.proofs.Common.{◌≡◌, Some, slice_get, sym, subst, IfSome}
use Rattle.std.proofs.lemmas.Option.{slice_get_within}
use Rattle.name_flow.specs.declared.flow.Flow.{Flow}
use Rattle.name_flow.specs.Tables.{HasBody, IsFlowOf}
use Rattle.admission.specs.Admitted.{CheckedModule}
use Rattle.admission.proofs.Flows.{body_flow}
use Rattle.admission.proofs.checked.Checked.flow.Goals as goal

pub at-requires : goal.at-requires
at-requires c =
    let t = c.self.inside.tables in
    let b = body_flow c.self.inside.tree t.flows c.args.f c.self.invariant.1.flows (subst (λ (v : CheckedModule). HasBody v.tree c.args.f) (sym c.self.view_is) c.requires) in
    slice_get_within t.flows c.args.f.0 (Some b.flow) b.is

pub unreachable-requires : goal.unreachable-requires
unreachable-requires c =
    let t = c.self.inside.tables in
    let b = body_flow c.self.inside.tree t.flows c.args.f c.self.invariant.1.flows (subst (λ (v : CheckedModule). HasBody v.tree c.args.f) (sym c.self.view_is) c.requires) in
    let is : slice_get t.flows c.args.f.0 ≡ Some (Some b.flow) = b.is in
    cc

pub returns-clause-flow : goal.returns-clause-flow
returns-clause-flow c =
    let t = c.self.inside.tables in
    let b = body_flow c.self.inside.tree t.flows c.args.f c.self.invariant.1.flows (subst (λ (v : CheckedModule). HasBody v.tree c.args.f) (sym c.self.view_is) c.requires) in
    let is : slice_get t.flows c.args.f.0 ≡ Some (Some b.flow) = b.is in
    let same : b.flow ≡ c.in-Some.flow = cc in
    subst (λ (v : CheckedModule). IfSome (slice_get v.tree.funcs c.args.f.0) (λ function. IsFlowOf function c.in-Some.flow)) c.self.view_is
    (subst (λ (flow : Flow). IfSome (slice_get c.self.inside.tree.funcs c.args.f.0) (λ function. IsFlowOf function flow)) same b.fits)

use Rattle.std.proofs.Common.{Bool, sym, ap, ◌∙◌, subst}
use Rattle.kept_items.specs.declared.target.Kind.{Kind}
use Rattle.kept_items.specs.Targets.{has_loops}
use Rattle.path_search.specs.Explored.{Explored}
use Rattle.path_search.specs.Paths.{Search}
use Rattle.path_search.specs.Verdict.{Refuses}
use Rattle.path_search.specs.code.Answers.{IfRefused}
use Rattle.static_steps.specs.declared.config.Config.{Config}
use Rattle.static_steps.specs.Steps.{start_of}
use Rattle.unroller.specs.Programs.{Carries, step_of, turn_of}
use Rattle.unroller.proofs.exploration.explore.Goals as goal

pub returns-in-Ok-clause-accepted : goal.returns-in-Ok-clause-accepted
returns-in-Ok-clause-accepted g c =
    let p = g.S.StaticSteps.program c.args.steps.now in
    subst (λ b. Explored (record { start = start_of p.entry; turn = λ h. turn_of (step_of p h); budget = c.args.budget; loops = b }) (Carries p) c.in-Ok.nodes)
    (c.has_loops.ensures ∙ ap has_loops c.target.ensures) c.in-Ok.ensures.accepted

pub returns-in-Err-Refused-clause-refused : goal.returns-in-Err-Refused-clause-refused
returns-in-Err-Refused-clause-refused g c =
    let p = g.S.StaticSteps.program c.args.steps.now in
    let search_with : Bool → Search Config Kind = λ b. record { start = start_of p.entry; turn = λ h. turn_of (step_of p h); budget = c.args.budget; loops = b } in
    record {
      config = c.in-Err-Refused.at;
      reason = c.in-Err-Refused.reason;
      refuses = subst (λ b. Refuses (search_with b) c.in-Err-Refused.at c.in-Err-Refused.reason) (c.has_loops.ensures ∙ ap has_loops c.target.ensures)
          (subst (λ stop. IfRefused stop (Refuses (search_with c.has_loops.result))) c.in-Err-Refused.field-0-is c.in-Err-Refused.ensures.refused);
      stands = sym c.top.ensures;
      is_kind = sym c.kind_of.ensures;
    }

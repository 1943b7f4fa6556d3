use Rattle.std.proofs.Common.{◌≡◌, ap, ◌∙◌, ◌++◌, map}
use Rattle.std.proofs.lemmas.Result.{on_ok_weaker}
use Rattle.ir_module.specs.Spots.{point_at}
use Rattle.ir_module.specs.Steps.{PhiAt, InstAt}
use Rattle.profile_rules.specs.code.Listed.{step_findings}
use Rattle.findings.proofs.Parts.{block-whole}
use Rattle.findings.proofs.pass.Pass.block.Goals as goal

pub returns : goal.returns
returns g c =
    let rules = g.P.Profile.rules c.args.self.now.profile.now in
    let n = c.args.self.now.number.0 in
    let f = c.args.self.now.function.now in
    let b = c.args.number.0 in
    let at : c.point.result ≡ _ = c.point.ensures ∙ ap (point_at n b) c.end_index.ensures in
    on_ok_weaker c.on_term.result
    (λ e. block-whole rules n f b c.args.block.now c.len.result c.point.result c.args.found.now c.phis.new.found c.insts.new.found c.on_term.new.found c.len.ensures at
    (c.in_ok-phis.ensures ∙ ap (λ xs. c.args.found.now ++ step_findings rules n f b 0 (map PhiAt xs)) c.as_slice.ensures)
    (c.in_ok-insts.ensures ∙ ap (λ xs. c.phis.new.found ++ step_findings rules n f b c.len.result (map InstAt xs)) c.as_slice-2.ensures) e)
    c.on_term.ensures

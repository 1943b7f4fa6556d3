use Rattle.std.proofs.Common.{map}
use Rattle.residue_module.specs.code.Scenes.{at, is_small}
use Rattle.residue_module.proofs.Entering.{case-enters, cases-done, cases-rest}
use Rattle.residue_module.proofs.printer.Printer.enter_cases.Goals as goal

pub loop-case-preserved : goal.loop-case-preserved
loop-case-preserved c = record {
  small = cases-rest (is_small (at c.args.self.now)) c.loop-case.cases.now c.in-Some.rest.now c.in-Some.case.now c.in-Some.ensures.cases.0 c.loop-case.invariant.small;
  edges = case-enters (at c.args.self.now) (map (λ j. (c.args.from, j)) (map (λ c. c.1) c.args.cases.now)) c.args.rows.now c.loop-case.rows c.enter_jump.new.rows c.args.from c.loop-case.cases.now c.in-Some.rest.now c.in-Some.case.now c.in-Some.ensures.cases.0 c.in_ok-enter_jump.ensures c.loop-case.invariant.edges;
}

pub returns : goal.returns
returns c = cases-done (at c.args.self.now) (map (λ j. (c.args.from, j)) (map (λ c. c.1) c.args.cases.now)) c.args.from c.loop-case.cases.now c.args.rows.now c.loop-case.rows c.in_default.ensures.cases c.loop-case.invariant.edges

use Rattle.residue.specs.Printed.{names_of_params}
use Rattle.residue_module.proofs.Named.{param-adds, params-done}
use Rattle.residue_module.proofs.names.LocalNames.add_params.Goals as goal

pub loop-param-preserved : goal.loop-param-preserved
loop-param-preserved c =
    param-adds (names_of_params c.args.params.now) c.loop-param.params.now c.in-Some.rest.now c.in-Some.param.now c.args.self.now c.loop-param.self c.add_value.new.self
    c.in-Some.ensures.cases.0 c.in_ok-add_value.ensures c.loop-param.invariant

pub returns : goal.returns
returns c = params-done (names_of_params c.args.params.now) c.loop-param.params.now c.args.self.now c.loop-param.self c.in_default.ensures.cases c.loop-param.invariant

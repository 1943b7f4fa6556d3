use Rattle.std.proofs.Common.{[]}
use Rattle.residue_module.proofs.Named.{part-adds, parts-done}
use Rattle.residue_module.proofs.names.names_of_parts.Goals as goal

pub loop-part-init : goal.loop-part-init
loop-part-init c = λ new a. a [] c.new-names.ensures

pub loop-part-preserved : goal.loop-part-preserved
loop-part-preserved c = λ new a. c.loop-part.invariant new (part-adds c.loop-part.parts.now c.in-Some.rest.now c.in-Some.part.now c.loop-part.names c.add_part.new.self new c.in-Some.ensures.cases.0 c.in_ok-add_part.ensures a)

pub returns : goal.returns
returns c = c.loop-part.invariant c.loop-part.names (parts-done c.loop-part.parts.now c.loop-part.names c.in_default.ensures.cases)

use Rattle.unroller.specs.Programs.{search_of}
use Rattle.acyclic_parts.proofs.Onward.{jumps-onward}
use Rattle.acyclic_parts.proofs.laws.jumps_lead_on.Goals as goal

pub returns : goal.returns
returns c p budget nodes shared r explored steps made closed n cycle =
    jumps-onward p budget nodes shared r explored steps made
    (λ i on. c.searches_without_loops_have_no_cycles.ensures (search_of p budget) nodes (record { accepts = explored.accepts; lists = explored.lists; links = explored.links }) closed i on) n cycle

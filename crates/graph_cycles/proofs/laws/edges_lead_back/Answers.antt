use Rattle.graph_cycles.proofs.Split.{leads-back}
use Rattle.graph_cycles.proofs.laws.edges_lead_back.Goals as goal

pub returns : goal.returns
returns c g h n source target s = leads-back g h n source target s

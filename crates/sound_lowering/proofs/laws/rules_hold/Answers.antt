use Rattle.sound_lowering.proofs.laws.rules_hold.Goals as goal

pub returns : goal.returns
returns c = record {
  nodes = c.nodes_are_steps.ensures;
  items = c.items_are_valid.ensures;
  start = c.parts_start.ensures;
  jumps = c.jumps_fit.ensures;
  scopes = c.scopes_hold.ensures;
  types = c.types_hold.ensures;
  constants = c.constants_hold.ensures;
  cases = c.cases_differ.ensures;
  names = c.names_differ.ensures;
  labels = c.labels_are_below.ensures;
  handles = c.handles_are_below.ensures;
  adaptive = c.adaptive_permits.ensures;
  base = c.base_permits.ensures;
  order = c.base_keeps_order.ensures;
  agree = c.calls_agree.ensures;
  measured = c.measurements_are_named.ensures;
  numbers = c.numbers_are_small.ensures;
  onward = c.jumps_lead_on.ensures;
  prints = c.lowered_modules_are_printable.ensures;
}

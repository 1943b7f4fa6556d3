-- The names that are live at the points of a whole module.
use Rattle.std.specs.Prelude.{Bool, false, Option, None, Some, slice_get}
use Rattle.ir_values.specs.declared.ids.LocalId.{LocalId}
use Rattle.ir_module.specs.declared.places.Point.{Point}
use Rattle.name_flow.specs.declared.flow.Flow.{Flow}
use Rattle.name_flow.specs.Tables.{live}
use Rattle.admission.specs.Admitted.{CheckedModule}

-- no name is live where there is no flow
abbrev pub flow_answer : Option (Option Flow) → Point → LocalId → Bool
flow_answer None p x = false
flow_answer (Some None) p x = false
flow_answer (Some (Some flow)) p x = live flow p x

-- the answer of the flow of the point's function
unfoldable pub live_in : CheckedModule → Point → LocalId → Bool
live_in c p x = flow_answer (slice_get c.flows p.func.0) p x

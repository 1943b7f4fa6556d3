-- The live names of the functions of a module, by their flows.
use Rattle.std.specs.Prelude.{Bool, false, Option, None, Some, List, slice_get}
use Rattle.ir_module.specs.declared.places.Point.{Point}
use Rattle.ir_values.specs.declared.ids.LocalId.{LocalId}
use Rattle.name_flow.specs.declared.flow.Flow.{Flow}
use Rattle.name_flow.specs.Tables.{live}

-- by the flow of a function, where there is one
abbrev pub flow_lives : Option (Option Flow) → Point → LocalId → Bool
flow_lives None p x = false
flow_lives (Some None) p x = false
flow_lives (Some (Some flow)) p x = live flow p x

-- the names that are live at a point, by the flow of its function
abbrev pub lives : List (Option Flow) → Point → LocalId → Bool
lives flows p x = flow_lives (slice_get flows p.func.0) p x

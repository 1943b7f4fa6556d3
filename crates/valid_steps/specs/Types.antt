-- The types of Dynamic values.
use Rattle.std.specs.Prelude.{◌≡◌, ⊤, Option, None, Some, List, [], ◌∷◌, ◌++◌, slice_get}
use Rattle.ir_module.specs.declared.tree.Function.{Function}
use Rattle.ir_module.specs.declared.tree.Module.{Module}
use Rattle.ir_values.specs.declared.ids.LocalId.{LocalId}
use Rattle.ir_values.specs.declared.ty.Ty.{Ty}
use Rattle.ir_values.specs.declared.value.Value.{Value}
use Rattle.kept_items.specs.declared.val.Dyn.{Dyn}
use Rattle.static_steps.specs.declared.config.Config.{Config}
use Rattle.static_steps.specs.declared.config.Frame.{Frame}
use Rattle.static_steps.specs.Configurations.{type_of_local}
use Rattle.static_steps.specs.Values.{Names}

-- the type of a local name of a function, where there is such a function and such a name
abbrev pub type_in : Option Function → LocalId → Option Ty
type_in None x = None
type_in (Some f) x = type_of_local f x

abbrev pub type_if_dynamic : Option Ty → Option Value → List (Option Ty)
type_if_dynamic u None = u ∷ []
type_if_dynamic u (Some v) = []

-- of the names that are Dynamic the types
abbrev pub types_of_names : Option Function → Names (Option Value) → List (Option Ty)
types_of_names f [] = []
types_of_names f (e ∷ es) = type_if_dynamic (type_in f e.0) e.1 ++ types_of_names f es

abbrev pub types_of_frames : Module → List Frame → List (Option Ty)
types_of_frames m [] = []
types_of_frames m (g ∷ gs) = types_of_frames m gs ++ types_of_names (slice_get m.funcs g.at.func.0) g.names

-- the types of the Dynamic names of a configuration, in the order of their numbers
abbrev pub dynamic_types : Module → Config → List (Option Ty)
dynamic_types m g = types_of_frames m g.below ++ types_of_names (slice_get m.funcs g.top.at.func.0) g.top.names

-- among Dynamic values of these types the one of this number has the type
abbrev pub IsDynamic : List (Option Ty) → Ty → Dyn → Type 0
IsDynamic ts u d = slice_get ts d.0 ≡ Some (Some u)

-- among Dynamic values of these types there are those of these numbers, and they have those types, one for one
abbrev pub Fill : List (Option Ty) → List Dyn → List (Option Ty) → Type 0
Fill ts [] [] = ⊤
Fill ts [] (u ∷ us) = ⊥
Fill ts (d ∷ ds) [] = ⊥
Fill ts (d ∷ ds) (u ∷ us) = (slice_get ts d.0 ≡ Some u) × Fill ts ds us

-- The reachable configurations as they are made into parts: what is left of each, and which of them go on in one part.
use Rattle.std.specs.Prelude.{ℕ, suc, ◌==◌, ◌&&◌, if◌then◌else◌, Bool, true, false, Option, None, Some, List, [], ◌∷◌, ◌++◌, slice_get}
use Rattle.ir_module.specs.declared.tree.Function.{Function}
use Rattle.ir_module.specs.declared.tree.Module.{Module}
use Rattle.ir_values.specs.declared.ids.LocalId.{LocalId}
use Rattle.ir_values.specs.declared.int.Width.{Width}
use Rattle.ir_values.specs.declared.int.Width.TheVariants.{W1}
use Rattle.ir_values.specs.declared.ty.Ty.{Ty}
use Rattle.ir_values.specs.declared.ty.Ty.TheVariants as ty
use Rattle.ir_values.specs.declared.value.Value.{Value}
use Rattle.kept_items.specs.declared.item.Item.{Item}
use Rattle.kept_items.specs.declared.item.Item.TheVariants as item
use Rattle.kept_items.specs.declared.val.Dyn.{Dyn}
use Rattle.path_search.specs.declared.node.Visited.{Visited}
use Rattle.path_search.specs.declared.visit.Link.{Link}
use Rattle.static_steps.specs.declared.config.Config.{Config}
use Rattle.static_steps.specs.declared.config.Frame.{Frame}
use Rattle.static_steps.specs.Configurations.{type_of_local}
use Rattle.static_steps.specs.Values.{Names}
use Rattle.fused_parts.specs.declared.flags.Entered.{Entered}
use Rattle.fused_parts.specs.declared.flags.Entered.TheVariants.{Never, Once, Often}
use Rattle.unroller.specs.declared.node.Outcome.{Outcome}
use Rattle.unroller.specs.declared.node.Outcome.TheVariants as outcome

abbrev pub Node : Type 0
Node = Visited Config Outcome (List Dyn)

abbrev pub Links : Type 0
Links = List (Link (List Dyn))

-- ---- what is left of a step

abbrev pub item_of : Outcome → Option Item
item_of (outcome.Goes i choice) = i
item_of (outcome.Exits code) = None

-- how many values an item gives
abbrev pub gives : Option Item → ℕ
gives None = 0
gives (Some (item.Operation name args)) = 0
gives (Some (item.Output c args)) = 0
gives (Some other) = 1

-- ---- the widths of the Dynamic names of a configuration, in their order

abbrev pub width_of : Option Ty → Width
width_of (Some (ty.Int w)) = w
width_of other = W1

abbrev pub type_in : Option Function → LocalId → Option Ty
type_in None x = None
type_in (Some f) x = type_of_local f x

abbrev pub one_width : Option Function → LocalId → Option Value → List Width
one_width f x None = width_of (type_in f x) ∷ []
one_width f x (Some v) = []

abbrev pub name_widths : Option Function → Names (Option Value) → List Width
name_widths f [] = []
name_widths f (e ∷ names) = one_width f e.0 e.1 ++ name_widths f names

module _ (m : Module) where
  abbrev pub frame_widths : Frame → List Width
  frame_widths f = name_widths (slice_get m.funcs f.at.func.0) f.names

  abbrev pub frames_widths : List Frame → List Width
  frames_widths [] = []
  frames_widths (f ∷ fs) = frames_widths fs ++ frame_widths f

  abbrev pub widths_of : Config → List Width
  widths_of g = frames_widths g.below ++ frame_widths g.top

-- ---- which configurations go on in one part

abbrev pub more : Entered → Entered
more Never = Once
more Once = Often
more Often = Often

abbrev pub is_once : Entered → Bool
is_once Once = true
is_once other = false

-- behind the edges of these links, where it was entered so before
abbrev pub entered_by : ℕ → Links → Entered → Entered
entered_by k [] e = e
entered_by k (l ∷ links) e = entered_by k links (if l.to == k then more e else e)

abbrev pub entered : ℕ → List Node → Entered → Entered
entered k [] e = e
entered k (x ∷ xs) e = entered k xs (entered_by k x.links e)

-- the only edge leads to configuration k
abbrev pub leads_only : ℕ → Links → Bool
leads_only k [] = false
leads_only k (l ∷ []) = l.to == k
leads_only k (l ∷ other ∷ links) = false

-- A configuration goes on in its part where its only edge leads to the next one, and no other edge does. These are the
-- configurations from number i on.
abbrev pub joins_from : List Node → ℕ → List Node → List Bool
joins_from all i [] = []
joins_from all i (x ∷ xs) = (leads_only (suc i) x.links && is_once (entered (suc i) all Never)) ∷ joins_from all (suc i) xs

abbrev pub joins : List Node → List Bool
joins nodes = joins_from nodes 0 nodes

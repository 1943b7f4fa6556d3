-- Configurations and steps whose known values can be printed.
use Rattle.std.specs.Prelude.{◌&&◌, Bool, true, Option, None, Some}
use Rattle.std.specs.List.{list_all}
use Rattle.ir_values.specs.declared.value.Value.{Value}
use Rattle.ir_values.specs.declared.value.Value.TheVariants as value
use Rattle.kept_items.specs.declared.item.Choice.{Choice}
use Rattle.kept_items.specs.declared.item.Choice.TheVariants.{Switch}
use Rattle.kept_items.specs.declared.item.Item.{Item}
use Rattle.residue.specs.Scopes.{item_uses}
use Rattle.static_steps.specs.declared.config.Config.{Config}
use Rattle.static_steps.specs.declared.config.Frame.{Frame}
use Rattle.static_steps.specs.declared.turn.Turn.{Turn}
use Rattle.static_steps.specs.declared.turn.Turn.TheVariants.{Goes}
use Rattle.printable_values.specs.Values.{name_prints, val_prints, value_prints}

-- a known value, or a Dynamic one
abbrev pub known_prints : Option Value → Bool
known_prints None = true
known_prints (Some v) = value_prints v

abbrev pub frame_prints : Frame → Bool
frame_prints f = list_all (λ e. known_prints e.1) f.names

-- every value that a configuration knows
abbrev pub config_prints : Config → Bool
config_prints g = frame_prints g.top && list_all frame_prints g.below

-- the name and the values of an item
abbrev pub item_prints : Item → Bool
item_prints x = name_prints x && list_all (λ a. val_prints a.1) (item_uses x)

abbrev pub some_item_prints : Option Item → Bool
some_item_prints None = true
some_item_prints (Some x) = item_prints x

-- the cases of a switch
abbrev pub choice_prints : Choice → Bool
choice_prints (Switch d w cases) = list_all (λ i. value_prints (value.Int i)) cases
choice_prints c = true

-- what a step that goes on leads to and leaves
abbrev pub turn_prints : Turn → Bool
turn_prints (Goes moves item choice) = list_all (λ mv. config_prints mv.to) moves && (some_item_prints item && choice_prints choice)
turn_prints other = true

-- What constant evaluation leaves undecided.
use Rattle.std.specs.Prelude.{◌&&◌, ◌||◌, Bool, true, false, not}
use Rattle.std.specs.List.{list_all}
use Rattle.kept_items.specs.declared.item.Item.{Item}
use Rattle.kept_items.specs.declared.item.Item.TheVariants as item
use Rattle.kept_items.specs.declared.val.Val.{Val}
use Rattle.kept_items.specs.declared.val.Val.TheVariants.{Known, Dynamic}
use Rattle.residue.specs.declared.parts.Residue.{Residue}
use Rattle.residue.specs.Functions.{all_items, is_constant}
use Rattle.residue.specs.Scopes.{jump_args}
use Rattle.residue.specs.Valid.{all_tails}
use Rattle.static_steps.specs.Values.{same_known}

abbrev pub varies : Val → Bool
varies (Known v) = false
varies (Dynamic d) = true

-- constants don't decide it
abbrev pub is_undecided : Item → Bool
is_undecided (item.Binary d o flags w a b) = varies a || varies b
is_undecided (item.Icmp d o w a b) = varies a || varies b
is_undecided (item.Convert d o w a to) = varies a
is_undecided (item.Select d w c a b) = varies c && not (same_known a b)
is_undecided (item.Read d v) = not (is_constant v)
is_undecided (item.Equal d v u) = not (is_constant v && is_constant u)
is_undecided (item.Operation name args) = true
is_undecided (item.Output c args) = true

-- nor which values a part begins with
abbrev pub all_undecided : Residue → Bool
all_undecided r = list_all is_undecided (all_items r) && all_tails (λ t. list_all varies (jump_args t)) r

-- What a residue that was made from a module keeps besides its validity, and the rules of profiles need.
use Rattle.std.specs.Prelude.{◌≡◌, ℕ, Bool, true, false, not, ◌||◌, List, map}
use Rattle.std.specs.List.{list_all}
use Rattle.graph_cycles.specs.Cycles.{Graph, IsOnCycle}
use Rattle.ir_values.specs.declared.ty.Ty.TheVariants as ty
use Rattle.ir_values.specs.Calls.{class_of}
use Rattle.ir_values.specs.Types.{signature}
use Rattle.kept_items.specs.declared.item.Item.{Item}
use Rattle.kept_items.specs.declared.item.Item.TheVariants as item
use Rattle.kept_items.specs.declared.target.Target.{Target}
use Rattle.kept_items.specs.Targets.{has_loops}
use Rattle.profile_rules.specs.Calls.{is_measure, passes}
use Rattle.residue.specs.declared.parts.Residue.{Residue}
use Rattle.residue.specs.Functions.{all_items, is_named, types_of}
use Rattle.residue.specs.Scopes.{jumps}

-- a measurement is named among the irreversible operations
abbrev pub measurement_named : List (List ℕ) → Item → Bool
measurement_named irreversible (item.Operation name args) =
    not (passes (class_of name (signature ty.Void (types_of args))) is_measure) || is_named irreversible name
measurement_named irreversible x = true

abbrev pub measurements_named : Residue → Bool
measurements_named r = list_all (measurement_named r.irreversible) (all_items r)

-- the parts, and where their tails jump
abbrev pub jump_graph : Residue → Graph
jump_graph r = map (λ p. map (λ j. j.to) (jumps p.tail)) r.parts

pub record FitsProfile (r : Residue) (t : Target) : Type 0 where
  pub measurements : measurements_named r ≡ true
  -- without the capability of loops jumps lead from no part back to it
  pub onward : has_loops t ≡ false → (n : ℕ) → IsOnCycle (jump_graph r) n → ⊥

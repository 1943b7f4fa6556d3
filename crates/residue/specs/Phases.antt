-- The order of the Base Profile: reversible operations, irreversible ones, records (QIR specification, 'Base Profile').
use Rattle.std.specs.Prelude.{ℕ, ◌==◌, ◌&&◌, not, nat_lt, if◌then◌else◌, Bool, true, List, [], ◌∷◌, filter}
use Rattle.kept_items.specs.declared.item.Item.{Item}
use Rattle.kept_items.specs.declared.item.Item.TheVariants as item
use Rattle.residue.specs.Functions.{is_named}

-- where an item stands, if these operations are irreversible
abbrev pub phase_of : List (List ℕ) → Item → ℕ
phase_of irreversible (item.Operation name args) = if is_named irreversible name then 2 else 1
phase_of irreversible x = 3

abbrev pub in_phase : List (List ℕ) → ℕ → List Item → List Item
in_phase irreversible n xs = filter (λ x. phase_of irreversible x == n) xs

-- none stands before the one that it follows, from phase n on
abbrev pub phases_rise : List (List ℕ) → ℕ → List Item → Bool
phases_rise irreversible n [] = true
phases_rise irreversible n (x ∷ xs) =
    not (nat_lt (phase_of irreversible x) n) && phases_rise irreversible (phase_of irreversible x) xs

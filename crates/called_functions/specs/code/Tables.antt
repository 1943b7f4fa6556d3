-- The words in which the table of functions states its contracts.
use Rattle.std.specs.Prelude.{◌≡◌, ℕ, suc, if◌then◌else◌, List, [], ◌∷◌, ◌++◌, map, flat_map}
use Rattle.ir_values.specs.declared.ids.FuncId.{FuncId}
use Rattle.ir_values.specs.Calls.{same_text}
use Rattle.called_functions.specs.declared.table.Table.{Table}
use Rattle.kept_items.specs.declared.item.Item.{Item}
use Rattle.residue.specs.declared.parts.Part.{Part}
use Rattle.residue.specs.Scopes.{items_of}
use Rattle.residue.specs.Functions.{Called, declaration, is_among, is_named}

abbrev pub called_names : List Called → List (List ℕ)
called_names cs = map (λ c. c.name) cs

-- the number of a function by the names in their order
abbrev pub place_named : List (List ℕ) → List ℕ → ℕ
place_named [] n = 0
place_named (m ∷ names) n = if same_text n m then 0 else suc (place_named names n)

abbrev pub function_named : List (List ℕ) → List ℕ → FuncId
function_named names n = record { 0 = suc (place_named names n) }

-- keys of a set have just these names
abbrev pub Marks : List (List ℕ) → List (List ℕ) → Type 0
Marks names keys = (n : List ℕ) → is_named keys n ≡ is_named names n

-- the table holds just these functions
pub record Lists (irreversible : List (List ℕ)) (cs : List Called) (t : Table) : Type 0 where
  pub names : t.names.keys ≡ called_names cs
  pub functions : t.functions ≡ map (declaration irreversible) cs

-- one more function is called
abbrev pub with_call : List Called → Called → List Called
with_call cs c = if is_among cs c.name then cs else cs ++ c ∷ []

-- after these calls the table of some functions is that of some more
abbrev pub Declares : List (List ℕ) → Table → Table → (List Called → List Called) → Type 0
Declares keys old new more = (irreversible : List (List ℕ)) (cs : List Called) → Marks irreversible keys → Lists irreversible cs old → Lists irreversible (more cs) new

abbrev pub items_in : List Part → List Item
items_in parts = flat_map (λ p. items_of p.lines) parts

-- What a line stands for: its item, or nothing.
use Rattle.std.specs.Prelude.{◌≡◌, ℕ, ◌==◌, Bool, true, Option, None, Some, List, []}
use Rattle.kept_items.specs.declared.item.Item.{Item}
use Rattle.residue.specs.declared.parts.Line.{Line}
use Rattle.residue.specs.declared.parts.Line.TheVariants as line
use Rattle.residue.specs.Instructions.{Words, names_of_item}
use Rattle.residue.specs.Phases.{phase_of}
use Rattle.residue.specs.Scopes.{item_uses}
use Rattle.residue_module.specs.declared.body.Body.{Body}
use Rattle.residue_module.specs.code.Bodies.{Prints, PrintsIf}
use Rattle.residue_module.specs.code.Names.{Names}
use Rattle.residue_module.specs.code.Scenes.{are_small}

abbrev pub line_item : Line → Option Item
line_item (line.Item x) = Some x
line_item (line.Made j) = None
line_item (line.Freed j) = None

abbrev pub line_names : Option Item → Names
line_names None = []
line_names (Some x) = names_of_item x

abbrev pub line_small : Words → Option Item → Bool
line_small ws None = true
line_small ws (Some x) = are_small ws (item_uses x)

abbrev pub PrintsLine : Words → Option Item → Body → Body → Type 0
PrintsLine ws None old new = new ≡ old
PrintsLine ws (Some x) old new = Prints ws x old new

-- where it stands in this phase
abbrev pub PrintsLineIn : Words → List (List ℕ) → ℕ → Option Item → Body → Body → Type 0
PrintsLineIn ws irreversible phase None old new = new ≡ old
PrintsLineIn ws irreversible phase (Some x) old new = PrintsIf (phase_of irreversible x == phase) ws x old new

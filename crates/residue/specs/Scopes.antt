-- The values that lines and tails use, each with the type of its place, and the Dynamic values that they give.
use Rattle.std.specs.Prelude.{ℕ, ◌==◌, if◌then◌else◌, Option, None, Some, List, [], ◌∷◌, ◌++◌, map, flat_map}
use Rattle.ir_values.specs.declared.int.Width.{Width}
use Rattle.ir_values.specs.declared.int.Width.TheVariants.{W1, W64}
use Rattle.ir_values.specs.declared.ty.Ty.{Ty}
use Rattle.ir_values.specs.declared.ty.Ty.TheVariants as ty
use Rattle.ir_values.specs.declared.value.Value.TheVariants as value
use Rattle.kept_items.specs.declared.item.Item.{Item}
use Rattle.kept_items.specs.declared.item.Item.TheVariants as item
use Rattle.kept_items.specs.declared.val.Val.{Val}
use Rattle.kept_items.specs.declared.val.Val.TheVariants.{Known}
use Rattle.residue.specs.declared.parts.Jump.{Jump}
use Rattle.residue.specs.declared.parts.Line.{Line}
use Rattle.residue.specs.declared.parts.Line.TheVariants as line
use Rattle.residue.specs.declared.parts.Part.{Part}
use Rattle.residue.specs.declared.parts.Residue.{Residue}
use Rattle.residue.specs.declared.parts.Tail.{Tail}
use Rattle.residue.specs.declared.parts.Tail.TheVariants as tail

-- the items of lines, without the marks
abbrev pub items_of : List Line → List Item
items_of [] = []
items_of (line.Item x ∷ lines) = x ∷ items_of lines
items_of (line.Made j ∷ lines) = items_of lines
items_of (line.Freed j ∷ lines) = items_of lines

-- the jumps of a tail, in the text order of their labels: that of a switch where no case equals stands first
abbrev pub jumps : Tail → List Jump
jumps (tail.Jump j) = j ∷ []
jumps (tail.Branch a j i) = j ∷ i ∷ []
jumps (tail.Switch w a j cases) = j ∷ map (λ c. c.1) cases
jumps (tail.Return a) = []

-- ---- what is used

abbrev pub item_uses : Item → List (Ty × Val)
item_uses (item.Binary d op flags w a b) = (ty.Int w, a) ∷ (ty.Int w, b) ∷ []
item_uses (item.Icmp d pred w a b) = (ty.Int w, a) ∷ (ty.Int w, b) ∷ []
item_uses (item.Convert d conv w a to) = (ty.Int w, a) ∷ []
item_uses (item.Select d w c a b) = (ty.Int W1, c) ∷ (ty.Int w, a) ∷ (ty.Int w, b) ∷ []
item_uses (item.Read d v) = (ty.Res, Known v) ∷ []
item_uses (item.Equal d v u) = (ty.Res, Known v) ∷ (ty.Res, Known u) ∷ []
item_uses (item.Operation name args) = args
item_uses (item.Output c args) = args

-- what a tail uses itself, the cases of a switch among it, without the arguments of its jumps
abbrev pub tail_uses : Tail → List (Ty × Val)
tail_uses (tail.Jump j) = []
tail_uses (tail.Branch a j i) = (ty.Int W1, a) ∷ []
tail_uses (tail.Switch w a j cases) = (ty.Int w, a) ∷ map (λ c. (ty.Int w, Known (value.Int c.0))) cases
tail_uses (tail.Return a) = (ty.Int W64, a) ∷ []

abbrev pub part_uses : Part → List (Ty × Val)
part_uses p = flat_map item_uses (items_of p.lines) ++ tail_uses p.tail

-- every value of a residue but for the arguments of jumps
abbrev pub uses_of : Residue → List (Ty × Val)
uses_of r = flat_map part_uses r.parts

-- the arguments of a tail's jumps
abbrev pub jump_args : Tail → List Val
jump_args t = flat_map (λ j. j.args) (jumps t)

-- every value of a residue
abbrev pub written : Residue → List Val
written r = map (λ a. a.1) (uses_of r) ++ flat_map (λ p. jump_args p.tail) r.parts

-- ---- what is given: Dynamic values by their numbers, with their widths

abbrev pub item_gives : Item → List (ℕ × Width)
item_gives (item.Binary d op flags w a b) = (d.0, w) ∷ []
item_gives (item.Icmp d pred w a b) = (d.0, W1) ∷ []
item_gives (item.Convert d conv w a to) = (d.0, to) ∷ []
item_gives (item.Select d w c a b) = (d.0, w) ∷ []
item_gives (item.Read d v) = (d.0, W1) ∷ []
item_gives (item.Equal d v u) = (d.0, W1) ∷ []
item_gives (item.Operation name args) = []
item_gives (item.Output c args) = []

abbrev pub param_gives : Part → List (ℕ × Width)
param_gives p = map (λ x. (x.0.0, x.1)) p.params

abbrev pub part_gives : Part → List (ℕ × Width)
part_gives p = param_gives p ++ flat_map item_gives (items_of p.lines)

-- every Dynamic value of a residue, in text order
abbrev pub gives_of : Residue → List (ℕ × Width)
gives_of r = flat_map part_gives r.parts

-- the width of a Dynamic value among these
abbrev pub width_in : List (ℕ × Width) → ℕ → Option Width
width_in [] d = None
width_in (x ∷ scope) d = if x.0 == d then Some x.1 else width_in scope d

-- The parts of a lowered program that are made of the reachable configurations in path order.
use Rattle.std.specs.Prelude.{ℕ, zero, suc, ◌+◌, ◌==◌, nat_lt, if◌then◌else◌, Bool, true, false, Option, None, Some, List, [], ◌∷◌, ◌++◌, length, map, slice_get, slice_index_or}
use Rattle.ir_module.specs.declared.tree.Module.{Module}
use Rattle.ir_values.specs.declared.int.Width.{Width}
use Rattle.ir_values.specs.declared.int.Width.TheVariants.{W64}
use Rattle.ir_values.specs.declared.ty.Ty.{Ty}
use Rattle.ir_values.specs.declared.value.Value.TheVariants as value
use Rattle.ir_values.specs.Arithmetic.{modulo}
use Rattle.ir_values.specs.Int.{IntValue}
use Rattle.kept_items.specs.declared.item.Choice.{Choice}
use Rattle.kept_items.specs.declared.item.Choice.TheVariants as choice
use Rattle.kept_items.specs.declared.item.Code.{Code}
use Rattle.kept_items.specs.declared.item.Code.TheVariants as code
use Rattle.kept_items.specs.declared.item.Item.{Item}
use Rattle.kept_items.specs.declared.item.Item.TheVariants as item
use Rattle.kept_items.specs.declared.val.Dyn.{Dyn}
use Rattle.kept_items.specs.declared.val.Val.{Val}
use Rattle.kept_items.specs.declared.val.Val.TheVariants.{Known, Dynamic}
use Rattle.path_search.specs.declared.visit.Link.{Link}
use Rattle.residue.specs.declared.parts.Jump.{Jump}
use Rattle.residue.specs.declared.parts.Line.{Line}
use Rattle.residue.specs.declared.parts.Line.TheVariants as line
use Rattle.residue.specs.declared.parts.Part.{Part}
use Rattle.residue.specs.declared.parts.Tail.{Tail}
use Rattle.residue.specs.declared.parts.Tail.TheVariants as tail
use Rattle.static_steps.specs.declared.config.Config.{Config}
use Rattle.static_steps.specs.Works.{dynamics_of}
use Rattle.unroller.specs.declared.node.Outcome.{Outcome}
use Rattle.unroller.specs.declared.node.Outcome.TheVariants as outcome
use Rattle.fused_parts.specs.declared.numbers.Numbers.{Numbers}
use Rattle.fused_parts.specs.Nodes.{Links, Node, gives, item_of, widths_of}

-- ---- Dynamic values: in a step they go by their order in the configuration, in a lowered program each has a number of its own

abbrev pub dyn : ℕ → Dyn
dyn n = record { 0 = n }

abbrev pub in_row : ℕ → ℕ → List Dyn
in_row n zero = []
in_row n (suc k) = dyn n ∷ in_row (suc n) k

-- where a configuration stands: in a part, behind so many lines, with these numbers
pub record Spot : Type 0 where
  pub part : ℕ
  pub line : ℕ
  pub numbers : Numbers

module _ (mine : List Dyn) where
  abbrev pub number_at : Dyn → Dyn
  number_at d = slice_index_or mine d.0 (dyn 0)

  abbrev pub renamed : Val → Val
  renamed (Known v) = Known v
  renamed (Dynamic d) = Dynamic (number_at d)

  abbrev pub renamed_arg : Ty × Val → Ty × Val
  renamed_arg a = (a.0, renamed a.1)

  -- its own result gets the number n
  abbrev pub renamed_item : ℕ → Item → Item
  renamed_item n (item.Binary d o flags w a b) = item.Binary (dyn n) o flags w (renamed a) (renamed b)
  renamed_item n (item.Icmp d p w a b) = item.Icmp (dyn n) p w (renamed a) (renamed b)
  renamed_item n (item.Convert d c w a to) = item.Convert (dyn n) c w (renamed a) to
  renamed_item n (item.Select d w c a b) = item.Select (dyn n) w (renamed c) (renamed a) (renamed b)
  renamed_item n (item.Read d v) = item.Read (dyn n) v
  renamed_item n (item.Equal d v u) = item.Equal (dyn n) v u
  renamed_item n (item.Operation name args) = item.Operation name (map renamed_arg args)
  renamed_item n (item.Output c args) = item.Output c (map renamed_arg args)

-- behind what the configuration's item gives
abbrev pub after : Node → Numbers → Numbers
after x n = record {
  free = n.free + gives (item_of x.item);
  mine = n.mine ++ in_row n.free (gives (item_of x.item));
}

-- ---- lines: the item, and the marks of an allocation that begins or ends

abbrev pub item_line : Option Item → Numbers → List Line
item_line None n = []
item_line (Some i) n = line.Item (renamed_item n.mine n.free i) ∷ []

-- the allocation that is counted next
abbrev pub made : ℕ → ℕ → List Line
made before later = if nat_lt before later then (line.Made before ∷ []) else []

-- the first that is held before and not after
abbrev pub let_go : List ℕ → List ℕ → Option ℕ
let_go [] later = None
let_go (j ∷ before) [] = Some j
let_go (j ∷ before) (k ∷ later) = if j == k then let_go before later else Some j

abbrev pub freed : Option ℕ → List Line
freed None = []
freed (Some j) = line.Freed j ∷ []

-- between a configuration and the one that its first edge leads to
abbrev pub marks_to : Config → Option Node → List Line
marks_to g None = []
marks_to g (Some y) = made g.allocated y.node.allocated ++ freed (let_go g.held y.node.held)

abbrev pub first_of : List Node → Links → Option Node
first_of nodes [] = None
first_of nodes (l ∷ links) = slice_get nodes l.to

abbrev pub lines_of : List Node → Node → Numbers → List Line
lines_of nodes x n = item_line (item_of x.item) n ++ marks_to x.node (first_of nodes x.links)

-- ---- tails

abbrev pub code_val : List Dyn → Code → Val
code_val mine (code.Known z) = Known (value.Int (modulo W64 z))
code_val mine (code.Dynamic d) = Dynamic (number_at mine d)

-- where the exits share a part, it has this number
abbrev pub exit_tail : Option ℕ → List Dyn → Code → Tail
exit_tail None mine c = tail.Return (code_val mine c)
exit_tail (Some n) mine c = tail.Jump (record { to = n; args = [] })

abbrev pub nowhere : Tail
nowhere = tail.Return (Known (value.Int (record { width = W64; bits = 0 })))

-- part_of gives the part that a configuration begins
module _ (part_of : ℕ → ℕ) where
  abbrev pub jump_to : List Dyn → Link (List Dyn) → Jump
  jump_to mine l = record { to = part_of l.to; args = map (λ d. Dynamic (number_at mine d)) l.label }

  -- the last link is that of no case
  abbrev pub case_jumps : List Dyn → List IntValue → Links → List (IntValue × Jump)
  case_jumps mine (i ∷ is) (l ∷ links) = (i, jump_to mine l) ∷ case_jumps mine is links
  case_jumps mine is links = []

  abbrev pub last_jump : List Dyn → Links → Jump
  last_jump mine [] = record { to = 0; args = [] }
  last_jump mine (l ∷ []) = jump_to mine l
  last_jump mine (l ∷ k ∷ links) = last_jump mine (k ∷ links)

  abbrev pub choice_tail : List Dyn → Choice → Links → Tail
  choice_tail mine choice.One (l ∷ links) = tail.Jump (jump_to mine l)
  choice_tail mine (choice.Branch d) (l ∷ k ∷ links) = tail.Branch (Dynamic (number_at mine d)) (jump_to mine l) (jump_to mine k)
  choice_tail mine (choice.Switch d w is) links =
      tail.Switch w (Dynamic (number_at mine d)) (last_jump mine links) (case_jumps mine is links)
  choice_tail mine c links = nowhere

  abbrev pub outcome_tail : Option ℕ → List Dyn → Outcome → Links → Tail
  outcome_tail shared mine (outcome.Goes i c) links = choice_tail mine c links
  outcome_tail shared mine (outcome.Exits c) links = exit_tail shared mine c

  abbrev pub tail_of : Option ℕ → Node → Numbers → Tail
  tail_of shared x n = outcome_tail shared (after x n).mine x.item x.links

-- ---- parts

abbrev pub first_label : Links → List Dyn
first_label [] = []
first_label (l ∷ links) = l.label

-- y behind x goes on in the part with the values that it takes, or begins the next with values of its own for its Dynamic names
abbrev pub next_numbers : Node → Bool → Node → Numbers → Numbers
next_numbers x true y n = record {
  free = (after x n).free;
  mine = map (number_at (after x n).mine) (first_label x.links);
}
next_numbers x false y n = record {
  free = (after x n).free + dynamics_of y.node;
  mine = in_row (after x n).free (dynamics_of y.node);
}

abbrev pub next_part : Bool → ℕ → ℕ
next_part true n = n
next_part false n = suc n

abbrev pub next_line : Bool → ℕ → ℕ
next_line true n = n
next_line false n = 0

abbrev pub next_spot : List Node → Node → Bool → Node → Spot → Spot
next_spot nodes x b y s = record {
  part = next_part b s.part;
  line = next_line b (s.line + length (lines_of nodes x s.numbers));
  numbers = next_numbers x b y s.numbers;
}

-- the rest of a part and the parts behind it
pub record Rest : Type 0 where
  pub lines : List Line
  pub tail : Tail
  pub parts : List Part

abbrev pub with_widths : List Dyn → List Width → List (Dyn × Width)
with_widths [] ws = []
with_widths (d ∷ ds) [] = []
with_widths (d ∷ ds) (w ∷ ws) = (d, w) ∷ with_widths ds ws

abbrev pub joined : Bool → List Line → Tail → List (Dyn × Width) → Rest → Rest
joined true lines t params r = record { lines = lines ++ r.lines; tail = r.tail; parts = r.parts }
joined false lines t params r =
    record { lines = lines; tail = t; parts = (record { params = params; lines = r.lines; tail = r.tail }) ∷ r.parts }

module _ (m : Module) (nodes : List Node) (part_of : ℕ → ℕ) (shared : Option ℕ) where
  abbrev pub alone : Node → Numbers → Rest
  alone x n = record { lines = lines_of nodes x n; tail = tail_of part_of shared x n; parts = [] }

  -- of these configurations, with the numbers of the first
  abbrev pub rest_from : List Node → List Bool → Numbers → Rest
  rest_from [] bs n = record { lines = []; tail = nowhere; parts = [] }
  rest_from (x ∷ []) bs n = alone x n
  rest_from (x ∷ y ∷ xs) [] n = alone x n
  rest_from (x ∷ y ∷ xs) (b ∷ bs) n =
      let n' = next_numbers x b y n in
      joined b (lines_of nodes x n) (tail_of part_of shared x n) (with_widths n'.mine (widths_of m y.node)) (rest_from (y ∷ xs) bs n')

-- where the configurations stand
abbrev pub spots_from : List Node → List Node → List Bool → Spot → List Spot
spots_from nodes [] bs s = []
spots_from nodes (x ∷ []) bs s = s ∷ []
spots_from nodes (x ∷ y ∷ xs) [] s = s ∷ []
spots_from nodes (x ∷ y ∷ xs) (b ∷ bs) s = s ∷ spots_from nodes (y ∷ xs) bs (next_spot nodes x b y s)

abbrev pub no_numbers : Numbers
no_numbers = record { free = 0; mine = [] }

abbrev pub first_spot : Spot
first_spot = record { part = 0; line = 0; numbers = no_numbers }

abbrev pub spots : List Node → List Bool → List Spot
spots nodes bs = spots_from nodes nodes bs first_spot

-- the part that exits share returns 0
abbrev pub shared_part : Option ℕ → List Part
shared_part None = []
shared_part (Some n) = (record { params = []; lines = []; tail = nowhere }) ∷ []

abbrev pub whole : Rest → List Part
whole r = (record { params = []; lines = r.lines; tail = r.tail }) ∷ r.parts

-- the parts for configurations of which these flags say whether the next one goes on in the same part
abbrev pub parts_of : Module → (ℕ → ℕ) → Option ℕ → List Node → List Bool → List Part
parts_of m part_of shared nodes bs = whole (rest_from m nodes part_of shared nodes bs no_numbers) ++ shared_part shared

-- The configurations of a program have their places in the module of the lowered program that is made of them.
use Rattle.std.proofs.Math.Nat.{suc-mul}
use Rattle.std.proofs.Common.{◌≡◌, ℕ, zero, suc, ◌+◌, ◌*◌, ◌<◌, ◌≤◌, Bool, true, false, Option, None, Some, List, [], ◌∷◌, ◌++◌, length, map, refl, sym, ap, ◌∙◌, ⊎_elim, subst, arith, append-nil, append_assoc, length-append}
use Rattle.std.specs.List.{All}
use Rattle.std.specs.Prelude.{pos, if◌then◌else◌, nat_lt, slice_get}
use Rattle.backend_api.specs.declared.operation.Answer.{Answer}
use Rattle.backend_api.specs.Naming.{Naming}
use Rattle.ir_module.specs.declared.tree.Module.{Module}
use Rattle.ir_module.specs.Entry.{Entry, entry_of}
use Rattle.ir_module.specs.declared.places.Point.{Point}
use Rattle.ir_values.specs.declared.ids.FuncId.{FuncId}
use Rattle.ir_values.specs.declared.ids.LocalId.{LocalId}
use Rattle.ir_values.specs.declared.int.Width.{Width}
use Rattle.ir_values.specs.declared.int.Width.TheVariants.{W1, W64}
use Rattle.ir_values.specs.declared.ty.Ty.{Ty}
use Rattle.ir_values.specs.declared.ty.Ty.TheVariants as ty
use Rattle.ir_values.specs.declared.value.Value.TheVariants as value
use Rattle.ir_values.specs.Int.{IntValue, signed}
use Rattle.qir_meaning.specs.Runs.{RunEnd, Returned, start}
use Rattle.qir_meaning.specs.State.{State}
use Rattle.qir_meaning.specs.code.Simulation.{GoesBy}
use Rattle.qir_meaning.specs.code.Steps.{Ended, returned, Off, Whole, tick, whole_start}
use Rattle.qir_meaning.proofs.Behaviour.{goes-on-by}
use Rattle.kept_items.specs.declared.item.Choice.{Choice}
use Rattle.kept_items.specs.declared.item.Choice.TheVariants as choice
use Rattle.kept_items.specs.declared.item.Code.{Code}
use Rattle.kept_items.specs.declared.item.Code.TheVariants as code
use Rattle.kept_items.specs.declared.item.Item.{Item}
use Rattle.kept_items.specs.declared.item.Item.TheVariants as item
use Rattle.kept_items.specs.declared.target.Caps.{Caps}
use Rattle.kept_items.specs.declared.target.Target.{Target}
use Rattle.kept_items.specs.declared.target.Target.TheVariants.{Adaptive}
use Rattle.kept_items.specs.declared.val.Val.{Val}
use Rattle.kept_items.specs.declared.val.Val.TheVariants.{Known, Dynamic}
use Rattle.kept_items.specs.declared.val.Dyn.{Dyn}
use Rattle.kept_items.specs.Targets.{has_returns}
use Rattle.kept_items.specs.Items.{Did, Gave, Stopped, Senseless, chosen, coded, did, did_some, dynamic, valued}
use Rattle.path_search.specs.declared.visit.Link.{Link}
use Rattle.path_search.specs.Explored.{Explored, LeadsTo, labels}
use Rattle.path_search.specs.Paths.{onward}
use Rattle.placed_steps.specs.Placed.{ArePlaced, Comes, DidPlaced, EndsSoon, GoesTo, TurnPlaced}
use Rattle.residue.specs.declared.parts.Jump.{Jump}
use Rattle.residue.specs.declared.parts.Line.{Line}
use Rattle.residue.specs.declared.parts.Line.TheVariants as line
use Rattle.residue.specs.declared.parts.Part.{Part}
use Rattle.residue.specs.declared.parts.Residue.{Residue}
use Rattle.residue.specs.Instructions.{named_value}
use Rattle.residue.specs.Printed.{argument, printed, words}
use Rattle.printed_residue.specs.Laws as laws
use Rattle.printed_residue.specs.Laws.{EndsAfter, IsGood, ItemsRun, MarksPass, ReturnsRun, StartsRun, TailsRun}
use Rattle.printed_residue.specs.Places.{AtLine, BitsBelow, lowered_state, naming, taken, value_of_number}
use Rattle.static_steps.specs.declared.config.Config.{Config}
use Rattle.static_steps.specs.declared.turn.Move.{Move}
use Rattle.static_steps.specs.declared.turn.Turn.{Turn}
use Rattle.static_steps.specs.declared.turn.Turn.TheVariants.{Goes, Exits, Bad, Lost}
use Rattle.static_steps.specs.Configurations.{Bounds, bounds}
use Rattle.static_steps.specs.Steps.{start_of}
use Rattle.static_steps.specs.Works.{dynamics_of}
use Rattle.runs_follow_steps.specs.Meets.{shared}
use Rattle.unroller.specs.declared.node.Outcome.TheVariants as outcome
use Rattle.unroller.specs.Programs.{Carries, IsOutcome, IsReached, Program, search_of, step_of, turn_of}
use Rattle.valid_steps.specs.Items.{AreOperands, IsChoice, IsCode, IsItem, IsOperand, IsSomeItem, gives_some}
use Rattle.valid_steps.specs.Turns.{GoesOn, IsMove, IsTurn}
use Rattle.valid_steps.specs.Types.{Fill, dynamic_types}
use Rattle.valid_steps.proofs.Opened.{count-types}
use Rattle.fused_parts.specs.declared.numbers.Numbers.{Numbers}
use Rattle.fused_parts.specs.Nodes.{Links, Node, gives, item_of, joins, joins_from, widths_of}
use Rattle.fused_parts.specs.Parts.{Spot, after, choice_tail, first_label, code_val, exit_tail, first_of, first_spot, in_row, item_line, lines_of, marks_to, next_numbers, nowhere, next_spot, number_at, outcome_tail, parts_of, renamed_item, shared_part, spots, spots_from, tail_of, with_widths}
use Rattle.fused_parts.specs.Parts as parts
use Rattle.fused_parts.specs.Ranks.{Fuses, goes_on, part_number, rank_at}
use Rattle.fused_parts.proofs.Fusing.{NoneToFirst, flags-fuse}
use Rattle.fused_parts.proofs.Ranks.{rank-below, rank-falls, spot-next, spot-there}
use Rattle.fused_parts.proofs.Standing.{BeginsAt, StandsAt, all-begin, all-stand}
use Rattle.lowered_runs.specs.Made.{CodesFit, IsMade, own_parts}
use Rattle.lowered_runs.proofs.Adaptive.{AllMarks, At, Does, StandFrom, behind, freed, item-done, made, marks-passed, nothing-done}
use Rattle.lowered_runs.proofs.Lookups.{is-there, length-map, look-at, map-get, same-some, within}
use Rattle.lowered_runs.proofs.Onward.{AllBelow, AsMany, ChoiceBelow, goes-on, leads-to}
use Rattle.lowered_runs.proofs.Renaming.{ArgsBelow, GivesMany, ItemBelow, ValBelow, gives-many}
use Rattle.lowered_runs.proofs.Spots.{spot-part}

abbrev nothing-val : Val
nothing-val = Known (value.Int (record { width = W64; bits = 0 }))

abbrev shared-one : Part
shared-one = record { params = []; lines = []; tail = nowhere }

-- ---- lists

pub length-joins : (all : List Node) (n : ℕ) (xs : List Node) → length (joins_from all n xs) ≡ length xs
length-joins all n [] = refl
length-joins all n (x ∷ xs) = ap suc (length-joins all (suc n) xs)

get-behind : (pre : List Line) (x : Line) (rest : List Line) (q : ℕ) → q ≡ length pre → slice_get (pre ++ x ∷ rest) q ≡ Some x
get-behind [] x rest zero e = refl
get-behind [] x rest (suc q) e = absurd (omega (arith, e))
get-behind (y ∷ pre) x rest zero e = absurd (omega (arith, e))
get-behind (y ∷ pre) x rest (suc q) e = get-behind pre x rest q (omega (arith, e))

pub stand-behind : (pre xs rest : List Line) (q : ℕ) → q ≡ length pre → StandFrom (pre ++ (xs ++ rest)) q xs
stand-behind pre [] rest q e = tt
stand-behind pre (x ∷ xs) rest q e = (
  get-behind pre x (xs ++ rest) q e,
  subst (λ l. StandFrom l (suc q) xs) (append_assoc pre (x ∷ []) (xs ++ rest))
      (stand-behind (pre ++ x ∷ []) xs rest (suc q) (let h = length-append pre (x ∷ []) in omega (arith, h, e))),
)

-- ---- marks

marks-append : (xs ys : List Line) → AllMarks xs → AllMarks ys → AllMarks (xs ++ ys)
marks-append [] ys a b = b
marks-append (x ∷ xs) ys a b = (a.0, marks-append xs ys a.1 b)

pub all-marks : (g : Config) (o : Option Node) → AllMarks (marks_to g o)
all-marks g None = tt
all-marks g (Some y) = marks-append (parts.made g.allocated y.node.allocated) (parts.freed (parts.let_go g.held y.node.held)) (by-test (nat_lt g.allocated y.node.allocated)) (by-option (parts.let_go g.held y.node.held))
  where
    by-test : (b : Bool) → AllMarks (if b then (line.Made g.allocated ∷ []) else [])
    by-test true = (made g.allocated, tt)
    by-test false = tt

    by-option : (o : Option ℕ) → AllMarks (parts.freed o)
    by-option None = tt
    by-option (Some j) = (freed j, tt)

-- ---- what a step says of numbers

fill-below : (ts us : List (Option Ty)) (args : List Dyn) (n : ℕ) → length ts ≡ n → Fill ts args us → AllBelow n args
fill-below ts [] [] n e f = tt
fill-below ts (u ∷ us) [] n e f = absurd f
fill-below ts [] (d ∷ args) n e f = absurd f
fill-below ts (u ∷ us) (d ∷ args) n e f = (subst (λ k. d.0 < k) e (within ts d.0 u f.0), fill-below ts us args n e f.1)

length-gives : (item : Option Item) → length (gives_some item) ≡ gives item
length-gives None = refl
length-gives (Some (item.Binary d o flags w a b)) = refl
length-gives (Some (item.Icmp d p w a b)) = refl
length-gives (Some (item.Convert d c w a to)) = refl
length-gives (Some (item.Select d w c a b)) = refl
length-gives (Some (item.Read d v)) = refl
length-gives (Some (item.Equal d v u)) = refl
length-gives (Some (item.Operation name args)) = refl
length-gives (Some (item.Output c args)) = refl

pub all-at : {A : Type 0} (F : A → Type 0) (xs : List A) (i : ℕ) (x : A) → All F xs → slice_get xs i ≡ Some x → F x
all-at F xs i x all h = subst F (look-at xs i x x h) (all i x (within xs i x h))

pub less-more : (a b n : ℕ) → a < b → a < b + n
less-more a b n h = omega (arith, h)

less-turn : (a w b n : ℕ) → a < w → a < b + suc n * w
less-turn a w b n h = more (n * w) (suc n * w) (suc-mul n w)
  where
    more : (z y : ℕ) → y ≡ z + w → a < b + y
    more z y e = omega (arith, e, h)

choice-below : (t : Target) (ts : List (Option Ty)) (n k : ℕ) (c : Choice) → length ts ≤ n → IsChoice t ts k c → ChoiceBelow n c × AsMany c k
choice-below t ts n k choice.One le h = (tt, h)
choice-below t ts n k (choice.Branch d) le h = ((let b = within ts d.0 _ h.1 in omega (arith, b, le)), h.0)
choice-below t ts n k (choice.Switch d w is) le h = ((let b = within ts d.0 _ h.1 in omega (arith, b, le)), h.0)

-- ---- the operands of an item

val-below : (m : Module) (t : Target) (b : Bounds) (ts : List (Option Ty)) (n : ℕ) (u : Ty) (a : Val) → length ts ≡ n → IsOperand m t b ts u a → ValBelow n a
val-below m t b ts n u (Known v) e h = tt
val-below m t b ts n u (Dynamic d) e h = let i = within ts d.0 (Some u) h.1 in omega (arith, i, e)

args-below : (m : Module) (t : Target) (b : Bounds) (ts : List (Option Ty)) (n : ℕ) (args : List (Ty × Val)) → length ts ≡ n → AreOperands m t b ts args → ArgsBelow n args
args-below m t b ts n [] e h = tt
args-below m t b ts n (a ∷ args) e h = (val-below m t b ts n a.0 a.1 e h.0, args-below m t b ts n args e h.1)

item-below : (m : Module) (t : Target) (b : Bounds) (ts : List (Option Ty)) (held : List ℕ) (n : ℕ) (i : Item) → length ts ≡ n → IsItem m t b ts held i → ItemBelow n i
item-below m t b ts held n (item.Binary d o flags w x y) e h = (val-below m t b ts n (ty.Int w) x e h.4, val-below m t b ts n (ty.Int w) y e h.5)
item-below m t b ts held n (item.Icmp d o w x y) e h = (val-below m t b ts n (ty.Int w) x e h.3, val-below m t b ts n (ty.Int w) y e h.4)
item-below m t b ts held n (item.Convert d o w x to) e h = val-below m t b ts n (ty.Int w) x e h.3
item-below m t b ts held n (item.Select d w c x y) e h =
    (val-below m t b ts n (ty.Int W1) c e h.3, val-below m t b ts n (ty.Int w) x e h.4, val-below m t b ts n (ty.Int w) y e h.5)
item-below m t b ts held n (item.Read d v) e h = tt
item-below m t b ts held n (item.Equal d v u) e h = tt
item-below m t b ts held n (item.Operation name args) e h = args-below m t b ts n args e h.1
item-below m t b ts held n (item.Output c args) e h = args-below m t b ts n args e h.1

some-item-below : (m : Module) (t : Target) (b : Bounds) (ts : List (Option Ty)) (held : List ℕ) (n : ℕ) (o : Option Item) → length ts ≡ n → IsSomeItem m t b ts held o → (i : Item) → o ≡ Some i → ItemBelow n i
some-item-below m t b ts held n None e h i s = cc
some-item-below m t b ts held n (Some j) e h i s = subst (ItemBelow n) (same-some j i s) (item-below m t b ts held n j e h)

-- the spot of the first
pub first-is : (nodes xs : List Node) (bs : List Bool) (s0 s : Spot) → slice_get (spots_from nodes xs bs s0) 0 ≡ Some s → s ≡ s0
first-is nodes [] bs s0 s e = cc
first-is nodes (a ∷ []) bs s0 s e = cc
first-is nodes (a ∷ c ∷ xs) [] s0 s e = cc
first-is nodes (a ∷ c ∷ xs) (b ∷ bs) s0 s e = cc

-- ----

module _ (m : Module) (live : Point → LocalId → Bool) (entry : FuncId) (qubits results : ℕ) (caps : Caps) (budget : ℕ) (nodes : List Node) (sharing : Option ℕ) (r : Residue) where
  abbrev pub program : Program
  program = record { m = m; target = Adaptive caps; live = live; entry = entry; qubits = qubits; results = results }

  abbrev pub l : Module
  l = printed r (Adaptive caps)

  abbrev pub flags : List Bool
  flags = joins nodes

  abbrev pub part_of : ℕ → ℕ
  part_of = part_number (joins nodes)

  abbrev pub config_in : Option Node → Config
  config_in None = start_of entry
  config_in (Some x) = x.node

  abbrev pub config : ℕ → Config
  config i = config_in (slice_get nodes i)

  abbrev pub rank : ℕ → ℕ
  rank i = rank_at nodes flags i

  module _ (good : IsGood r (Adaptive caps)) (items : ItemsRun) (marks : MarksPass) (tails : TailsRun) (returns : ReturnsRun)
      (explored : Explored (search_of program budget) (Carries program) nodes) (is_made : IsMade program nodes sharing r) (codes : CodesFit nodes)
      (fits : (g : Config) → IsReached program g → IsTurn m (Adaptive caps) live entry qubits results (dynamic_types m g) g.allocated g.returned (step_of program g))
      (none : NoneToFirst nodes) (W : ℕ) (few : length nodes ≤ W) where
    abbrev Stood : ℕ → Part → ℕ → Numbers → List IntValue → State → Whole → Type 0
    Stood = At r caps good items marks

    -- the run is at the place of configuration i
    pub record Stands (i : ℕ) (ds : List IntValue) (st : State) (v : Whole) : Type 0 where
      pub node : Node
      pub is : slice_get nodes i ≡ Some node
      pub spot : Spot
      pub spot_is : slice_get (spots nodes flags) i ≡ Some spot
      pub part : Part
      pub part_is : slice_get r.parts spot.part ≡ Some part
      pub at : Stood spot.part part spot.line spot.numbers ds st v

    abbrev N : Naming
    N = naming r

    abbrev Goes_to : ℕ → Whole → Move → List IntValue → State → Type 0
    Goes_to = GoesTo N l W (length nodes) config rank Stands

    abbrev Ends_soon : Whole → RunEnd → State → Type 0
    Ends_soon = EndsSoon N l W (length nodes) config rank Stands

    fuses : Fuses nodes flags
    fuses = flags-fuse nodes none

    enough : length nodes ≤ suc (length flags)
    enough = let e = length-joins nodes 0 nodes in omega (arith, e)

    standing : (i : ℕ) (x : Node) (s : Spot) → slice_get nodes i ≡ Some x → slice_get (spots nodes flags) i ≡ Some s → StandsAt m nodes part_of sharing r.parts x (goes_on nodes flags i) s
    standing i x s g e = subst (λ ps. StandsAt m nodes part_of sharing ps x (goes_on nodes flags i) s) (sym is_made.parts) (all-stand m nodes part_of sharing flags i x s g e)

    beginning : (j : ℕ) (y : Node) (s : Spot) → goes_on nodes flags j ≡ false → slice_get nodes (suc j) ≡ Some y → slice_get (spots nodes flags) (suc j) ≡ Some s → BeginsAt m nodes part_of sharing r.parts y s
    beginning j y s off g e =
        subst (λ ps. BeginsAt m nodes part_of sharing ps y s) (sym is_made.parts)
        (all-begin m nodes part_of sharing flags j y s (let a = within nodes (suc j) y g in let b = length-joins nodes 0 nodes in omega (arith, a, b)) off g e)

    -- ---- at the place of a configuration

    module _ (i : ℕ) (ds : List IntValue) (st : State) (v : Whole) (counted : dynamics_of (config i) ≡ length ds) (h : Stands i ds st v) where
      abbrev x : Node
      x = h.node

      abbrev s : Spot
      s = h.spot

      abbrev n : Numbers
      n = h.spot.numbers

      abbrev q : ℕ
      q = h.spot.line + length (lines_of nodes h.node h.spot.numbers)

      here : StandsAt m nodes part_of sharing r.parts x (goes_on nodes flags i) s
      here = standing i x s h.is h.spot_is

      same-part : here.part ≡ h.part
      same-part = same-some here.part h.part (sym here.is ∙ h.part_is)

      lines-are : h.part.lines ≡ here.before ++ (lines_of nodes x n ++ here.after)
      lines-are = ap (λ p. p.lines) (sym same-part) ∙ here.lines

      stand : StandFrom h.part.lines s.line (lines_of nodes x n)
      stand = subst (λ ls. StandFrom ls s.line (lines_of nodes x n)) (sym lines-are) (stand-behind here.before (lines_of nodes x n) here.after s.line (sym here.many))

      -- where the part ends, its tail follows
      at-end : goes_on nodes flags i ≡ false → (q ≡ length h.part.lines) × (h.part.tail ≡ tail_of part_of sharing x n)
      at-end off =
          let e = here.ends off in (
            (let a = ap length (lines-are ∙ ap (λ z. here.before ++ (lines_of nodes x n ++ z)) e.0 ∙ ap (λ z. here.before ++ z) (append-nil (lines_of nodes x n))) in
                let b = length-append here.before (lines_of nodes x n) in
                let c = here.many in
                omega (arith, a, b, c)),
            ap (λ p. p.tail) (sym same-part) ∙ e.1,
          )

      count-here : dynamics_of x.node ≡ length ds
      count-here = ap (λ o. dynamics_of (config_in o)) (sym h.is) ∙ counted

      -- ---- on to a successor

      module _ (moves : List Move) (what : Option Item) (c : Choice) (outcome-is : x.item ≡ outcome.Goes what c) (args-are : labels x.links ≡ map (λ mv. mv.args) moves)
          (leads : LeadsTo nodes x.links (map (λ mv. mv.to) moves))
          (turn : GoesOn m (Adaptive caps) live entry qubits results (dynamic_types m x.node) x.node.allocated x.node.returned moves what c) where
        many-links : length x.links ≡ length moves
        many-links = leads.number ∙ length-map (λ mv. mv.to) moves

        types-many : length (dynamic_types m x.node) ≡ length ds
        types-many = count-types m x.node ∙ count-here

        module _ (D : List IntValue) (more : length D ≡ length ds + gives what) (st' : State) (v1 : Whole) (steps : ℕ) (few-steps : steps ≤ 3) (went : GoesBy l steps v v1)
            (at : Stood s.part h.part q (after x n) D st' v1) (mv : Move) (is-move : slice_get moves (chosen c D) ≡ Some mv) where
          abbrev move : IsMove m (Adaptive caps) live entry qubits results (dynamic_types m x.node) x.node.allocated x.node.returned what mv
          move = all-at (IsMove m (Adaptive caps) live entry qubits results (dynamic_types m x.node) x.node.allocated x.node.returned what) moves (chosen c D) mv turn.moves_fit is-move

          the-link : (k : Link (List Dyn)) × (slice_get x.links (chosen c D) ≡ Some k)
          the-link = is-there x.links (chosen c D) (let a = within moves (chosen c D) mv is-move in let b = many-links in omega (arith, a, b))

          abbrev k : Link (List Dyn)
          k = the-link.0

          label-is : k.label ≡ mv.args
          label-is =
              same-some k.label mv.args
              (sym (map-get (λ z. z.label) x.links (chosen c D) k the-link.1)
              ∙ ap (λ ls. slice_get ls (chosen c D)) args-are
              ∙ map-get (λ z. z.args) moves (chosen c D) mv is-move)

          target : (w : Node) × (slice_get nodes k.to ≡ Some w) × (slice_get (map (λ z. z.to) moves) (chosen c D) ≡ Some w.node)
          target = leads.to (chosen c D) k the-link.1

          abbrev y : Node
          y = target.0

          to-is : mv.to ≡ y.node
          to-is = same-some mv.to y.node (sym (map-get (λ z. z.to) moves (chosen c D) mv is-move) ∙ target.2)

          types-after : length (dynamic_types m x.node ++ gives_some what) ≡ length D
          types-after = length-append (dynamic_types m x.node) (gives_some what) ∙ (let a = types-many in let b = length-gives what in omega (arith, a, b, more))

          args-below-D : AllBelow (length D) k.label
          args-below-D = subst (AllBelow (length D)) (sym label-is) (fill-below (dynamic_types m x.node ++ gives_some what) (dynamic_types m mv.to) mv.args (length D) types-after move.arguments)

          config-is : (j : ℕ) → k.to ≡ j → mv.to ≡ config j
          config-is j e = to-is ∙ ap config_in (sym target.1 ∙ ap (slice_get nodes) e)

          abbrev vals : List IntValue
          vals = map (dynamic D) k.label

          -- the one that goes on in the part
          in-part : goes_on nodes flags i ≡ true → Goes_to i v mv D st'
          in-part on =
              let o = fuses.onward i x h.is on in
              let k-is : k ≡ record { to = suc i; label = o.0 } = only k (record { to = suc i; label = o.0 }) (chosen c D) (subst (λ ls. slice_get ls (chosen c D) ≡ Some k) o.1 the-link.1) in
              let to-next : k.to ≡ suc i = ap (λ z. z.to) k-is in
              let there : slice_get nodes (suc i) ≡ Some y = ap (slice_get nodes) (sym to-next) ∙ target.1 in
              let t = spot-there nodes nodes flags first_spot (suc i) y enough there in
              let nx = spot-next nodes nodes flags first_spot i x y s t.0 enough h.is there h.spot_is t.1 ∙ ap (λ b. next_spot nodes x b y s) on in
              let first : first_label x.links ≡ k.label = ap first_label o.1 ∙ sym (ap (λ z. z.label) k-is) in
              record {
                to = suc i;
                inside = within nodes (suc i) y there;
                is_to = config-is (suc i) to-next;
                steps = steps;
                few = (let f = few-steps in omega (arith, f));
                after = v1;
                goes = went;
                falls = less-more (rank (suc i)) (rank i) (steps * W) (rank-falls nodes flags i on);
                stands = subst (λ as_. Stands (suc i) (map (dynamic D) as_) st' v1) label-is (record {
                  node = y;
                  is = there;
                  spot = t.0;
                  spot_is = t.1;
                  part = h.part;
                  part_is = ap (λ z. slice_get r.parts z.part) nx ∙ h.part_is;
                  at = subst (λ z. Stood z.part h.part z.line z.numbers vals st' v1) (sym nx)
                      (subst (λ as_. Stood s.part h.part q (record { free = (after x n).free; mine = map (number_at (after x n).mine) as_ }) vals st' v1) (sym first)
                      (goes-on r caps good items marks tails s.part h.part q (after x n) D st' v1 k.label args-below-D at));
                });
              }
            where
              only : (a b : Link (List Dyn)) (j : ℕ) → slice_get (b ∷ []) j ≡ Some a → a ≡ b
              only a b zero e = same-some a b (sym e)
              only a b (suc j) e = cc

          -- the others begin a part
          to-part : goes_on nodes flags i ≡ false → Goes_to i v mv D st'
          to-part off =
              let b = fuses.begins i x (chosen c D) k h.is off the-link.1 in
              let j : ℕ = b.0 in
              let there : slice_get nodes (suc j) ≡ Some y = ap (slice_get nodes) (sym b.1) ∙ target.1 in
              let xj = is-there nodes j (let a = within nodes (suc j) y there in omega (arith, a)) in
              let sj = spot-there nodes nodes flags first_spot j xj.0 enough xj.1 in
              let t = spot-there nodes nodes flags first_spot (suc j) y enough there in
              let nx = spot-next nodes nodes flags first_spot j xj.0 y sj.0 t.0 enough xj.1 there sj.1 t.1 ∙ ap (λ z. next_spot nodes xj.0 z y sj.0) b.2 in
              let bg = beginning j y t.0 b.2 there t.1 in
              let first : ℕ = (after xj.0 sj.0.numbers).free in
              let number : ℕ = dynamics_of y.node in
              let e = at-end off in
              let where-part : t.0.part ≡ part_of k.to = spot-part nodes nodes flags first_spot (suc j) t.0 enough t.1 ∙ (let z : 0 + part_of (suc j) ≡ part_of (suc j) = omega arith in z) ∙ ap part_of (sym b.1) in
              let as-many : number ≡ length k.label = ap dynamics_of (sym to-is) ∙ sym move.number ∙ ap length (sym label-is) in
              let params : bg.part.params ≡ with_widths (in_row first number) (widths_of m y.node) = bg.params ∙ ap (λ z. with_widths z.numbers.mine (widths_of m y.node)) nx in
              let cb = choice-below (Adaptive caps) (dynamic_types m x.node) (length D) (length moves) c (let a = types-many in omega (arith, a, more)) turn.choice_fits in
              let go =
              leads-to r caps good items marks tails s.part h.part h.part_is (after x n) D st' v1 (subst (λ z. Stood s.part h.part z (after x n) D st' v1) e.0 at) part_of c x.links k
              (e.1 ∙ ap (λ z. outcome_tail part_of sharing (after x n).mine z x.links) outcome-is) cb.0 (subst (AsMany c) (sym many-links) cb.1) the-link.1 args-below-D
              bg.part first number (widths_of m y.node) (ap (slice_get r.parts) (sym where-part) ∙ bg.is) as-many params in
              record {
                to = suc j;
                inside = within nodes (suc j) y there;
                is_to = config-is (suc j) b.1;
                steps = suc steps;
                few = (let f = few-steps in omega (arith, f));
                after = go.0;
                goes = goes-on-by l steps 1 (suc steps) v v1 go.0 went (go.0, go.1, refl) (let z : suc steps ≡ steps + 1 = omega arith in z);
                falls = less-turn (rank (suc j)) W (rank i) steps (let a = rank-below nodes flags (suc j) (within nodes (suc j) y there) in let f = few in omega (arith, a, f));
                stands = subst (λ as_. Stands (suc j) (map (dynamic D) as_) st' go.0) label-is (record {
                  node = y;
                  is = there;
                  spot = t.0;
                  spot_is = t.1;
                  part = bg.part;
                  part_is = bg.is;
                  at = subst (λ z. Stood z bg.part t.0.line t.0.numbers vals st' go.0) (sym where-part)
                      (subst (λ z. Stood (part_of k.to) bg.part z t.0.numbers vals st' go.0) (sym bg.at_first)
                      (subst (λ z. Stood (part_of k.to) bg.part 0 z vals st' go.0) (sym (ap (λ z. z.numbers) nx)) go.2));
                });
              }

          pub to-successor : Goes_to i v mv D st'
          to-successor = by-flag (goes_on nodes flags i) refl
            where
              by-flag : (b : Bool) → goes_on nodes flags i ≡ b → Goes_to i v mv D st'
              by-flag true e = in-part e
              by-flag false e = to-part e

        -- ---- the item, and then the marks

        abbrev marks_behind : List Line
        marks_behind = marks_to x.node (first_of nodes x.links)

        lines-by : lines_of nodes x n ≡ item_line what n ++ marks_behind
        lines-by = ap (λ o. item_line (item_of o) n ++ marks_behind) outcome-is

        after-by : after x n ≡ behind (gives what) n
        after-by = ap (λ o. behind (gives (item_of o)) n) outcome-is

        passes : (D : List IntValue) (st' : State) (v1 : Whole) (a : ℕ) → item_line what n ≡ [] → Stood s.part h.part s.line (behind 0 n) D st' v1 → Stood s.part h.part q (behind 0 n) D st' v1
        passes D st' v1 a e at =
            let ls : lines_of nodes x n ≡ marks_behind = lines-by ∙ ap (λ z. z ++ marks_behind) e in
            subst (λ z. Stood s.part h.part (s.line + length z) (behind 0 n) D st' v1) (sym ls)
            (marks-passed r caps good items marks s.part h.part s.line (behind 0 n) D st' v1 marks_behind (all-marks x.node (first_of nodes x.links)) (subst (StandFrom h.part.lines s.line) ls stand) at)

        -- an item stands first
        item-stands : (i' : Item) → what ≡ Some i' → (slice_get h.part.lines s.line ≡ Some (line.Item (renamed_item n.mine n.free i'))) × StandFrom h.part.lines (suc s.line) marks_behind × (lines_of nodes x n ≡ line.Item (renamed_item n.mine n.free i') ∷ marks_behind)
        item-stands i' e =
            let ls : lines_of nodes x n ≡ line.Item (renamed_item n.mine n.free i') ∷ marks_behind = lines-by ∙ ap (λ o. item_line o n ++ marks_behind) e in
            let f = subst (StandFrom h.part.lines s.line) ls stand in
            (f.0, f.1, ls)

        by-item : (o : Option Item) → what ≡ o → DidPlaced N l W (length nodes) config rank Stands i v moves c ds (did_some ds st o)
        by-item None e = λ mv is-move.
            to-successor (ds ++ []) (length-append ds [] ∙ (let z : gives what ≡ 0 = ap gives e in omega (arith, z))) st v 0 (omega arith) refl
            (subst (λ z. Stood s.part h.part q z (ds ++ []) st v) (sym (after-by ∙ ap (λ o. behind (gives o) n) e))
            (passes (ds ++ []) st v 0 (ap (λ o. item_line o n) e) (nothing-done r caps good items marks s.part h.part s.line n ds st v h.at)))
            mv is-move
        by-item (Some i') e = by-did (did ds st i') (gives-many ds st i') (item-done r caps good items marks s.part h.part h.part_is s.line n ds st v h.at i' (item-stands i' e).0 below)
          where
            -- a step that goes on has a move, which tells of the item
            first-move : (mv : Move) × (slice_get moves 0 ≡ Some mv)
            first-move = is-there moves 0 (some-move c (length moves) (choice-below (Adaptive caps) (dynamic_types m x.node) (length ds) (length moves) c (let a = types-many in omega (arith, a)) turn.choice_fits).1)
              where
                some-move : (c : Choice) (k : ℕ) → AsMany c k → 0 < k
                some-move choice.One k e = omega (arith, e)
                some-move (choice.Branch d) k e = omega (arith, e)
                some-move (choice.Switch d w is) k e = omega (arith, e)

            below : ItemBelow (length ds) i'
            below =
                let mv = all-at (IsMove m (Adaptive caps) live entry qubits results (dynamic_types m x.node) x.node.allocated x.node.returned what) moves 0 first-move.0 turn.moves_fit first-move.1 in
                some-item-below m (Adaptive caps) (bounds qubits results first-move.0.to) (dynamic_types m x.node) first-move.0.to.held (length ds) what types-many mv.item_fits i' e

            by-did : (o : Did) → GivesMany (gives (Some i')) o → Does r caps good items marks s.part h.part h.part_is s.line n ds st v h.at i' o → DidPlaced N l W (length nodes) config rank Stands i v moves c ds o
            by-did (Gave new st') many (v1, steps, some, few-steps, went, at) = λ mv is-move.
                to-successor (ds ++ new) (length-append ds new ∙ (let z : gives what ≡ gives (Some i') = ap gives e in omega (arith, z, many))) st' v1 steps few-steps went
                (subst (λ z. Stood s.part h.part q z (ds ++ new) st' v1) (sym (after-by ∙ ap (λ o. behind (gives o) n) e))
                (subst (λ z. Stood s.part h.part z (behind (gives (Some i')) n) (ds ++ new) st' v1)
                (let a = ap length (item-stands i' e).2 in omega (arith, a))
                (marks-passed r caps good items marks s.part h.part (suc s.line) (behind (gives (Some i')) n) (ds ++ new) st' v1 marks_behind (all-marks x.node (first_of nodes x.links)) (item-stands i' e).1 at)))
                mv is-move
            by-did (Stopped stop st') many (j, lt, before, goes, ends) = record {
              steps = j;
              few = omega (arith, lt);
              ends = record { before = before; goes = goes; state = lowered_state N st'; ends = ends; alike = record { events = refl; records = refl } };
            }
            by-did Senseless many does = tt

      -- ---- the entry returns

      module _ (c : Code) (outcome-is : x.item ≡ outcome.Exits c) (no-links : x.links ≡ []) (code-fits : IsCode (Adaptive caps) (dynamic_types m x.node) c) where
        exits-off : (b : Bool) → goes_on nodes flags i ≡ b → goes_on nodes flags i ≡ false
        exits-off false e = e
        exits-off true e = absurd (clash (sym no-links ∙ (fuses.onward i x h.is e).1))
          where
            clash : {A : Type 0} {a : A} {as_ : List A} → [] ≡ a ∷ as_ → ⊥
            clash e = cc

        off : goes_on nodes flags i ≡ false
        off = exits-off (goes_on nodes flags i) refl

        no-lines : lines_of nodes x n ≡ []
        no-lines = ap (λ o. item_line (item_of o) n ++ marks_to x.node (first_of nodes x.links)) outcome-is ∙ ap (λ ls. marks_to x.node (first_of nodes ls)) no-links

        mine-is : (after x n).mine ≡ n.mine
        mine-is = ap (λ o. n.mine ++ in_row n.free (gives (item_of o))) outcome-is ∙ append-nil n.mine

        tail-is : h.part.tail ≡ exit_tail sharing n.mine c
        tail-is = (at-end off).1 ∙ ap (λ o. outcome_tail part_of sharing (after x n).mine o x.links) outcome-is ∙ ap (λ ms. exit_tail sharing ms c) mine-is

        at-tail : AtLine r s.part h.part (length h.part.lines) h.at.values st v
        at-tail =
            subst (λ z. AtLine r s.part h.part z h.at.values st v)
            (let a = (at-end off).0 in let b = ap length no-lines in omega (arith, a, b)) h.at.at

        ends-by : (steps : ℕ) → steps < 4 → (before : Whole) → GoesBy l steps v before → tick l before ≡ Off (Ended (Returned (coded ds c)) (lowered_state N st)) → Ends_soon v (Returned (coded ds c)) st
        ends-by steps few before goes e = record {
          steps = steps;
          few = few;
          ends = record { before = before; goes = goes; state = lowered_state N st; ends = e; alike = record { events = refl; records = refl } };
        }

        value-is : (d : Code) → c ≡ d → returned (Some (named_value (words r) (valued h.at.values (code_val n.mine d)))) (lowered_state N st) ≡ Ended (Returned (coded ds d)) (lowered_state N st)
        value-is (code.Known z) e = ap (λ y. Ended (Returned y) (lowered_state N st)) (codes i x z h.is (outcome-is ∙ ap outcome.Exits e))
        value-is (code.Dynamic d) e =
            ap (λ y. Ended (Returned (signed y)) (lowered_state N st))
            (h.at.same d.0 (let f = (subst (IsCode (Adaptive caps) (dynamic_types m x.node)) e code-fits).1 in let b = within (dynamic_types m x.node) d.0 _ f in let a = count-types m x.node in let k = count-here in omega (arith, a, b, k)))

        -- a code that exits share is 0
        zero-code : (d : Code) → c ≡ d → has_returns (Adaptive caps) ≡ false → coded ds d ≡ pos 0
        zero-code (code.Known z) e f = ⊎_elim (λ t. absurd (clash (sym t ∙ f))) (λ y. y) (subst (IsCode (Adaptive caps) (dynamic_types m x.node)) e code-fits)
          where
            clash : true ≡ false → ⊥
            clash e = cc
        zero-code (code.Dynamic d) e f = absurd (clash (sym (subst (IsCode (Adaptive caps) (dynamic_types m x.node)) e code-fits).0 ∙ f))
          where
            clash : true ≡ false → ⊥
            clash e = cc

        exits-by : (o : Option ℕ) → sharing ≡ o → Ends_soon v (Returned (coded ds c)) st
        exits-by None e =
            ends-by 0 (omega arith) v refl
            (returns r caps s.part h.part (code_val n.mine c) h.at.values st v good h.part_is (tail-is ∙ ap (λ o. exit_tail o n.mine c) e) at-tail
            ∙ ap Off (value-is c refl))
        exits-by (Some k) e =
            let last = is_made.shared_last k e in
            let jump : Jump = record { to = k; args = [] } in
            let t = tails r caps s.part h.part jump h.at.values h.at.values st v good h.part_is at-tail (ap (taken h.at.values) (tail-is ∙ ap (λ o. exit_tail o n.mine c) e)) in
            let stands-last : slice_get r.parts k ≡ Some shared-one =
            ap (λ ps. slice_get ps k) (is_made.parts ∙ ap (λ o. own_parts program nodes sharing ++ shared_part o) e) ∙ get-last (own_parts program nodes sharing) shared-one k last.0 in
            let is-shared : t.0 ≡ shared-one = same-some t.0 shared-one (sym t.1 ∙ stands-last) in
            let go = t.2 (subst (λ z. laws.Carries jump z h.at.values h.at.values) (sym is-shared) (λ i d g. no-params i d g)) in
            ends-by 1 (omega arith) go.0 (go.0, go.1, refl)
            (returns r caps k shared-one nothing-val h.at.values st go.0 good stands-last refl (subst (λ z. AtLine r k z 0 h.at.values st go.0) is-shared go.2)
            ∙ ap (λ z. Off (Ended (Returned z) (lowered_state N st))) (sym (zero-code c refl last.1)))
          where
            get-last : (ps : List Part) (one : Part) (k : ℕ) → k ≡ length ps → slice_get (ps ++ one ∷ []) k ≡ Some one
            get-last [] one zero e = refl
            get-last [] one (suc k) e = absurd (omega (arith, e))
            get-last (p ∷ ps) one zero e = absurd (omega (arith, e))
            get-last (p ∷ ps) one (suc k) e = get-last ps one k (omega (arith, e))

            no-params : (i : ℕ) (d : Dyn × Width) → slice_get [] i ≡ Some d → valued h.at.values (argument i (record { to = k; args = [] })) ≡ value.Int (value_of_number h.at.values d.0.0)
            no-params i d g = cc

        pub exits : Ends_soon v (Returned (coded ds c)) st
        exits = exits-by sharing refl

      no-labels : (links : Links) → labels links ≡ [] → links ≡ []
      no-labels [] e = refl
      no-labels (k ∷ links) e = cc

      by-turn : (turn : Turn) → IsOutcome turn x.item (labels x.links) → LeadsTo nodes x.links (onward (turn_of turn)) → IsTurn m (Adaptive caps) live entry qubits results (dynamic_types m x.node) x.node.allocated x.node.returned turn
          → TurnPlaced N l W (length nodes) config rank Stands i ds st v turn
      by-turn (Goes moves what c) o leads fit = by-item moves what c o.0 o.1 leads fit what refl
      by-turn (Exits c) o leads fit = exits c o.0 (no-labels x.links o.1) fit
      by-turn (Bad why) o leads fit = absurd o
      by-turn Lost o leads fit = absurd o

      pub turns-here : TurnPlaced N l W (length nodes) config rank Stands i ds st v (step_of program (config i))
      turns-here =
          let c = explored.carries i x h.is in
          subst (λ g. TurnPlaced N l W (length nodes) config rank Stands i ds st v (step_of program g)) (ap config_in (sym h.is))
          (by-turn (step_of program x.node) c.outcome (explored.links i x h.is) (fits x.node c.reached))

    -- ---- the start

    module _ (e' : Entry) (is_lowered : entry_of l ≡ Some e') (starts : StartsRun) (x0 : Node) (is-first : slice_get nodes 0 ≡ Some x0) where
      comes : (answers : List Answer) → Comes N l W (length nodes) config rank Stands e' answers
      comes answers =
          let t = starts r caps answers good in
          let same-entry : t.0 ≡ e' = entries t.0 e' (sym t.2 ∙ is_lowered) in
          let go = t.4 [] in
          let sp = spot-there nodes nodes flags first_spot 0 x0 enough is-first in
          let sp-is = first-is nodes nodes flags first_spot sp.0 sp.1 in
          record {
            steps = 1;
            few = omega arith;
            after = go.0;
            goes = (go.0, ap (λ x. tick l (whole_start x answers)) (sym same-entry) ∙ go.1, refl);
            stands = record {
              node = x0;
              is = is-first;
              spot = sp.0;
              spot_is = sp.1;
              part = t.1;
              part_is = ap (λ z. slice_get r.parts z.part) sp-is ∙ t.3;
              at = subst (λ z. Stood z.part t.1 z.line z.numbers [] (start answers) go.0) (sym sp-is) (record {
                values = [];
                at = go.2;
                many = refl;
                same = λ k lt. absurd (omega (arith, lt));
                below = λ k lt. absurd (omega (arith, lt));
              });
            };
          }
        where
          entries : (a b : Entry) → Some a ≡ Some b → a ≡ b
          entries a b e = cc

      shares-state : (i : ℕ) (ds : List IntValue) (st st' : State) (v : Whole) → shared st ≡ shared st' → Stands i ds st v → Stands i ds st' v
      shares-state i ds st st' v e h = record {
        node = h.node;
        is = h.is;
        spot = h.spot;
        spot_is = h.spot_is;
        part = h.part;
        part_is = h.part_is;
        at = record {
          values = h.at.values;
          at = record {
            at = h.at.at.at;
            no_waits = h.at.at.no_waits;
            state = h.at.at.state ∙ ap (lowered_state N) e;
            values = h.at.at.values;
            long = h.at.at.long;
            bits = subst (λ z. BitsBelow r.own_results z.bits) e h.at.at.bits;
          };
          many = h.at.many;
          same = h.at.same;
          below = h.at.below;
        };
      }

      pub are-placed : (e : Entry) → entry ≡ record { 0 = e.number } → x0.node ≡ start_of entry → ArePlaced N l W (length nodes) config rank Stands m (Adaptive caps) live e e'
      are-placed e entry-is start-is = record {
        some = within nodes 0 x0 is-first;
        first = ap config_in is-first ∙ start-is ∙ ap start_of entry-is;
        comes = comes;
        ranks = λ i lt. let a = rank-below nodes flags i lt in let f = few in omega (arith, a, f);
        alike = λ i ds st v h. record { events = sym (ap (λ z. z.events) h.at.at.state); records = sym (ap (λ z. z.records) h.at.at.state) };
        shares = shares-state;
        turns = λ i ds st v lt counted h. turns-here i ds st v counted h;
      }

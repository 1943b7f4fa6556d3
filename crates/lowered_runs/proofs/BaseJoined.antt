-- The same for the Base Profile, whose lowered programs have one part.
use Rattle.std.proofs.lemmas.Bool.{and_parts}
use Rattle.std.proofs.Common.{◌≡◌, inl, inr, ℕ, zero, suc, ◌+◌, ◌*◌, ◌<◌, ◌≤◌, Bool, true, false, Option, None, Some, List, [], ◌∷◌, ◌++◌, length, map, refl, sym, ap, ◌∙◌, subst, arith, append-nil, length-append}
use Rattle.std.specs.List.{list_all}
use Rattle.std.specs.Prelude.{slice_get}
use Rattle.backend_api.specs.declared.operation.Answer.{Answer}
use Rattle.backend_api.specs.Naming.{Naming}
use Rattle.ir_module.specs.declared.tree.Module.{Module}
use Rattle.ir_module.specs.Entry.{Entry, entry_of}
use Rattle.ir_module.specs.declared.places.Point.{Point}
use Rattle.ir_values.specs.declared.ids.FuncId.{FuncId}
use Rattle.ir_values.specs.declared.ids.LocalId.{LocalId}
use Rattle.ir_values.specs.declared.int.Width.TheVariants.{W1}
use Rattle.ir_values.specs.declared.ty.Ty.{Ty}
use Rattle.ir_values.specs.declared.ty.Ty.TheVariants as ty
use Rattle.ir_values.specs.Int.{IntValue}
use Rattle.qir_meaning.specs.Runs.{RunEnd, Returned, start}
use Rattle.qir_meaning.specs.State.{State}
use Rattle.qir_meaning.specs.code.Simulation.{GoesBy}
use Rattle.qir_meaning.specs.code.Steps.{Ended, returned, Off, Whole, tick, whole_start}
use Rattle.kept_items.specs.declared.item.Choice.{Choice}
use Rattle.kept_items.specs.declared.item.Choice.TheVariants as choice
use Rattle.kept_items.specs.declared.item.Code.{Code}
use Rattle.kept_items.specs.declared.item.Code.TheVariants as code
use Rattle.kept_items.specs.declared.item.Item.{Item}
use Rattle.kept_items.specs.declared.item.Item.TheVariants as item
use Rattle.kept_items.specs.declared.target.Target.TheVariants.{Base}
use Rattle.kept_items.specs.declared.val.Val.{Val}
use Rattle.kept_items.specs.declared.val.Val.TheVariants.{Known, Dynamic}
use Rattle.kept_items.specs.declared.val.Dyn.{Dyn}
use Rattle.kept_items.specs.Items.{Did, Gave, Stopped, Senseless, chosen, coded, did, did_some, valued}
use Rattle.path_search.specs.declared.visit.Link.{Link}
use Rattle.path_search.specs.Explored.{Explored, LeadsTo, labels}
use Rattle.path_search.specs.Paths.{onward}
use Rattle.placed_steps.specs.Placed.{ArePlaced, Comes, DidPlaced, EndsSoon, GoesTo, TurnPlaced}
use Rattle.residue.specs.declared.parts.Line.{Line}
use Rattle.residue.specs.declared.parts.Line.TheVariants as line
use Rattle.residue.specs.declared.parts.Part.{Part}
use Rattle.residue.specs.declared.parts.Residue.{Residue}
use Rattle.residue.specs.declared.parts.Tail.TheVariants as tail
use Rattle.residue.specs.Functions.{all_items}
use Rattle.residue.specs.Valid.{all_tails, base_permits, base_permits_tail}
use Rattle.residue.specs.Instructions.{named_value}
use Rattle.residue.specs.Printed.{printed, words}
use Rattle.printed_residue.specs.Laws.{BaseItemDoes, BaseItemsRun, BaseMarksPass, BaseReturnsRun, BaseStartsRun, IsGood}
use Rattle.printed_residue.specs.Places.{AtBase, BitsBelow, lowered_state, naming}
use Rattle.static_steps.specs.declared.config.Config.{Config}
use Rattle.static_steps.specs.declared.turn.Move.{Move}
use Rattle.static_steps.specs.declared.turn.Turn.{Turn}
use Rattle.static_steps.specs.declared.turn.Turn.TheVariants.{Goes, Exits, Bad, Lost}
use Rattle.static_steps.specs.Configurations.{Bounds, bounds}
use Rattle.static_steps.specs.Steps.{start_of}
use Rattle.static_steps.specs.Works.{dynamics_of}
use Rattle.runs_follow_steps.specs.Meets.{shared}
use Rattle.unroller.specs.declared.node.Outcome.TheVariants as outcome
use Rattle.unroller.specs.Programs.{Carries, IsOutcome, IsReached, Program, search_of, step_of, turn_of}
use Rattle.valid_steps.specs.Items.{AreOperands, IsChoice, IsItem, IsOperand, IsSomeItem}
use Rattle.valid_steps.specs.Turns.{GoesOn, IsMove, IsTurn}
use Rattle.valid_steps.specs.Types.{dynamic_types}
use Rattle.fused_parts.specs.declared.numbers.Numbers.{Numbers}
use Rattle.fused_parts.specs.Nodes.{Links, Node, item_of, joins}
use Rattle.fused_parts.specs.Parts.{Spot, after, code_val, exit_tail, first_of, first_spot, item_line, lines_of, marks_to, next_spot, outcome_tail, renamed_item, spots, tail_of}
use Rattle.fused_parts.specs.Ranks.{Fuses, goes_on, part_number, rank_at}
use Rattle.fused_parts.proofs.Fusing.{NoneToFirst, flags-fuse}
use Rattle.fused_parts.proofs.Ranks.{rank-below, rank-falls, spot-next, spot-there}
use Rattle.fused_parts.proofs.Standing.{BeginsAt, StandsAt, all-begin, all-stand}
use Rattle.lowered_runs.specs.Made.{CodesFit, IsMade}
use Rattle.lowered_runs.proofs.Adaptive.{AllMarks, IsMark, StandFrom, freed, made}
use Rattle.lowered_runs.proofs.Lookups.{is-there, length-map, map-get, same-some, within}
use Rattle.lowered_runs.proofs.Renaming.{ArgsBelow, ItemBelow, ValBelow, did-same}
use Rattle.lowered_runs.proofs.Joined.{all-at, all-marks, first-is, length-joins, less-more, stand-behind}

-- a value is known for Base
val-none : (m : Module) (b : Bounds) (ts : List (Option Ty)) (u : Ty) (a : Val) → IsOperand m Base b ts u a → ValBelow 0 a
val-none m b ts u (Known v) h = tt
val-none m b ts u (Dynamic d) h = absurd h.0

args-none : (m : Module) (b : Bounds) (ts : List (Option Ty)) (args : List (Ty × Val)) → AreOperands m Base b ts args → ArgsBelow 0 args
args-none m b ts [] h = tt
args-none m b ts (a ∷ args) h = (val-none m b ts a.0 a.1 h.0, args-none m b ts args h.1)

item-none : (m : Module) (b : Bounds) (ts : List (Option Ty)) (held : List ℕ) (i : Item) → IsItem m Base b ts held i → ItemBelow 0 i
item-none m b ts held (item.Binary d o flags w x y) h = (val-none m b ts (ty.Int w) x h.4, val-none m b ts (ty.Int w) y h.5)
item-none m b ts held (item.Icmp d o w x y) h = (val-none m b ts (ty.Int w) x h.3, val-none m b ts (ty.Int w) y h.4)
item-none m b ts held (item.Convert d o w x to) h = val-none m b ts (ty.Int w) x h.3
item-none m b ts held (item.Select d w c x y) h = (val-none m b ts (ty.Int W1) c h.3, val-none m b ts (ty.Int w) x h.4, val-none m b ts (ty.Int w) y h.5)
item-none m b ts held (item.Read d v) h = tt
item-none m b ts held (item.Equal d v u) h = tt
item-none m b ts held (item.Operation name args) h = args-none m b ts args h.1
item-none m b ts held (item.Output c args) h = args-none m b ts args h.1

some-item-none : (m : Module) (b : Bounds) (ts : List (Option Ty)) (held : List ℕ) (o : Option Item) → IsSomeItem m Base b ts held o → (i : Item) → o ≡ Some i → ItemBelow 0 i
some-item-none m b ts held None h i s = cc
some-item-none m b ts held (Some j) h i s = subst (ItemBelow 0) (same-some j i s) (item-none m b ts held j h)

only-part : (one other : Part) (k : ℕ) → slice_get (one ∷ []) k ≡ Some other → other ≡ one
only-part one other zero e = sym (same-some one other e)
only-part one other (suc k) e = cc

no-second : (one other : Part) (k : ℕ) → slice_get (one ∷ []) (suc k) ≡ Some other → ⊥
no-second one other k e = cc

module _ (m : Module) (live : Point → LocalId → Bool) (entry : FuncId) (qubits results : ℕ) (budget : ℕ) (nodes : List Node) (sharing : Option ℕ) (r : Residue) where
  abbrev pub program : Program
  program = record { m = m; target = Base; live = live; entry = entry; qubits = qubits; results = results }

  abbrev pub l : Module
  l = printed r Base

  abbrev pub flags : List Bool
  flags = joins nodes

  abbrev pub part_of : ℕ → ℕ
  part_of = part_number (joins nodes)

  abbrev pub config_in : Option Node → Config
  config_in None = start_of entry
  config_in (Some x) = x.node

  abbrev pub config : ℕ → Config
  config i = config_in (slice_get nodes i)

  abbrev pub rank : ℕ → ℕ
  rank i = rank_at nodes flags i

  module _ (good : IsGood r Base) (items : BaseItemsRun) (marks : BaseMarksPass) (returns : BaseReturnsRun)
      (explored : Explored (search_of program budget) (Carries program) nodes) (is_made : IsMade program nodes sharing r) (codes : CodesFit nodes)
      (fits : (g : Config) → IsReached program g → IsTurn m Base live entry qubits results (dynamic_types m g) g.allocated g.returned (step_of program g))
      (none : NoneToFirst nodes) (W : ℕ) (few : length nodes ≤ W) (part : Part) (one : r.parts ≡ part ∷ []) where
    -- the run is at the place of configuration i
    pub record Stands (i : ℕ) (ds : List IntValue) (st : State) (v : Whole) : Type 0 where
      pub node : Node
      pub is : slice_get nodes i ≡ Some node
      pub spot : Spot
      pub spot_is : slice_get (spots nodes flags) i ≡ Some spot
      pub at : AtBase r part spot.line st v

    abbrev N : Naming
    N = naming r

    abbrev Goes_to : ℕ → Whole → Move → List IntValue → State → Type 0
    Goes_to = GoesTo N l W (length nodes) config rank Stands

    abbrev Ends_soon : Whole → RunEnd → State → Type 0
    Ends_soon = EndsSoon N l W (length nodes) config rank Stands

    fuses : Fuses nodes flags
    fuses = flags-fuse nodes none

    enough : length nodes ≤ suc (length flags)
    enough = let e = length-joins nodes 0 nodes in omega (arith, e)

    standing : (i : ℕ) (x : Node) (s : Spot) → slice_get nodes i ≡ Some x → slice_get (spots nodes flags) i ≡ Some s → StandsAt m nodes part_of sharing r.parts x (goes_on nodes flags i) s
    standing i x s g e = subst (λ ps. StandsAt m nodes part_of sharing ps x (goes_on nodes flags i) s) (sym is_made.parts) (all-stand m nodes part_of sharing flags i x s g e)

    beginning : (j : ℕ) (y : Node) (s : Spot) → goes_on nodes flags j ≡ false → slice_get nodes (suc j) ≡ Some y → slice_get (spots nodes flags) (suc j) ≡ Some s → BeginsAt m nodes part_of sharing r.parts y s
    beginning j y s off g e =
        subst (λ ps. BeginsAt m nodes part_of sharing ps y s) (sym is_made.parts)
        (all-begin m nodes part_of sharing flags j y s (let a = within nodes (suc j) y g in let b = length-joins nodes 0 nodes in omega (arith, a, b)) off g e)

    marks-pass : (q : ℕ) (st : State) (v : Whole) (ys : List Line) → AllMarks ys → StandFrom part.lines q ys → AtBase r part q st v → AtBase r part (q + length ys) st v
    marks-pass q st v [] all stand h = subst (λ z. AtBase r part z st v) (let z : q ≡ q + 0 = omega arith in z) h
    marks-pass q st v (y ∷ ys) all stand h =
        subst (λ z. AtBase r part z st v) (let z : suc q + length ys ≡ q + suc (length ys) = omega arith in z)
        (marks-pass (suc q) st v ys all.1 stand.1 (by-mark y all.0 stand.0))
      where
        by-mark : (y : Line) → IsMark y → slice_get part.lines q ≡ Some y → AtBase r part (suc q) st v
        by-mark y (made j) e = marks r part q j st v (inl e) h
        by-mark y (freed j) e = marks r part q j st v (inr e) h

    module _ (i : ℕ) (ds : List IntValue) (st : State) (v : Whole) (counted : dynamics_of (config i) ≡ length ds) (h : Stands i ds st v) where
      abbrev x : Node
      x = h.node

      abbrev s : Spot
      s = h.spot

      abbrev n : Numbers
      n = h.spot.numbers

      abbrev q : ℕ
      q = h.spot.line + length (lines_of nodes h.node h.spot.numbers)

      here : StandsAt m nodes part_of sharing r.parts x (goes_on nodes flags i) s
      here = standing i x s h.is h.spot_is

      same-part : here.part ≡ part
      same-part = only-part part here.part s.part (ap (λ ps. slice_get ps s.part) (sym one) ∙ here.is)

      lines-are : part.lines ≡ here.before ++ (lines_of nodes x n ++ here.after)
      lines-are = ap (λ p. p.lines) (sym same-part) ∙ here.lines

      stand : StandFrom part.lines s.line (lines_of nodes x n)
      stand = subst (λ ls. StandFrom ls s.line (lines_of nodes x n)) (sym lines-are) (stand-behind here.before (lines_of nodes x n) here.after s.line (sym here.many))

      at-end : goes_on nodes flags i ≡ false → (q ≡ length part.lines) × (part.tail ≡ tail_of part_of sharing x n)
      at-end off =
          let e = here.ends off in (
            (let a = ap length (lines-are ∙ ap (λ z. here.before ++ (lines_of nodes x n ++ z)) e.0 ∙ ap (λ z. here.before ++ z) (append-nil (lines_of nodes x n))) in
                let b = length-append here.before (lines_of nodes x n) in
                let c = here.many in
                omega (arith, a, b, c)),
            ap (λ p. p.tail) (sym same-part) ∙ e.1,
          )

      module _ (moves : List Move) (what : Option Item) (c : Choice) (outcome-is : x.item ≡ outcome.Goes what c) (args-are : labels x.links ≡ map (λ mv. mv.args) moves)
          (leads : LeadsTo nodes x.links (map (λ mv. mv.to) moves))
          (turn : GoesOn m Base live entry qubits results (dynamic_types m x.node) x.node.allocated x.node.returned moves what c) where
        many-links : length x.links ≡ length moves
        many-links = leads.number ∙ length-map (λ mv. mv.to) moves

        module _ (D : List IntValue) (st' : State) (v1 : Whole) (steps : ℕ) (few-steps : steps ≤ 4) (went : GoesBy l steps v v1)
            (at : AtBase r part q st' v1) (mv : Move) (is-move : slice_get moves (chosen c D) ≡ Some mv) where
          the-link : (k : Link (List Dyn)) × (slice_get x.links (chosen c D) ≡ Some k)
          the-link = is-there x.links (chosen c D) (let a = within moves (chosen c D) mv is-move in let b = many-links in omega (arith, a, b))

          abbrev k : Link (List Dyn)
          k = the-link.0

          target : (w : Node) × (slice_get nodes k.to ≡ Some w) × (slice_get (map (λ z. z.to) moves) (chosen c D) ≡ Some w.node)
          target = leads.to (chosen c D) k the-link.1

          abbrev y : Node
          y = target.0

          to-is : mv.to ≡ y.node
          to-is = same-some mv.to y.node (sym (map-get (λ z. z.to) moves (chosen c D) mv is-move) ∙ target.2)

          in-part : goes_on nodes flags i ≡ true → Goes_to i v mv D st'
          in-part on =
              let o = fuses.onward i x h.is on in
              let k-is : k ≡ record { to = suc i; label = o.0 } = only k (record { to = suc i; label = o.0 }) (chosen c D) (subst (λ ls. slice_get ls (chosen c D) ≡ Some k) o.1 the-link.1) in
              let to-next : k.to ≡ suc i = ap (λ z. z.to) k-is in
              let there : slice_get nodes (suc i) ≡ Some y = ap (slice_get nodes) (sym to-next) ∙ target.1 in
              let t = spot-there nodes nodes flags first_spot (suc i) y enough there in
              let nx = spot-next nodes nodes flags first_spot i x y s t.0 enough h.is there h.spot_is t.1 ∙ ap (λ b. next_spot nodes x b y s) on in
              record {
                to = suc i;
                inside = within nodes (suc i) y there;
                is_to = to-is ∙ ap config_in (sym there);
                steps = steps;
                few = few-steps;
                after = v1;
                goes = went;
                falls = less-more (rank (suc i)) (rank i) (steps * W) (rank-falls nodes flags i on);
                stands = record {
                  node = y;
                  is = there;
                  spot = t.0;
                  spot_is = t.1;
                  at = subst (λ z. AtBase r part z.line st' v1) (sym nx) at;
                };
              }
            where
              only : (a b : Link (List Dyn)) (j : ℕ) → slice_get (b ∷ []) j ≡ Some a → a ≡ b
              only a b zero e = same-some a b (sym e)
              only a b (suc j) e = cc

          -- there is no other part
          to-part : goes_on nodes flags i ≡ false → Goes_to i v mv D st'
          to-part off =
              let b = fuses.begins i x (chosen c D) k h.is off the-link.1 in
              let j : ℕ = b.0 in
              let there : slice_get nodes (suc j) ≡ Some y = ap (slice_get nodes) (sym b.1) ∙ target.1 in
              let xj = is-there nodes j (let a = within nodes (suc j) y there in omega (arith, a)) in
              let sj = spot-there nodes nodes flags first_spot j xj.0 enough xj.1 in
              let t = spot-there nodes nodes flags first_spot (suc j) y enough there in
              let nx = spot-next nodes nodes flags first_spot j xj.0 y sj.0 t.0 enough xj.1 there sj.1 t.1 ∙ ap (λ z. next_spot nodes xj.0 z y sj.0) b.2 in
              let bg = beginning j y t.0 b.2 there t.1 in
              absurd (no-second part bg.part sj.0.part (ap (λ ps. slice_get ps (suc sj.0.part)) (sym one) ∙ ap (λ z. slice_get r.parts z.part) (sym nx) ∙ bg.is))

          pub to-successor : Goes_to i v mv D st'
          to-successor = by-flag (goes_on nodes flags i) refl
            where
              by-flag : (b : Bool) → goes_on nodes flags i ≡ b → Goes_to i v mv D st'
              by-flag true e = in-part e
              by-flag false e = to-part e

        abbrev marks_behind : List Line
        marks_behind = marks_to x.node (first_of nodes x.links)

        lines-by : lines_of nodes x n ≡ item_line what n ++ marks_behind
        lines-by = ap (λ o. item_line (item_of o) n ++ marks_behind) outcome-is

        item-stands : (i' : Item) → what ≡ Some i' → (slice_get part.lines s.line ≡ Some (line.Item (renamed_item n.mine n.free i'))) × StandFrom part.lines (suc s.line) marks_behind × (lines_of nodes x n ≡ line.Item (renamed_item n.mine n.free i') ∷ marks_behind)
        item-stands i' e =
            let ls : lines_of nodes x n ≡ line.Item (renamed_item n.mine n.free i') ∷ marks_behind = lines-by ∙ ap (λ o. item_line o n ++ marks_behind) e in
            let f = subst (StandFrom part.lines s.line) ls stand in
            (f.0, f.1, ls)

        by-item : (o : Option Item) → what ≡ o → DidPlaced N l W (length nodes) config rank Stands i v moves c ds (did_some ds st o)
        by-item None e = λ mv is-move.
            let ls : lines_of nodes x n ≡ marks_behind = lines-by ∙ ap (λ o. item_line o n ++ marks_behind) e in
            to-successor (ds ++ []) st v 0 (omega arith) refl
            (subst (λ z. AtBase r part (s.line + length z) st v) (sym ls)
            (marks-pass s.line st v marks_behind (all-marks x.node (first_of nodes x.links)) (subst (StandFrom part.lines s.line) ls stand) h.at))
            mv is-move
        by-item (Some i') e =
            by-did (did ds st i')
            (subst (BaseItemDoes r l part s.line v) (did-same n.mine [] ds 0 (λ k lt. absurd (omega (arith, lt))) st n.free i' below)
            (items r part s.line (renamed_item n.mine n.free i') [] st v good one (item-stands i' e).0 h.at))
          where
            first-move : (mv : Move) × (slice_get moves 0 ≡ Some mv)
            first-move = is-there moves 0 (some-move c (length moves) turn.choice_fits)
              where
                some-move : (c : Choice) (k : ℕ) → IsChoice Base (dynamic_types m x.node) k c → 0 < k
                some-move choice.One k e = omega (arith, e)
                some-move (choice.Branch d) k e = let f = e.0 in omega (arith, f)
                some-move (choice.Switch d w is) k e = let f = e.0 in omega (arith, f)

            below : ItemBelow 0 i'
            below =
                let mv = all-at (IsMove m Base live entry qubits results (dynamic_types m x.node) x.node.allocated x.node.returned what) moves 0 first-move.0 turn.moves_fit first-move.1 in
                some-item-none m (bounds qubits results first-move.0.to) (dynamic_types m x.node) first-move.0.to.held what mv.item_fits i' e

            by-did : (o : Did) → BaseItemDoes r l part s.line v o → DidPlaced N l W (length nodes) config rank Stands i v moves c ds o
            by-did (Gave new st') (steps, some, few-steps, v1, went, at) = λ mv is-move.
                to-successor (ds ++ new) st' v1 steps few-steps went
                (subst (λ z. AtBase r part z st' v1)
                (let a = ap length (item-stands i' e).2 in omega (arith, a))
                (marks-pass (suc s.line) st' v1 marks_behind (all-marks x.node (first_of nodes x.links)) (item-stands i' e).1 at))
                mv is-move
            by-did (Stopped stop st') (j, lt, before, goes, ends) = record {
              steps = j;
              few = omega (arith, lt);
              ends = record { before = before; goes = goes; state = lowered_state N st'; ends = ends; alike = record { events = refl; records = refl } };
            }
            by-did Senseless does = tt

      module _ (c : Code) (outcome-is : x.item ≡ outcome.Exits c) (no-links : x.links ≡ []) where
        exits-off : (b : Bool) → goes_on nodes flags i ≡ b → goes_on nodes flags i ≡ false
        exits-off false e = e
        exits-off true e = absurd (clash (sym no-links ∙ (fuses.onward i x h.is e).1))
          where
            clash : {A : Type 0} {a : A} {as_ : List A} → [] ≡ a ∷ as_ → ⊥
            clash e = cc

        off : goes_on nodes flags i ≡ false
        off = exits-off (goes_on nodes flags i) refl

        no-lines : lines_of nodes x n ≡ []
        no-lines = ap (λ o. item_line (item_of o) n ++ marks_to x.node (first_of nodes x.links)) outcome-is ∙ ap (λ ls. marks_to x.node (first_of nodes ls)) no-links

        not-shared : (o : Option ℕ) → sharing ≡ o → sharing ≡ None
        not-shared None e = e
        not-shared (Some k) e = absurd (clash (is_made.shared_last k e).1)
          where
            clash : true ≡ false → ⊥
            clash e = cc

        tail-is : part.tail ≡ tail.Return (code_val (after x n).mine c)
        tail-is = (at-end off).1 ∙ ap (λ o. outcome_tail part_of sharing (after x n).mine o x.links) outcome-is ∙ ap (λ o. exit_tail o (after x n).mine c) (not-shared sharing refl)

        at-tail : AtBase r part (length part.lines) st v
        at-tail =
            subst (λ z. AtBase r part z st v) (let a = (at-end off).0 in let b = ap length no-lines in omega (arith, a, b)) h.at

        known-tail : base_permits_tail (tail.Return (code_val (after x n).mine c)) ≡ true
        known-tail =
            let p = and_parts (list_all base_permits (all_items r)) (all_tails base_permits_tail r) good.valid.permits in
            sym (ap base_permits_tail tail-is) ∙ (and_parts (base_permits_tail part.tail) true (sym (ap (λ ps. list_all (λ z. base_permits_tail z.tail) ps) one) ∙ p.1)).0

        value-is : (d : Code) → c ≡ d → base_permits_tail (tail.Return (code_val (after x n).mine d)) ≡ true
            → returned (Some (named_value (words r) (valued [] (code_val (after x n).mine d)))) (lowered_state N st) ≡ Ended (Returned (coded ds d)) (lowered_state N st)
        value-is (code.Known z) e k = ap (λ y. Ended (Returned y) (lowered_state N st)) (codes i x z h.is (outcome-is ∙ ap outcome.Exits e))
        value-is (code.Dynamic d) e k = cc

        pub exits : Ends_soon v (Returned (coded ds c)) st
        exits =
            let t = returns r part (code_val (after x n).mine c) [] st v good one tail-is at-tail in
            record {
              steps = t.0;
              few = (let f = t.1 in omega (arith, f));
              ends = record {
                before = t.2;
                goes = t.3;
                state = lowered_state N st;
                ends = t.4 ∙ ap Off (value-is c refl known-tail);
                alike = record { events = refl; records = refl };
              };
            }

      no-labels : (links : Links) → labels links ≡ [] → links ≡ []
      no-labels [] e = refl
      no-labels (k ∷ links) e = cc

      by-turn : (turn : Turn) → IsOutcome turn x.item (labels x.links) → LeadsTo nodes x.links (onward (turn_of turn)) → IsTurn m Base live entry qubits results (dynamic_types m x.node) x.node.allocated x.node.returned turn
          → TurnPlaced N l W (length nodes) config rank Stands i ds st v turn
      by-turn (Goes moves what c) o leads fit = by-item moves what c o.0 o.1 leads fit what refl
      by-turn (Exits c) o leads fit = exits c o.0 (no-labels x.links o.1)
      by-turn (Bad why) o leads fit = absurd o
      by-turn Lost o leads fit = absurd o

      pub turns-here : TurnPlaced N l W (length nodes) config rank Stands i ds st v (step_of program (config i))
      turns-here =
          let c = explored.carries i x h.is in
          subst (λ g. TurnPlaced N l W (length nodes) config rank Stands i ds st v (step_of program g)) (ap config_in (sym h.is))
          (by-turn (step_of program x.node) c.outcome (explored.links i x h.is) (fits x.node c.reached))

    module _ (e' : Entry) (is_lowered : entry_of l ≡ Some e') (starts : BaseStartsRun) (x0 : Node) (is-first : slice_get nodes 0 ≡ Some x0) where
      comes : (answers : List Answer) → Comes N l W (length nodes) config rank Stands e' answers
      comes answers =
          let t = starts r answers good in
          let same-entry : t.0 ≡ e' = entries t.0 e' (sym t.2 ∙ is_lowered) in
          let sp = spot-there nodes nodes flags first_spot 0 x0 enough is-first in
          let sp-is = first-is nodes nodes flags first_spot sp.0 sp.1 in
          let the-part : t.1 ≡ part = parts-one t.1 part (sym t.3 ∙ one) in
          record {
            steps = 1;
            few = omega arith;
            after = t.4;
            goes = (t.4, ap (λ x. tick l (whole_start x answers)) (sym same-entry) ∙ t.5, refl);
            stands = record {
              node = x0;
              is = is-first;
              spot = sp.0;
              spot_is = sp.1;
              at = subst (λ z. AtBase r part z.line (start answers) t.4) (sym sp-is) (subst (λ z. AtBase r z 0 (start answers) t.4) the-part t.6);
            };
          }
        where
          entries : (a b : Entry) → Some a ≡ Some b → a ≡ b
          entries a b e = cc

          parts-one : (a b : Part) → a ∷ [] ≡ b ∷ [] → a ≡ b
          parts-one a b e = same-some a b (ap (λ z. slice_get z 0) e)

      shares-state : (i : ℕ) (ds : List IntValue) (st st' : State) (v : Whole) → shared st ≡ shared st' → Stands i ds st v → Stands i ds st' v
      shares-state i ds st st' v e h = record {
        node = h.node;
        is = h.is;
        spot = h.spot;
        spot_is = h.spot_is;
        at = record {
          at = h.at.at;
          no_waits = h.at.no_waits;
          state = h.at.state ∙ ap (lowered_state N) e;
          bits = subst (λ z. BitsBelow r.own_results z.bits) e h.at.bits;
        };
      }

      pub are-placed : (e : Entry) → entry ≡ record { 0 = e.number } → x0.node ≡ start_of entry → ArePlaced N l W (length nodes) config rank Stands m Base live e e'
      are-placed e entry-is start-is = record {
        some = within nodes 0 x0 is-first;
        first = ap config_in is-first ∙ start-is ∙ ap start_of entry-is;
        comes = comes;
        ranks = λ i lt. let a = rank-below nodes flags i lt in let f = few in omega (arith, a, f);
        alike = λ i ds st v h. record { events = sym (ap (λ z. z.events) h.at.state); records = sym (ap (λ z. z.records) h.at.state) };
        shares = shares-state;
        turns = λ i ds st v lt counted h. turns-here i ds st v counted h;
      }

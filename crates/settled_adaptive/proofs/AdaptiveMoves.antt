-- What constant evaluation does at the points of a printed Adaptive residue: each has one configuration, whose live names are Dynamic.
use Rattle.std.proofs.Common.{◌≡◌, ℕ, zero, suc, ◌+◌, ◌<◌, Bool, true, false, Option, None, Some, List, [], ◌∷◌, length, refl, sym, ap, ◌∙◌, subst, arith}
use Rattle.std.proofs.lemmas.Bool.{and_parts}
use Rattle.std.specs.List.{list_all}
use Rattle.std.specs.Prelude.{⊤, ◌||◌, ◌==◌, nat_lt, slice_get, slice_index_or}
use Rattle.ir_module.specs.declared.places.Point.{Point}
use Rattle.ir_module.specs.declared.tree.Block.{Block}
use Rattle.ir_module.specs.declared.tree.Inst.{Inst}
use Rattle.ir_module.specs.declared.tree.Module.{Module}
use Rattle.ir_module.specs.declared.tree.Operand.{Operand}
use Rattle.ir_module.specs.declared.tree.Operand.TheVariants as operand
use Rattle.ir_module.specs.Numbered.{numbers_in_range}
use Rattle.ir_module.specs.Steps.{InstAt, TermAt, step_in_module}
use Rattle.ir_module.specs.Edges.{edges}
use Rattle.ir_values.specs.declared.ids.BlockId.{BlockId}
use Rattle.ir_values.specs.declared.ids.LocalId.{LocalId}
use Rattle.ir_values.specs.declared.int.Width.{Width}
use Rattle.ir_values.specs.declared.value.Value.{Value}
use Rattle.ir_values.specs.declared.value.Value.TheVariants as value
use Rattle.kept_items.specs.declared.item.Choice.{Choice}
use Rattle.kept_items.specs.declared.target.Caps.{Caps}
use Rattle.kept_items.specs.declared.target.Target.{Target}
use Rattle.kept_items.specs.declared.target.Target.TheVariants.{Adaptive}
use Rattle.kept_items.specs.declared.val.Dyn.{Dyn}
use Rattle.kept_items.specs.declared.val.Val.{Val}
use Rattle.kept_items.specs.declared.val.Val.TheVariants.{Known, Dynamic}
use Rattle.qir_meaning.specs.Moves.{block_in, entry_for, given}
use Rattle.qir_meaning.specs.State.{next}
use Rattle.residue.specs.declared.parts.Jump.{Jump}
use Rattle.residue.specs.declared.parts.Part.{Part}
use Rattle.residue.specs.declared.parts.Residue.{Residue}
use Rattle.residue.specs.Functions.{all_items}
use Rattle.residue.specs.Instructions.{Words, block_number, local, operand_of, print_tail}
use Rattle.residue.specs.Printed.{argument, edges_to as jumps_to, entries, names_of, print_part, print_phis, printed, words}
use Rattle.residue.specs.Scopes.{gives_of, jump_args, jumps}
use Rattle.residue.specs.Valid.{Valid, all_agree, all_tails, args_fit, begins, fits_part, leads_on}
use Rattle.static_steps.specs.declared.config.Config.{Config}
use Rattle.static_steps.specs.declared.phase.Phase.TheVariants as phase
use Rattle.static_steps.specs.declared.turn.Move.{Move}
use Rattle.static_steps.specs.declared.turn.Turn.TheVariants.{Goes}
use Rattle.static_steps.specs.declared.work.Work.{Work}
use Rattle.static_steps.specs.Edges.{all_along, along, along_to, arrived, edges_to, edges_turn}
use Rattle.static_steps.specs.Settings.{Setting, at_point, bound, move_to}
use Rattle.static_steps.specs.Values.{Names, keep, put, put_result, shape, val_of}
use Rattle.static_steps.specs.Works.{dynamics_of, opened}
use Rattle.runs_follow_steps.specs.Describes.{IsNot, ResultInRange, TellsLive}
use Rattle.runs_follow_steps.proofs.Flows.{EdgeFlows, Flows, LiveEntries, LiveEntry, LiveOperands}
use Rattle.runs_follow_steps.proofs.Live.{flows}
use Rattle.runs_follow_steps.proofs.Ranges.{phis-in, results-in}
use Rattle.printed_residue.specs.Places.{in_entry, names_before}
use Rattle.printed_residue.proofs.Edges.{edge-entry}
use Rattle.printed_residue.proofs.Ends.{get-within}
use Rattle.printed_residue.proofs.Facts.{passes-here, passes-piece}
use Rattle.printed_residue.proofs.Looks.{same-itself, same-numbers}
use Rattle.printed_residue.proofs.Naming.{params-enough}
use Rattle.numbered_residue.proofs.Ranges.{ranges}
use Rattle.numbered_residue.proofs.Shared.{less, locals-long}
use Rattle.profiled_residue.proofs.Located.{block-of-part}
use Rattle.settled_adaptive.specs.Undecided.{all_undecided, is_undecided, varies}
use Rattle.settled_adaptive.proofs.AdaptiveEdges.{Brought, phis-bring}
use Rattle.settled_adaptive.proofs.AdaptiveTurns.{AllHave, s}
use Rattle.settled_adaptive.proofs.Names.{keep-kept, kept_names, look-kept, put-kept, shape-keep, shape-numbered, shape-put}

module _ (r : Residue) (caps : Caps) (ok : Valid r (Adaptive caps)) (undecided : all_undecided r ≡ true) (live : Point → LocalId → Bool)
    (tells : TellsLive (printed r (Adaptive caps)) live) (bounded : (n i : ℕ) (y : LocalId) → live (in_entry n i) y ≡ true → y.0 < length (names_of r.parts)) where
  abbrev t : Target
  t = Adaptive caps

  abbrev pub m : Module
  m = printed r t

  abbrev ws : Words
  ws = words r

  abbrev N : ℕ
  N = length (names_of r.parts)

  abbrev pub items-undecided : list_all is_undecided (all_items r) ≡ true
  items-undecided = (and_parts (list_all is_undecided (all_items r)) (all_tails (λ t. list_all varies (jump_args t)) r) undecided).0

  ranged : numbers_in_range m ≡ true
  ranged = ranges r t ok

  pub flow : Flows m live
  flow = flows m live tells (results-in m ranged) (phis-in m ranged)

  abbrev names_at : Point → Names (Option Value)
  names_at p = kept_names (live p) 0 N

  -- the configuration of a point
  abbrev pub standing : ℕ → ℕ → Config
  standing n j = record {
    top = record { at = in_entry n j; names = names_at (in_entry n j) };
    below = [];
    allocated = 0;
    held = [];
    returned = 0;
    phase = phase.Begin;
  }

  abbrev pub block : ℕ → Part → Block
  block n p = print_part r n (names_before r n) p

  module _ (n j : ℕ) where
    abbrev P : Point
    P = in_entry n j

    abbrev pub w : Work
    w = opened (standing n j)

    abbrev pub fresh : Dyn
    fresh = record { 0 = dynamics_of (standing n j) }

    abbrev pub here : Setting
    here = s r caps ok items-undecided live w fresh

    -- names that are live have Dynamic values
    pub operands-have : (os : List Operand) → LiveOperands live P os → AllHave r caps ok items-undecided live w fresh os
    operands-have [] h = tt
    operands-have (operand.Const v ∷ os) h = (tt, operands-have os h.1)
    operands-have (operand.Local x ∷ os) h = (let lt = bounded n j x h.0 in look-kept (live P) x.0 0 0 N (omega arith) (omega (arith, lt)) h.0, operands-have os h.1)

    -- ---- on to the next point

    -- a name that is live behind the instruction is its result or was live before it
    kept-next : (x : Option LocalId) (g : Dyn) → ((y : LocalId) → live (next P) y ≡ true → IsNot x y → live P y ≡ true) → ResultInRange m P.func x
        → shape (keep (live (next P)) (put_result x (Dynamic g) w.top.names)) ≡ names_at (next P)
    kept-next None g h i =
        shape-keep (live (next P)) w.top.names
        ∙ ap (keep (live (next P))) (shape-numbered 0 (names_at P))
        ∙ keep-kept (live P) (live (next P)) 0 N (λ y l. h (local y) l tt)
    kept-next (Some x) g h i =
        shape-keep (live (next P)) (put x (Dynamic g) w.top.names)
        ∙ ap (keep (live (next P))) (shape-put x (Dynamic g) w.top.names ∙ ap (put x None) (shape-numbered 0 (names_at P)) ∙ put-kept (live P) x.0 0 N (omega arith) (let z = locals-long 0 (names_of r.parts) in omega (arith, i, z)))
        ∙ keep-kept (λ y. live P y || (y.0 == x.0)) (live (next P)) 0 N (λ y l. by y (x.0 == y) refl (λ e. h (local y) l e))
      where
        or-true : (b : Bool) → (b || true) ≡ true
        or-true true = refl
        or-true false = refl

        by : (y : ℕ) (b : Bool) → (x.0 == y) ≡ b → ((x.0 == y) ≡ false → live P (local y) ≡ true) → (live P (local y) || (y == x.0)) ≡ true
        by y true e k = ap (λ z. live P (local y) || z) (ap (λ k. k == x.0) (sym (same-numbers x.0 y e)) ∙ same-itself x.0) ∙ or-true (live P (local y))
        by y false e k = ap (λ z. z || (y == x.0)) (k e)

    pub inst-leads : (i : Inst) (g : Dyn) → step_in_module m P ≡ InstAt i → (move_to live (bound here i.result (Dynamic g))).to ≡ standing n (j + 1)
    inst-leads i g e =
        ap (λ ns. record { top = record { at = in_entry n (j + 1); names = ns }; below = []; allocated = 0; held = []; returned = 0; phase = phase.Begin })
        (kept-next i.result g (λ y l k. flow.inst_passes P i y e l k) (flow.inst_result P i e))

    -- ---- along the edges of the tail

    module _ (p : Part) (is_part : slice_get r.parts n ≡ Some p) (ends : step_in_module m P ≡ TermAt (print_tail ws p.tail)) where
      -- a block that the tail leads to, by a jump of it
      pub record IsTarget (b : BlockId) : Type 0 where
        pub edge : ℕ
        pub among : slice_get (edges (print_tail ws p.tail)) edge ≡ Some b
        pub number : ℕ
        pub jump : Jump
        pub is : slice_get (jumps p.tail) number ≡ Some jump
        pub to : b ≡ block_number jump.to

      pub record IsArrived (mv : Move) : Type 0 where
        pub number : ℕ
        pub jump : Jump
        pub is : slice_get (jumps p.tail) number ≡ Some jump
        pub part : Part
        pub there : slice_get r.parts jump.to ≡ Some part
        pub at : mv.to ≡ standing jump.to (length (block jump.to part).phis + 0)

      args-long : (widths : List (ℕ × Width)) (params : List (Dyn × Width)) (args : List Val) → args_fit widths params args ≡ true → length params ≡ length args
      args-long widths [] [] h = refl
      args-long widths [] (a ∷ args) h = cc
      args-long widths (x ∷ params) [] h = cc
      args-long widths (x ∷ params) (a ∷ args) h = ap suc (args-long widths params args (and_parts _ (args_fit widths params args) h).1)

      live-at : (edges : List (ℕ × Jump)) (c : BlockId) (params : List (Dyn × Width)) (q i k : ℕ) → LiveEntries live P (print_phis ws edges q i params) c → k < length params → LiveEntry live P (entry_for (entries ws (i + k) edges) c)
      live-at edges c [] q i k h lt = absurd (omega (arith, lt))
      live-at edges c (x ∷ params) q i zero h lt = subst (λ m. LiveEntry live P (entry_for (entries ws m edges) c)) (let z : i ≡ i + 0 = omega arith in z) h.0
      live-at edges c (x ∷ params) q i (suc k) h lt = subst (λ m. LiveEntry live P (entry_for (entries ws m edges) c)) (let z : suc i + k ≡ i + suc k = omega arith in z) (live-at edges c params (suc q) (suc i) k h.1 (omega (arith, lt)))

      arg-varies : (args : List Val) (k : ℕ) → list_all varies args ≡ true → k < length args → varies (slice_index_or args k (Known value.NoLabel)) ≡ true
      arg-varies [] k h lt = absurd (omega (arith, lt))
      arg-varies (a ∷ args) zero h lt = (and_parts (varies a) (list_all varies args) h).0
      arg-varies (a ∷ args) (suc k) h lt = arg-varies args k (and_parts (varies a) (list_all varies args) h).1 (omega (arith, lt))

      live-dynamic : (a : Val) → varies a ≡ true → LiveEntry live P (Some (operand_of ws a)) → (e : Dyn) × (val_of w.top.names (operand_of ws a) ≡ Some (Dynamic e))
      live-dynamic (Known v) h l = cc
      live-dynamic (Dynamic d) h l = let lt = bounded n j (local (ws.name_of d.0)) l in look-kept (live P) (ws.name_of d.0) 0 0 N (omega arith) (omega (arith, lt)) l

      module _ (b : BlockId) (target : IsTarget b) where
        abbrev j' : Jump
        j' = target.jump

        leads : (0 < j'.to) × (j'.to < length r.parts)
        leads =
            let c = passes-here (λ p. list_all (leads_on (length r.parts)) (jumps p.tail)) r.parts n p (and_parts (begins r.parts) (list_all (λ p. list_all (leads_on (length r.parts)) (jumps p.tail)) r.parts) ok.start).1 is_part in
            let g = and_parts (nat_lt 0 j'.to) (nat_lt j'.to (length r.parts)) (passes-here (leads_on (length r.parts)) (jumps p.tail) target.number j' c target.is) in
            (less 0 j'.to g.0, less j'.to (length r.parts) g.1)

        abbrev to : Part
        to = (get-within r.parts j'.to leads.1).0

        to-is : slice_get r.parts j'.to ≡ Some to
        to-is = (get-within r.parts j'.to leads.1).1

        fits-to : args_fit (gives_of r) to.params j'.args ≡ true
        fits-to =
            ap (λ o. fits_part (gives_of r) o j'.args) (sym to-is)
            ∙ passes-here (λ j. fits_part (gives_of r) (slice_get r.parts j.to) j.args) (jumps p.tail) target.number j'
            (passes-here (λ p. list_all (λ j. fits_part (gives_of r) (slice_get r.parts j.to) j.args) (jumps p.tail)) r.parts n p
            (and_parts (list_all (λ p. list_all (λ j. fits_part (gives_of r) (slice_get r.parts j.to) j.args) (jumps p.tail)) r.parts) (list_all (λ p. all_agree (jumps p.tail)) r.parts) ok.jumps).0 is_part) target.is

        agree : all_agree (jumps p.tail) ≡ true
        agree = passes-here (λ p. all_agree (jumps p.tail)) r.parts n p (and_parts (list_all (λ p. list_all (λ j. fits_part (gives_of r) (slice_get r.parts j.to) j.args) (jumps p.tail)) r.parts) (list_all (λ p. all_agree (jumps p.tail)) r.parts) ok.jumps).1 is_part

        args-vary : list_all varies j'.args ≡ true
        args-vary =
            passes-piece varies (λ j. j.args) (jumps p.tail) target.number j'
            (passes-here (λ p. list_all varies (jump_args p.tail)) r.parts n p (and_parts (list_all is_undecided (all_items r)) (all_tails (λ t. list_all varies (jump_args t)) r) undecided).1 is_part) target.is

        entry : (i : ℕ) → entry_for (entries ws i (jumps_to j'.to r.parts)) (block_number n) ≡ Some (operand_of ws (argument i j'))
        entry i = edge-entry ws i r.parts n p target.number j' is_part target.is agree

        edge-flows : EdgeFlows m live P (block_number j'.to)
        edge-flows = flow.along P (print_tail ws p.tail) target.edge (block_number j'.to) ends (target.among ∙ ap Some target.to)

        to-block : block_in m P.func (block_number j'.to) ≡ Some (block j'.to to)
        to-block = block-of-part r j'.to to to-is

        values-here : (k : ℕ) → k < length to.params → (e : Dyn) × (val_of w.top.names (operand_of ws (argument (0 + k) j')) ≡ Some (Dynamic e))
        values-here k lt =
            let z : 0 + k ≡ k = omega arith in
            let long = args-long (gives_of r) to.params j'.args fits-to in
            live-dynamic (argument (0 + k) j') (ap (λ i. varies (argument i j')) z ∙ arg-varies j'.args k args-vary (omega (arith, lt, long)))
            (subst (LiveEntry live P) (entry (0 + k)) (live-at (jumps_to j'.to r.parts) (block_number n) to.params (names_before r j'.to) 0 k (edge-flows.reads (block j'.to to) to-block) lt))

        brought : Brought ws (jumps_to j'.to r.parts) (block_number n) j' w.top.names N entry (print_phis ws (jumps_to j'.to r.parts) (names_before r j'.to) 0 to.params) (live P) w.top.names
        brought = phis-bring ws (jumps_to j'.to r.parts) (block_number n) j' w.top.names N entry to.params (names_before r j'.to) 0 (live P) w.top.names (shape-numbered 0 (names_at P)) (params-enough r j'.to to to-is) values-here

        abbrev arrival : Point
        arrival = in_entry j'.to (length (block j'.to to).phis)

        names-there : shape (keep (live arrival) brought.names) ≡ names_at arrival
        names-there =
            shape-keep (live arrival) brought.names
            ∙ ap (keep (live arrival)) brought.shape_is
            ∙ keep-kept brought.kept (live arrival) 0 N (λ y l. brought.covers (local y) (λ none. edge-flows.passes (block j'.to to) (local y) to-block l none))

        pub arrives : (mv : Move) × (along here b ≡ Some mv) × IsArrived mv
        arrives = (
          move_to live (at_point here arrival brought.names),
          ap (along here) target.to
              ∙ ap (along_to here (block_number j'.to)) to-block
              ∙ ap (arrived here (block_number j'.to) (block j'.to to)) brought.is,
          record {
            number = target.number;
            jump = j';
            is = target.is;
            part = to;
            there = to-is;
            at =
                ap (λ ns. record { top = record { at = arrival; names = ns }; below = []; allocated = 0; held = []; returned = 0; phase = phase.Begin }) names-there
                ∙ ap (standing j'.to) (let z : length (block j'.to to).phis ≡ length (block j'.to to).phis + 0 = omega arith in z);
          },
        )

      -- to all of these blocks
      abbrev pub AreTargets : List BlockId → Type 0
      AreTargets [] = ⊤
      AreTargets (b ∷ bs) = IsTarget b × AreTargets bs

      abbrev pub AreArrived : List Move → Type 0
      AreArrived [] = ⊤
      AreArrived (mv ∷ mvs) = IsArrived mv × AreArrived mvs

      all-arrive : (bs : List BlockId) → AreTargets bs → (mvs : List Move) × (all_along here bs ≡ Some mvs) × AreArrived mvs
      all-arrive [] h = ([], refl, tt)
      all-arrive (b ∷ bs) h =
          let a = arrives b h.0 in
          let rest = all-arrive bs h.1 in (
            a.0 ∷ rest.0,
            ap (λ o. given o (λ mv. given (all_along here bs) (λ mvs. Some (mv ∷ mvs)))) a.1
                ∙ ap (λ o. given o (λ mvs. Some (a.0 ∷ mvs))) rest.1,
            (a.2, rest.2),
          )

      pub goes-to : (bs : List BlockId) (c : Choice) → AreTargets bs → (mvs : List Move) × (edges_to here bs c ≡ Goes mvs None c) × AreArrived mvs
      goes-to bs c h = let a = all-arrive bs h in (a.0, ap (λ o. edges_turn here o c) a.1, a.2)

-- Branches and switches, and the phis on their edges.
use Rattle.std.proofs.Common.{◌≡◌, ℕ, zero, suc, ◌+◌, ◌<◌, ◌==◌, Bool, true, false, cond, is_some, Option, None, Some, List, [], ◌∷◌, ◌++◌, length, map, slice_get, refl, sym, ap, ◌∙◌, subst, arith}
use Rattle.std.proofs.lemmas.Bool.{and_parts, eqb-true, true≢false}
use Rattle.std.proofs.lemmas.List.Elements.{All-cons, All-nil}
use Rattle.std.specs.List.{All, list_all, list_any}
use Rattle.std.specs.Prelude.{◌≢◌, ◌&&◌, ◌||◌, not}
use Rattle.ir_module.specs.declared.places.Point.{Point}
use Rattle.ir_module.specs.declared.places.Spot.TheVariants as spot
use Rattle.ir_module.specs.declared.tree.Block.{Block}
use Rattle.ir_module.specs.declared.tree.Function.{Function}
use Rattle.ir_module.specs.declared.tree.Module.{Module}
use Rattle.ir_module.specs.declared.tree.Operand.{Operand}
use Rattle.ir_module.specs.declared.tree.Phi.{Phi}
use Rattle.ir_module.specs.declared.tree.Term.{Term}
use Rattle.ir_module.specs.declared.tree.Term.TheVariants as term
use Rattle.ir_module.specs.Edges.{edges}
use Rattle.ir_module.specs.Numbered.{Numbered, is_written, step_in_range}
use Rattle.ir_module.specs.Operands.{step_operands}
use Rattle.ir_module.specs.Steps.{PhiAt, TermAt, step_of_point}
use Rattle.ir_module.specs.Tree.{block_at, blocks_of, blocks_or_none}
use Rattle.ir_values.specs.declared.ids.BlockId.{BlockId}
use Rattle.ir_values.specs.declared.ids.FuncId.{FuncId}
use Rattle.ir_values.specs.declared.int.Width.{Width}
use Rattle.ir_values.specs.declared.ty.Ty.{Ty}
use Rattle.ir_values.specs.declared.ty.Ty.TheVariants as ty
use Rattle.ir_values.specs.Int.{IntValue}
use Rattle.ir_values.specs.Values.{same_int}
use Rattle.qir_meaning.specs.Moves.{entry_for, given}
use Rattle.kept_items.specs.declared.item.Choice.{Choice}
use Rattle.kept_items.specs.declared.val.Val.{Val}
use Rattle.static_steps.specs.declared.config.Config.{Config}
use Rattle.static_steps.specs.declared.turn.Move.{Move}
use Rattle.static_steps.specs.Configurations.{Bounds, Each, Rises, type_of_local}
use Rattle.static_steps.specs.Edges.{all_along, along, along_to, arrived, case_values, edges_to, edges_turn, phis_bring, targets}
use Rattle.static_steps.specs.Settings.{Setting, at_point, move_to}
use Rattle.static_steps.specs.Values.{Names, put_some, val_of}
use Rattle.type_check.specs.declared.code.TypeCode.TheVariants as code
use Rattle.type_check.specs.Faults.{Typed, keeps_rule, on_function}
use Rattle.type_check.specs.Required.{required_qubits, required_results}
use Rattle.type_check.specs.Rules.{are_distinct, cases_differ, entries_agree, entries_fit, entries_match, entry_blocks, is_first, keeps_first, sources, times}
use Rattle.type_check.specs.Typing.{local_type, phi_wants, same_type}
use Rattle.type_check.proofs.Equal.{same_type-is}
use Rattle.type_check.proofs.Facts.{StepKeeps, keeps as module-keeps, step-keeps}
use Rattle.typed_runs.proofs.Blocks.{among, block-in, block-of, body-of, edge-below, first-edge, has-entry, in-sources, later-edge, leads, phi-step, times-cons}
use Rattle.typed_runs.proofs.Numbers.{edges-in, range-at, written-at}
use Rattle.typed_runs.proofs.Values.{WantsKeep, head-keeps, tail-keeps}
use Rattle.valid_steps.specs.Items.{IsChoice, all_differ}
use Rattle.valid_steps.specs.Turns.{IsMove}
use Rattle.valid_steps.proofs.Names.{put-some-each, put-some-rises}
use Rattle.valid_steps.proofs.Operands.{Fits, operand-fits, run_bounds, wants-keep}
use Rattle.valid_steps.proofs.Places.{Here, stands-at}
use Rattle.valid_steps.proofs.Turns.{IsGood, no-item, same-type-of}
use Rattle.valid_steps.proofs.Works.{IsValName, IsWork, bounds_of}

-- ---- lists of edges

-- each of the blocks is led to
pub at-edge : (es : List BlockId) (j : ℕ) (b : BlockId) → slice_get es j ≡ Some b → leads b es ≡ true
at-edge [] j b e = cc
at-edge (x ∷ es) zero b e = let z : x ≡ b = cc in subst (λ y. leads b (y ∷ es) ≡ true) (sym z) (first-edge b es)
at-edge (x ∷ es) (suc j) b e = later-edge b x es (at-edge es j b e)

pub targets-are-edges : (cases : List (IntValue × BlockId)) (b : BlockId) → targets cases b ≡ map (λ (c : IntValue × BlockId). c.1) cases ++ b ∷ []
targets-are-edges [] b = refl
targets-are-edges (c ∷ cs) b = ap (λ l. c.1 ∷ l) (targets-are-edges cs b)

pub count-targets : (cases : List (IntValue × BlockId)) (b : BlockId) → length (targets cases b) ≡ suc (length (case_values cases))
count-targets [] b = refl
count-targets (c ∷ cs) b = ap suc (count-targets cs b)

pub cases-have : (w : Width) (cases : List (IntValue × BlockId)) → list_all (λ (c : IntValue × BlockId). same_type (ty.Int c.0.width) (ty.Int w)) cases ≡ true → All (λ (i : IntValue). i.width ≡ w) (case_values cases)
cases-have w [] h = All-nil (λ (i : IntValue). i.width ≡ w)
cases-have w (c ∷ cs) h =
    let p = and_parts (same_type (ty.Int c.0.width) (ty.Int w)) (list_all (λ (c : IntValue × BlockId). same_type (ty.Int c.0.width) (ty.Int w)) cs) h in
    let e : ◌≡◌ {A = Ty} (ty.Int c.0.width) (ty.Int w) = same_type-is (ty.Int c.0.width) (ty.Int w) p.0 in
    let z : c.0.width ≡ w = cc in
    All-cons (λ (i : IntValue). i.width ≡ w) c.0 (case_values cs) z (cases-have w cs p.1)

-- the integers of cases that differ do
any-case : (i : IntValue) (cases : List (IntValue × BlockId)) → list_any (λ j. same_int j i) (case_values cases) ≡ list_any (λ (c : IntValue × BlockId). same_int c.0 i) cases
any-case i [] = refl
any-case i (c ∷ cs) = ap (λ q. same_int c.0 i || q) (any-case i cs)

values-differ : (cases : List (IntValue × BlockId)) → all_differ (case_values cases) ≡ are_distinct cases
values-differ [] = refl
values-differ (c ∷ cs) =
    ap (λ q. not q && all_differ (case_values cs)) (any-case c.0 cs) ∙ ap (λ q. not (list_any (λ (d : IntValue × BlockId). same_int d.0 c.0) cs) && q) (values-differ cs)

pub switch-differs : (u : Ty) (a : Operand) (b : BlockId) (cases : List (IntValue × BlockId)) (t : Term) → t ≡ term.Switch u a b cases → cases_differ (TermAt t) ≡ true → all_differ (case_values cases) ≡ true
unfolding cases_differ
switch-differs u a b cases t e h = values-differ cases ∙ subst (λ t. cases_differ (TermAt t) ≡ true) e h

-- no two cases of a switch of a module without faults are equal
pub differ-at : (m : Module) (limit : ℕ) → Typed m limit → (p : Point) (f : Function) → slice_get m.funcs p.func.0 ≡ Some f → cases_differ (step_of_point f p) ≡ true
unfolding keeps_rule
differ-at m limit typed p f is = subst (λ o. on_function o (λ g. cases_differ (step_of_point g p)) ≡ true) is (module-keeps m limit typed (spot.At p) code.SwitchCase)

-- no edge leads to a first block
not-first : (es : List BlockId) (b : BlockId) → list_all (λ (t : BlockId). not (is_first t)) es ≡ true → leads b es ≡ true → b.0 ≢ 0
not-first [] b h e z = cc
not-first (t ∷ es) b h e z =
    let p = and_parts (not (is_first t)) (list_all (λ (t : BlockId). not (is_first t)) es) h in
    by-test (t.0 == b.0) refl (is_first t) refl p.0 e (λ e'. not-first es b p.1 e' z)
  where
    by-test : (q : Bool) → (t.0 == b.0) ≡ q → (f : Bool) → is_first t ≡ f → not f ≡ true → (q || leads b es) ≡ true → (leads b es ≡ true → ⊥) → ⊥
    by-test true s true i n e more = cc
    by-test true s false i n e more = never (eqb-true t.0 b.0 s ∙ z)
      where
        never : t.0 ≡ 0 → ⊥
        never y = let c : is_first (record { 0 = 0 }) ≡ false = ap (λ k. is_first (record { 0 = k })) (sym y) ∙ i in true≢false c
    by-test false s f i n e more = more e

module _ (s : Setting) (entry : FuncId) (limit : ℕ) (numbered : Numbered s.m) (typed : Typed s.m limit) (ts : List (Option Ty)) where
  abbrev K : ℕ
  K = required_qubits s.m limit

  abbrev R : ℕ
  R = required_results s.m limit

  module _ (now : IsWork s.m s.t s.live entry K R ts s.w) (spot : Here now.function s.w.top.at) where
    abbrev here : Bounds
    here = bounds_of s.m s.t s.live entry K R s.w

    abbrev at : Point
    at = s.w.top.at

    abbrev Named : Names Val → Type 0
    Named ns = Each (IsValName s.m s.t here ts now.function) ns

    abbrev Fit : Ty → Option Val → Type 0
    Fit u o = Fits s.m s.t here ts u o

    -- a phi takes the operand of its entry, which has a value of its type or none
    abbrev Takes : Phi → Type 0
    Takes phi = (a : Operand) × (u : Ty) × (entry_for phi.entries at.block ≡ Some a) × (type_of_local now.function phi.result ≡ Some u) × Fit u (val_of s.w.top.names a)

    abbrev Found : Ty → Option Operand → Type 0
    Found u o = (a : Operand) × (o ≡ Some a) × Fit u (val_of s.w.top.names a)

    abbrev pairs : Ty → List (Operand × BlockId) → List (Ty × Operand)
    pairs u es = map (λ (e : Operand × BlockId). (u, e.0)) es

    entries-wanted : (u : Ty) (es : List (Operand × BlockId)) → map (λ (w : Ty × Operand). w.1) (pairs u es) ≡ map (λ (e : Operand × BlockId). e.0) es
    entries-wanted u [] = refl
    entries-wanted u (e ∷ es) = ap (λ l. e.0 ∷ l) (entries-wanted u es)

    entry-at : (u : Ty) (e : Operand × BlockId) (es : List (Operand × BlockId)) (c : Bool) → Fit u (val_of s.w.top.names e.0) → (times at.block.0 (entry_blocks es) ≢ 0 → Found u (entry_for es at.block)) → cond c 1 0 + times at.block.0 (entry_blocks es) ≢ 0 → Found u (cond c (Some e.0) (entry_for es at.block))
    entry-at u e es true h rest n = (e.0, refl, h)
    entry-at u e es false h rest n = rest (λ z. n (omega (arith, z)))

    entry-of : (u : Ty) (es : List (Operand × BlockId)) → WantsKeep s.m (run_bounds here) now.function (pairs u es) → times at.block.0 (entry_blocks es) ≢ 0 → Found u (entry_for es at.block)
    entry-of u [] h n = absurd (n refl)
    entry-of u (e ∷ es) h n =
        let c = times-cons at.block.0 e.1.0 (entry_blocks es) in
        entry-at u e es (e.1.0 == at.block.0) (operand-fits s.m s.t here ts now.function s.w.top.names u e.0 (head-keeps s.m (run_bounds here) now.function (u, e.0) (pairs u es) h) now.top.names) (entry-of u es (tail-keeps s.m (run_bounds here) now.function (u, e.0) (pairs u es) h)) (λ z. n (c ∙ z))

    typed-entry : (phi : Phi) (q : Point) (o : Option Ty) → local_type now.function phi.result ≡ o → StepKeeps s.m K R now.function q (PhiAt phi) → step_in_range s.m now.function (PhiAt phi) ≡ true → list_all is_written (step_operands (PhiAt phi)) ≡ true → times at.block.0 (entry_blocks phi.entries) ≢ 0 → Takes phi
    typed-entry phi q None e keeps range written n = absurd (none-there (subst (λ o. is_some o ≡ true) e keeps.shape))
      where
        none-there : is_some {T = Ty} None ≡ true → ⊥
        none-there z = cc
    typed-entry phi q (Some u) e keeps range written n =
        let o = wants-keep s.m here now.function q (PhiAt phi) (pairs u phi.entries) keeps range written (ap (λ o. phi_wants o phi) e) (entries-wanted u phi.entries) in
        let a = entry-of u phi.entries o n in
        (a.0, u, a.1, sym (same-type-of now.function phi.result) ∙ e, a.2)

    on-entry : (phi : Phi) (q : Point) (bs : List Block) → now.function.blocks ≡ Some bs → among at.block.0 (sources q.block.0 0 bs) ≡ true → StepKeeps s.m K R now.function q (PhiAt phi) → step_in_range s.m now.function (PhiAt phi) ≡ true → list_all is_written (step_operands (PhiAt phi)) ≡ true → Takes phi
    unfolding entries_fit
    on-entry phi q bs e from keeps range written =
        let fits = subst (λ o. (entries_match (sources q.block.0 0 (blocks_or_none o)) phi.entries && entries_agree phi.entries) ≡ true) e keeps.entries in
        let counts = and_parts (entries_match (sources q.block.0 0 bs) phi.entries) (entries_agree phi.entries) fits in
        typed-entry phi q (local_type now.function phi.result) refl keeps range written (has-entry (sources q.block.0 0 bs) (entry_blocks phi.entries) at.block.0 counts.0 from)

    abbrev Brought : Option (Names Val) → Type 0
    Brought o = (ns : Names Val) × (o ≡ Some ns) × Rises ns × Named ns

    phis-brought : (phis : List Phi) (new : Names Val) → ((j : ℕ) (phi : Phi) → slice_get phis j ≡ Some phi → Takes phi) → Rises new → Named new → Brought (phis_bring phis at.block s.w.top.names new)
    phis-brought [] new h r e = (new, refl, r, e)
    phis-brought (phi ∷ phis) new h r e =
        let q = h 0 phi refl in
        let o : Option Val = val_of s.w.top.names q.0 in
        subst (λ o. Brought (given o (λ a. phis_bring phis at.block s.w.top.names (put_some phi.result (val_of s.w.top.names a) new)))) (sym q.2)
        (phis-brought phis (put_some phi.result o new) (λ j phi' e. h (suc j) phi' e) (put-some-rises phi.result o new r)
        (put-some-each (IsValName s.m s.t here ts now.function) phi.result o new (λ a z. record { type = q.1; is = q.3; typed = subst (Fit q.1) z q.4 }) e))

    -- ---- along an edge

    pub record Along (to : BlockId) : Type 0 where
      pub move : Move
      pub is : along s to ≡ Some move
      pub fits : IsMove s.m s.t s.live entry K R ts s.w.allocated s.w.returned None move
      pub there : move.to.top.at.block ≡ to

    module _ (range : step_in_range s.m now.function (TermAt spot.block.term) ≡ true) (keeps : StepKeeps s.m K R now.function at (TermAt spot.block.term)) where
      not-start : (to : BlockId) → leads to (edges spot.block.term) ≡ true → to.0 ≢ 0
      unfolding keeps_first
      not-start to e = not-first (edges spot.block.term) to keeps.first e

      arrives : (to : BlockId) (c : Block) → leads to (edges spot.block.term) ≡ true → block_at now.function to ≡ Some c → (ns : Names Val) → Rises ns → Named ns
          → IsMove s.m s.t s.live entry K R ts s.w.allocated s.w.returned None (move_to s.live (at_point s (record { func = at.func; block = to; index = length c.phis }) ns))
      arrives to c e is ns rises names =
          let q : Point = record { func = at.func; block = to; index = length c.phis } in
          no-item s entry K R ts (at_point s q ns)
          (record {
            function = now.function;
            top = record {
              in_function = now.top.in_function;
              stands = stands-at s.m q now.function now.top.in_function (record { block = c; is = is; from = omega arith; to = omega arith });
              rises = rises;
              names = names;
            };
            below = now.below;
            held = now.held;
            ordered = now.ordered;
            phase = now.phase;
          })
          (record { no_start = λ z. not-start to e (ap (λ (g : Config). g.top.at.block.0) z); allocated = omega arith; returned = omega arith })

      pub on-edge : (to : BlockId) → leads to (edges spot.block.term) ≡ true → Along to
      on-edge to e =
          let own = body-of now.function at.block spot.block spot.is in
          let below = edge-below (length (blocks_of now.function)) (edges spot.block.term) to (edges-in s.m now.function spot.block.term range) e in
          let there = block-of now.function own.0 own.1 to (subst (λ o. to.0 < length (blocks_or_none o)) own.1 below) in
          let from = in-sources to own.0 0 at.block.0 at.block.0 spot.block own.2 e (omega arith) in
          let brought =
          phis-brought there.0.phis s.w.top.names
          (λ j phi z.
          let q : Point = record { func = at.func; block = to; index = j } in
          let stood = phi-step now.function q there.0 there.1 phi z in
          on-entry phi q own.0 own.1 from (step-keeps s.m limit typed q now.function now.top.in_function (PhiAt phi) stood) (subst (λ x. step_in_range s.m now.function x ≡ true) stood (range-at s.m numbered q now.function now.top.in_function)) (subst (λ x. list_all is_written (step_operands x) ≡ true) stood (written-at s.m numbered q now.function now.top.in_function)))
          now.top.rises now.top.names
          in record {
            move = move_to s.live (at_point s (record { func = at.func; block = to; index = length there.0.phis }) brought.0);
            is = ap (along_to s to) (block-in s.m at.func to now.function now.top.in_function ∙ there.1) ∙ ap (arrived s to there.0) brought.1;
            fits = arrives to there.0 e there.1 brought.0 brought.2 brought.3;
            there = refl;
          }

      record AllAlong (bs : List BlockId) : Type 0 where
        moves : List Move
        is : all_along s bs ≡ Some moves
        fits : All (IsMove s.m s.t s.live entry K R ts s.w.allocated s.w.returned None) moves
        count : length moves ≡ length bs
        from : (i : ℕ) (a : Move) → slice_get moves i ≡ Some a → (b : BlockId) × (along s b ≡ Some a) × (a.to.top.at.block ≡ b)

      none-along : AllAlong []
      none-along = record { moves = []; is = refl; fits = All-nil (IsMove s.m s.t s.live entry K R ts s.w.allocated s.w.returned None); count = refl; from = λ i a e. none i a e }
        where
          none : (i : ℕ) (a : Move) → slice_get [] i ≡ Some a → (b : BlockId) × (along s b ≡ Some a) × (a.to.top.at.block ≡ b)
          none i a e = cc

      one-more : (b : BlockId) (bs : List BlockId) → Along b → AllAlong bs → AllAlong (b ∷ bs)
      one-more b bs first rest = record {
        moves = first.move ∷ rest.moves;
        is = ap (λ o. given o (λ mv. given (all_along s bs) (λ mvs. Some (mv ∷ mvs)))) first.is ∙ ap (λ o. given o (λ mvs. Some (first.move ∷ mvs))) rest.is;
        fits = All-cons (IsMove s.m s.t s.live entry K R ts s.w.allocated s.w.returned None) first.move rest.moves first.fits rest.fits;
        count = ap suc rest.count;
        from = at-index;
      }
        where
          at-index : (i : ℕ) (a : Move) → slice_get (first.move ∷ rest.moves) i ≡ Some a → (c : BlockId) × (along s c ≡ Some a) × (a.to.top.at.block ≡ c)
          at-index zero a e = let z : first.move ≡ a = cc in (b, first.is ∙ ap Some z, subst (λ (mv : Move). mv.to.top.at.block ≡ b) z first.there)
          at-index (suc i) a e = rest.from i a e

      on-edges : (bs : List BlockId) → ((j : ℕ) (b : BlockId) → slice_get bs j ≡ Some b → leads b (edges spot.block.term) ≡ true) → AllAlong bs
      on-edges [] h = none-along
      on-edges (b ∷ bs) h = one-more b bs (on-edge b (h 0 b refl)) (on-edges bs (λ j c e. h (suc j) c e))

      -- to these blocks, by this choice
      pub edges-good : (bs : List BlockId) (c : Choice) → ((j : ℕ) (b : BlockId) → slice_get bs j ≡ Some b → leads b (edges spot.block.term) ≡ true) → IsChoice s.t ts (length bs) c
          → IsGood s entry K R ts (edges_to s bs c)
      edges-good bs c h choice =
          let q = on-edges bs h in
          subst (λ o. IsGood s entry K R ts (edges_turn s o c)) (sym q.is) (record {
            moves_fit = q.fits;
            choice_fits = subst (λ n. IsChoice s.t ts n c) (sym q.count) choice;
            agree = λ i j a b ha hb e.
                let p = q.from i a ha in
                let p' = q.from j b hb in
                let same : p.0 ≡ p'.0 = sym p.2 ∙ (ap (λ (g : Config). g.top.at.block) e ∙ p'.2) in
                one a b (sym p.1 ∙ (ap (along s) same ∙ p'.1));
          })
        where
          one : (a b : Move) → ◌≡◌ {A = Option Move} (Some a) (Some b) → a.args ≡ b.args
          one a b e = let z : a ≡ b = cc in ap (λ (mv : Move). mv.args) z

-- A printed Base residue goes straight through its four blocks.
use Rattle.std.proofs.Common.{append-nil, append_assoc, drop, option_map, ◌++◌, ◌≡◌, ℕ, zero, suc, ◌+◌, ◌<◌, ◌≤◌, Bool, Option, None, Some, List, [], ◌∷◌, length, refl, sym, ap, ◌∙◌, subst, arith}
use Rattle.std.proofs.lemmas.Bool.{and_parts}
use Rattle.std.specs.List.{list_all}
use Rattle.std.specs.Option.{option_to_list}
use Rattle.std.specs.Prelude.{slice_get}
use Rattle.ir_module.specs.declared.places.Point.{Point}
use Rattle.ir_module.specs.declared.tree.Block.{Block}
use Rattle.ir_module.specs.declared.tree.Inst.{Inst}
use Rattle.ir_module.specs.Steps.{InstAt, TermAt, step_at, step_in}
use Rattle.ir_values.specs.declared.ids.LocalId.{LocalId}
use Rattle.ir_values.specs.declared.value.Value.TheVariants as value
use Rattle.ir_values.specs.Int.{IntValue, signed}
use Rattle.kept_items.specs.declared.item.Choice.{Choice}
use Rattle.kept_items.specs.declared.item.Choice.TheVariants.{One}
use Rattle.kept_items.specs.declared.item.Code.{Code}
use Rattle.kept_items.specs.declared.item.Code.TheVariants as code
use Rattle.kept_items.specs.declared.item.Item.{Item}
use Rattle.kept_items.specs.declared.val.Val.TheVariants.{Known}
use Rattle.residue.specs.declared.parts.Tail.TheVariants as tail
use Rattle.static_steps.specs.declared.turn.Move.{Move}
use Rattle.path_search.proofs.Frontier.{get_within}
use Rattle.kept_items.specs.declared.target.Kind.{Kind}
use Rattle.kept_items.specs.declared.target.Target.TheVariants.{Base}
use Rattle.lowered_sizes.specs.Sizes.{instructions}
use Rattle.path_search.specs.Paths.{Bad, Search, successors}
use Rattle.path_search.specs.Paths as path
use Rattle.path_search.specs.Verdict.{Accepts}
use Rattle.residue.specs.declared.parts.Part.{Part}
use Rattle.residue.specs.declared.parts.Residue.{Residue}
use Rattle.residue.specs.Functions.{all_items}
use Rattle.residue.specs.Printed.{print_blocks, printed, words}
use Rattle.residue.specs.Scopes.{gives_of}
use Rattle.residue.specs.Valid.{Valid, all_tails, base_permits, base_permits_tail, val_has}
use Rattle.static_steps.specs.declared.config.Config.{Config}
use Rattle.static_steps.specs.declared.turn.Turn.{Turn}
use Rattle.static_steps.specs.declared.turn.Turn.TheVariants.{Exits, Goes}
use Rattle.static_steps.specs.declared.work.Work.{Work}
use Rattle.static_steps.specs.code.Phases.{rank}
use Rattle.static_steps.specs.Settings.{Setting, at_point, move_to, passed}
use Rattle.static_steps.specs.Steps.{start_of, static_step, step_turn}
use Rattle.static_steps.specs.Works.{opened}
use Rattle.unroller.specs.Programs.{Program, search_of, turn_of}
use Rattle.printed_residue.specs.Places.{in_entry}
use Rattle.printed_residue.proofs.Facts.{passes-here}
use Rattle.numbered_residue.proofs.Forms.{tail-uses-pass}
use Rattle.numbered_residue.proofs.Shared.{some-same}
use Rattle.profiled_residue.specs.Premises.{FitsProfile}
use Rattle.settled_lowering.specs.Laws.{IsPrinted}
use Rattle.settled_lowering.proofs.BaseBlocks.{EndsIn, IsBaseBlock, each-block, first-block, items_in, last, leads, part, part-is}
use Rattle.settled_lowering.proofs.BaseTurns.{settled, inst-passes, leads-on, tail-exits}
use Rattle.settled_lowering.proofs.Offsets.{Stands, entry-instructions, is_inst, is_term, number-is, number_of, offset, offset-first, offset-next, offset-within, stands}
use Rattle.settled_lowering.proofs.Searches.{GoesStraight, straight-accepts}

-- ---- lists

drop-none : {A : Type 0} (xs : List A) → drop 0 xs ≡ xs
drop-none [] = refl
drop-none (x ∷ xs) = refl

drop-one : {A : Type 0} (xs : List A) (i : ℕ) → drop i xs ≡ option_to_list (slice_get xs i) ++ drop (suc i) xs
drop-one [] zero = refl
drop-one [] (suc i) = refl
drop-one (x ∷ xs) zero = ap (λ l. x ∷ l) (sym (drop-none xs))
drop-one (x ∷ xs) (suc i) = drop-one xs i

drop-past : {A : Type 0} (xs : List A) (i : ℕ) → length xs ≤ i → drop i xs ≡ []
drop-past [] zero le = refl
drop-past [] (suc i) le = refl
drop-past (x ∷ xs) zero le = absurd (omega (arith, le))
drop-past (x ∷ xs) (suc i) le = drop-past xs i (omega (arith, le))

-- at this point of the entry, with no name and no frame that waits
abbrev pub standing : ℕ → ℕ → Config → Config
standing n j g = record g { top = record { at = in_entry n j; names = [] }; below = []; allocated = 0; held = []; returned = 0 }

-- no name, no frame that waits, no allocation and no returned result
pub record IsBare (g : Config) : Type 0 where
  pub names : g.top.names ≡ []
  pub below : g.below ≡ []
  pub allocated : g.allocated ≡ 0
  pub held : g.held ≡ []
  pub returned : g.returned ≡ 0

stood : (g : Config) (n j : ℕ) → g.top.at ≡ in_entry n j → IsBare g → g ≡ standing n j g
stood g n j e b =
    ap (λ a. record g { top = record { at = a; names = g.top.names } }) e
    ∙ ap (λ ns. record g { top = record { at = in_entry n j; names = ns } }) b.names
    ∙ ap (λ fs. record g { top = record { at = in_entry n j; names = [] }; below = fs }) b.below
    ∙ ap (λ k. record g { top = record { at = in_entry n j; names = [] }; below = []; allocated = k }) b.allocated
    ∙ ap (λ hs. record g { top = record { at = in_entry n j; names = [] }; below = []; allocated = 0; held = hs }) b.held
    ∙ ap (λ k. record g { top = record { at = in_entry n j; names = [] }; below = []; allocated = 0; held = []; returned = k }) b.returned

bare : (n j : ℕ) (g : Config) → IsBare (standing n j g)
bare n j g = record { names = refl; below = refl; allocated = refl; held = refl; returned = refl }

module _ (r : Residue) (ok : Valid r Base) (fits : FitsProfile r Base) (live : Point → LocalId → Bool) (qubits results : ℕ) where
  abbrev pub program : Program
  program = record { m = printed r Base; target = Base; live = live; entry = record { 0 = 0 }; qubits = qubits; results = results }

  abbrev pub search : Search Config Kind
  search = search_of program (instructions (printed r Base))

  abbrev pub blocks : List Block
  blocks = print_blocks r Base

  abbrev pub number : Config → ℕ
  number g = number_of blocks g.top.at

  -- it stands in a block, in a phase that this block may have
  pub record Fits (g : Config) : Type 0 where
    pub block : ℕ
    pub index : ℕ
    pub within : Block
    pub is : slice_get blocks block ≡ Some within
    pub few : index ≤ length within.insts
    pub at : g.top.at ≡ in_entry block (length within.phis + index)
    pub bare : IsBare g
    pub ranked : rank g.phase ≤ block

  abbrev pub settle : Item → Item
  settle x = settled (words r) [] x

  -- the items of the blocks behind block n
  abbrev pub later : ℕ → List Item
  later zero = items_in r ok 1 ++ (items_in r ok 2 ++ items_in r ok 3)
  later (suc zero) = items_in r ok 2 ++ items_in r ok 3
  later (suc (suc zero)) = items_in r ok 3
  later (suc (suc (suc n))) = []

  later-next : (n : ℕ) → n < 3 → later n ≡ items_in r ok (suc n) ++ later (suc n)
  later-next zero lt = refl
  later-next (suc zero) lt = refl
  later-next (suc (suc zero)) lt = sym (append-nil (items_in r ok 3))
  later-next (suc (suc (suc n))) lt = absurd (omega (arith, lt))

  -- the items that are still to come at a point
  abbrev rest_at : ℕ → ℕ → List Item
  rest_at n j = drop j (items_in r ok n) ++ later n

  abbrev pub remaining : Config → List Item
  remaining g = rest_at g.top.at.block.0 g.top.at.index

  -- it goes on to the next point, leaving an item that is still to come, or returns the value of the tail
  pub data Goes-on (g : Config) (turn : Turn) : Type 0 where
    onward : (mv : Move) (o : Option Item) → turn ≡ Goes (mv ∷ []) (option_map settle o) One → Fits mv.to → number mv.to ≡ suc (number g) → mv.args ≡ [] → remaining g ≡ option_to_list o ++ remaining mv.to → Goes-on g turn
    returns : (i : IntValue) → (part r ok).tail ≡ tail.Return (Known (value.Int i)) → turn ≡ Exits (code.Known (signed i)) → remaining g ≡ [] → Goes-on g turn

  at-number : (g : Config) (f : Fits g) → number g ≡ offset blocks f.block + f.index
  at-number g f = ap (number_of blocks) f.at ∙ number-is blocks f.block f.within f.index f.is

  module _ (g : Config) (f : Fits g) where
    abbrev n : ℕ
    n = f.block

    abbrev b : Block
    b = f.within

    abbrev j : ℕ
    j = length b.phis + f.index

    abbrev here : Config
    here = standing n j g

    abbrev w : Work
    w = opened here

    abbrev setting : Setting
    setting = record { m = printed r Base; t = Base; live = live; w = w; fresh = record { 0 = 0 } }

    is-here : g ≡ here
    is-here = stood g n j f.at f.bare

    step-here : static_step (printed r Base) Base live here ≡ step_turn setting (step_at b j)
    unfolding static_step
    step-here = ap (λ o. step_turn setting (step_in o j)) f.is

    turned : (s : _) → step_at b j ≡ s → static_step (printed r Base) Base live g ≡ step_turn setting s
    turned s e =
        ap (static_step (printed r Base) Base live) is-here
        ∙ step-here
        ∙ ap (step_turn setting) e

    is-block : IsBaseBlock r (items_in r ok n) n b
    is-block = each-block r ok n b f.is

    index-is : j ≡ f.index
    index-is = let z = ap length is-block.phis in omega (arith, z)

    at-rest : remaining g ≡ rest_at n f.index
    at-rest = ap (λ (p : Point). rest_at p.block.0 p.index) f.at ∙ ap (rest_at n) index-is

    at-inst : (i : Inst) → slice_get b.insts f.index ≡ Some i → step_at b j ≡ InstAt i → f.index < length b.insts → Goes-on g (static_step (printed r Base) Base live g)
    at-inst i h e lt =
        let p = inst-passes r ok fits live n w f.ranked (items_in r ok n) f.index i (is-block.inst f.index i h) in
        let to : Config = standing n (j + 1) (record g { phase = p.to }) in
        let fits-next : Fits to = record {
          block = n;
          index = suc f.index;
          within = b;
          is = f.is;
          few = omega (arith, lt);
          at = ap (in_entry n) (let z : j + 1 ≡ length b.phis + suc f.index = omega arith in z);
          bare = bare n (j + 1) (record g { phase = p.to });
          ranked = p.ranked;
        } in
        let a = at-number g f in
        let c = at-number to fits-next in
        let z = index-is in
        onward (move_to live (record (passed setting) { phase = p.to })) (slice_get (items_in r ok n) f.index) (turned (InstAt i) e ∙ p.is) fits-next (omega (arith, a, c)) refl
        (at-rest
        ∙ ap (λ l. l ++ later n) (drop-one (items_in r ok n) f.index)
        ∙ append_assoc (option_to_list (slice_get (items_in r ok n) f.index)) (drop (suc f.index) (items_in r ok n)) (later n)
        ∙ ap (λ k. option_to_list (slice_get (items_in r ok n) f.index) ++ rest_at n k) (let y : suc f.index ≡ j + 1 = omega (arith, z) in y))

    -- behind the last instruction of a block no item of it is still to come
    at-last : f.index ≡ length b.insts → remaining g ≡ later n
    at-last e = at-rest ∙ ap (λ l. l ++ later n) (drop-past (items_in r ok n) f.index (let l = is-block.long in omega (arith, l, e)))

    at-end : EndsIn r n b → f.index ≡ length b.insts → step_at b j ≡ TermAt b.term → Goes-on g (static_step (printed r Base) Base live g)
    at-end (leads to lt t h) e s =
        let next = each-block r ok (suc n) to h in
        let there : Config = standing (suc n) 0 g in
        let fits-next : Fits there = record {
          block = suc n;
          index = 0;
          within = to;
          is = h;
          few = omega arith;
          at = ap (λ ps. in_entry (suc n) (length ps + 0)) (sym next.phis);
          bare = bare (suc n) 0 g;
          ranked = let k = f.ranked in omega (arith, k);
        } in
        let a = at-number g f in
        let c = at-number there fits-next in
        let o = offset-next blocks n b f.is in
        onward (move_to live (at_point setting (in_entry (suc n) 0) [])) None (turned (TermAt b.term) s ∙ ap (λ t. step_turn setting (TermAt t)) t ∙ leads-on r ok fits live n w f.ranked j to refl h next.phis) fits-next (omega (arith, a, c, o, e)) refl
        (at-last e ∙ later-next n lt ∙ ap (λ l. l ++ later (suc n)) (sym (drop-none (items_in r ok (suc n)))))
    at-end (last p three h t) e s =
        let permits = passes-here (λ p. base_permits_tail p.tail) r.parts 0 p (and_parts (list_all base_permits (all_items r)) (all_tails base_permits_tail r) ok.permits).1 h in
        let x = tail-exits r ok fits live n w f.ranked p.tail refl permits (tail-uses-pass (λ a. val_has (gives_of r) a.0 a.1) r 0 p ok.types h) in
        let same : part r ok ≡ p = some-same (sym (part-is r ok) ∙ h) in
        returns x.0 (ap (λ (p : Part). p.tail) same ∙ x.1) (turned (TermAt b.term) s ∙ ap (λ t. step_turn setting (TermAt t)) t ∙ x.2)
        (at-last e ∙ ap later three)

    pub goes-on : Goes-on g (static_step (printed r Base) Base live g)
    goes-on = by (stands b f.index f.few)
      where
        by : Stands b f.index → Goes-on g (static_step (printed r Base) Base live g)
        by (is_inst i h e) = at-inst i h e (get_within b.insts f.index i h)
        by (is_term e s) = at-end is-block.ends e s

  pub begins : Fits (start_of (record { 0 = 0 }))
  begins =
      let b = first-block r ok in record {
        block = 0;
        index = 0;
        within = b.0;
        is = b.1;
        few = omega arith;
        at = ap (λ ps. in_entry 0 (length ps + 0)) (sym (each-block r ok 0 b.0 b.1).phis);
        bare = record { names = refl; below = refl; allocated = refl; held = refl; returned = refl };
        ranked = omega arith;
      }

  -- within any budget
  pub straight : (budget : ℕ) → GoesStraight (search_of program budget) Fits number
  unfolding begins
  straight budget = record {
    start = begins;
    first = at-number (start_of (record { 0 = 0 })) begins ∙ (let z = offset-first blocks in let y : offset blocks 0 + 0 ≡ 0 = omega (arith, z) in y);
    permitted = λ g k f e. never-bad g k (goes-on g f) e;
    leads = λ g h i f e. follows g h i (goes-on g f) e;
  }
    where
      never-bad : (g : Config) (k : Kind) → Goes-on g (static_step (printed r Base) Base live g) → turn_of (static_step (printed r Base) Base live g) ≡ Bad k → ⊥
      never-bad g k (onward mv o e f z a q) h = clash (sym (ap turn_of e) ∙ h)
        where
          clash : turn_of (Goes (mv ∷ []) (option_map settle o) One) ≡ Bad k → ⊥
          clash e = cc
      never-bad g k (returns i t e q) h = clash (sym (ap turn_of e) ∙ h)
        where
          clash : turn_of (Exits (code.Known (signed i))) ≡ Bad k → ⊥
          clash e = cc

      follows : (g h : Config) (i : ℕ) → Goes-on g (static_step (printed r Base) Base live g) → slice_get (successors search g) i ≡ Some h → (i ≡ 0) × Fits h × (number h ≡ suc (number g))
      follows g h i (onward mv o e f z a q) s = single i (ap (λ t. slice_get (onward-of t) i) (sym e) ∙ s)
        where
          onward-of : Turn → List Config
          onward-of t = path.onward (turn_of t)

          single : (i : ℕ) → slice_get (mv.to ∷ []) i ≡ Some h → (i ≡ 0) × Fits h × (number h ≡ suc (number g))
          single zero q = let same : mv.to ≡ h = some-same q in (refl, subst Fits same f, ap number (sym same) ∙ z)
          single (suc i) q = cc
      follows g h i (returns v t e q) s = none (ap (λ t. slice_get (path.onward (turn_of t)) i) (sym e) ∙ s)
        where
          none : slice_get [] i ≡ Some h → (i ≡ 0) × Fits h × (number h ≡ suc (number g))
          none q = cc

  within : (g : Config) → Fits g → number g < instructions (printed r Base)
  within g f =
      let a = at-number g f in
      let c = offset-within blocks f.block f.within f.is in
      let d = entry-instructions r Base in
      let e = f.few in
      omega (arith, a, c, d, e)

  pub base-accepts : Accepts search
  base-accepts = straight-accepts search Fits number (straight (instructions (printed r Base))) within

-- of any program that is the printed module
pub printed-accepts : (r : Residue) (p : Program) → Valid r Base → FitsProfile r Base → IsPrinted r Base p → Accepts (search_of p (instructions (printed r Base)))
printed-accepts r p ok fits is =
    subst (λ p. Accepts (search_of p (instructions (printed r Base)))) (sym same) (base-accepts r ok fits p.live p.qubits p.results)
  where
    same : p ≡ program r ok fits p.live p.qubits p.results
    same =
        ap (λ m. record p { m = m }) is.module_is
        ∙ ap (λ t. record p { m = printed r Base; target = t }) is.target
        ∙ ap (λ e. record p { m = printed r Base; target = Base; entry = e }) is.entry

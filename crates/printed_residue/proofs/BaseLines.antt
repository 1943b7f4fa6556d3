-- What a run does at the lines and at the return of a Base residue.
use Rattle.std.proofs.Common.{◌≡◌, ℕ, zero, suc, ◌+◌, ◌-◌, ◌<◌, ◌≤◌, true, false, ◌&&◌, not, None, Some, List, [], ◌∷◌, ◌++◌, length, take, refl, sym, ap, ◌∙◌, subst, arith, length-append, append-nil}
use Rattle.std.proofs.lemmas.Bool.{and_parts}
use Rattle.std.specs.List.{list_all}
use Rattle.std.specs.Prelude.{◌==◌, if◌then◌else◌, codes, flat_map, nat_lt, slice_get}
use Rattle.backend_api.specs.declared.operation.Answer.{Answer}
use Rattle.ir_module.specs.declared.tree.Block.{Block}
use Rattle.ir_module.specs.declared.tree.Module.{Module}
use Rattle.ir_module.specs.declared.tree.Operand.TheVariants as operand
use Rattle.ir_module.specs.declared.tree.Term.TheVariants as term
use Rattle.ir_module.specs.Entry.{Entry}
use Rattle.ir_values.specs.declared.class.Class.TheVariants as class
use Rattle.ir_values.specs.declared.ids.FuncId.{FuncId}
use Rattle.ir_values.specs.declared.ty.Ty.{Ty}
use Rattle.ir_values.specs.declared.ty.Ty.TheVariants as ty
use Rattle.ir_values.specs.declared.value.Value.TheVariants as value
use Rattle.ir_values.specs.Int.{IntValue}
use Rattle.qir_meaning.specs.Moves.{block_in}
use Rattle.qir_meaning.specs.Runs.{start}
use Rattle.qir_meaning.specs.State.{Env, State}
use Rattle.qir_meaning.specs.code.Simulation.{GoesBy}
use Rattle.qir_meaning.specs.code.Steps.{returned, Off, On, Whole, tick, tick_of, whole_start}
use Rattle.qir_meaning.proofs.Behaviour.{goes-on-by}
use Rattle.kept_items.specs.declared.item.Item.{Item}
use Rattle.kept_items.specs.declared.item.Item.TheVariants as item
use Rattle.kept_items.specs.declared.target.Target.TheVariants.{Base}
use Rattle.kept_items.specs.declared.val.Val.{Val}
use Rattle.kept_items.specs.declared.val.Val.TheVariants.{Known, Dynamic}
use Rattle.kept_items.specs.Items.{Did, Gave, Stopped, Senseless, did, valued}
use Rattle.residue.specs.declared.parts.Line.TheVariants as line
use Rattle.residue.specs.declared.parts.Part.{Part}
use Rattle.residue.specs.declared.parts.Residue.{Residue}
use Rattle.residue.specs.declared.parts.Tail.TheVariants as tail
use Rattle.residue.specs.Functions.{all_items, initialize}
use Rattle.residue.specs.Instructions.{Words, block_number, instructions, named_value, print_items, print_tail}
use Rattle.residue.specs.Phases.{in_phase, phase_of, phases_rise}
use Rattle.residue.specs.Printed.{base_blocks, block, initialize_call, names_of_items, print_phase, printed, printed_entry, words}
use Rattle.residue.specs.Scopes.{item_uses, items_of}
use Rattle.residue.specs.Valid.{Valid, all_known, base_permits, base_permits_tail, handle_below, is_base_record, is_known}
use Rattle.printed_residue.specs.Laws.{BaseItemDoes, IsGood}
use Rattle.printed_residue.specs.Places.{AtBase, base_index, in_entry, lowered_state, naming, phase_after, ticks}
use Rattle.printed_residue.proofs.Bits.{GaveBelow}
use Rattle.printed_residue.proofs.Blocks.{print-append, stand-item}
use Rattle.printed_residue.proofs.Calls.{ResultsBelow}
use Rattle.printed_residue.proofs.Ends.{initialize-declared}
use Rattle.printed_residue.proofs.Facts.{passes-here, passes-mid, take-all}
use Rattle.printed_residue.proofs.Items.{item-below, item-runs, results-below}
use Rattle.printed_residue.proofs.Lines.{item-among, item-declared, record-first, uses-pass}
use Rattle.printed_residue.proofs.Looks.{differ, same-numbers}
use Rattle.printed_residue.proofs.Naming.{last_name}
use Rattle.printed_residue.proofs.Rising.{after-few, after-next, all-none-named, filter-append, filter-passes, in-phase-cut, none-named, phase-few, rise-early, rise-late, rise-rest, rises}
use Rattle.printed_residue.proofs.Running.{Runs, low}
use Rattle.printed_residue.proofs.Scoped.{cut-items, items-next}
use Rattle.printed_residue.proofs.Standing.{StandAt}
use Rattle.printed_residue.proofs.Steps.{AllHave, Has, declared-does, inst-tick}
use Rattle.printed_residue.proofs.Tails.{Walk, tail-returns, walk-goes}

-- what Base permits uses known values alone, and takes one tick
known-have : (ws : Words) (ds : List IntValue) (env : Env) (args : List (Ty × Val)) → all_known args ≡ true → AllHave ws ds env args
known-have ws ds env [] h = tt
known-have ws ds env (a ∷ args) h = let p = and_parts (is_known a.1) (all_known args) h in (by a.1 p.0, known-have ws ds env args p.1)
  where
    by : (a : Val) → is_known a ≡ true → Has ws ds env a
    by (Known v) h = tt
    by (Dynamic d) h = cc

uses-have : (ws : Words) (ds : List IntValue) (env : Env) (x : Item) → base_permits x ≡ true → AllHave ws ds env (item_uses x)
uses-have ws ds env (item.Operation name args) h = known-have ws ds env args h
uses-have ws ds env (item.Output c args) h = known-have ws ds env args (and_parts (is_base_record c) (all_known args) h).1
uses-have ws ds env (item.Binary d o g w a b) h = cc
uses-have ws ds env (item.Icmp d o w a b) h = cc
uses-have ws ds env (item.Convert d o w a to) h = cc
uses-have ws ds env (item.Select d w c a b) h = cc
uses-have ws ds env (item.Read d v) h = cc
uses-have ws ds env (item.Equal d v u) h = cc

one-tick : (x : Item) → base_permits x ≡ true → ticks x ≡ 1
one-tick (item.Operation name args) h = refl
one-tick (item.Output c args) h = refl
one-tick (item.Binary d o g w a b) h = cc
one-tick (item.Icmp d o w a b) h = cc
one-tick (item.Convert d o w a to) h = cc
one-tick (item.Select d w c a b) h = cc
one-tick (item.Read d v) h = cc
one-tick (item.Equal d v u) h = cc

one-print : (ws : Words) (n : ℕ) (x : Item) → base_permits x ≡ true → length (instructions ws n x) ≡ 1
one-print ws n (item.Operation name args) h = refl
one-print ws n (item.Output c args) h = refl
one-print ws n (item.Binary d o g w a b) h = cc
one-print ws n (item.Icmp d o w a b) h = cc
one-print ws n (item.Convert d o w a to) h = cc
one-print ws n (item.Select d w c a b) h = cc
one-print ws n (item.Read d v) h = cc
one-print ws n (item.Equal d v u) h = cc

one-part : {A : Type 0} (xs : List A) → (length xs == 1) ≡ true → (x : A) × (xs ≡ x ∷ [])
one-part [] h = let e = same-numbers 0 1 h in absurd (omega (arith, e))
one-part (x ∷ []) h = (x, refl)
one-part (x ∷ y ∷ xs) h = let e = same-numbers (length (x ∷ y ∷ xs)) 1 h in absurd (omega (arith, e))

not-self : (n : ℕ) → nat_lt n n ≡ false
not-self n = grind arith

module _ (r : Residue) (good : IsGood r Base) where
  abbrev ok : Valid r Base
  ok = good.valid

  pub whole-part : (p : Part) × (r.parts ≡ p ∷ [])
  whole-part = one-part r.parts (and_parts (length r.parts == 1) (phases_rise r.irreversible 0 (all_items r)) ok.phases).0

  module _ (p : Part) (is_parts : r.parts ≡ p ∷ []) where
    abbrev l : Module
    l = printed r Base

    abbrev f : FuncId
    f = record { 0 = 0 }

    abbrev ws : Words
    ws = words r

    abbrev irr : List (List ℕ)
    irr = r.irreversible

    abbrev all : List Item
    all = items_of p.lines

    items-are : all_items r ≡ all
    items-are = ap (flat_map (λ p. items_of p.lines)) is_parts ∙ append-nil all

    pub is-part : slice_get r.parts 0 ≡ Some p
    is-part = ap (λ ps. slice_get ps 0) is_parts

    rising : phases_rise irr 0 all ≡ true
    rising = ap (phases_rise irr 0) (sym items-are) ∙ (and_parts (length r.parts == 1) (phases_rise irr 0 (all_items r)) ok.phases).1

    permits : list_all base_permits all ≡ true
    permits = ap (list_all base_permits) (sym items-are) ∙ (and_parts (list_all base_permits (all_items r)) (list_all (λ p. base_permits_tail p.tail) r.parts) ok.permits).0

    -- the four blocks
    abbrev phase_block : ℕ → Block
    phase_block zero = block (codes "entry") [] (initialize_call ∷ []) (term.Br (block_number 1))
    phase_block (suc zero) = block (codes "body") [] (print_phase r 1 all) (term.Br (block_number 2))
    phase_block (suc (suc zero)) = block (codes "measurements") [] (print_phase r 2 all) (term.Br (block_number 3))
    phase_block (suc (suc (suc n))) = block (codes "output") [] (print_phase r 3 all) (print_tail ws p.tail)

    in-module : (n : ℕ) → n ≤ 3 → block_in l f (block_number n) ≡ Some (phase_block n)
    in-module n le = ap (λ ps. slice_get (base_blocks r ps) n) is_parts ∙ by n le
      where
        by : (n : ℕ) → n ≤ 3 → slice_get (base_blocks r (p ∷ [])) n ≡ Some (phase_block n)
        by zero le = refl
        by (suc zero) le = refl
        by (suc (suc zero)) le = refl
        by (suc (suc (suc zero))) le = refl
        by (suc (suc (suc (suc n)))) le = absurd (omega (arith, le))

    no-phis : (n : ℕ) → (phase_block n).phis ≡ []
    no-phis zero = refl
    no-phis (suc zero) = refl
    no-phis (suc (suc zero)) = refl
    no-phis (suc (suc (suc n))) = refl

    leads : (n : ℕ) → n < 3 → (phase_block n).term ≡ term.Br (block_number (suc n))
    leads zero lt = refl
    leads (suc zero) lt = refl
    leads (suc (suc zero)) lt = refl
    leads (suc (suc (suc n))) lt = absurd (omega (arith, lt))

    insts : (n : ℕ) → 1 ≤ n → n ≤ 3 → (phase_block n).insts ≡ print_phase r n all
    insts zero le few = absurd (omega (arith, le))
    insts (suc zero) le few = refl
    insts (suc (suc zero)) le few = refl
    insts (suc (suc (suc zero))) le few = refl
    insts (suc (suc (suc (suc n)))) le few = absurd (omega (arith, few))

    later-index : (n : ℕ) (xs : List Item) → 1 ≤ n → base_index r n xs ≡ length (print_phase r n xs)
    later-index n xs le = ap (λ b. if b then 1 else length (print_phase r n xs)) (differ n 0 (λ e. absurd (omega (arith, le, e))))

    -- from behind some items to those of phase b that follow them
    module _ (pre rest : List Item) (cut_at : all ≡ pre ++ rest) (b : ℕ) (behind : phases_rise irr b rest ≡ true) (few : b ≤ 3) where
      abbrev from : ℕ
      from = phase_after irr 0 pre

      risen : phases_rise irr 0 (pre ++ rest) ≡ true
      risen = subst (λ xs. phases_rise irr 0 xs ≡ true) cut_at rising

      full : (m : ℕ) → m < b → base_index r m pre ≡ length (phase_block m).insts
      full zero lt = refl
      full (suc m) lt =
          let e : in_phase irr (suc m) all ≡ in_phase irr (suc m) pre =
          ap (in_phase irr (suc m)) cut_at ∙ filter-append (λ x. phase_of irr x == suc m) pre rest ∙ ap (λ xs. in_phase irr (suc m) pre ++ xs) (rise-late irr b rest (suc m) behind lt) ∙ append-nil (in_phase irr (suc m) pre) in
          later-index (suc m) pre (omega arith) ∙ ap (λ xs. length (print_items ws 0 xs)) (sym e) ∙ ap length (sym (insts (suc m) (omega arith) (omega (arith, lt, few))))

      empty : (m : ℕ) → from < suc m → base_index r (suc m) pre ≡ 0
      empty m lt = later-index (suc m) pre (omega arith) ∙ ap (λ xs. length (print_items ws 0 xs)) (rise-early irr 0 pre rest (suc m) risen lt)

      walk-from : (d m : ℕ) → m + d ≡ b → from ≤ m → Walk l f d (block_number m) (phase_block m) (base_index r m pre) (block_number b) (phase_block b) (base_index r b pre)
      walk-from zero m e le = let z : m ≡ b = omega (arith, e) in (ap block_number z, ap phase_block z, ap (λ k. base_index r k pre) z)
      walk-from (suc d) m e le = (
        full m (omega (arith, e)),
        block_number (suc m),
        phase_block (suc m),
        leads m (omega (arith, e, few)),
        in-module (suc m) (omega (arith, e, few)),
        no-phis (suc m),
        subst (λ i. Walk l f d (block_number (suc m)) (phase_block (suc m)) i (block_number b) (phase_block b) (base_index r b pre)) (empty m (omega (arith, le))) (walk-from d (suc m) (omega (arith, e)) (omega (arith, le))),
      )

      abbrev pub placed : ℕ → Env → State → Whole
      placed m env st = record { at = in_entry m (length (phase_block m).phis + base_index r m pre); env = env; waits = []; state = lowered_state (naming r) st }

      pub walked : (env : Env) (st : State) → from ≤ b → GoesBy l (b - from) (placed from env st) (placed b env st)
      walked env st le = walk-goes l f ws (b - from) (block_number from) (phase_block from) (base_index r from pre) (block_number b) (phase_block b) (base_index r b pre) env st (in-module from (omega (arith, le, few))) (walk-from (b - from) from (omega (arith, le)) (omega arith))

    at-place : (n i : ℕ) (v : Whole) (st : State) → v.at ≡ in_entry n i → v.waits ≡ [] → v.state ≡ lowered_state (naming r) st → v ≡ record { at = in_entry n (length (phase_block n).phis + i); env = v.env; waits = []; state = lowered_state (naming r) st }
    at-place n i v st h w s =
        ap (λ x. record { at = x; env = v.env; waits = v.waits; state = v.state }) (h ∙ ap (in_entry n) (let z = ap length (no-phis n) in omega (arith, z)))
        ∙ ap (λ x. record { at = in_entry n (length (phase_block n).phis + i); env = v.env; waits = x; state = v.state }) w
        ∙ ap (λ x. record { at = in_entry n (length (phase_block n).phis + i); env = v.env; waits = []; state = x }) s

    module _ (q : ℕ) (x : Item) (is_line : slice_get p.lines q ≡ Some (line.Item x)) (ds : List IntValue) (st : State) (v : Whole) (at : AtBase r p q st v) where
      abbrev pre : List Item
      pre = items_of (take q p.lines)

      cut : (rest : List Item) × (all ≡ pre ++ (x ∷ rest))
      cut = cut-items p.lines q x is_line

      abbrev n : ℕ
      n = phase_of irr x

      behind : (phase_after irr 0 pre ≤ n) × (phases_rise irr n (x ∷ cut.0) ≡ true)
      behind =
          let s = rises irr (phase_after irr 0 pre) x cut.0 (rise-rest irr 0 pre (x ∷ cut.0) (subst (λ xs. phases_rise irr 0 xs ≡ true) cut.1 rising)) in
          (s.0, ap (λ b. not b && phases_rise irr n cut.0) (not-self n) ∙ s.1)

      range : (1 ≤ n) × (n ≤ 3)
      range = phase-few irr x

      permitted : base_permits x ≡ true
      permitted = passes-mid base_permits pre x cut.0 (subst (λ xs. list_all base_permits xs ≡ true) cut.1 permits)

      abbrev ys : List Item
      ys = in_phase irr n pre

      abbrev free : ℕ
      free = 0 + length (names_of_items ys)

      abbrev j : ℕ
      j = base_index r n pre

      stood : StandAt (phase_block n).insts j (instructions ws free x)
      stood =
          subst (λ l. StandAt l j (instructions ws free x)) (ap (print_items ws 0) (sym (ap (in_phase irr n) cut.1 ∙ in-phase-cut irr pre x cut.0)) ∙ sym (insts n range.0 range.1))
          (stand-item ws [] 0 ys x (in_phase irr n cut.0) j (later-index n pre range.0 ∙ (let z : length (print_phase r n pre) ≡ 0 + length (print_items ws 0 ys) = omega arith in z)))

      pre-permits : list_all base_permits pre ≡ true
      pre-permits = front pre (x ∷ cut.0) (subst (λ xs. list_all base_permits xs ≡ true) cut.1 permits)
        where
          front : (a c : List Item) → list_all base_permits (a ++ c) ≡ true → list_all base_permits a ≡ true
          front [] c h = refl
          front (y ∷ a) c h = let s = and_parts (base_permits y) (list_all base_permits (a ++ c)) h in ap (λ b. b && list_all base_permits a) s.0 ∙ front a c s.1

      own-results : ResultsBelow r.own_results (item_uses x)
      own-results = results-below r (item_uses x) (uses-pass r 0 p is-part q x is_line (handle_below r) good.below)

      abbrev env : Env
      env = v.env

      runs : Runs l f ws (block_number n) (phase_block n) (in-module n range.1) j free ds env st (ticks x) (last_name free x) (did ds st x)
      runs =
          let m = item-among r 0 p is-part q x is_line in
          let a = ap length (all-none-named ys (filter-passes base_permits (λ y. phase_of irr y == n) pre pre-permits)) in
          let e = ap length (none-named x permitted) in
          item-runs l f ws (block_number n) (phase_block n) (in-module n range.1) j free ds env st at.bits x (omega (arith, a, e)) (uses-have ws ds env x permitted) own-results (item-declared r Base good.valid x m) (record-first r Base good.valid x m) stood

      abbrev before : Whole
      before = placed pre (x ∷ cut.0) cut.1 n behind.1 range.1 n env st

      walk : GoesBy l (n - phase_after irr 0 pre) v before
      walk = subst (λ w. GoesBy l (n - phase_after irr 0 pre) w before) (sym (at-place (phase_after irr 0 pre) (base_index r (phase_after irr 0 pre) pre) v st at.at at.no_waits at.state)) (walked pre (x ∷ cut.0) cut.1 n behind.1 range.1 env st behind.0)

      next-items : items_of (take (suc q) p.lines) ≡ pre ++ x ∷ []
      next-items = items-next p.lines q x is_line

      index-next : base_index r n (pre ++ x ∷ []) ≡ j + 1
      index-next =
          let e = one-more-print in
          let g = later-index n (pre ++ x ∷ []) range.0 in
          let h = later-index n pre range.0 in
          omega (arith, e, g, h)
        where
          one-more-print : length (print_phase r n (pre ++ x ∷ [])) ≡ length (print_phase r n pre) + 1
          one-more-print =
              let k : ℕ = 0 + length (names_of_items ys) in
              let a = length-append (print_items ws 0 ys) (instructions ws k x ++ []) in
              let b = length-append (instructions ws k x) [] in
              let c = one-print ws k x permitted in
              ap (λ xs. length (print_items ws 0 xs)) (in-phase-cut irr pre x [])
              ∙ ap length (print-append ws 0 ys (x ∷ []))
              ∙ (let z : length (print_items ws 0 ys ++ (instructions ws k x ++ [])) ≡ length (print_phase r n pre) + 1 = omega (arith, a, b, c) in z)

      place-next : in_entry n (length (phase_block n).phis + (j + ticks x)) ≡ in_entry (phase_after irr 0 (items_of (take (suc q) p.lines))) (base_index r (phase_after irr 0 (items_of (take (suc q) p.lines))) (items_of (take (suc q) p.lines)))
      place-next =
          ap (in_entry n) (let a = ap length (no-phis n) in let b = one-tick x permitted in let c = index-next in let z : length (phase_block n).phis + (j + ticks x) ≡ base_index r n (pre ++ x ∷ []) = omega (arith, a, b, c) in z)
          ∙ ap (λ m. in_entry m (base_index r m (pre ++ x ∷ []))) (sym (after-next irr 0 pre x))
          ∙ ap (λ xs. in_entry (phase_after irr 0 xs) (base_index r (phase_after irr 0 xs) xs)) (sym next-items)

      does-by : (o : Did) → Runs l f ws (block_number n) (phase_block n) (in-module n range.1) j free ds env st (ticks x) (last_name free x) o → GaveBelow r.own_results o → BaseItemDoes r l p q v o
      does-by (Gave new st') h g =
          let one = one-tick x permitted in
          let top = range.1 in
          let le = behind.0 in
          let after : Whole = low l f ws (block_number n) (phase_block n) (in-module n range.1) (j + ticks x) h.env' st' in (
            n - phase_after irr 0 pre + ticks x,
            omega (arith, one),
            omega (arith, one, top),
            after,
            goes-on-by l (n - phase_after irr 0 pre) (ticks x) (n - phase_after irr 0 pre + ticks x) v before after walk h.goes refl,
            record { at = place-next; no_waits = refl; state = refl; bits = g },
          )
      does-by (Stopped stop st') h g =
          let one = one-tick x permitted in
          let top = range.1 in
          let lt = h.1 in
          (n - phase_after irr 0 pre + h.0, omega (arith, one, top, lt), h.2, goes-on-by l (n - phase_after irr 0 pre) h.0 (n - phase_after irr 0 pre + h.0) v before h.2 walk h.3 refl, h.4)
      does-by Senseless h g = tt

      pub base-item-does : BaseItemDoes r l p q v (did ds st x)
      base-item-does = does-by (did ds st x) runs (item-below r.own_results ds st at.bits x own-results)

    module _ (a : Val) (ds : List IntValue) (st : State) (v : Whole) (e : p.tail ≡ tail.Return a) (at : AtBase r p (length p.lines) st v) where
      abbrev done : List Item
      done = items_of (take (length p.lines) p.lines)

      all-done : all ≡ done ++ []
      all-done = ap items_of (sym (take-all p.lines)) ∙ sym (append-nil done)

      known : is_known a ≡ true
      known = ap base_permits_tail (sym e) ∙ passes-here (λ p. base_permits_tail p.tail) r.parts 0 p (and_parts (list_all base_permits (all_items r)) (list_all (λ p. base_permits_tail p.tail) r.parts) ok.permits).1 is-part

      has : (b : Val) → is_known b ≡ true → Has ws ds v.env b
      has (Known u) h = tt
      has (Dynamic d) h = cc

      abbrev m : ℕ
      m = phase_after irr 0 done

      abbrev last : Whole
      last = placed done [] all-done 3 refl (omega arith) 3 v.env st

      walk-on : GoesBy l (3 - m) v last
      walk-on = subst (λ w. GoesBy l (3 - m) w last) (sym (at-place m (base_index r m done) v st at.at at.no_waits at.state)) (walked done [] all-done 3 refl (omega arith) v.env st (after-few irr 0 done (omega arith)))

      at-end : last ≡ record { at = in_entry 3 (length (phase_block 3).phis + length (phase_block 3).insts); env = v.env; waits = []; state = lowered_state (naming r) st }
      at-end = ap (λ xs. record { at = in_entry 3 (length (phase_block 3).phis + length (print_items ws 0 (in_phase irr 3 xs))); env = v.env; waits = []; state = lowered_state (naming r) st }) (sym (append-nil done) ∙ sym all-done)

      pub base-returns : (i : ℕ) × (i ≤ 3) × (before : Whole) × GoesBy l i v before × (tick l before ≡ Off (returned (Some (named_value ws (valued ds a))) (lowered_state (naming r) st)))
      base-returns = (3 - m, omega arith, last, walk-on, ap (tick l) at-end ∙ tail-returns l f ws (block_number 3) (phase_block 3) (in-module 3 (omega arith)) ds v.env st a (has a known) (ap (print_tail ws) e))

  -- the start
  module _ (answers : List Answer) where
    abbrev pub entry_is : Entry
    entry_is = record { number = 0; function = printed_entry r Base }

    abbrev beginning : Whole
    beginning = whole_start entry_is answers

    abbrev after : Whole
    after = record { at = in_entry 0 1; env = beginning.env; waits = []; state = beginning.state }

    none-taken : {A : Type 0} (xs : List A) → take 0 xs ≡ []
    none-taken [] = refl
    none-taken (x ∷ xs) = refl

    abbrev part : Part
    part = whole-part.0

    begins-run : tick (printed r Base) beginning ≡ On after
    begins-run =
        inst-tick (printed r Base) (record { 0 = 0 }) (block_number 0) (phase_block part whole-part.1 0) 0 initialize_call beginning (in-module part whole-part.1 0 (omega arith)) refl refl
        ∙ ap (tick_of beginning) (declared-does (printed r Base) beginning.at beginning.env beginning.state None ty.Void (record { 0 = 1 }) ((ty.Text, operand.Const value.NoLabel) ∷ []) initialize.name class.Init (value.NoLabel ∷ []) (initialize-declared r Base) refl)

    pub base-starts : (v : Whole) × (tick (printed r Base) beginning ≡ On v) × AtBase r part 0 (start answers) v
    base-starts = (
      after,
      begins-run,
      record {
        at = ap (λ ls. in_entry (phase_after r.irreversible 0 (items_of ls)) (base_index r (phase_after r.irreversible 0 (items_of ls)) (items_of ls))) (sym (none-taken part.lines));
        no_waits = refl;
        state = refl;
        bits = tt;
      },
    )

-- marks
pub base-mark-passes : (r : Residue) (p : Part) (q : ℕ) (st : State) (v : Whole) → items_of (take (suc q) p.lines) ≡ items_of (take q p.lines) → AtBase r p q st v → AtBase r p (suc q) st v
base-mark-passes r p q st v e a = record {
  at = a.at ∙ ap (λ xs. in_entry (phase_after r.irreversible 0 xs) (base_index r (phase_after r.irreversible 0 xs) xs)) (sym e);
  no_waits = a.no_waits;
  state = a.state;
  bits = a.bits;
}

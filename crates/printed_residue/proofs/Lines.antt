-- What a run does at the lines and at the tail of an Adaptive part.
use Rattle.std.proofs.Common.{◌≡◌, ◌⊎◌, inl, inr, ℕ, suc, ◌+◌, ◌<◌, Bool, true, false, ◌&&◌, Some, List, [], ◌∷◌, ◌++◌, length, take, refl, sym, ap, ◌∙◌, subst, arith, append_assoc, append-nil, ⊎_elim}
use Rattle.std.proofs.lemmas.Bool.{and_parts}
use Rattle.std.proofs.lemmas.Grind.{flat_map-append}
use Rattle.std.proofs.lemmas.List.Folds.{list_all-append}
use Rattle.std.specs.List.{list_all}
use Rattle.std.specs.Prelude.{◌||◌, ◌==◌, flat_map, slice_get}
use Rattle.ir_module.specs.declared.tree.Block.{Block}
use Rattle.ir_module.specs.declared.tree.Module.{Module}
use Rattle.ir_values.specs.declared.class.Class.TheVariants as class
use Rattle.ir_values.specs.declared.ids.BlockId.{BlockId}
use Rattle.ir_values.specs.declared.ids.FuncId.{FuncId}
use Rattle.ir_values.specs.declared.int.Width.{Width}
use Rattle.ir_values.specs.declared.ty.Ty.{Ty}
use Rattle.ir_values.specs.declared.value.Value.TheVariants as value
use Rattle.ir_values.specs.Int.{IntValue}
use Rattle.qir_meaning.specs.code.Steps.{Whole}
use Rattle.qir_meaning.specs.Moves.{block_in}
use Rattle.qir_meaning.specs.State.{Env, State}
use Rattle.kept_items.specs.declared.item.Item.{Item}
use Rattle.kept_items.specs.declared.item.Item.TheVariants as item
use Rattle.kept_items.specs.declared.target.Caps.{Caps}
use Rattle.kept_items.specs.declared.target.Target.{Target}
use Rattle.kept_items.specs.declared.target.Target.TheVariants.{Adaptive}
use Rattle.kept_items.specs.declared.val.Val.{Val}
use Rattle.kept_items.specs.declared.val.Val.TheVariants.{Known, Dynamic}
use Rattle.kept_items.specs.Items.{Did, Gave, Stopped, Senseless, did}
use Rattle.residue.specs.declared.parts.Line.TheVariants as line
use Rattle.residue.specs.declared.parts.Part.{Part}
use Rattle.residue.specs.declared.parts.Residue.{Residue}
use Rattle.residue.specs.Functions.{all_items, calls_of_residue}
use Rattle.residue.specs.Instructions.{Words, block_number, instructions, print_items}
use Rattle.residue.specs.Printed.{beginning, edges_to, names_of, names_of_items, print_part, printed, words}
use Rattle.residue.specs.Scopes.{gives_of, item_gives, item_uses, items_of, param_gives, part_gives, part_uses, tail_uses, uses_of}
use Rattle.residue.specs.Valid.{Valid, all_alike, all_differ, handle_below, is_instruction, items_within, part_within, tail_within}
use Rattle.printed_residue.specs.Laws.{IsGood, ItemDoes}
use Rattle.printed_residue.specs.Places.{AtLine, BitsBelow, HaveValues, Keeps, Takes, at_name, in_entry, is_in, names_before, scope_at, ticks, value_of_number}
use Rattle.printed_residue.proofs.Bits.{GaveBelow}
use Rattle.printed_residue.proofs.Calls.{ResultsBelow}
use Rattle.printed_residue.proofs.Blocks.{part-stands, print-one, stand-item}
use Rattle.printed_residue.proofs.Declared.{Among, among-piece, equal-declared, fits, operation-declared, output-declared, output-types, read-declared}
use Rattle.printed_residue.proofs.Edges.{phis-length}
use Rattle.printed_residue.proofs.Facts.{passes-here, passes-piece}
use Rattle.printed_residue.proofs.Items.{ItemDeclared, RecordFirst, item-below, item-runs, results-below}
use Rattle.printed_residue.proofs.Looks.{same-numbers}
use Rattle.printed_residue.proofs.Naming.{before-length, item-named, last_name, names-enough, scope-early}
use Rattle.printed_residue.proofs.Running.{GivenAt, Runs, low}
use Rattle.printed_residue.proofs.Scoped.{ArgsIn, ValIn, cut-items, in-append, item-in, items-next}
use Rattle.printed_residue.proofs.Standing.{StandAt, get-behind}
use Rattle.printed_residue.proofs.Steps.{AllHave, Has}

-- what is in scope has its value
pub val-has : (r : Residue) (scope : List (ℕ × Width)) (ds : List IntValue) (env : Env) → HaveValues r scope ds env → (a : Val) → ValIn scope a → Has (words r) ds env a
val-has r scope ds env h (Known v) i = tt
val-has r scope ds env h (Dynamic d) i = h d.0 i

args-have : (r : Residue) (scope : List (ℕ × Width)) (ds : List IntValue) (env : Env) → HaveValues r scope ds env → (args : List (Ty × Val)) → ArgsIn scope args → AllHave (words r) ds env args
args-have r scope ds env h [] i = tt
args-have r scope ds env h (a ∷ args) i = (val-has r scope ds env h a.1 i.0, args-have r scope ds env h args i.1)

one-given : (x : Item) → (item_gives x ≡ []) ⊎ ((g : ℕ × Width) × (item_gives x ≡ g ∷ []))
one-given (item.Binary d o g w p q) = inr (_, refl)
one-given (item.Icmp d o w p q) = inr (_, refl)
one-given (item.Convert d o w p to) = inr (_, refl)
one-given (item.Select d w p q u) = inr (_, refl)
one-given (item.Read d v) = inr (_, refl)
one-given (item.Equal d v u) = inr (_, refl)
one-given (item.Operation name args) = inl refl
one-given (item.Output c args) = inl refl

-- every test of a part's items and of its tail
module _ (r : Residue) (n : ℕ) (p : Part) (is_part : slice_get r.parts n ≡ Some p) (q : ℕ) (x : Item) (is_line : slice_get p.lines q ≡ Some (line.Item x)) where
  -- the item is one of all items
  pub item-among : Among (all_items r) x
  item-among =
      let xs = cut-items p.lines q x is_line in
      among-piece (λ p. items_of p.lines) r.parts n p x is_part (length (items_of (take q p.lines)), ap (λ l. slice_get l (length (items_of (take q p.lines)))) xs.1 ∙ get-behind (items_of (take q p.lines)) x xs.0 (length (items_of (take q p.lines))) refl)

  -- a test of all that is used passes for the item
  pub uses-pass : (test : Ty × Val → Bool) → list_all test (uses_of r) ≡ true → list_all test (item_uses x) ≡ true
  uses-pass test h =
      let part = passes-piece test part_uses r.parts n p h is_part in
      let items = (and_parts (list_all test (flat_map item_uses (items_of p.lines))) (list_all test (tail_uses p.tail)) (sym (list_all-append test (flat_map item_uses (items_of p.lines)) (tail_uses p.tail)) ∙ part)).0 in
      let xs = cut-items p.lines q x is_line in
      passes-piece test item_uses (items_of p.lines) (length (items_of (take q p.lines))) x items (ap (λ l. slice_get l (length (items_of (take q p.lines)))) xs.1 ∙ get-behind (items_of (take q p.lines)) x xs.0 (length (items_of (take q p.lines))) refl)

-- each item is used with the types of its places
pub all-typed : (test : Ty × Val → Bool) (parts : List Part) → list_all test (flat_map part_uses parts) ≡ true → list_all (λ x. list_all test (item_uses x)) (flat_map (λ p. items_of p.lines) parts) ≡ true
all-typed test [] h = refl
all-typed test (p ∷ parts) h =
    let s = and_parts (list_all test (part_uses p)) (list_all test (flat_map part_uses parts)) (sym (list_all-append test (part_uses p) (flat_map part_uses parts)) ∙ h) in
    let items = (and_parts (list_all test (flat_map item_uses (items_of p.lines))) (list_all test (tail_uses p.tail)) (sym (list_all-append test (flat_map item_uses (items_of p.lines)) (tail_uses p.tail)) ∙ s.0)).0 in
    list_all-append (λ x. list_all test (item_uses x)) (items_of p.lines) (flat_map (λ p. items_of p.lines) parts)
    ∙ ap (λ b. b && list_all (λ x. list_all test (item_uses x)) (flat_map (λ p. items_of p.lines) parts)) (each (items_of p.lines) items)
    ∙ all-typed test parts s.1
  where
    each : (xs : List Item) → list_all test (flat_map item_uses xs) ≡ true → list_all (λ x. list_all test (item_uses x)) xs ≡ true
    each [] h = refl
    each (x ∷ xs) h =
        let s = and_parts (list_all test (item_uses x)) (list_all test (flat_map item_uses xs)) (sym (list_all-append test (item_uses x) (flat_map item_uses xs)) ∙ h) in
        ap (λ b. b && list_all (λ x. list_all test (item_uses x)) xs) s.0 ∙ each xs s.1

module _ (r : Residue) (t : Target) (ok : Valid r t) where
  instructions-pass : list_all is_instruction (all_items r) ≡ true
  instructions-pass = (and_parts (list_all is_instruction (all_items r)) (all_alike (calls_of_residue r)) ok.calls).0

  calls-alike : all_alike (calls_of_residue r) ≡ true
  calls-alike = (and_parts (list_all is_instruction (all_items r)) (all_alike (calls_of_residue r)) ok.calls).1

  typed : list_all (λ x. list_all (fits (gives_of r)) (item_uses x)) (all_items r) ≡ true
  typed = all-typed (fits (gives_of r)) r.parts ok.types

  -- what an item calls is declared
  pub item-declared : (x : Item) → Among (all_items r) x → ItemDeclared (printed r t) (words r) x
  item-declared (item.Binary d o g w p q) m = tt
  item-declared (item.Icmp d o w p q) m = tt
  item-declared (item.Convert d o w p to) m = tt
  item-declared (item.Select d w p q u) m = tt
  item-declared (item.Read d v) m = read-declared r t instructions-pass calls-alike ok.outputs typed m.0 d v m.1
  item-declared (item.Equal d v u) m = equal-declared r t instructions-pass calls-alike ok.outputs typed m.0 d v u m.1
  item-declared (item.Operation name args) m = operation-declared r t instructions-pass calls-alike ok.outputs typed m.0 name args m.1 ok.operations
  item-declared (item.Output c args) m = output-declared r t instructions-pass calls-alike ok.outputs typed m.0 c args m.1

  pub record-first : (x : Item) → Among (all_items r) x → RecordFirst x
  record-first (item.Output class.ResRecord args) m = output-types r t instructions-pass calls-alike ok.outputs typed m.0 args m.1
  record-first x m = tt

  pub distinct : all_differ (λ x y. x.0 == y.0) (gives_of r) ≡ true
  distinct = (and_parts (all_differ (λ x y. x.0 == y.0) (gives_of r)) (list_all part_within r.parts) ok.scopes).0

  pub scoped : (n : ℕ) (p : Part) → slice_get r.parts n ≡ Some p → (items_within (param_gives p) (items_of p.lines) ≡ true) × (tail_within (part_gives p) p.tail ≡ true)
  scoped n p h = and_parts (items_within (param_gives p) (items_of p.lines)) (tail_within (part_gives p) p.tail) (passes-here part_within r.parts n p (and_parts (all_differ (λ x y. x.0 == y.0) (gives_of r)) (list_all part_within r.parts) ok.scopes).1 h)

module _ (r : Residue) (caps : Caps) (good : IsGood r (Adaptive caps)) (n : ℕ) (p : Part) (is_part : slice_get r.parts n ≡ Some p) where
  abbrev l : Module
  l = printed r (Adaptive caps)

  abbrev f : FuncId
  f = record { 0 = 0 }

  abbrev ws : Words
  ws = words r

  abbrev c : BlockId
  c = block_number n

  abbrev b : Block
  b = print_part r n (names_before r n) p

  -- the block of the part
  pub here : block_in l f c ≡ Some b
  here =
      part-stands r 0 0 r.parts n p is_part
      ∙ ap (λ m. Some (print_part r m (0 + names_before r n) p)) (let z : 0 + n ≡ n = omega arith in z)
      ∙ ap (λ m. Some (print_part r n m p)) (let z : 0 + names_before r n ≡ names_before r n = omega arith in z)

  -- names of the part's items begin here
  abbrev pub first : ℕ
  first = names_before r n + length p.params

  -- where line q stands behind the phis
  abbrev index : ℕ → ℕ
  index q = length (beginning n) + length (print_items ws first (items_of (take q p.lines)))

  pub phis : length b.phis ≡ length p.params
  phis = phis-length ws (edges_to n r.parts) (names_before r n) 0 p.params

  pub stands : (q : ℕ) (ds : List IntValue) (st : State) (v : Whole) → AtLine r n p q ds st v → v ≡ low l f ws c b here (index q) v.env st
  stands q ds st v a =
      ap (λ x. record { at = x; env = v.env; waits = v.waits; state = v.state }) (a.at ∙ ap (λ m. in_entry n (m + index q)) (sym phis))
      ∙ ap (λ x. record { at = in_entry n (length b.phis + index q); env = v.env; waits = x; state = v.state }) a.no_waits
      ∙ ap (λ x. record { at = in_entry n (length b.phis + index q); env = v.env; waits = []; state = x }) a.state

  module _ (q : ℕ) (x : Item) (is_line : slice_get p.lines q ≡ Some (line.Item x)) (ds : List IntValue) (st : State) (env : Env) (values : HaveValues r (scope_at p q) ds env) (long : length env ≡ length (names_of r.parts)) (bits : BitsBelow r.own_results st.bits) where
    abbrev free : ℕ
    free = first + length (names_of_items (items_of (take q p.lines)))

    stood : StandAt b.insts (index q) (instructions ws free x)
    stood =
        let xs = cut-items p.lines q x is_line in
        subst (λ ys. StandAt (beginning n ++ print_items ws first ys) (index q) (instructions ws free x)) (sym xs.1)
        (stand-item ws (beginning n) first (items_of (take q p.lines)) x xs.0 (index q) refl)

    used : AllHave ws ds env (item_uses x)
    used =
        let xs = cut-items p.lines q x is_line in
        args-have r (scope_at p q) ds env values (item_uses x) (item-in (param_gives p) (items_of (take q p.lines)) x xs.0 (subst (λ ys. items_within (param_gives p) ys ≡ true) xs.1 (scoped r (Adaptive caps) good.valid n p is_part).0))

    own-results : ResultsBelow r.own_results (item_uses x)
    own-results = results-below r (item_uses x) (uses-pass r n p is_part q x is_line (handle_below r) good.below)

    runs : Runs l f ws c b here (index q) free ds env st (ticks x) (last_name free x) (did ds st x)
    runs =
        let m = item-among r n p is_part q x is_line in
        let a = names-enough r n p is_part q x is_line in
        let e = before-length r n p is_part q in
        item-runs l f ws c b here (index q) free ds env st bits x (omega (arith, a, e, long)) used own-results (item-declared r (Adaptive caps) good.valid x m) (record-first r (Adaptive caps) good.valid x m) stood

    below : GaveBelow r.own_results (did ds st x)
    below = item-below r.own_results ds st bits x own-results

    named : (g : ℕ × Width) → item_gives x ≡ g ∷ [] → ws.name_of g.0 ≡ last_name free x
    named g i = item-named r n p is_part (distinct r (Adaptive caps) good.valid) q x g is_line i ∙ ap (λ m. last_name m x) (before-length r n p is_part q)

    scope-next : scope_at p (suc q) ≡ scope_at p q ++ item_gives x
    scope-next =
        ap (λ ys. param_gives p ++ flat_map item_gives ys) (items-next p.lines q x is_line)
        ∙ ap (λ ys. param_gives p ++ ys) (flat_map-append item_gives (items_of (take q p.lines)) (x ∷ []) ∙ ap (λ ys. flat_map item_gives (items_of (take q p.lines)) ++ ys) (append-nil (item_gives x)))
        ∙ sym (append_assoc (param_gives p) (flat_map item_gives (items_of (take q p.lines))) (item_gives x))

    index-next : length p.params + index (suc q) ≡ length b.phis + (index q + ticks x)
    index-next =
        let a = ap (λ ys. length (print_items ws first ys)) (items-next p.lines q x is_line) in
        let e = print-one ws first (items_of (take q p.lines)) x in
        let z = phis in
        omega (arith, a, e, z)

    -- the values that are in scope at the next line
    next-values : (new ds' : List IntValue) (env' : Env) → Keeps (scope_at p q) ds ds' → Takes (item_gives x) new ds' → GivenAt l f ws c b here (index q) free ds env st (last_name free x) new env' → ((y : ℕ) → y < free → at_name env' y ≡ at_name env y) → HaveValues r (scope_at p (suc q)) ds' env'
    next-values new ds' env' keeps takes given others d h = by-scope (is_in (scope_at p q) d) refl (sym (in-append (scope_at p q) (item_gives x) d) ∙ ap (λ s. is_in s d) (sym scope-next) ∙ h)
      where
        earlier : is_in (scope_at p q) d ≡ true → at_name env' (ws.name_of d) ≡ Some (value.Int (value_of_number ds' d))
        earlier i =
            let e = scope-early r n p is_part q d i in
            let k = before-length r n p is_part q in
            others (ws.name_of d) (omega (arith, e, k)) ∙ values d i ∙ ap (λ w. Some (value.Int w)) (sym (keeps d i))

        of-given : (g : ℕ × Width) (new : List IntValue) → item_gives x ≡ g ∷ [] → Takes (g ∷ []) new ds' → GivenAt l f ws c b here (index q) free ds env st (last_name free x) new env' → g.0 ≡ d → at_name env' (ws.name_of d) ≡ Some (value.Int (value_of_number ds' d))
        of-given g [] i takes given e = absurd takes
        of-given g (w ∷ ws') i takes given e =
            ap (λ m. at_name env' (ws.name_of m)) (sym e) ∙ ap (at_name env') (named g i) ∙ given ∙ ap (λ w. Some (value.Int w)) (sym takes.0) ∙ ap (λ m. Some (value.Int (value_of_number ds' m))) e

        now : is_in (item_gives x) d ≡ true → at_name env' (ws.name_of d) ≡ Some (value.Int (value_of_number ds' d))
        now i = ⊎_elim (λ e. absurd (clash (sym (ap (λ l. is_in l d) e) ∙ i))) (λ g. of-given g.0 new g.1 (subst (λ l. Takes l new ds') g.1 takes) given (same-numbers g.0.0 d (or-false (g.0.0 == d) (sym (ap (λ l. is_in l d) g.1) ∙ i)))) (one-given x)
          where
            clash : false ≡ true → ⊥
            clash e = cc

            or-false : (s : Bool) → (s || false) ≡ true → s ≡ true
            or-false true h = refl
            or-false false h = h

        by-scope : (s : Bool) → is_in (scope_at p q) d ≡ s → (s || is_in (item_gives x) d) ≡ true → at_name env' (ws.name_of d) ≡ Some (value.Int (value_of_number ds' d))
        by-scope true e h = earlier e
        by-scope false e h = now h

    abbrev v : Whole
    v = low l f ws c b here (index q) env st

    does-by : (o : Did) → Runs l f ws c b here (index q) free ds env st (ticks x) (last_name free x) o → GaveBelow r.own_results o → ItemDoes r l n p q x ds v o
    does-by (Gave new st') h g = λ ds' keeps takes. (
      low l f ws c b here (index q + ticks x) h.env' st',
      h.goes,
      record {
        at = ap (in_entry n) (sym index-next);
        no_waits = refl;
        state = refl;
        values = next-values new ds' h.env' keeps takes h.given h.others;
        long = h.long ∙ long;
        bits = g;
      },
    )
    does-by (Stopped stop st') h g = h
    does-by Senseless h g = tt

    pub item-does : ItemDoes r l n p q x ds v (did ds st x)
    item-does = does-by (did ds st x) runs below

  pub at-item : (q : ℕ) (x : Item) (ds : List IntValue) (st : State) (v : Whole) → slice_get p.lines q ≡ Some (line.Item x) → AtLine r n p q ds st v → ItemDoes r l n p q x ds v (did ds st x)
  at-item q x ds st v h a = subst (λ w. ItemDoes r l n p q x ds w (did ds st x)) (sym (stands q ds st v a)) (item-does q x h ds st v.env a.values a.long a.bits)

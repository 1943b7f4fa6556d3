-- The attributes of each function are a group of the module, or there are none.
use Rattle.std.specs.Prelude.{slice_get}
use Rattle.std.proofs.Common.{◌≡◌, ℕ, zero, suc, ◌+◌, Bool, true, false, cond, Option, None, Some, List, [], ◌∷◌, ◌++◌, refl, sym, ap, ◌∙◌, subst, arith, append_assoc, append-nil}
use Rattle.ir_module.specs.declared.tree.Attr.{Attr}
use Rattle.ir_module.specs.declared.tree.Function.{Function}
use Rattle.ir_module.specs.declared.tree.Module.{Module}
use Rattle.ir_printer.specs.Groups.{same_attrs, number_from, with_list, groups_from, groups_of}
use Rattle.ir_printer.proofs.GroupLists.{attrs_decide}
use Rattle.canonical_names.proofs.Places.{same_some}

-- what a list of attributes is printed as: none where it is empty, else the group of its number
abbrev pub IsGroup : List (List Attr) → List Attr → Option ℕ → Type 0
IsGroup gs attrs None = attrs ≡ []
IsGroup gs attrs (Some n) = slice_get gs n ≡ Some attrs

-- a list with a number stands there
placed_at : (n : ℕ) (attrs : List Attr) (gs : List (List Attr)) (k : ℕ) → number_from n attrs gs ≡ Some k → (j : ℕ) × (k ≡ n + j) × (slice_get gs j ≡ Some attrs)
placed_at n attrs [] k e = absurd (cc)
placed_at n attrs (g ∷ gs) k e = step (same_attrs g attrs) refl (placed_at (n + 1) attrs gs k) e
  where
    step : (b : Bool) → same_attrs g attrs ≡ b → (number_from (n + 1) attrs gs ≡ Some k → (j : ℕ) × (k ≡ n + 1 + j) × (slice_get gs j ≡ Some attrs)) → cond b (Some n) (number_from (n + 1) attrs gs) ≡ Some k → (j : ℕ) × (k ≡ n + j) × (slice_get (g ∷ gs) j ≡ Some attrs)
    step true i more e = let d = same_some e in (0, omega arith, ap Some ((attrs_decide g attrs).0 i))
    step false i more e = let w = more e in let d = w.1 in (suc w.0, omega arith, w.2)

-- whether a list has a number
abbrev Has : Option ℕ → Type 0
Has None = ⊥
Has (Some n) = Unit {0}

-- more lists behind
still_has : (n : ℕ) (attrs : List Attr) (gs more : List (List Attr)) → Has (number_from n attrs gs) → Has (number_from n attrs (gs ++ more))
still_has n attrs [] more h = absurd h
still_has n attrs (g ∷ gs) more h = step (same_attrs g attrs) (still_has (n + 1) attrs gs more) h
  where
    step : (b : Bool) → (Has (number_from (n + 1) attrs gs) → Has (number_from (n + 1) attrs (gs ++ more))) → Has (cond b (Some n) (number_from (n + 1) attrs gs)) → Has (cond b (Some n) (number_from (n + 1) attrs (gs ++ more)))
    step true f h = tt
    step false f h = f h

added_has : (n : ℕ) (attrs : List Attr) (gs : List (List Attr)) → Has (number_from n attrs (gs ++ attrs ∷ []))
added_has n attrs [] = ap_has (sym (let e = (attrs_decide attrs attrs).1 refl in ap (λ b. cond b (Some n) None) e))
  where
    ap_has : {o : Option ℕ} → Some n ≡ o → Has o
    ap_has e = subst Has e tt
added_has n attrs (g ∷ gs) = step (same_attrs g attrs) (added_has (n + 1) attrs gs)
  where
    step : (b : Bool) → Has (number_from (n + 1) attrs (gs ++ attrs ∷ [])) → Has (cond b (Some n) (number_from (n + 1) attrs (gs ++ attrs ∷ [])))
    step true h = tt
    step false h = h

-- groups only grow
grown : (gs : List (List Attr)) (attrs : List Attr) (o : Option ℕ) → (more : List (List Attr)) × (with_list gs attrs o ≡ gs ++ more)
grown gs attrs (Some n) = ([], sym (append-nil gs))
grown gs [] None = ([], sym (append-nil gs))
grown gs (a ∷ attrs) None = ((a ∷ attrs) ∷ [], refl)

grown_all : (gs : List (List Attr)) (fs : List Function) → (more : List (List Attr)) × (groups_from gs fs ≡ gs ++ more)
grown_all gs [] = ([], sym (append-nil gs))
grown_all gs (f ∷ fs) =
    let own = grown gs f.attrs (number_from 0 f.attrs gs) in
    let rest = grown_all (with_list gs f.attrs (number_from 0 f.attrs gs)) fs in
    (own.0 ++ rest.0, rest.1 ∙ (ap (λ l. l ++ rest.0) own.1 ∙ append_assoc gs own.0 rest.0))

-- a list that isn't empty has a number behind it
with_has : (gs : List (List Attr)) (a : Attr) (attrs : List Attr) (o : Option ℕ) → number_from 0 (a ∷ attrs) gs ≡ o → Has (number_from 0 (a ∷ attrs) (with_list gs (a ∷ attrs) o))
with_has gs a attrs None e = added_has 0 (a ∷ attrs) gs
with_has gs a attrs (Some n) e = subst Has (sym e) tt

numbered : (gs : List (List Attr)) (fs : List Function) (k : ℕ) (f : Function) (a : Attr) (attrs : List Attr) → slice_get fs k ≡ Some f → f.attrs ≡ a ∷ attrs → Has (number_from 0 (a ∷ attrs) (groups_from gs fs))
numbered gs [] k f a attrs e i = absurd (cc)
numbered gs (g ∷ fs) zero f a attrs e i =
    let d : g.attrs ≡ a ∷ attrs = ap (λ f. f.attrs) (same_some e) ∙ i in
    let rest = grown_all (with_list gs g.attrs (number_from 0 g.attrs gs)) fs in
    let own : Has (number_from 0 (a ∷ attrs) (with_list gs g.attrs (number_from 0 g.attrs gs))) = subst (λ l. Has (number_from 0 (a ∷ attrs) (with_list gs l (number_from 0 l gs)))) (sym d) (with_has gs a attrs (number_from 0 (a ∷ attrs) gs) refl) in
    subst (λ l. Has (number_from 0 (a ∷ attrs) l)) (sym rest.1) (still_has 0 (a ∷ attrs) (with_list gs g.attrs (number_from 0 g.attrs gs)) rest.0 own)
numbered gs (g ∷ fs) (suc k) f a attrs e i = numbered (with_list gs g.attrs (number_from 0 g.attrs gs)) fs k f a attrs e i

group_by : (m : Module) (attrs : List Attr) (o : Option ℕ) → number_from 0 attrs (groups_of m) ≡ o → (o ≡ None → attrs ≡ []) → IsGroup (groups_of m) attrs o
group_by m attrs None e h = h refl
group_by m attrs (Some n) e h =
    let w = placed_at 0 attrs (groups_of m) n e in
    let d : n ≡ w.0 = let i = w.1 in omega arith in
    ap (slice_get (groups_of m)) d ∙ w.2

-- What the attributes of a function are printed as stands for them.
pub group_is : (m : Module) (k : ℕ) (f : Function) → slice_get m.funcs k ≡ Some f → IsGroup (groups_of m) f.attrs (number_from 0 f.attrs (groups_of m))
group_is m k f e = group_by m f.attrs (number_from 0 f.attrs (groups_of m)) refl (none f.attrs refl)
  where
    none : (attrs : List Attr) → f.attrs ≡ attrs → number_from 0 f.attrs (groups_of m) ≡ None → f.attrs ≡ []
    none [] i n = i
    none (a ∷ attrs) i n =
        let h = numbered [] m.funcs k f a attrs e i in
        let o : number_from 0 (a ∷ attrs) (groups_of m) ≡ None = ap (λ l. number_from 0 l (groups_of m)) (sym i) ∙ n in
        absurd (subst Has o h)

-- The search after an edge is followed, and after a step.
use Rattle.std.proofs.Common.{◌≡◌, ℕ, ◌+◌, ◌<◌, ◌≤◌, Bool, true, false, List, [], ◌∷◌, ◌++◌, take, suc, ◌↔◌, length, map, refl, sym, ap, ◌∙◌, subst, arith, inl, inr, Contains, slice_get, slice_set, Some, None, Option}
use Rattle.std.proofs.lemmas.Option.{slice_get-map}
use Rattle.std.specs.Option.{option_map}
use Rattle.std.specs.Prelude.{OnOk, IfOk}
use Rattle.std.specs.declared.result.Result.{Result}
use Rattle.std.specs.declared.result.Result.TheVariants as result
use Rattle.ir_values.specs.declared.memory.Memory.{Memory}
use Rattle.graph_cycles.specs.declared.search.Mark.{Mark}
use Rattle.graph_cycles.specs.declared.search.Mark.TheVariants as mark
use Rattle.graph_cycles.specs.declared.search.Search.{Search}
use Rattle.graph_cycles.specs.declared.search.Start.{Start}
use Rattle.graph_cycles.specs.Cycles.{Graph, list_or_none, successors, IsOnCycle, TellsCycles}
use Rattle.graph_cycles.specs.code.Search.{is_done, is_unseen, IsSearch, IsSearchState, IsAt, IsSeen, IsBegin, Opens, Merges, Closes, Follows, Advances, fresh, work, left, closed_from, is_cyclic, first_member}
use Rattle.graph_cycles.proofs.Lists.{same-or, get-some, get-within, get-past, none, length-both, length-push, set-same, set-other}
use Rattle.graph_cycles.proofs.Begins.{IsSearch-begun, IsSearch-done, refitted}
use Rattle.graph_cycles.proofs.Merged.{IsSearch-merged}
use Rattle.graph_cycles.proofs.Closed.{IsSearch-closed}
use Rattle.graph_cycles.proofs.Components.{split}
use Rattle.graph_cycles.proofs.Work.{work-open, work-same, unseen-after}

-- the same search by equal parts
pub same-search : (g : Graph) (ma mb : List Mark) (oa ob ta tb : List ℕ) (sa sb : List Start) → mb ≡ ma → ob ≡ oa → tb ≡ ta → sb ≡ sa → IsSearch g ma oa ta sa → IsSearch g mb ob tb sb
same-search g ma mb oa ob ta tb sa sb m o t s h =
    subst (λ z. IsSearch g mb ob tb z) (sym s) (subst (λ z. IsSearch g mb ob z sa) (sym t) (subst (λ z. IsSearch g mb z ta sa) (sym o) (subst (λ z. IsSearch g z oa ta sa) (sym m) h)))

module _ (g : Graph) (t : ℕ) (old new : Search) (a : IsAt g t old) where
  pub Follows-begun : t < length g → slice_get old.marks t ≡ Some mark.Unseen → Opens g t old new → Follows g t old new
  Follows-begun l u o = record {
    search = same-search g (slice_set old.marks t (mark.Open (length old.opens))) new.marks (old.opens ++ t ∷ []) new.opens (old.targets ++ successors g t) new.targets (old.starts ++ fresh (length old.opens) (length old.targets) ∷ []) new.starts o.marks o.opens o.targets o.starts (IsSearch-begun g old.marks old.opens old.targets t old.starts a.fits a.search u);
    kept = λ v s. subst (λ z. IsSeen z v) (sym o.marks) (kept v s);
    seen = subst (λ z. IsSeen z t) (sym o.marks) (ap is_unseen at-t);
    less = less;
  }
    where
      at-t : slice_get (slice_set old.marks t (mark.Open (length old.opens))) t ≡ Some (mark.Open (length old.opens))
      at-t = set-same old.marks t (mark.Open (length old.opens)) (get-within old.marks t mark.Unseen u)

      kept : (v : ℕ) → IsSeen old.marks v → IsSeen (slice_set old.marks t (mark.Open (length old.opens))) v
      kept v s = elim (same-or t v) [ inl e ↦ subst (λ z. IsSeen (slice_set old.marks t (mark.Open (length old.opens))) z) e (ap is_unseen at-t) | inr n ↦ ap is_unseen (set-other old.marks t v (mark.Open (length old.opens)) n) ∙ s ]

      less : left g new ≤ left g old
      less =
          let w = work-open g old.marks t (length old.opens) l u in
          let m : work g new.marks ≡ work g (slice_set old.marks t (mark.Open (length old.opens))) = ap (work g) o.marks in
          let x : length new.targets ≡ length old.targets + length (successors g t) = ap length o.targets ∙ length-both old.targets (successors g t) in
          let y : length new.starts ≡ length old.starts + 1 = ap length o.starts ∙ length-push old.starts (fresh (length old.opens) (length old.targets)) in
          omega (arith, w, m, x, y)

  pub ok-begun : slice_get old.marks t ≡ Some mark.Unseen → (r : Result (Unit {0}) Memory) → OnOk r (Opens g t old new) → OnOk r (Follows g t old new)
  ok-begun u (result.Ok x) o = Follows-begun (let h = get-within old.marks t mark.Unseen u in let l = a.search.sized in omega (arith, h, l)) u o
  ok-begun u (result.Err e) o = tt

  pub Follows-done : is_done (slice_get old.marks t) ≡ true → new ≡ old → Follows g t old new
  Follows-done d e = subst (λ z. Follows g t old z) (sym e) (record {
    search = IsSearch-done g old.marks old.opens old.targets t old.starts a.fits a.search d;
    kept = λ v s. s;
    seen = seen (slice_get old.marks t) d;
    less = omega arith;
  })
    where
      seen : (o : Option Mark) → is_done o ≡ true → is_unseen o ≡ false
      seen None d = refl
      seen (Some mark.Unseen) d = cc
      seen (Some (mark.Open p)) d = refl
      seen (Some (mark.Closed b)) d = refl

  pub within-open : (p : ℕ) → slice_get old.marks t ≡ Some (mark.Open p) → p < length old.opens
  within-open p e = get-within old.opens p t (a.search.numbered.opened t p e)

  pub Follows-merged : (p : ℕ) → slice_get old.marks t ≡ Some (mark.Open p) → Merges p old new → Follows g t old new
  Follows-merged p e h =
      let m = h.merged g (old.targets ++ t ∷ []) (length old.targets) (refitted g old.marks old.opens old.targets t old.starts a.fits a.search) in
      let f = h.fewer in
      let x : work g new.marks ≡ work g old.marks = ap (work g) h.marks in
      let y : length new.targets ≡ length old.targets = ap length h.targets in
      record {
        search = same-search g old.marks new.marks old.opens new.opens old.targets new.targets (m.before ++ record { members = m.last.members; targets = m.last.targets; cyclic = true } ∷ []) new.starts h.marks h.opens h.targets m.is (IsSearch-merged g old.marks old.opens old.targets t old.starts a.fits a.search p e m.before m.last m.below m.wait_below m.starts_at m.has m.within m.waits_within m.component m.components m.first);
        kept = λ v s. subst (λ z. IsSeen z v) (sym h.marks) s;
        seen = ap (λ z. is_unseen (slice_get z t)) h.marks ∙ ap is_unseen e;
        less = omega (arith, x, y, f);
      }

-- the last component is closed
module _ (g : Graph) (old mid new : Search) (before : List Start) (last : Start) (s : IsSearchState g old) (is : old.starts ≡ before ++ last ∷ []) where
  pub same-last : IsSearch g old.marks old.opens old.targets (before ++ last ∷ [])
  same-last = subst (λ z. IsSearch g old.marks old.opens old.targets z) is s

  pub last-within : last.members ≤ length old.opens
  last-within = let h = (split g old.marks old.opens old.targets (length old.opens) (length old.targets) before last same-last.components).1.nonempty in omega (arith, h)

  pub Advances-closed : length old.targets ≤ last.targets → mid.marks ≡ old.marks → mid.opens ≡ old.opens → mid.targets ≡ old.targets → mid.starts ≡ before → Closes last mid new → Advances g old new
  Advances-closed l em eo et es c = record {
    search = same-search g new.marks new.marks (take last.members old.opens) new.opens old.targets new.targets before new.starts refl (c.opens ∙ ap (take last.members) eo) (c.targets ∙ et) (c.starts ∙ es) (IsSearch-closed g old.marks new.marks old.opens old.targets before last same-last l sized is-closed);
    kept = λ v h. unseen-as v ∙ h;
    less = less;
  }
    where
      sized : length new.marks ≡ length old.marks
      sized = c.sized ∙ ap length em

      is-closed : (w : ℕ) → slice_get new.marks w ≡ closed_from last.members last.cyclic (slice_get old.marks w)
      is-closed w = c.marks w ∙ ap (λ m. closed_from last.members last.cyclic (slice_get m w)) em

      unseen-as : (w : ℕ) → is_unseen (slice_get new.marks w) ≡ is_unseen (slice_get old.marks w)
      unseen-as w = ap is_unseen (is-closed w) ∙ unseen-after last.members last.cyclic (slice_get old.marks w)

      less : left g new < left g old
      less =
          let a = work-same g new.marks old.marks sized unseen-as in
          let b : length new.targets ≡ length old.targets = ap length (c.targets ∙ et) in
          let d : length new.starts ≡ length before = ap length (c.starts ∙ es) in
          let e : length old.starts ≡ length before + 1 = ap length is ∙ length-push before last in
          omega (arith, a, b, d, e)

-- ---- begin and end

fresh-search : (g : Graph) (marks : List Mark) → length marks ≡ length g → ((v : ℕ) (m : Mark) → slice_get marks v ≡ Some m → m ≡ mark.Unseen) → IsSearch g marks [] [] []
fresh-search g marks l u = record {
  sized = l;
  numbered = record { opened = λ v p e. absurd (let h = u v (mark.Open p) e in cc); marked = λ v p e. cc };
  ahead = λ i j x y ij e f. cc;
  closed = closed;
  right = λ v b e. absurd (let h = u v (mark.Closed b) e in cc);
  components = tt;
  first = refl;
}
  where
    out : (v : ℕ) (o : Option (List ℕ)) (m : Option Mark) → slice_get g v ≡ o → slice_get marks v ≡ m → is_done m ≡ true → o ≡ None
    out v None m e f d = refl
    out v (Some vs) None e f d = let a = get-some marks v (let h = get-within g v vs e in omega (arith, h, l)) in absurd (let z : Some a.0 ≡ None = sym a.1 ∙ f in cc)
    out v (Some vs) (Some x) e f d = absurd (let h = u v x f in let k : is_done (Some mark.Unseen) ≡ true = subst (λ z. is_done (Some z) ≡ true) h d in cc)

    closed : (v w : ℕ) → is_done (slice_get marks v) ≡ true → Contains (successors g v) w → is_done (slice_get marks w) ≡ true
    closed v w d c = let h = out v (slice_get g v) (slice_get marks v) refl refl d in absurd (none w (subst (λ o. Contains (list_or_none o) w) h c))

pub IsSearch-begin : (g : Graph) (n : ℕ) (s : Search) → n ≡ length g → IsBegin n s → IsSearchState g s
IsSearch-begin g n s e b = same-search g s.marks s.marks [] s.opens [] s.targets [] s.starts refl b.opens b.targets b.starts (fresh-search g s.marks (b.sized ∙ e) b.unseen)

module _ (g : Graph) (s : Search) (h : IsSearchState g s) (idle : s.starts ≡ []) (seen : (v : ℕ) → v < length g → IsSeen s.marks v) where
  no-opens : length s.opens ≡ 0
  no-opens = subst (λ z. first_member (length s.opens) z ≡ 0) idle h.first

  tells : (i : ℕ) (m : Mark) → slice_get s.marks i ≡ Some m → is_unseen (Some m) ≡ false → (Some (is_cyclic m) ≡ Some true) ↔ IsOnCycle g i
  tells i mark.Unseen e u = absurd (cc)
  tells i (mark.Open p) e u = absurd (get-past s.opens p i (omega (arith, no-opens)) (h.numbered.opened i p e))
  tells i (mark.Closed b) e u = let r = h.right i b e in ((λ q. r.0 (let z : b ≡ true = cc in z)), (λ c. ap Some (r.1 c)))

  pub TellsCycles-end : (on : List Bool) → on ≡ map is_cyclic s.marks → TellsCycles g on
  TellsCycles-end on e = record {
    sized = ap length e ∙ (length-of-map is_cyclic s.marks ∙ h.sized);
    exact = exact;
  }
    where
      length-of-map : {A B : Type 0} (f : A → B) (xs : List A) → length (map f xs) ≡ length xs
      length-of-map f [] = refl
      length-of-map f (x ∷ xs) = ap suc (length-of-map f xs)

      at : (i : ℕ) (m : Mark) → slice_get s.marks i ≡ Some m → slice_get on i ≡ Some (is_cyclic m)
      at i m q = ap (λ l. slice_get l i) e ∙ (slice_get-map is_cyclic s.marks i ∙ ap (option_map is_cyclic) q)

      exact : (i : ℕ) → i < length g → (slice_get on i ≡ Some true) ↔ IsOnCycle g i
      exact i l =
          let m = get-some s.marks i (let z = h.sized in omega (arith, l, z)) in
          let u : is_unseen (Some m.0) ≡ false = ap is_unseen (sym m.1) ∙ seen i l in
          let t = tells i m.0 m.1 u in
          ((λ q. t.0 (sym (at i m.0 m.1) ∙ q)), (λ c. at i m.0 m.1 ∙ t.1 c))

pub ok-tells : (g : Graph) (s : Search) → IsSearchState g s → s.starts ≡ [] → ((v : ℕ) → v < length g → IsSeen s.marks v) → (r : Result (List Bool) Memory) → IfOk r (λ on. on ≡ map is_cyclic s.marks) → IfOk r (TellsCycles g)
ok-tells g s h idle seen (result.Ok on) e = TellsCycles-end g s h idle seen on e
ok-tells g s h idle seen (result.Err e) m = tt

-- The flags that are told by counting edges join only what may be joined.
use Rattle.std.proofs.Common.{◌≡◌, ℕ, zero, suc, ◌+◌, ◌<◌, Bool, true, false, Some, List, [], ◌∷◌, refl, sym, ap, ◌∙◌, subst, arith}
use Rattle.std.specs.Prelude.{◌==◌, if◌then◌else◌, slice_get}
use Rattle.std.specs.Cmp.{unsigned_Decides}
use Rattle.std.proofs.lemmas.Bool.{and_parts}
use Rattle.kept_items.specs.declared.val.Dyn.{Dyn}
use Rattle.path_search.specs.declared.visit.Link.{Link}
use Rattle.fused_parts.specs.declared.flags.Entered.{Entered}
use Rattle.fused_parts.specs.declared.flags.Entered.TheVariants.{Never, Once, Often}
use Rattle.fused_parts.specs.Nodes.{Links, Node, entered, entered_by, is_once, joins, joins_from, leads_only, more}
use Rattle.fused_parts.specs.Ranks.{Fuses, goes_on}

clash : true ≡ false → ⊥
clash e = cc

-- ---- two nodes with an edge to k

module _ (k : ℕ) where
  -- some link leads there
  record Leads (links : Links) : Type 0 where
    place : ℕ
    link : Link (List Dyn)
    is : slice_get links place ≡ Some link
    there : (link.to == k) ≡ true

  data Some_times (e : Entered) : Type 0 where
    once : e ≡ Once → Some_times e
    often : e ≡ Often → Some_times e

  links-often : (links : Links) → entered_by k links Often ≡ Often
  links-often [] = refl
  links-often (l ∷ links) = by-test (l.to == k) (links-often links)
    where
      by-test : (b : Bool) → entered_by k links Often ≡ Often → entered_by k links (if b then more Often else Often) ≡ Often
      by-test true h = h
      by-test false h = h

  often-stays : (xs : List Node) → entered k xs Often ≡ Often
  often-stays [] = refl
  often-stays (x ∷ xs) = ap (entered k xs) (links-often x.links) ∙ often-stays xs

  links-stay : (links : Links) (e : Entered) → Some_times e → Some_times (entered_by k links e)
  links-stay links e (often h) = often (ap (entered_by k links) h ∙ links-often links)
  links-stay [] e (once h) = once h
  links-stay (l ∷ links) e (once h) = subst (λ f. Some_times (entered_by k links (if l.to == k then more f else f))) (sym h) (by-test (l.to == k) (links-stay links Once (once refl)))
    where
      by-test : (b : Bool) → Some_times (entered_by k links Once) → Some_times (entered_by k links (if b then more Once else Once))
      by-test true ih = often (links-often links)
      by-test false ih = ih

  -- a link more
  after : Entered → Entered
  after e = more e

  more-times : (e : Entered) → Some_times (more e)
  more-times Never = once refl
  more-times Once = often refl
  more-times Often = often refl

  more-often : (e : Entered) → Some_times e → more e ≡ Often
  more-often e (once h) = ap more h
  more-often e (often h) = ap more h

  entered-once : (links : Links) (e : Entered) → Leads links → Some_times (entered_by k links e)
  entered-once links e h = by-place links e h.place h.link h.is h.there
    where
      by-place : (links : Links) (e : Entered) (p : ℕ) (l : Link (List Dyn)) → slice_get links p ≡ Some l → (l.to == k) ≡ true → Some_times (entered_by k links e)
      by-place [] e p l h t = cc
      by-place (x ∷ links) e zero l h t =
          let s : x ≡ l = cc in
          subst (λ b. Some_times (entered_by k links (if b then more e else e))) (sym (ap (λ y. y.to == k) s ∙ t)) (links-stay links (more e) (more-times e))
      by-place (x ∷ links) e (suc p) l h t = by-place links (if x.to == k then more e else e) p l h t

  entered-again : (links : Links) (e : Entered) → Some_times e → Leads links → entered_by k links e ≡ Often
  entered-again links e s h = by-place links e s h.place h.link h.is h.there
    where
      by-place : (links : Links) (e : Entered) → Some_times e → (p : ℕ) (l : Link (List Dyn)) → slice_get links p ≡ Some l → (l.to == k) ≡ true → entered_by k links e ≡ Often
      by-place [] e s p l h t = cc
      by-place (x ∷ links) e s zero l h t =
          let q : x ≡ l = cc in
          ap (λ b. entered_by k links (if b then more e else e)) (ap (λ y. y.to == k) q ∙ t) ∙ ap (entered_by k links) (more-often e s) ∙ links-often links
      by-place (x ∷ links) e s (suc p) l h t = by-test (x.to == k) (λ e' s'. by-place links e' s' p l h t)
        where
          by-test : (b : Bool) → ((e' : Entered) → Some_times e' → entered_by k links e' ≡ Often) → entered_by k links (if b then more e else e) ≡ Often
          by-test true ih = ih (more e) (more-times e)
          by-test false ih = ih e s

  later : (xs : List Node) (e : Entered) → Some_times e → (j : ℕ) (y : Node) → slice_get xs j ≡ Some y → Leads y.links → entered k xs e ≡ Often
  later [] e s j y h l = cc
  later (x ∷ xs) e s zero y h l =
      let q : y ≡ x = cc in
      ap (entered k xs) (entered-again x.links e s (subst (λ z. Leads z.links) q l)) ∙ often-stays xs
  later (x ∷ xs) e s (suc j) y h l = later xs (entered_by k x.links e) (links-stay x.links e s) j y h l

  twice : (xs : List Node) (e : Entered) (i j : ℕ) (x y : Node) → i < j → slice_get xs i ≡ Some x → slice_get xs j ≡ Some y → Leads x.links → Leads y.links → entered k xs e ≡ Often
  twice [] e i j x y lt h g a b = cc
  twice (z ∷ xs) e zero zero x y lt h g a b = absurd (omega (arith, lt))
  twice (z ∷ xs) e zero (suc j) x y lt h g a b =
      let q : x ≡ z = cc in
      later xs (entered_by k z.links e) (entered-once z.links e (subst (λ w. Leads w.links) q a)) j y g b
  twice (z ∷ xs) e (suc i) zero x y lt h g a b = absurd (omega (arith, lt))
  twice (z ∷ xs) e (suc i) (suc j) x y lt h g a b = twice xs (entered_by k z.links e) i j x y (omega (arith, lt)) h g a b

-- ---- what a flag says

record Joins (all : List Node) (k : ℕ) (xs : List Node) (i : ℕ) : Type 0 where
  node : Node
  is : slice_get xs i ≡ Some node
  only : leads_only k node.links ≡ true
  single : is_once (entered k all Never) ≡ true

joins-at : (all : List Node) (n : ℕ) (xs : List Node) (i k : ℕ) → k ≡ suc (n + i) → goes_on xs (joins_from all n xs) i ≡ true → Joins all k xs i
joins-at all n [] i k e h = cc
joins-at all n (x ∷ []) i k e h = cc
joins-at all n (x ∷ y ∷ xs) zero k e h =
    let s : k ≡ suc n = (omega (arith, e)) in
    let p = and_parts (leads_only (suc n) x.links) (is_once (entered (suc n) all Never)) h in
    record { node = x; is = refl; only = ap (λ z. leads_only z x.links) s ∙ p.0; single = ap (λ z. is_once (entered z all Never)) s ∙ p.1 }
joins-at all n (x ∷ y ∷ xs) (suc i) k e h =
    let r = joins-at all (suc n) (y ∷ xs) i k (omega (arith, e)) h in
    record { node = r.node; is = r.is; only = r.only; single = r.single }

only-link : (k : ℕ) (links : Links) → leads_only k links ≡ true → (args : List Dyn) × (links ≡ (record { to = k; label = args }) ∷ [])
only-link k [] h = cc
only-link k (l ∷ []) h = (l.label, ap (λ z. (record { to = z; label = l.label }) ∷ []) ((unsigned_Decides l.to k).0 h))
only-link k (l ∷ other ∷ links) h = cc

one-leads : (k : ℕ) (links : Links) → leads_only k links ≡ true → Leads k links
one-leads k [] h = cc
one-leads k (l ∷ []) h = record { place = 0; link = l; is = refl; there = h }
one-leads k (l ∷ other ∷ links) h = cc

data Order (i j : ℕ) : Type 0 where
  below : i < j → Order i j
  above : j < i → Order i j
  same : i ≡ j → Order i j

order : (i j : ℕ) → Order i j
order zero zero = same refl
order zero (suc j) = below (omega arith)
order (suc i) zero = above (omega arith)
order (suc i) (suc j) = up (order i j)
  where
    up : Order i j → Order (suc i) (suc j)
    up (below h) = below (omega (arith, h))
    up (above h) = above (omega (arith, h))
    up (same h) = same (ap suc h)

-- no edge leads to the first configuration
abbrev pub NoneToFirst : List Node → Type 0
NoneToFirst nodes = (i : ℕ) (x : Node) (q : ℕ) (l : Link (List Dyn)) → slice_get nodes i ≡ Some x → slice_get x.links q ≡ Some l → l.to ≡ 0 → ⊥

module _ (nodes : List Node) (none : NoneToFirst nodes) where
  onward : (i : ℕ) (x : Node) → slice_get nodes i ≡ Some x → goes_on nodes (joins nodes) i ≡ true
      → (args : List Dyn) × (x.links ≡ (record { to = suc i; label = args }) ∷ [])
  onward i x h g =
      let r = joins-at nodes 0 nodes i (suc i) (omega arith) g in
      let s : r.node ≡ x = same-some r.node x (sym r.is ∙ h) in
      let o = only-link (suc i) r.node.links r.only in
      (o.0, sym (ap (λ y. y.links) s) ∙ o.1)
    where
      same-some : (a b : Node) → Some a ≡ Some b → a ≡ b
      same-some a b e = cc

  begins-at : (i : ℕ) (x : Node) (q : ℕ) (l : Link (List Dyn)) → slice_get nodes i ≡ Some x → goes_on nodes (joins nodes) i ≡ false
      → slice_get x.links q ≡ Some l → (j : ℕ) → l.to ≡ suc j → (b : Bool) → goes_on nodes (joins nodes) j ≡ b → b ≡ false
  begins-at i x q l h off g j e false f = refl
  begins-at i x q l h off g j e true f =
      let r = joins-at nodes 0 nodes j (suc j) (omega arith) f in
      let a : Leads (suc j) x.links = record { place = q; link = l; is = g; there = (unsigned_Decides l.to (suc j)).1 e } in
      let b : Leads (suc j) r.node.links = one-leads (suc j) r.node.links r.only in
      absurd (by-order r.node r.is r.single a b (order i j))
    where
      not-once : (e : Entered) → e ≡ Often → is_once e ≡ true → ⊥
      not-once e o h = clash (sym h ∙ ap is_once o)

      by-order : (y : Node) → slice_get nodes j ≡ Some y → is_once (entered (suc j) nodes Never) ≡ true → Leads (suc j) x.links → Leads (suc j) y.links → Order i j → ⊥
      by-order y is single a b (below lt) = not-once (entered (suc j) nodes Never) (twice (suc j) nodes Never i j x y lt h is a b) single
      by-order y is single a b (above lt) = not-once (entered (suc j) nodes Never) (twice (suc j) nodes Never j i y x lt is h b a) single
      by-order y is single a b (same s) = clash (sym f ∙ ap (goes_on nodes (joins nodes)) (sym s) ∙ off)

  pub flags-fuse : Fuses nodes (joins nodes)
  flags-fuse = record {
    onward = onward;
    begins = λ i x q l h off g. by-number i x q l h off g l.to refl;
  }
    where
      by-number : (i : ℕ) (x : Node) (q : ℕ) (l : Link (List Dyn)) → slice_get nodes i ≡ Some x → goes_on nodes (joins nodes) i ≡ false
          → slice_get x.links q ≡ Some l → (n : ℕ) → l.to ≡ n → (j : ℕ) × (l.to ≡ suc j) × (goes_on nodes (joins nodes) j ≡ false)
      by-number i x q l h off g zero e = absurd (none i x q l h g e)
      by-number i x q l h off g (suc j) e = (j, e, begins-at i x q l h off g j e (goes_on nodes (joins nodes) j) refl)

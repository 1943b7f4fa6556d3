-- The split graph, and what its cycles tell.
use Rattle.std.proofs.Common.{◌≡◌, ◌⊎◌, ◌↔◌, inl, inr, ⊎_elim, ℕ, zero, suc, ◌+◌, ◌-◌, ◌<◌, ◌≤◌, ltb, Bool, true, false, if◌then◌else◌, List, [], ◌∷◌, ◌++◌, Option, None, Some, length, map, slice_get, Contains, refl, sym, ap, ◌∙◌, subst, arith}
use Rattle.std.proofs.lemmas.Bool.{cases_lt}
use Rattle.std.proofs.lemmas.Bool.Decides.{nat_tests}
use Rattle.std.proofs.lemmas.List.Elements.{Contains-append_left, Contains-append_right, Contains-append_cases}
use Rattle.graph_cycles.specs.Cycles.{Graph, list_or_none, successors, Reaches, TellsCycles}
use Rattle.graph_cycles.specs.Split.{IsSplit, LeadsBack}
use Rattle.returning_edges.specs.Returns.{IsClosed, AreReturning}
use Rattle.returning_edges.specs.code.Split.{numbers_from, all_targets, edge_lists, singles, split, or_not, mark, chosen_one, chosen, chosen_from}

-- ---- lists by number

here : {A : Type 0} (xs : List A) (i : ℕ) (x : A) → slice_get xs i ≡ Some x → Contains xs x
here [] i x e = cc
here (y ∷ ys) zero x e = let q : y ≡ x = cc in (zero, omega arith, q)
here (y ∷ ys) (suc i) x e = let h = here ys i x e in (suc h.0, omega (arith, h.1), h.2)

first : {A : Type 0} (y : A) (ys : List A) → Contains (y ∷ ys) y
first y ys = (zero, omega arith, refl)

later : {A : Type 0} (y x : A) (ys : List A) → Contains ys x → Contains (y ∷ ys) x
later y x ys c = (suc c.0, omega (arith, c.1), c.2)

cases : {A : Type 0} (y x : A) (ys : List A) → Contains (y ∷ ys) x → (y ≡ x) ⊎ Contains ys x
cases y x ys (zero, l, e) = inl e
cases y x ys (suc k, l, e) = inr (k, omega arith, e)

record Stands {A : Type 0} (xs : List A) (x : A) : Type 0 where
  index : ℕ
  is : slice_get xs index ≡ Some x

stands : {A : Type 0} (xs : List A) (x : A) → Contains xs x → Stands xs x
stands [] x h = absurd (omega (arith, h.1))
stands (y ∷ ys) x (zero, l, e) = record { index = zero; is = ap Some e }
stands (y ∷ ys) x (suc k, l, e) = let h = stands ys x (k, omega (arith, l), e) in record { index = suc h.index; is = h.is }

get-within : {A : Type 0} (xs : List A) (i : ℕ) (x : A) → slice_get xs i ≡ Some x → i < length xs
get-within [] i x e = cc
get-within (y ∷ ys) zero x e = omega arith
get-within (y ∷ ys) (suc i) x e = let h = get-within ys i x e in omega (arith, h)

get-past : {A : Type 0} (xs : List A) (i : ℕ) → length xs ≤ i → slice_get xs i ≡ None
get-past [] i l = refl
get-past (x ∷ xs) zero l = absurd (omega (arith, l))
get-past (x ∷ xs) (suc i) l = get-past xs i (omega (arith, l))

get-left : {A : Type 0} (xs ys : List A) (i : ℕ) → i < length xs → slice_get (xs ++ ys) i ≡ slice_get xs i
get-left [] ys i l = absurd (omega (arith, l))
get-left (x ∷ xs) ys zero l = refl
get-left (x ∷ xs) ys (suc i) l = get-left xs ys i (omega (arith, l))

get-right : {A : Type 0} (xs ys : List A) (i : ℕ) → slice_get (xs ++ ys) (length xs + i) ≡ slice_get ys i
get-right [] ys i = let e : 0 + i ≡ i = omega arith in ap (slice_get ys) e
get-right (x ∷ xs) ys i = let e : suc (length xs) + i ≡ suc (length xs + i) = omega arith in ap (slice_get (x ∷ (xs ++ ys))) e ∙ get-right xs ys i

get-map : {A B : Type 0} (f : A → B) (xs : List A) (i : ℕ) (x : A) → slice_get xs i ≡ Some x → slice_get (map f xs) i ≡ Some (f x)
get-map f [] i x e = cc
get-map f (y ∷ xs) zero x e = let q : y ≡ x = cc in ap (λ z. Some (f z)) q
get-map f (y ∷ xs) (suc i) x e = get-map f xs i x e

length-both : {A : Type 0} (xs ys : List A) → length (xs ++ ys) ≡ length xs + length ys
length-both [] ys = omega arith
length-both (x ∷ xs) ys = let h = length-both xs ys in omega (arith, h)

-- ---- numbers in a row

number-at : (n k j : ℕ) → j < k → slice_get (numbers_from n k) j ≡ Some (n + j)
number-at n zero j l = absurd (omega (arith, l))
number-at n (suc k) zero l = let e : n ≡ n + 0 = omega arith in ap Some e
number-at n (suc k) (suc j) l = number-at (suc n) k j (omega (arith, l)) ∙ (let e : suc n + j ≡ n + suc j = omega arith in ap Some e)

numbers-length : (n k : ℕ) → length (numbers_from n k) ≡ k
numbers-length n zero = refl
numbers-length n (suc k) = ap suc (numbers-length (suc n) k)

record InRow (n k e : ℕ) : Type 0 where
  index : ℕ
  below : index < k
  is : e ≡ n + index

in-row : (n k e : ℕ) → Contains (numbers_from n k) e → InRow n k e
in-row n k e h =
    let s = stands (numbers_from n k) e h in
    let w = get-within (numbers_from n k) s.index e s.is in
    let l = numbers-length n k in
    let b : s.index < k = omega (arith, w, l) in
    let q : Some (n + s.index) ≡ Some e = sym (number-at n k s.index b) ∙ s.is in
    record { index = s.index; below = b; is = (let r : e ≡ n + s.index = cc in r) }

-- ---- where the edges of a node stand

-- how many edges leave the nodes before u
abbrev offset : Graph → ℕ → ℕ
offset [] u = 0
offset (vs ∷ g) zero = 0
offset (vs ∷ g) (suc u) = length vs + offset g u

lists-length : (n : ℕ) (g : Graph) → length (edge_lists n g) ≡ length g
lists-length n [] = refl
lists-length n (vs ∷ g) = ap suc (lists-length (n + length vs) g)

list-at : (n : ℕ) (g : Graph) (u : ℕ) (vs : List ℕ) → slice_get g u ≡ Some vs → slice_get (edge_lists n g) u ≡ Some (numbers_from (n + offset g u) (length vs))
list-at n [] u vs e = cc
list-at n (ws ∷ g) zero vs e = let q : ws ≡ vs = cc in let z : n ≡ n + 0 = omega arith in ap (λ k. Some (numbers_from k (length ws))) z ∙ ap (λ l. Some (numbers_from (n + 0) (length l))) q
list-at n (ws ∷ g) (suc u) vs e = list-at (n + length ws) g u vs e ∙ (let z : (n + length ws) + offset g u ≡ n + (length ws + offset g u) = omega arith in ap (λ k. Some (numbers_from k (length vs))) z)

target-at : (g : Graph) (u j : ℕ) (vs : List ℕ) → slice_get g u ≡ Some vs → j < length vs → slice_get (all_targets g) (offset g u + j) ≡ slice_get vs j
target-at [] u j vs e l = cc
target-at (ws ∷ g) zero j vs e l =
    let q : ws ≡ vs = cc in
    let z : 0 + j ≡ j = omega arith in
    ap (slice_get (ws ++ all_targets g)) z ∙ get-left ws (all_targets g) j (subst (λ xs. j < length xs) (sym q) l) ∙ ap (λ xs. slice_get xs j) q
target-at (ws ∷ g) (suc u) j vs e l =
    let z : (length ws + offset g u) + j ≡ length ws + (offset g u + j) = omega arith in
    ap (slice_get (ws ++ all_targets g)) z ∙ get-right ws (all_targets g) (offset g u + j) ∙ target-at g u j vs e l

-- the source of the edge of this number, counted from node u on
abbrev source-by : ℕ → (ℕ → ℕ → ℕ) → ℕ → ℕ → Bool → ℕ
source-by u rest k i true = u
source-by u rest k i false = rest (suc u) (i - k)

abbrev source-from : Graph → ℕ → ℕ → ℕ
source-from [] u i = u
source-from (vs ∷ g) u i = source-by u (λ w j. source-from g w j) (length vs) i (ltb i (length vs))

lt-true : (i k : ℕ) → i < k → ltb i k ≡ true
lt-true i k l = grind (arith, nat_tests)

lt-false : (i k : ℕ) → k ≤ i → ltb i k ≡ false
lt-false i k l = grind (arith, nat_tests)

source-is : (g : Graph) (w u j : ℕ) (vs : List ℕ) → slice_get g u ≡ Some vs → j < length vs → source-from g w (offset g u + j) ≡ w + u
source-is [] w u j vs e l = cc
source-is (ws ∷ g) w zero j vs e l =
    let q : ws ≡ vs = cc in
    let k : length ws ≡ length vs = ap length q in
    let t = lt-true (0 + j) (length ws) (omega (arith, k, l)) in
    ap (source-by w (λ a b. source-from g a b) (length ws) (0 + j)) t ∙ (let z : w ≡ w + 0 = omega arith in z)
source-is (ws ∷ g) w (suc u) j vs e l =
    let t = lt-false ((length ws + offset g u) + j) (length ws) (omega arith) in
    let z : ((length ws + offset g u) + j) - length ws ≡ offset g u + j = omega arith in
    ap (source-by w (λ a b. source-from g a b) (length ws) ((length ws + offset g u) + j)) t
    ∙ ap (source-from g (suc w)) z ∙ source-is g (suc w) u j vs e l ∙ (let r : suc w + u ≡ w + suc u = omega arith in r)

-- each target is led to
record LedTo (g : Graph) (v : ℕ) : Type 0 where
  from : ℕ
  edge : Contains (successors g from) v

target-led : (g : Graph) (i v : ℕ) → slice_get (all_targets g) i ≡ Some v → LedTo g v
target-led [] i v e = cc
target-led (vs ∷ g) i v e = ⊎_elim
    (λ (l : i < length vs). record { from = 0; edge = here vs i v (sym (get-left vs (all_targets g) i l) ∙ e) })
    (λ (l : length vs ≤ i).
    let z : length vs + (i - length vs) ≡ i = omega (arith, l) in
    let h = target-led g (i - length vs) v (sym (get-right vs (all_targets g) (i - length vs)) ∙ ap (slice_get (vs ++ all_targets g)) z ∙ e) in
    record { from = suc h.from; edge = h.edge })
    (cases_lt i (length vs))

-- ---- the split graph

module _ (g : Graph) where
  abbrev n : ℕ
  n = length g

  abbrev h : Graph
  h = split g

  abbrev target-or : Option ℕ → ℕ
  target-or None = 0
  target-or (Some v) = v

  abbrev source : ℕ → ℕ
  source e = source-from g 0 (e - length g)

  abbrev target : ℕ → ℕ
  target e = target-or (slice_get (all_targets g) (e - length g))

  node-list : (u : ℕ) (vs : List ℕ) → slice_get g u ≡ Some vs → slice_get h u ≡ Some (numbers_from (n + offset g u) (length vs))
  node-list u vs e =
      let w = get-within g u vs e in
      let l = lists-length n g in
      get-left (edge_lists n g) (singles (all_targets g)) u (omega (arith, w, l)) ∙ list-at n g u vs e

  edge-list : (i v : ℕ) → slice_get (all_targets g) i ≡ Some v → slice_get h (n + i) ≡ Some (v ∷ [])
  edge-list i v e =
      let l = lists-length n g in
      ap (λ k. slice_get h (k + i)) (sym l) ∙ get-right (edge_lists n g) (singles (all_targets g)) i ∙ get-map (λ x. x ∷ []) (all_targets g) i v e

  no-list : (i : ℕ) → slice_get (all_targets g) i ≡ None → slice_get h (n + i) ≡ None
  no-list i e = ap (λ k. slice_get h (k + i)) (sym (lists-length n g)) ∙ get-right (edge_lists n g) (singles (all_targets g)) i ∙ at (all_targets g) i e
    where
      at : (vs : List ℕ) (i : ℕ) → slice_get vs i ≡ None → slice_get (singles vs) i ≡ None
      at [] i e = refl
      at (v ∷ vs) zero e = cc
      at (v ∷ vs) (suc i) e = at vs i e

  node : (u : ℕ) → u < n → (list : List ℕ) × (slice_get g u ≡ Some list)
  node u l = at g u l
    where
      at : (xs : Graph) (i : ℕ) → i < length xs → (ys : List ℕ) × (slice_get xs i ≡ Some ys)
      at [] i l = absurd (omega (arith, l))
      at (x ∷ xs) zero l = (x, refl)
      at (x ∷ xs) (suc i) l = at xs i (omega (arith, l))

  succ-is : (f : Graph) (u : ℕ) (vs : List ℕ) → slice_get f u ≡ Some vs → successors f u ≡ vs
  succ-is f u vs e = ap list_or_none e

  module _ (u j v : ℕ) (vs : List ℕ) (e : slice_get g u ≡ Some vs) (at : slice_get vs j ≡ Some v) where
    within : j < length vs
    within = get-within vs j v at

    abbrev edge : ℕ
    edge = n + (offset g u + j)

    back : edge - n ≡ offset g u + j
    back = omega arith

    target-here : slice_get (all_targets g) (offset g u + j) ≡ Some v
    target-here = target-at g u j vs e within ∙ at

    pub target-of : target edge ≡ v
    target-of = ap (λ i. target-or (slice_get (all_targets g) i)) back ∙ ap target-or target-here

    pub source-of : source edge ≡ u
    source-of = ap (source-from g 0) back ∙ source-is g 0 u j vs e within ∙ (let z : 0 + u ≡ u = omega arith in z)

    pub to-edge-node : Contains (successors h u) edge
    to-edge-node =
        let z : (n + offset g u) + j ≡ edge = omega arith in
        subst (λ xs. Contains xs edge) (sym (succ-is h u (numbers_from (n + offset g u) (length vs)) (node-list u vs e)))
        (here (numbers_from (n + offset g u) (length vs)) j edge (number-at (n + offset g u) (length vs) j within ∙ ap Some z))

    pub from-edge-node : Contains (successors h edge) v
    from-edge-node = subst (λ xs. Contains xs v) (sym (succ-is h edge (v ∷ []) (edge-list (offset g u + j) v target-here))) (here (v ∷ []) 0 v refl)

  node-edges : (u e : ℕ) → u < n → Contains (successors h u) e → (n ≤ e) × (source e ≡ u) × Contains (successors g u) (target e)
  node-edges u e l c =
      let k = node u l in
      let r = in-row (n + offset g u) (length k.0) e (subst (λ xs. Contains xs e) (succ-is h u (numbers_from (n + offset g u) (length k.0)) (node-list u k.0 k.1)) c) in
      let v = value k.0 r.index r.below in
      let z : n + (offset g u + r.index) ≡ e = (let i = r.is in omega (arith, i)) in
      let i = r.is in (
        omega (arith, i),
        subst (λ x. source x ≡ u) z (source-of u r.index v.0 k.0 k.1 v.1),
        subst (λ x. Contains (successors g u) (target x)) z (subst (λ w. Contains (successors g u) w) (sym (target-of u r.index v.0 k.0 k.1 v.1)) (subst (λ xs. Contains xs v.0) (sym (succ-is g u k.0 k.1)) (here k.0 r.index v.0 v.1))),
      )
    where
      value : (xs : List ℕ) (i : ℕ) → i < length xs → (x : ℕ) × (slice_get xs i ≡ Some x)
      value [] i l = absurd (omega (arith, l))
      value (x ∷ xs) zero l = (x, refl)
      value (x ∷ xs) (suc i) l = value xs i (omega (arith, l))

  edge-of : (u v : ℕ) → u < n → Contains (successors g u) v → (e : ℕ) × (n ≤ e) × Contains (successors h u) e × Contains (successors h e) v
  edge-of u v l c =
      let k = node u l in
      let s = stands k.0 v (subst (λ xs. Contains xs v) (succ-is g u k.0 k.1) c) in
      (n + (offset g u + s.index), omega arith, to-edge-node u s.index v k.0 k.1 s.is, from-edge-node u s.index v k.0 k.1 s.is)

  module _ (closed : IsClosed g) where
    edge-target : (e v : ℕ) → n ≤ e → Contains (successors h e) v → (v ≡ target e) × (v < n)
    edge-target e v l c = at (slice_get (all_targets g) (e - n)) refl
      where
        z : n + (e - n) ≡ e
        z = omega (arith, l)

        c' : Contains (successors h (n + (e - n))) v
        c' = subst (λ x. Contains (successors h x) v) (sym z) c

        at : (o : Option ℕ) → slice_get (all_targets g) (e - n) ≡ o → (v ≡ target e) × (v < n)
        at None q = absurd (let w = stands [] v (subst (λ xs. Contains xs v) (ap list_or_none (no-list (e - n) q)) c') in no-element w.index w.is)
          where
            no-element : (i : ℕ) → slice_get [] i ≡ Some v → ⊥
            no-element i e = cc
        at (Some t) q =
            let w = only (subst (λ xs. Contains xs v) (succ-is h (n + (e - n)) (t ∷ []) (edge-list (e - n) t q)) c') in
            let d = target-led g (e - n) t q in
            (sym w ∙ sym (ap target-or q), subst (λ x. x < n) w (closed d.from t d.edge))
          where
            only : Contains (t ∷ []) v → t ≡ v
            only (zero, l, e) = e
            only (suc k, l, e) = absurd (omega (arith, l))

    is-split : IsSplit g h n source target
    is-split = record { from_node = node-edges; to_edge = edge-of; from_edge = edge-target }

    marked : (on : List Bool) (e : ℕ) → (slice_get on e ≡ Some true) ↔ (mark on e ≡ true)
    marked on e = at (slice_get on e)
      where
        at : (o : Option Bool) → (o ≡ Some true) ↔ (or_not o ≡ true)
        at None = ((λ q. cc), (λ q. cc))
        at (Some true) = ((λ q. refl), (λ q. refl))
        at (Some false) = ((λ q. cc), (λ q. cc))

    -- ---- the edges that are chosen

    module _ (on : List Bool) where
      record Chosen (u v : ℕ) (es : List ℕ) : Type 0 where
        node : ℕ
        edge : Contains es node
        marked : mark on node ≡ true
        target : Contains (successors h node) v

      paired : (u : ℕ) (vs : List ℕ) (x : ℕ × ℕ) → Contains (map (λ v. (u, v)) vs) x → (x.0 ≡ u) × Contains vs x.1
      paired u [] x c = absurd (omega (arith, c.1))
      paired u (v ∷ vs) x c = elim (cases (u, v) x (map (λ v. (u, v)) vs) c) [ inl e ↦ (sym (ap (λ (y : ℕ × ℕ). y.0) e), subst (λ (y : ℕ × ℕ). Contains (v ∷ vs) y.1) e (first v vs)) | inr k ↦ (let r = paired u vs x k in (r.0, later v x.1 vs r.1)) ]

      pairs : (u v : ℕ) (vs : List ℕ) → Contains vs v → Contains {X = ℕ × ℕ} (map (λ v. (u, v)) vs) (u, v)
      pairs u v [] c = absurd (omega (arith, c.1))
      pairs u v (w ∷ vs) c = elim (cases w v vs c) [ inl e ↦ subst (λ z. Contains {X = ℕ × ℕ} (map (λ v. (u, v)) (w ∷ vs)) (u, z)) e (first (u, w) (map (λ v. (u, v)) vs)) | inr k ↦ later (u, w) (u, v) (map (λ v. (u, v)) vs) (pairs u v vs k) ]

      one-cases : (u v w e : ℕ) → Contains {X = ℕ × ℕ} (chosen_one on h u e) (w, v) → (w ≡ u) × (mark on e ≡ true) × Contains (successors h e) v
      one-cases u v w e c = at (mark on e) refl c
        where
          at : (b : Bool) → mark on e ≡ b → Contains {X = ℕ × ℕ} (if b then map (λ v. (u, v)) (successors h e) else []) (w, v) → (w ≡ u) × (mark on e ≡ true) × Contains (successors h e) v
          at true q d = let r = paired u (successors h e) (w, v) d in (r.0, q, r.1)
          at false q d = absurd (let l = d.1 in omega (arith, l))

      one-has : (u v e : ℕ) → mark on e ≡ true → Contains (successors h e) v → Contains {X = ℕ × ℕ} (chosen_one on h u e) (u, v)
      one-has u v e q c = subst (λ b. Contains {X = ℕ × ℕ} (if b then map (λ v. (u, v)) (successors h e) else []) (u, v)) (sym q) (pairs u v (successors h e) c)

      chosen-cases : (u v w : ℕ) (es : List ℕ) → Contains {X = ℕ × ℕ} (chosen on h u es) (w, v) → (w ≡ u) × Chosen u v es
      chosen-cases u v w [] c = absurd (let l = c.1 in omega (arith, l))
      chosen-cases u v w (e ∷ es) c = elim (Contains-append_cases {X = ℕ × ℕ} (chosen_one on h u e) (chosen on h u es) (w, v) c) [
        | inl k ↦ (let r = one-cases u v w e k in (r.0, record { node = e; edge = first e es; marked = r.1; target = r.2 }))
        | inr k ↦ (let r = chosen-cases u v w es k in (r.0, record { node = r.1.node; edge = later e r.1.node es r.1.edge; marked = r.1.marked; target = r.1.target }))
      ]

      is-chosen : (u v : ℕ) (es : List ℕ) → Chosen u v es → Contains {X = ℕ × ℕ} (chosen on h u es) (u, v)
      is-chosen u v [] k = absurd (let c = k.edge in let l = c.1 in omega (arith, l))
      is-chosen u v (e ∷ es) k = elim (cases e k.node es k.edge) [
        | inl s ↦ Contains-append_left {X = ℕ × ℕ} (chosen_one on h u e) (chosen on h u es) (u, v) (subst (λ z. Contains {X = ℕ × ℕ} (chosen_one on h u z) (u, v)) (sym s) (one-has u v k.node k.marked k.target))
        | inr d ↦ Contains-append_right {X = ℕ × ℕ} (chosen_one on h u e) (chosen on h u es) (u, v) (is-chosen u v es (record { node = k.node; edge = d; marked = k.marked; target = k.target }))
      ]

      from-cases : (a k u v : ℕ) → Contains {X = ℕ × ℕ} (chosen_from on h a k) (u, v) → (u < a + k) × Chosen u v (successors h u)
      from-cases a zero u v c = absurd (omega (arith, c.1))
      from-cases a (suc k) u v c = elim (Contains-append_cases {X = ℕ × ℕ} (chosen on h a (successors h a)) (chosen_from on h (suc a) k) (u, v) c) [ inl d ↦ (let r = chosen-cases a v u (successors h a) d in let e = r.0 in (omega (arith, e), subst (λ z. Chosen z v (successors h z)) (sym r.0) r.1)) | inr d ↦ (let r = from-cases (suc a) k u v d in let l = r.0 in (omega (arith, l), r.1)) ]

      from-has : (a k u v : ℕ) → a ≤ u → u < a + k → Chosen u v (successors h u) → Contains {X = ℕ × ℕ} (chosen_from on h a k) (u, v)
      from-has a zero u v l m c = absurd (omega (arith, l, m))
      from-has a (suc k) u v l m c = ⊎_elim
          (λ (q : a < u). Contains-append_right {X = ℕ × ℕ} (chosen on h a (successors h a)) (chosen_from on h (suc a) k) (u, v) (from-has (suc a) k u v (omega (arith, q)) (omega (arith, m)) c))
          (λ (q : u ≤ a). let e : u ≡ a = omega (arith, l, q) in Contains-append_left {X = ℕ × ℕ} (chosen on h a (successors h a)) (chosen_from on h (suc a) k) (u, v) (subst (λ z. Contains {X = ℕ × ℕ} (chosen on h z (successors h z)) (u, v)) e (is-chosen u v (successors h u) c)))
          (cases_lt a u)

      has-successors : (u v : ℕ) → Contains (successors g u) v → u < n
      has-successors u v c = ⊎_elim (λ (l : u < length g). l) (λ (l : length g ≤ u). absurd (let s = stands [] v (subst (λ xs. Contains xs v) (ap list_or_none (get-past g u l)) c) in nothing s.index s.is)) (cases_lt u (length g))
        where
          nothing : (i : ℕ) → slice_get [] i ≡ Some v → ⊥
          nothing i e = cc

      edge-within : (e v : ℕ) → Contains (successors h e) v → e < length h
      edge-within e v c = ⊎_elim (λ (l : e < length h). l) (λ (l : length h ≤ e). absurd (let s = stands [] v (subst (λ xs. Contains xs v) (ap list_or_none (get-past h e l)) c) in nothing s.index s.is)) (cases_lt e (length h))
        where
          nothing : (i : ℕ) → slice_get [] i ≡ Some v → ⊥
          nothing i e = cc

      pub tells : LeadsBack → TellsCycles h on → (edges : List (ℕ × ℕ)) → edges ≡ chosen_from on h 0 n → AreReturning g edges
      tells law t edges q u v = (there, back)
        where
          there : Contains {X = ℕ × ℕ} edges (u, v) → Contains (successors g u) v × Reaches g v u
          there c =
              let r = from-cases 0 n u v (subst (λ es. Contains {X = ℕ × ℕ} es (u, v)) q c) in
              let l : u < n = (let m = r.0 in omega (arith, m)) in
              let k = r.1 in
              let f = node-edges u k.node l k.edge in
              let e = edge-target k.node v f.0 k.target in
              let w = edge-within k.node v k.target in (
                subst (λ z. Contains (successors g u) z) (sym e.0) f.2,
                (law g h n source target is-split u k.node v l k.edge k.target).0 ((t.exact k.node w).0 ((marked on k.node).1 k.marked)),
              )

          back : Contains (successors g u) v × Reaches g v u → Contains {X = ℕ × ℕ} edges (u, v)
          back c =
              let l = has-successors u v c.0 in
              let e = edge-of u v l c.0 in
              let w = edge-within e.0 v e.3 in
              let m = (marked on e.0).0 ((t.exact e.0 w).1 ((law g h n source target is-split u e.0 v l e.2 e.3).1 c.1)) in
              subst (λ es. Contains {X = ℕ × ℕ} es (u, v)) (sym q) (from-has 0 n u v (omega arith) (omega (arith, l)) (record { node = e.0; edge = e.2; marked = m; target = e.3 }))

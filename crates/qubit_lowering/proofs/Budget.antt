-- The nodes of a graph that is accepted are at most as many as the budget permits.
use Rattle.std.proofs.Common.{◌≡◌, inl, inr, ℕ, zero, suc, ◌<◌, ◌≤◌, ◌⊎◌, Some, List, [], ◌∷◌, ◌++◌, length, refl, sym, ap, ◌∙◌, subst, arith}
use Rattle.std.specs.Prelude.{slice_get, Contains}
use Rattle.std.proofs.lemmas.List.{length-map}
use Rattle.std.proofs.lemmas.Option.{same_Some}
use Rattle.path_search.specs.declared.node.Visited.{Visited}
use Rattle.path_search.specs.declared.reason.Reason.TheVariants.{OverBudget}
use Rattle.path_search.specs.Explored.{Explored, node}
use Rattle.path_search.specs.Openings.{IsFound, IsLast, Opening}
use Rattle.path_search.specs.Paths.{Search, IsBefore, IsSimple}
use Rattle.path_search.specs.Verdict.{over}
use Rattle.path_search.proofs.Frontier.{get_within, listed, place}
use Rattle.path_search.proofs.Lists.{get_last, get_left, length_push}
use Rattle.path_search.proofs.Order.{trans, Numbers, less, equal, more, numbers}

-- ---- lists that are cut

-- behind n elements and one more
record Cut {A : Type 0} (n : ℕ) (xs : List A) : Type 0 where
  front : List A
  last : A
  behind : List A
  whole : xs ≡ (front ++ last ∷ []) ++ behind
  many : length front ≡ n

cut : {A : Type 0} (n : ℕ) (xs : List A) → n < length xs → Cut n xs
cut n [] lt = absurd (omega (arith, lt))
cut zero (x ∷ xs) lt = record { front = []; last = x; behind = xs; whole = refl; many = refl }
cut (suc n) (x ∷ xs) lt =
    let c = cut n xs (omega (arith, lt)) in
    record { front = x ∷ c.front; last = c.last; behind = c.behind; whole = ap (λ z. x ∷ z) c.whole; many = ap suc c.many }

-- an element that stands in the first list
get-front : {A : Type 0} (xs ys : List A) (i : ℕ) (x : A) → i < length xs → slice_get (xs ++ ys) i ≡ Some x → slice_get xs i ≡ Some x
get-front [] ys i x lt e = absurd (omega (arith, lt))
get-front (y ∷ xs) ys zero x lt e = e
get-front (y ∷ xs) ys (suc i) x lt e = get-front xs ys i x (omega (arith, lt)) e

same-last : {A : Type 0} (xs ys : List A) (x y : A) → xs ++ x ∷ [] ≡ ys ++ y ∷ [] → x ≡ y
same-last xs ys x y e =
    let n : length xs ≡ length ys = (let a = ap length e in let b = length_push xs x in let c = length_push ys y in omega (arith, a, b, c)) in
    same_Some x y (sym (get_last xs [] x) ∙ ap (λ z. slice_get z (length xs)) e ∙ ap (slice_get (ys ++ y ∷ [])) n ∙ get_last ys [] y)

last-there : {A : Type 0} (xs : List A) → 0 < length xs → (x : A) × (front : List A) × (xs ≡ front ++ x ∷ [])
last-there [] lt = absurd (omega (arith, lt))
last-there (x ∷ []) lt = (x, [], refl)
last-there (x ∷ y ∷ xs) lt = let r = last-there (y ∷ xs) (omega arith) in (r.0, x ∷ r.1, ap (λ z. x ∷ z) r.2)

-- ---- the first paths of an opening are an opening

module _ {N K : Type 0} (s : Search N K) (ps front : List (List ℕ)) (p : List ℕ) (behind : List (List ℕ)) (whole : ps ≡ (front ++ p ∷ []) ++ behind) (o : Opening s ps) where
  abbrev first : List (List ℕ)
  first = front ++ p ∷ []

  at-whole : (i : ℕ) (q : List ℕ) → slice_get first i ≡ Some q → slice_get ps i ≡ Some q
  at-whole i q e = subst (λ z. slice_get z i ≡ Some q) (sym whole) (get_left first behind i q e)

  contained : (q : List ℕ) → Contains first q → Contains ps q
  contained q c = let t = place first q c in listed ps t.0 q (at-whole t.0 q t.1)

  p-there : slice_get ps (length front) ≡ Some p
  p-there = at-whole (length front) p (get_last front [] p)

  -- the last of all isn't before what the last of these isn't before
  not-after : (q z : List ℕ) → IsLast ps z → (IsBefore p q → ⊥) → IsBefore z q → ⊥
  not-after q z l apart b = by-number (numbers (length front) (length l.0))
    where
      z-there : slice_get ps (length l.0) ≡ Some z
      z-there = subst (λ x. slice_get x (length l.0) ≡ Some z) (sym l.1) (get_last l.0 [] z)

      by-number : Numbers (length front) (length l.0) → ⊥
      by-number (less h) = apart (trans p z q (o.ordered (length front) (length l.0) p z h p-there z-there) b)
      by-number (equal h) = apart (subst (λ x. IsBefore x q) (same_Some z p (sym z-there ∙ ap (slice_get ps) (sym h) ∙ p-there)) b)
      by-number (more h) =
          let n = ap length l.1 in let m = length_push l.0 z in let k = get_within ps (length front) p p-there in
          absurd (omega (arith, h, n, m, k))

  -- what these must find isn't found by a later one
  found : (q : List ℕ) (g : N) → (IsBefore p q → ⊥) → IsFound s ps q g → IsFound s first q g
  found q g apart f = by-place (place ps f.path f.listed)
    where
      upto : IsBefore p f.path → (f.path ≡ q) ⊎ IsBefore f.path q → ⊥
      upto b (inl e) = apart (subst (IsBefore p) e b)
      upto b (inr c) = apart (trans p f.path q b c)

      by-place : (i : ℕ) × (slice_get ps i ≡ Some f.path) → IsFound s first q g
      by-place t = by-number (numbers (length front) t.0)
        where
          here : t.0 < length first → IsFound s first q g
          here lt = record {
            path = f.path;
            listed = listed first t.0 f.path (get-front first behind t.0 f.path lt (subst (λ z. slice_get z t.0 ≡ Some f.path) whole t.1));
            ends = f.ends;
            upto = f.upto;
          }

          by-number : Numbers (length front) t.0 → IsFound s first q g
          by-number (less h) = absurd (upto (o.ordered (length front) t.0 p f.path h p-there t.1) f.upto)
          by-number (equal h) = here (let n = length_push front p in omega (arith, h, n))
          by-number (more h) = here (let n = length_push front p in omega (arith, h, n))

  some : 0 < length ps
  some = let k = get_within ps (length front) p p-there in omega (arith, k)

  covers : (last q : List ℕ) (g : N) → IsLast first last → IsSimple s q g → (IsBefore last q → ⊥) → IsFound s first q g
  covers last q g l simple apart =
      let is : p ≡ last = same-last front l.0 p last l.1 in
      let not-before : IsBefore p q → ⊥ = λ b. apart (subst (λ z. IsBefore z q) is b) in
      let z = last-there ps some in
      found q g not-before (o.covers z.0 q g (z.1, z.2) simple (not-after q z.0 (z.1, z.2) not-before))

  first-opening : Opening s first
  first-opening = record {
    simple = λ q c. o.simple q (contained q c);
    ordered = λ i j q r lt e f. o.ordered i j q r lt (at-whole i q e) (at-whole j r f);
    distinct = λ q r g c d. o.distinct q r g (contained q c) (contained r d);
    covers = covers;
  }

  p-simple : (g : N) × IsSimple s p g
  p-simple = o.simple p (listed ps (length front) p p-there)

-- ---- so there are no more nodes than the budget permits

pub within_budget : {N K D E : Type 0} (s : Search N K) (C : N → D → List E → Type 0) (nodes : List (Visited N D E)) → Explored s C nodes → length nodes ≤ s.budget
within_budget s C nodes e = by-number (numbers (length nodes) s.budget)
  where
    as-many : length e.lists.paths ≡ length nodes
    as-many = sym e.lists.number ∙ length-map nodes node

    no-more : s.budget < length nodes → ⊥
    no-more lt =
        let c = cut s.budget e.lists.paths (let n = as-many in omega (arith, n, lt)) in
        let g = p-simple s e.lists.paths c.front c.last c.behind c.whole e.lists.opening in
        e.accepts c.last g.0 OverBudget (record {
          simple = g.1;
          reason = over (record {
            paths = c.front ++ c.last ∷ [];
            opening = first-opening s e.lists.paths c.front c.last c.behind c.whole e.lists.opening;
            number = length_push c.front c.last ∙ ap suc c.many;
            last = (c.front, refl);
          });
        })

    by-number : Numbers (length nodes) s.budget → length nodes ≤ s.budget
    by-number (less h) = omega (arith, h)
    by-number (equal h) = omega (arith, h)
    by-number (more h) = absurd (no-more h)

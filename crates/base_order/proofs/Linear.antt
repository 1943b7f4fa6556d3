-- A search in which each node has one successor at most, and no path comes back: its nodes stand in a row.
use Rattle.std.proofs.Common.{◌≡◌, ℕ, zero, suc, ◌<◌, ◌≤◌, false, Option, Some, List, [], ◌∷◌, ◌++◌, length, slice_get, refl, sym, ap, ◌∙◌, subst, arith}
use Rattle.std.proofs.lemmas.List.{length-append}
use Rattle.std.specs.Prelude.{Contains}
use mathlib.Core.Logic.{◌⊎◌, inl, inr}
use Rattle.path_search.specs.declared.reason.Reason.TheVariants.{LeadsBack}
use Rattle.path_search.specs.Openings.{IsFound, ListsAll}
use Rattle.path_search.specs.Paths.{IsBefore, IsEnd, IsPrefix, IsSimple, Search, end_from, successors}
use Rattle.path_search.specs.Verdict.{Accepts, back}
use Rattle.path_search.proofs.Count.{holes}
use Rattle.path_search.proofs.Frontier.{get_some, get_within, listed, place}
use Rattle.path_search.proofs.Lists.{get_last}
use Rattle.path_search.proofs.Order.{equal, less, more, numbers}
use Rattle.path_search.proofs.Walks.{end_cons, end_front, end_on, end_one, one_end, prefix_self, prefix_trans, simple_prefix}

-- ---- paths of first choices

abbrev pub zeros : ℕ → List ℕ
zeros zero = []
zeros (suc n) = 0 ∷ zeros n

length-zeros : (n : ℕ) → length (zeros n) ≡ n
length-zeros zero = refl
length-zeros (suc n) = ap suc (length-zeros n)

zeros-same : (a b : ℕ) → zeros a ≡ zeros b → a ≡ b
zeros-same a b e = sym (length-zeros a) ∙ (ap length e ∙ length-zeros b)

zeros-push : (n : ℕ) → zeros n ++ 0 ∷ [] ≡ zeros (suc n)
zeros-push zero = refl
zeros-push (suc n) = ap (λ l. 0 ∷ l) (zeros-push n)

zeros-prefix : (a b : ℕ) → a ≤ b → IsPrefix (zeros a) (zeros b)
zeros-prefix zero b le = record { rest = zeros b; whole = refl }
zeros-prefix (suc a) zero le = absurd (omega (arith, le))
zeros-prefix (suc a) (suc b) le = let q = zeros-prefix a b (omega (arith, le)) in record { rest = q.rest; whole = ap (λ l. 0 ∷ l) q.whole }

zeros-before : (a b : ℕ) → IsBefore (zeros a) (zeros b) → a < b
unfolding IsBefore
zeros-before zero zero h = absurd h
zeros-before zero (suc b) h = omega arith
zeros-before (suc a) zero h = absurd h
zeros-before (suc a) (suc b) (inl lt) = absurd (omega (arith, lt))
zeros-before (suc a) (suc b) (inr h) = let ih = zeros-before a b h.1 in omega (arith, ih)

same-some : {A : Type 0} (x y : A) → ◌≡◌ {A = Option A} (Some x) (Some y) → x ≡ y
same-some x y e = cc

-- a list that isn't empty has a last element
record HasLast {A : Type 0} (xs : List A) : Type 0 where
  front : List A
  last : A
  whole : xs ≡ front ++ last ∷ []

has-last : {A : Type 0} (x : A) (xs : List A) → HasLast (x ∷ xs)
has-last x [] = record { front = []; last = x; whole = refl }
has-last x (y ∷ xs) = let q = has-last y xs in record { front = x ∷ q.front; last = q.last; whole = ap (λ l. x ∷ l) q.whole }

some-last : {A : Type 0} (xs : List A) (i : ℕ) (x : A) → slice_get xs i ≡ Some x → HasLast xs
some-last [] i x e = cc
some-last (y ∷ xs) i x e = has-last y xs

module _ {N K : Type 0} (s : Search N K) (Good : N → Type 0) (begins : Good s.start) (onward : (g h : N) (i : ℕ) → Good g → slice_get (successors s g) i ≡ Some h → Good h × (i ≡ 0)) where
  path-zeros : (p : List ℕ) (a g : N) → Good a → end_from s a p ≡ Some g → p ≡ zeros (length p)
  path-zeros [] a g h e = refl
  path-zeros (i ∷ p) a g h e =
      let t = end_cons s a g i p e in
      let q = onward a t.by i h t.is in
      ap (λ k. k ∷ p) q.1 ∙ ap (λ l. 0 ∷ l) (path-zeros p t.by g q.0 t.gives)

  good-end : (p : List ℕ) (a g : N) → Good a → end_from s a p ≡ Some g → Good g
  unfolding end_from
  good-end [] a g h e = subst Good (same-some a g e) h
  good-end (i ∷ p) a g h e =
      let t = end_cons s a g i p e in
      let q = onward a t.by i h t.is in
      good-end p t.by g q.0 t.gives

  module _ (nodes : List N) (lists : ListsAll s nodes) where
    abbrev ps : List (List ℕ)
    ps = lists.paths

    listed-end : (i : ℕ) (p : List ℕ) → slice_get ps i ≡ Some p → (g : N) × IsSimple s p g
    listed-end i p e = lists.opening.simple p (listed ps i p e)

    listed-zeros : (i : ℕ) (p : List ℕ) → slice_get ps i ≡ Some p → p ≡ zeros (length p)
    listed-zeros i p e = let q = listed-end i p e in path-zeros p s.start q.0 begins q.1.ends

    rising : (i j : ℕ) (p q : List ℕ) → i < j → slice_get ps i ≡ Some p → slice_get ps j ≡ Some q → length p < length q
    rising i j p q lt e f =
        let b = lists.opening.ordered i j p q lt e f in
        zeros-before (length p) (length q) (subst (λ x. IsBefore x (zeros (length q))) (listed-zeros i p e) (subst (IsBefore p) (listed-zeros j q f) b))

    least : (i : ℕ) (p : List ℕ) → slice_get ps i ≡ Some p → i ≤ length p
    least zero p e = omega arith
    least (suc i) p e =
        let q = get_some ps i (let lt = get_within ps (suc i) p e in omega (arith, lt)) in
        let ih = least i q.0 q.1 in
        let lt = rising i (suc i) q.0 p (omega arith) q.1 e in
        omega (arith, ih, lt)

    -- a listed path is no longer than the last
    at-most-last : (i : ℕ) (p : List ℕ) (l : HasLast ps) → slice_get ps i ≡ Some p → length p ≤ length l.last
    at-most-last i p l e =
        let n : ℕ = length l.front in
        let there : slice_get ps n ≡ Some l.last = ap (λ xs. slice_get xs n) l.whole ∙ get_last l.front [] l.last in
        let lt = get_within ps i p e in
        let many = ap length l.whole ∙ length-append l.front (l.last ∷ []) in
        elim (numbers i n) [
          | less h ↦ (let r = rising i n p l.last h e there in omega (arith, r))
          | equal h ↦ (let z = ap length (same-some p l.last (sym e ∙ (ap (slice_get ps) h ∙ there))) in omega (arith, z))
          | more h ↦ absurd (omega (arith, h, lt, many))
        ]

    -- what is shorter than a listed path is listed before it
    module _ (i : ℕ) (p : List ℕ) (e : slice_get ps i ≡ Some p) (k : ℕ) (short : k < length p) where
      prefix : IsPrefix (zeros k) p
      prefix = subst (IsPrefix (zeros k)) (sym (listed-zeros i p e)) (zeros-prefix k (length p) (omega (arith, short)))

      simple : (g : N) × IsSimple s p g
      simple = listed-end i p e

      end-of : (h : N) × IsEnd s (zeros k) h
      end-of =
          let w = prefix.whole in
          let t = end_front s s.start simple.0 (zeros k) prefix.rest (subst (λ x. IsEnd s x simple.0) w simple.1.ends) in
          (t.by, t.is)

      found : IsFound s ps (zeros k) end-of.0
      found =
          let l = some-last ps i p e in
          let long = at-most-last i p l e in
          let there : slice_get ps (length l.front) ≡ Some l.last = ap (λ xs. slice_get xs (length l.front)) l.whole ∙ get_last l.front [] l.last in
          lists.opening.covers l.last (zeros k) end-of.0 (l.front, l.whole) (simple_prefix s (zeros k) p simple.0 end-of.0 prefix simple.1 end-of.1)
          (λ b. let lt = zeros-before (length l.last) k (subst (λ x. IsBefore x (zeros k)) (listed-zeros (length l.front) l.last there) b) in omega (arith, lt, long, short))

      found-is : (x : List ℕ) → Contains ps x → IsEnd s x end-of.0 → (x ≡ zeros k) ⊎ IsBefore x (zeros k) → x ≡ zeros k
      found-is x c f (inl z) = z
      found-is x c f (inr b) =
          let q = place ps x c in
          let z = listed-zeros q.0 x q.1 in
          let lt = zeros-before (length x) k (subst (λ y. IsBefore y (zeros k)) z b) in
          let pre = prefix_trans x (zeros k) p (subst (λ y. IsPrefix y (zeros k)) (sym z) (zeros-prefix (length x) k (omega (arith, lt)))) prefix in
          simple.1.once x (zeros k) end-of.0 pre prefix f end-of.1

      shorter : (j : ℕ) × (j < i) × (slice_get ps j ≡ Some (zeros k))
      shorter =
          let z = found-is found.path found.listed found.ends found.upto in
          let q = place ps (zeros k) (subst (Contains ps) z found.listed) in
          (q.0, before q.0 q.1, q.1)
        where
          before : (j : ℕ) → slice_get ps j ≡ Some (zeros k) → j < i
          before j f =
              let n = length-zeros k in
              elim (numbers j i) [
                | less h ↦ h
                | equal h ↦ absurd (let z = ap length (same-some p (zeros k) (sym e ∙ (ap (slice_get ps) (sym h) ∙ f))) in omega (arith, z, n, short))
                | more h ↦ absurd (let r = rising i j p (zeros k) h e f in omega (arith, r, n, short))
              ]

    path-length : (i : ℕ) (p : List ℕ) → slice_get ps i ≡ Some p → length p ≡ i
    path-length i p e =
        let up = least i p e in
        let down = holes i (length p) (λ k j. slice_get ps j ≡ Some (zeros k)) (λ k lt. shorter i p e k lt) (λ a b j lt lu f g. zeros-same a b (same-some (zeros a) (zeros b) (sym f ∙ g))) in
        omega (arith, up, down)

    -- node i is what i first choices lead to
    record AtPlace (i : ℕ) (g : N) : Type 0 where
      simple : IsSimple s (zeros i) g
      good : Good g

    at-place : (i : ℕ) (g : N) → slice_get nodes i ≡ Some g → AtPlace i g
    at-place i g e =
        let q = get_some ps i (let n = lists.number in let lt = get_within nodes i g e in omega (arith, n, lt)) in
        let z : q.0 ≡ zeros i = listed-zeros i q.0 q.1 ∙ ap zeros (path-length i q.0 q.1) in
        let ends = lists.ends i q.0 g q.1 e in
        let l = listed-end i q.0 q.1 in
        let same : l.0 ≡ g = one_end s s.start l.0 g q.0 l.1.ends ends in
        record { simple = subst (λ x. IsSimple s x g) z (subst (IsSimple s q.0) same l.1); good = good-end q.0 s.start g begins ends }

    pub good-at : (i : ℕ) (g : N) → slice_get nodes i ≡ Some g → Good g
    good-at i g e = (at-place i g e).good

    -- each leads to the next
    pub next-is : (i : ℕ) (g h : N) → slice_get nodes i ≡ Some g → slice_get nodes (suc i) ≡ Some h → slice_get (successors s g) 0 ≡ Some h
    next-is i g h e f =
        let a = (at-place i g e).simple.ends in
        let b = (at-place (suc i) h f).simple.ends in
        sym (end_on s s.start g (zeros i) (0 ∷ []) a ∙ end_one s g 0) ∙ (ap (end_from s s.start) (zeros-push i) ∙ b)

    -- and to no other
    module _ (closed : s.loops ≡ false) (accepts : Accepts s) where
      pub leads-next : (i k j : ℕ) (g h : N) → slice_get nodes i ≡ Some g → slice_get (successors s g) j ≡ Some h → slice_get nodes k ≡ Some h → k ≡ suc i
      leads-next i k j g h e f at =
          let a = at-place i g e in
          let b = at-place k h at in
          let first : slice_get (successors s g) 0 ≡ Some h = ap (slice_get (successors s g)) (sym (onward g h j a.good f).1) ∙ f in
          let ends : IsEnd s (zeros (suc i)) h = ap (end_from s s.start) (sym (zeros-push i)) ∙ (end_on s s.start g (zeros i) (0 ∷ []) a.simple.ends ∙ (end_one s g 0 ∙ first)) in
          elim (numbers k (suc i)) [
            | less lt ↦ absurd (accepts (zeros i) g LeadsBack (record {
              simple = a.simple;
              reason = back (record { closed = closed; to = h; edge = listed (successors s g) 0 h first; on = record { path = zeros k; prefix = zeros-prefix k i (omega (arith, lt)); ends = b.simple.ends } });
            }))
            | equal z ↦ z
            | more lt ↦ sym (zeros-same (suc i) k (b.simple.once (zeros (suc i)) (zeros k) h (zeros-prefix (suc i) k (omega (arith, lt))) (prefix_self (zeros k)) ends b.simple.ends))
          ]

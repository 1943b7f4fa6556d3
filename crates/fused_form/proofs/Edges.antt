-- Parts with an edge to one part, to which a single edge leads, are one.
use Rattle.std.proofs.Common.{◌≡◌, ◌⊎◌, inl, inr, ⊎_elim, ℕ, zero, suc, ◌+◌, Bool, true, false, Some, List, [], ◌∷◌, filter, length, map, refl, sym, ap, ◌∙◌, subst, arith, cond, option_map, Contains}
use Rattle.std.proofs.lemmas.List.Elements.{Contains-append_left, Contains-append_right}
use Rattle.std.proofs.lemmas.Option.{slice_get-map}
use Rattle.std.specs.Cmp.{unsigned_Decides}
use Rattle.std.specs.Prelude.{◌==◌, slice_get}
use Rattle.graph_cycles.proofs.Lists.{cases, get-contains, here, none, there}
use Rattle.residue.specs.declared.parts.Jump.{Jump}
use Rattle.residue.specs.declared.parts.Part.{Part}
use Rattle.residue.specs.Printed.{edges_of, edges_to}
use Rattle.residue.specs.Scopes.{jumps}

-- an element that passes stays
kept : {A : Type 0} (test : A → Bool) (xs : List A) (x : A) → Contains xs x → test x ≡ true → Contains (filter test xs) x
kept test [] x c t = absurd (none x c)
kept test (y ∷ xs) x c t = by (test y) refl (cases y x xs c) (λ d. kept test xs x d t)
  where
    by : (b : Bool) → test y ≡ b → (y ≡ x) ⊎ Contains xs x → (Contains xs x → Contains (filter test xs) x) → Contains (cond b (y ∷ filter test xs) (filter test xs)) x
    by true e (inl same) later = subst (Contains (y ∷ filter test xs)) same (here y (filter test xs))
    by false e (inl same) later = let clash : true ≡ false = sym t ∙ ap test (sym same) ∙ e in cc
    by true e (inr c) later = there y x (filter test xs) (later c)
    by false e (inr c) later = later c

-- one place holds one element
only-one : {A : Type 0} (xs : List A) (x y : A) → length xs ≡ 1 → Contains xs x → Contains xs y → x ≡ y
only-one [] x y one c d = absurd (none x c)
only-one (z ∷ []) x y one c d =
    ⊎_elim (λ e. ⊎_elim (λ f. sym e ∙ f) (λ k. absurd (none y k)) (cases z y [] d)) (λ k. absurd (none x k)) (cases z x [] c)
only-one (z ∷ w ∷ xs) x y one c d = absurd (omega (arith, one))

-- the edges of a part with this number
abbrev own-edges : ℕ → Part → List (ℕ × Jump)
own-edges m p = map (λ (j : Jump). (m, j)) (jumps p.tail)

-- an edge of one of the parts, whose numbers begin with m
edge-there : (m n : ℕ) (parts : List Part) (i q : ℕ) (p : Part) (j : Jump) → n ≡ m + i → slice_get parts i ≡ Some p → slice_get (jumps p.tail) q ≡ Some j
    → Contains {X = ℕ × Jump} (edges_of m parts) (n, j)
edge-there m n [] i q p j e at leads = cc
edge-there m n (x ∷ parts) zero q p j e at leads =
    let same : x ≡ p = cc in
    let number : n ≡ m = omega (arith, e) in
    Contains-append_left (own-edges m x) (edges_of (suc m) parts) (n, j)
    (get-contains (own-edges m x) q (n, j)
    (slice_get-map (λ (k : Jump). (m, k)) (jumps x.tail) q
    ∙ ap (λ (z : Part). option_map (λ (k : Jump). (m, k)) (slice_get (jumps z.tail) q)) same
    ∙ ap (option_map (λ (k : Jump). (m, k))) leads
    ∙ ap (λ (a : ℕ). Some (a, j)) (sym number)))
edge-there m n (x ∷ parts) (suc i) q p j e at leads =
    Contains-append_right (own-edges m x) (edges_of (suc m) parts) (n, j) (edge-there (suc m) n parts i q p j (omega (arith, e)) at leads)

-- an edge of part i to part n
pub record IsEdge (parts : List Part) (n i : ℕ) : Type 0 where
  pub part : Part
  pub is : slice_get parts i ≡ Some part
  pub place : ℕ
  pub jump : Jump
  pub stands : slice_get (jumps part.tail) place ≡ Some jump
  pub leads : jump.to ≡ n

pub one-source : (parts : List Part) (n i j : ℕ) → IsEdge parts n i → IsEdge parts n j → length (edges_to n parts) ≡ 1 → i ≡ j
one-source parts n i j a b one = ap (λ (z : ℕ × Jump). z.0) (only-one (edges_to n parts) (i, a.jump) (j, b.jump) one (among i a) (among j b))
  where
    among : (i : ℕ) (a : IsEdge parts n i) → Contains {X = ℕ × Jump} (edges_to n parts) (i, a.jump)
    among i a =
        kept (λ e. e.1.to == n) (edges_of 0 parts) (i, a.jump) (edge-there 0 i parts i a.place a.part a.jump (omega arith) a.is a.stands)
        ((unsigned_Decides a.jump.to n).1 a.leads)

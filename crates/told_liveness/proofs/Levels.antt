-- Nodes from which fewer than n steps lead to one that reads, past none that defines; and a number of steps from which on no node
-- comes in.
use Rattle.std.proofs.Common.{◌≡◌, ◌∙◌, ◌⊎◌, inl, inr, ⊎_elim, ℕ, zero, suc, ◌+◌, ◌≤◌, ◌&&◌, ◌||◌, Bool, true, false, not, List, [], length, sym, subst, arith, Contains, true≢false}
use Rattle.std.specs.List.{list_any}
use Rattle.std.proofs.lemmas.Bool.{and_parts, and_from, or_cases, or_left, or_right, cases_eq}
use Rattle.told_liveness.proofs.Lists.{any-rises}
use Rattle.told_liveness.proofs.Counts.{count, count-length, count-rises, counts-same}

module _ {A : Type 0} (reads defines : A → Bool) (next : A → List A) where
  -- the level n: what reads, or defines nothing and leads to a node of the level below
  abbrev pub within : ℕ → A → Bool
  within zero a = false
  within (suc n) a = reads a || (not (defines a) && list_any (within n) (next a))

  -- a node that reads is in each level but the first
  pub by-read : (n : ℕ) (a : A) → reads a ≡ true → within (suc n) a ≡ true
  by-read n a e = or_left (reads a) (not (defines a) && list_any (within n) (next a)) e

  -- and so is one a level above what it leads to, where it defines nothing
  pub by-step : (n : ℕ) (a : A) → not (defines a) ≡ true → list_any (within n) (next a) ≡ true → within (suc n) a ≡ true
  by-step n a d e = or_right (reads a) (not (defines a) && list_any (within n) (next a)) (and_from (not (defines a)) (list_any (within n) (next a)) d e)

  -- the node defines nothing and leads to one of the level
  abbrev pub IsOnward : ℕ → A → Type 0
  IsOnward n a = (not (defines a) ≡ true) × (list_any (within n) (next a) ≡ true)

  -- there are no others
  pub within-cases : (n : ℕ) (a : A) → within (suc n) a ≡ true → (reads a ≡ true) ⊎ IsOnward n a
  within-cases n a e = elim (or_cases (reads a) (not (defines a) && list_any (within n) (next a)) e) [ inl r ↦ inl r | inr m ↦ inr (and_parts (not (defines a)) (list_any (within n) (next a)) m) ]

  -- a level has the nodes of the one before
  rises : (n : ℕ) (a : A) → within n a ≡ true → within (suc n) a ≡ true
  rises zero a e = absurd (true≢false (sym e))
  rises (suc n) a e =
      ⊎_elim (λ r. by-read (suc n) a r)
      (λ (o : IsOnward n a). by-step (suc n) a o.0 (any-rises (within n) (within (suc n)) (next a) (λ b c h. rises n b h) o.1)) (within-cases n a e)

  -- the node reads nothing and leads nowhere
  abbrev pub IsSilent : A → Type 0
  IsSilent a = (reads a ≡ false) × (next a ≡ [])

  -- such a node is in no level
  silent-out : (n : ℕ) (a : A) → IsSilent a → within (suc n) a ≡ true → ⊥
  silent-out n a s e =
      ⊎_elim (λ r. absurd (true≢false (sym r ∙ s.0)))
      (λ (o : IsOnward n a). absurd (true≢false (sym (subst (λ bs. list_any (within n) bs ≡ true) s.1 o.1)))) (within-cases n a e)

  -- nodes of a kind lead to nodes of the kind, and all of them that aren't silent are listed
  module _ (IsOfKind : A → Type 0) (stays : (a b : A) → IsOfKind a → Contains (next a) b → IsOfKind b) (nodes : List A)
      (listed : (a : A) → IsOfKind a → Contains nodes a ⊎ IsSilent a) where
    -- no node comes in by one step more
    abbrev pub IsClosed : ℕ → Type 0
    IsClosed n = (a : A) → IsOfKind a → within (suc n) a ≡ true → within n a ≡ true

    -- so none does by any number of steps
    pub all-within : (n : ℕ) → IsClosed n → (k : ℕ) (a : A) → IsOfKind a → within k a ≡ true → within n a ≡ true
    all-within n closed zero a w e = absurd (true≢false (sym e))
    all-within n closed (suc k) a w e =
        closed a w (⊎_elim (λ r. by-read n a r)
        (λ (o : IsOnward k a). by-step n a o.0 (any-rises (within k) (within n) (next a) (λ b c h. all-within n closed k b (stays a b w c) h) o.1)) (within-cases k a e))

    -- two levels of equal size, after as many as there are nodes
    search : (fuel n : ℕ) → length nodes ≤ fuel + count (within n) nodes → (k : ℕ) × (count (within k) nodes ≡ count (within (suc k)) nodes)
    search zero n h =
        let up = count-rises (within n) (within (suc n)) (rises n) nodes in
        let top = count-length (within (suc n)) nodes in
        (n, omega (arith, h, up, top))
    search (suc fuel) n h =
        let up = count-rises (within n) (within (suc n)) (rises n) nodes in
        ⊎_elim (λ e. (n, e)) (λ ne. search fuel (suc n) (omega (arith, h, up, ne))) (cases_eq (count (within n) nodes) (count (within (suc n)) nodes))

    -- there is a level where none comes in
    pub closed-level : (n : ℕ) × IsClosed n
    closed-level =
        let k = search (length nodes) 0 (omega arith) in
        (k.0, λ a w e. ⊎_elim (λ c. counts-same (within k.0) (within (suc k.0)) (rises k.0) nodes k.1 a c e) (λ s. absurd (silent-out k.0 a s e)) (listed a w))

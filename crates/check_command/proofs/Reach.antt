-- Whether a walk leads from a node to another, as a test that ends: walks whose inner nodes are below a number, for one number
-- after another.
use Rattle.std.proofs.Common.{◌≡◌, ◌↔◌, inl, inr, ⊎_elim, ℕ, zero, suc, ◌<◌, ◌||◌, ◌&&◌, ◌==◌, Bool, true, false, Option, None, Some, List, [], ◌∷◌, length, slice_get, Contains, refl, sym, subst, arith, eqb-true, eq-eqb, true≢false}
use Rattle.std.proofs.lemmas.Bool.{and_parts, and_from, or_cases, or_left, or_right, cases_eq}
use Rattle.std.proofs.lemmas.Option.{slice_get_within}
use Rattle.graph_cycles.specs.Cycles.{Graph, successors, list_or_none, IsWalk, Reaches, LeadsTo}
use Rattle.graph_cycles.proofs.Lists.{here, there, cases, none}
use Rattle.graph_cycles.proofs.Walks.{stays, leads-on, reaches-of}

-- ---- an edge

abbrev holds : ℕ → List ℕ → Bool
holds v [] = false
holds v (w ∷ ws) = (w == v) || holds v ws

holds-contains : (v : ℕ) (ws : List ℕ) → holds v ws ≡ true → Contains ws v
holds-contains v [] e = absurd (true≢false (sym e))
holds-contains v (w ∷ ws) e = elim (or_cases (w == v) (holds v ws) e) [ inl q ↦ subst (Contains (w ∷ ws)) (eqb-true w v q) (here w ws) | inr m ↦ there w v ws (holds-contains v ws m) ]

contains-holds : (v : ℕ) (ws : List ℕ) → Contains ws v → holds v ws ≡ true
contains-holds v [] c = absurd (none v c)
contains-holds v (w ∷ ws) c = elim (cases w v ws c) [ inl e ↦ or_left (w == v) (holds v ws) (eq-eqb w v e) | inr m ↦ or_right (w == v) (holds v ws) (contains-holds v ws m) ]

module _ (g : Graph) where
  -- an edge leads from u to v, or a walk with inner nodes below k does
  abbrev passes : ℕ → ℕ → ℕ → Bool
  passes zero u v = holds v (successors g u)
  passes (suc k) u v = passes k u v || (passes k u k && passes k k v)

  passes-leads : (k u v : ℕ) → passes k u v ≡ true → LeadsTo g u v
  passes-leads zero u v e = record { first = v; edge = holds-contains v (successors g u) e; rest = stays g v v refl }
  passes-leads (suc k) u v e = elim (or_cases (passes k u v) (passes k u k && passes k k v) e) [ inl a ↦ passes-leads k u v a | inr b ↦ (let p = and_parts (passes k u k) (passes k k v) b in leads-on g u k v (passes-leads k u k p.0) (reaches-of g k v (passes-leads k k v p.1))) ]

  keeps : (k u v : ℕ) → passes k u v ≡ true → passes (suc k) u v ≡ true
  keeps k u v a = or_left (passes k u v) (passes k u k && passes k k v) a

  meets : (k u v : ℕ) → passes k u k ≡ true → passes k k v ≡ true → passes (suc k) u v ≡ true
  meets k u v a b = or_right (passes k u v) (passes k u k && passes k k v) (and_from (passes k u k) (passes k k v) a b)

  to-last : (k u : ℕ) → passes (suc k) u k ≡ true → passes k u k ≡ true
  to-last k u e = elim (or_cases (passes k u k) (passes k u k && passes k k k) e) [ inl a ↦ a | inr b ↦ (and_parts (passes k u k) (passes k k k) b).0 ]

  from-last : (k v : ℕ) → passes (suc k) k v ≡ true → passes k k v ≡ true
  from-last k v e = elim (or_cases (passes k k v) (passes k k k && passes k k v) e) [ inl a ↦ a | inr b ↦ (and_parts (passes k k k) (passes k k v) b).1 ]

  -- two walks that meet in a node below k are one
  through : (k u w v : ℕ) → w < k → passes k u w ≡ true → passes k w v ≡ true → passes k u v ≡ true
  through zero u w v l a b = absurd (omega (arith, l))
  through (suc k) u w v l a b = ⊎_elim (λ (e : w ≡ k). last e) (λ (n : w ≡ k → ⊥). inner (λ x y p q. through k x w y (below n) p q)) (cases_eq w k)
    where
      last : w ≡ k → passes (suc k) u v ≡ true
      last e = meets k u v (to-last k u (subst (λ x. passes (suc k) u x ≡ true) e a)) (from-last k v (subst (λ x. passes (suc k) x v ≡ true) e b))

      below : (w ≡ k → ⊥) → w < k
      below n = omega (arith, l, n)

      inner : ((x y : ℕ) → passes k x w ≡ true → passes k w y ≡ true → passes k x y ≡ true) → passes (suc k) u v ≡ true
      inner joins =
          elim (or_cases (passes k u w) (passes k u k && passes k k w) a) [ inl p ↦ (elim (or_cases (passes k w v) (passes k w k && passes k k v) b) [ inl q ↦ keeps k u v (joins u v p q) | inr q ↦ (let t = and_parts (passes k w k) (passes k k v) q in meets k u v (joins u k p t.0) t.1) ]) | inr p ↦ (let s = and_parts (passes k u k) (passes k k w) p in elim (or_cases (passes k w v) (passes k w k && passes k k v) b) [ inl q ↦ meets k u v s.0 (joins k v s.1 q) | inr q ↦ meets k u v s.0 (and_parts (passes k w k) (passes k k v) q).1 ]) ]

  edge-passes : (k u v : ℕ) → Contains (successors g u) v → passes k u v ≡ true
  edge-passes zero u v c = contains-holds v (successors g u) c
  edge-passes (suc k) u v c = keeps k u v (edge-passes k u v c)

  -- what has an edge is a node
  is-node : (u v : ℕ) (o : Option (List ℕ)) → slice_get g u ≡ o → Contains (list_or_none o) v → u < length g
  is-node u v None e c = absurd (none v c)
  is-node u v (Some ws) e c = slice_get_within g u ws e

  walk-passes : (u w v : ℕ) (ws : List ℕ) → Contains (successors g u) w → IsWalk g w ws v → passes (length g) u v ≡ true
  walk-passes u w v [] c e = subst (λ x. passes (length g) u x ≡ true) e (edge-passes (length g) u w c)
  walk-passes u w v (x ∷ ws) c h =
      through (length g) u w v (is-node w x (slice_get g w) refl h.0) (edge-passes (length g) u w c) (walk-passes w x v ws h.0 h.1)

  -- a walk that is not empty leads from u to v
  abbrev pub leads : ℕ → ℕ → Bool
  leads u v = passes (length g) u v

  pub leads-exactly : (u v : ℕ) → (leads u v ≡ true) ↔ LeadsTo g u v
  leads-exactly u v = ((λ e. passes-leads (length g) u v e), (λ h. walk-passes u h.first v h.rest.walk h.edge h.rest.is))

  -- a walk, which may be empty, leads from u to v
  abbrev pub reaches : ℕ → ℕ → Bool
  reaches u v = (u == v) || leads u v

  walk-reaches : (u v : ℕ) (ws : List ℕ) → IsWalk g u ws v → reaches u v ≡ true
  walk-reaches u v [] e = or_left (u == v) (leads u v) (eq-eqb u v e)
  walk-reaches u v (w ∷ ws) h = or_right (u == v) (leads u v) (walk-passes u w v ws h.0 h.1)

  reaches-walk : (u v : ℕ) → reaches u v ≡ true → Reaches g u v
  reaches-walk u v e = elim (or_cases (u == v) (leads u v) e) [ inl q ↦ stays g u v (eqb-true u v q) | inr l ↦ reaches-of g u v (passes-leads (length g) u v l) ]

  pub reaches-exactly : (u v : ℕ) → (reaches u v ≡ true) ↔ Reaches g u v
  reaches-exactly u v = ((λ e. reaches-walk u v e), (λ h. walk-reaches u v h.walk h.is))

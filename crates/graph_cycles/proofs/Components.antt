-- Components one after another.
use Rattle.std.proofs.Common.{◌≡◌, ℕ, ◌<◌, ◌≤◌, List, [], ◌∷◌, ◌++◌, length, refl, sym, ap, subst, arith, slice_get, Some}
use Rattle.graph_cycles.specs.declared.search.Mark.{Mark}
use Rattle.graph_cycles.specs.declared.search.Start.{Start}
use Rattle.graph_cycles.specs.Cycles.{Graph, LeadsTo}
use Rattle.graph_cycles.specs.code.Search.{IsComponent, AreComponents, first_member, first_target}
use Rattle.graph_cycles.proofs.Lists.{push-end}

pub first-member-push : (n : ℕ) (ss : List Start) (s : Start) → first_member n (ss ++ s ∷ []) ≡ first_member s.members ss
first-member-push n [] s = refl
first-member-push n (x ∷ ss) s = refl

pub first-target-push : (k : ℕ) (ss : List Start) (s : Start) → first_target k (ss ++ s ∷ []) ≡ first_target s.targets ss
first-target-push k [] s = refl
first-target-push k (x ∷ ss) s = refl

module _ (g : Graph) (ma : List Mark) (oa ta : List ℕ) where
  pub moved : (s : Start) (a b c d : ℕ) → a ≡ c → b ≡ d → IsComponent g ma oa ta s a b → IsComponent g ma oa ta s c d
  moved s a b c d e f h = subst (λ z. IsComponent g ma oa ta s c z) f (subst (λ z. IsComponent g ma oa ta s z b) e h)

  pub bounds : (n k : ℕ) (ss : List Start) → AreComponents g ma oa ta n k ss → (first_member n ss ≤ n) × (first_target k ss ≤ k)
  bounds n k [] c = (omega arith, omega arith)
  bounds n k (s ∷ ss) c = let h = bounds n k ss c.1 in let a = c.0.nonempty in let b = c.0.fits in (omega (arith, h.0, a), omega (arith, h.1, b))

  pub split : (n k : ℕ) (ss : List Start) (s : Start) → AreComponents g ma oa ta n k (ss ++ s ∷ []) → AreComponents g ma oa ta s.members s.targets ss × IsComponent g ma oa ta s n k
  split n k [] s c = (tt, c.0)
  split n k (x ∷ ss) s c = let h = split n k ss s c.1 in ((moved x (first_member n (ss ++ s ∷ [])) (first_target k (ss ++ s ∷ [])) (first_member s.members ss) (first_target s.targets ss) (first-member-push n ss s) (first-target-push k ss s) c.0, h.0), h.1)

  pub join : (n k : ℕ) (ss : List Start) (s : Start) → AreComponents g ma oa ta s.members s.targets ss → IsComponent g ma oa ta s n k → AreComponents g ma oa ta n k (ss ++ s ∷ [])
  join n k [] s c d = (d, tt)
  join n k (x ∷ ss) s c d = (moved x (first_member s.members ss) (first_target s.targets ss) (first_member n (ss ++ s ∷ [])) (first_target k (ss ++ s ∷ [])) (sym (first-member-push n ss s)) (sym (first-target-push k ss s)) c.0, join n k ss s c.1 d)

  pub refit : (s : Start) (a b c : ℕ) → s.targets ≤ c → IsComponent g ma oa ta s a b → IsComponent g ma oa ta s a c
  refit s a b c l h = record { nonempty = h.nonempty; fits = l; back = h.back; cyclic = h.cyclic; single = h.single; ahead = h.ahead; met = h.met }

  pub refit-last : (n k c : ℕ) (ss : List Start) → ((before : List Start) (last : Start) → ss ≡ before ++ last ∷ [] → last.targets ≤ c) → AreComponents g ma oa ta n k ss → AreComponents g ma oa ta n c ss
  refit-last n k c [] f h = tt
  refit-last n k c (s ∷ []) f h = (refit s n k c (f [] s refl) h.0, tt)
  refit-last n k c (s ∷ x ∷ ss) f h = (h.0, refit-last n k c (x ∷ ss) (λ before last e. f (s ∷ before) last (ap (λ z. s ∷ z) e)) h.1)

  pub change : (mb : List Mark) (ob tb : List ℕ) (n k : ℕ) → ((s : Start) (a b : ℕ) → a ≤ n → b ≤ k → IsComponent g ma oa ta s a b → IsComponent g mb ob tb s a b) → (ss : List Start) → AreComponents g ma oa ta n k ss → AreComponents g mb ob tb n k ss
  change mb ob tb n k f [] c = tt
  change mb ob tb n k f (s ∷ ss) c = let h = bounds n k ss c.1 in (f s (first_member n ss) (first_target k ss) h.0 h.1 c.0, change mb ob tb n k f ss c.1)

-- what waits last is led to from each open node
module _ (g : Graph) (marks : List Mark) (opens targets : List ℕ) (t : ℕ) (k : ℕ) where
  pub last-ahead : (s : Start) (ss : List Start) → AreComponents g marks opens (targets ++ t ∷ []) (length opens) k (s ∷ ss) → ((before : List Start) (last : Start) → s ∷ ss ≡ before ++ last ∷ [] → last.targets ≤ length targets) → (j u : ℕ) → j < length opens → slice_get opens j ≡ Some u → LeadsTo g u t
  last-ahead s [] c f j u l e = c.0.ahead (length targets) j u t (f [] s refl) l e (push-end targets t)
  last-ahead s (x ∷ ss) c f j u l e = last-ahead x ss c.1 (λ before last q. f (s ∷ before) last (ap (λ z. s ∷ z) q)) j u l e

  pub all-ahead : (ss : List Start) → first_member (length opens) ss ≡ 0 → AreComponents g marks opens (targets ++ t ∷ []) (length opens) k ss → ((before : List Start) (last : Start) → ss ≡ before ++ last ∷ [] → last.targets ≤ length targets) → (j u : ℕ) → j < length opens → slice_get opens j ≡ Some u → LeadsTo g u t
  all-ahead [] z c f j u l e = absurd (omega (arith, z, l))
  all-ahead (s ∷ ss) z c f j u l e = last-ahead s ss c f j u l e

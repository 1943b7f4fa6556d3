-- Laws of paths, openings and verdicts.
use Rattle.std.specs.Prelude.{◌≡◌, ℕ, List, length}
use Rattle.path_search.specs.Paths.{Search, IsBefore}
use Rattle.path_search.specs.Openings.{Opening}
use Rattle.path_search.specs.Verdict.{Accepts, Refuses}
use Rattle.path_search.specs.declared.reason.Reason.{Reason}

-- path order is strict and total
pub record IsPathOrder : Type 0 where
  pub onward : (p q r : List ℕ) → IsBefore p q → IsBefore q r → IsBefore p r
  pub strict : (p : List ℕ) → IsBefore p p → ⊥
  pub total : (p q : List ℕ) → (IsBefore p q → ⊥) → (IsBefore q p → ⊥) → p ≡ q

-- there is at most one opening of each length
abbrev pub HasOneOpening : {N K : Type 0} → Search N K → Type 0
HasOneOpening s = (ps qs : List (List ℕ)) → Opening s ps → Opening s qs → length ps ≡ length qs → ps ≡ qs

-- no graph is both accepted and refused, and one that is refused is so at one node for one reason
pub record HasOneVerdict {N K : Type 0} (s : Search N K) : Type 0 where
  pub not_both : (g : N) (r : Reason K) → Accepts s → Refuses s g r → ⊥
  pub one : (g h : N) (q r : Reason K) → Refuses s g q → Refuses s h r → (g ≡ h) × (q ≡ r)

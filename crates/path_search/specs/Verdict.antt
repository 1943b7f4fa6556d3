-- The verdict on a graph: accepted, or refused at the least path that is not permitted, for a reason.
use Rattle.std.specs.Prelude.{◌≡◌, ℕ, suc, false, List, length, Contains}
use Rattle.path_search.specs.Paths.{Bad, Search, successors, IsBefore, IsSimple, LiesOn}
use Rattle.path_search.specs.Openings.{IsLast, Opening}
use Rattle.path_search.specs.declared.reason.Reason.{Reason}
use Rattle.path_search.specs.declared.reason.Reason.TheVariants.{OverBudget, BadNode, LeadsBack}

-- p finds the node that is one more than the budget permits: it is the last path of the opening of that length
pub record IsOver {N K : Type 0} (s : Search N K) (p : List ℕ) : Type 0 where
  pub paths : List (List ℕ)
  pub opening : Opening s paths
  pub number : length paths ≡ suc s.budget
  pub last : IsLast paths p

-- no loops are permitted, and a successor of g, to which p leads, lies on p
pub record IsBack {N K : Type 0} (s : Search N K) (p : List ℕ) (g : N) : Type 0 where
  pub closed : s.loops ≡ false
  pub to : N
  pub edge : Contains (successors s g) to
  pub on : LiesOn s p to

-- why p, which leads to g, is not permitted
pub data Forbids {N K : Type 0} (s : Search N K) (p : List ℕ) (g : N) : Reason K → Type 0 where
  over : IsOver s p → Forbids s p g OverBudget
  bad : {k : K} → s.turn g ≡ Bad k → Forbids s p g (BadNode k)
  back : IsBack s p g → Forbids s p g LeadsBack

pub record Candidate {N K : Type 0} (s : Search N K) (p : List ℕ) (g : N) (r : Reason K) : Type 0 where
  pub simple : IsSimple s p g
  pub reason : Forbids s p g r

-- there is no candidate
abbrev pub Accepts : {N K : Type 0} → Search N K → Type 0
Accepts {N} {K} s = (p : List ℕ) (g : N) (r : Reason K) → Candidate s p g r → ⊥

-- g is the end of the least candidate, and r its reason; where the budget is one reason, it comes first
pub record Refuses {N K : Type 0} (s : Search N K) (g : N) (r : Reason K) : Type 0 where
  pub path : List ℕ
  pub candidate : Candidate s path g r
  pub least : (p : List ℕ) (h : N) (q : Reason K) → Candidate s p h q → IsBefore p path → ⊥
  pub first : IsOver s path → r ≡ OverBudget

-- The numbers of marks.
use Rattle.std.proofs.Common.{◌≡◌, ◌∙◌, ℕ, zero, suc, ◌+◌, ◌<◌, ◌≤◌, ◌==◌, ◌||◌, Bool, true, false, not, cond, List, [], ◌∷◌, ◌++◌, length, length-append, length-set, refl, sym, ap, subst, arith}
use Rattle.std.specs.Prelude.{Option, None, Some, filter, slice_get, slice_set}
use Rattle.std.specs.List.{list_any}
use Rattle.std.specs.Cmp.{unsigned_Decides}
use Rattle.machine_tables.specs.Allocated.{Allocated, allocated_of, numbers}

eq-yes : (i j : ℕ) → i ≡ j → (i == j) ≡ true
eq-yes i j e = (unsigned_Decides i j).1 e

eq-no : (i j : ℕ) → (i ≡ j → ⊥) → (i == j) ≡ false
eq-no i j n = by-test (i == j) refl
  where
    by-test : (b : Bool) → (i == j) ≡ b → (i == j) ≡ false
    by-test true e = absurd (n ((unsigned_Decides i j).0 e))
    by-test false e = e

pub numbers-push : (n m : ℕ) (marks : List Bool) → m ≡ n + length marks → numbers n (marks ++ true ∷ []) ≡ numbers n marks ++ m ∷ []
numbers-push n m [] e = ap (λ i. i ∷ []) (omega arith)
numbers-push n m (true ∷ marks) e = ap (λ l. n ∷ l) (numbers-push (suc n) m marks (omega arith))
numbers-push n m (false ∷ marks) e = numbers-push (suc n) m marks (omega arith)

-- a number below them all
any-below : (n j : ℕ) (marks : List Bool) → j < n → list_any (λ i. i == j) (numbers n marks) ≡ false
any-below n j [] h = refl
any-below n j (true ∷ marks) h =
    ap (λ b. b || list_any (λ i. i == j) (numbers (suc n) marks)) (eq-no n j (λ d. omega arith))
    ∙ any-below (suc n) j marks (omega arith)
any-below n j (false ∷ marks) h = any-below (suc n) j marks (omega arith)

filter-below : (n j : ℕ) (marks : List Bool) → j < n → filter (λ i. not (i == j)) (numbers n marks) ≡ numbers n marks
filter-below n j [] h = refl
filter-below n j (true ∷ marks) h =
    ap (λ b. cond (not b) (n ∷ filter (λ i. not (i == j)) (numbers (suc n) marks)) (filter (λ i. not (i == j)) (numbers (suc n) marks))) (eq-no n j (λ d. omega arith))
    ∙ ap (λ l. n ∷ l) (filter-below (suc n) j marks (omega arith))
filter-below n j (false ∷ marks) h = filter-below (suc n) j marks (omega arith)

abbrev pub marked : Option Bool → Bool
marked None = false
marked (Some b) = b

-- a number is there where its mark is true
pub any-marked : (n j k : ℕ) (marks : List Bool) → j ≡ n + k → list_any (λ i. i == j) (numbers n marks) ≡ marked (slice_get marks k)
any-marked n j k [] e = refl
any-marked n j zero (true ∷ marks) e = ap (λ b. b || list_any (λ i. i == j) (numbers (suc n) marks)) (eq-yes n j (omega arith))
any-marked n j zero (false ∷ marks) e = any-below (suc n) j marks (omega arith)
any-marked n j (suc k) (true ∷ marks) e =
    ap (λ b. b || list_any (λ i. i == j) (numbers (suc n) marks)) (eq-no n j (λ d. omega arith))
    ∙ any-marked (suc n) j k marks (omega arith)
any-marked n j (suc k) (false ∷ marks) e = any-marked (suc n) j k marks (omega arith)

-- it is gone once its mark is false
pub numbers-unmarked : (n j k : ℕ) (marks : List Bool) → j ≡ n + k → numbers n (slice_set marks k false) ≡ filter (λ i. not (i == j)) (numbers n marks)
numbers-unmarked n j k [] e = refl
numbers-unmarked n j zero (true ∷ marks) e =
    sym (ap (λ b. cond (not b) (n ∷ filter (λ i. not (i == j)) (numbers (suc n) marks)) (filter (λ i. not (i == j)) (numbers (suc n) marks))) (eq-yes n j (omega arith))
    ∙ filter-below (suc n) j marks (omega arith))
numbers-unmarked n j zero (false ∷ marks) e = sym (filter-below (suc n) j marks (omega arith))
numbers-unmarked n j (suc k) (true ∷ marks) e =
    ap (λ l. n ∷ l) (numbers-unmarked (suc n) j k marks (omega arith))
    ∙ sym (ap (λ b. cond (not b) (n ∷ filter (λ i. not (i == j)) (numbers (suc n) marks)) (filter (λ i. not (i == j)) (numbers (suc n) marks))) (eq-no n j (λ d. omega arith)))
numbers-unmarked n j (suc k) (false ∷ marks) e = numbers-unmarked (suc n) j k marks (omega arith)

-- ---- what allocations show

pub allocated-push : (marks : List Bool) (a : Allocated) → allocated_of marks ≡ a → allocated_of (marks ++ true ∷ []) ≡ record { count = a.count + 1; held = a.held ++ a.count ∷ [] }
allocated-push marks a e =
    subst (λ (b : Allocated). let r : Allocated = record { count = b.count + 1; held = b.held ++ b.count ∷ [] } in allocated_of (marks ++ true ∷ []) ≡ r) e
    (ap (λ n. let r : Allocated = record { count = n; held = numbers 0 (marks ++ true ∷ []) } in r) (length-push marks)
    ∙ ap (λ h. let r : Allocated = record { count = length marks + 1; held = h } in r) (numbers-push 0 (length marks) marks (omega arith)))
  where
    length-push : (marks : List Bool) → length (marks ++ true ∷ []) ≡ length marks + 1
    length-push marks = let l = length-append marks (true ∷ []) in l

pub is-marked : (marks : List Bool) (a : Allocated) (j : ℕ) (o : Option Bool) → allocated_of marks ≡ a → slice_get marks j ≡ o → marked o ≡ list_any (λ i. i == j) a.held
is-marked marks a j o e h =
    sym (ap marked h) ∙ sym (any-marked 0 j j marks (omega arith)) ∙ ap (λ (b : Allocated). list_any (λ i. i == j) b.held) e

pub released : (marks : List Bool) (a : Allocated) (j : ℕ) → allocated_of marks ≡ a → allocated_of (slice_set marks j false) ≡ record { count = a.count; held = filter (λ i. not (i == j)) a.held }
released marks a j e =
    subst (λ (b : Allocated). let r : Allocated = record { count = b.count; held = filter (λ i. not (i == j)) b.held } in allocated_of (slice_set marks j false) ≡ r) e
    (ap (λ n. let r : Allocated = record { count = n; held = numbers 0 (slice_set marks j false) } in r) (length-set marks j false)
    ∙ ap (λ h. let r : Allocated = record { count = length marks; held = h } in r) (numbers-unmarked 0 j j marks (omega arith)))

pub set-past : (marks : List Bool) (j : ℕ) → length marks ≤ j → slice_set marks j false ≡ marks
set-past [] j h = refl
set-past (b ∷ marks) zero h = absurd (omega arith)
set-past (b ∷ marks) (suc j) h = ap (λ l. b ∷ l) (set-past marks j (omega arith))

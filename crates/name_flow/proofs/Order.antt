-- Where a binary search finds the next number of a sorted list of triples.
use Rattle.std.proofs.Common.{◌≡◌, zero, suc, ℕ, ◌<◌, ◌≤◌, Bool, true, false, cond, ltb, leb, List, [], ◌∷◌, length, get_or, Option, Some, None, find, Contains, refl, sym, subst, ap, ◌∙◌, arith, true≢false}
use Rattle.std.specs.Cmp.{IsTotalOrder, nat_cmp_total, then_total, on_total}
use Rattle.std.specs.Option.{option_map}
use Rattle.std.specs.Ordering.{nat_cmp, is_lt, ordering_index}
use Rattle.std.specs.declared.cmp.Ordering.{Ordering}
use Rattle.std.specs.declared.cmp.Ordering.TheVariants.{Less, Equal, Greater}
use Rattle.std.specs.List.Sorted.{IsPartitionPoint, IsPartitionedBy}
use Rattle.std.proofs.lemmas.List.Sorted.{sorted_far, ranks_by, searchable_from_sorted, IsPartitionedBy-ltb}
use Rattle.std.proofs.lemmas.Bool.Decides.{nat_tests}
use Rattle.name_flow.specs.code.Runs.{reaches, begins, in_run}
use Rattle.name_flow.specs.code.Triples.{Triple, triple_cmp, is_below, is_from, next, holds, is_number, NextHolds, Ascends}

pub triple_total : IsTotalOrder triple_cmp
triple_total = then_total (then_total (on_total (λ (t : Triple). t.0) nat_cmp_total) (on_total (λ (t : Triple). t.1) nat_cmp_total)) (on_total (λ (t : Triple). t.2) nat_cmp_total)

-- what nat_cmp says
cmp-Less : (m n : ℕ) → m < n → nat_cmp m n ≡ Less
cmp-Less m n h = grind (arith, nat_tests)

cmp-Equal : (m n : ℕ) → m ≡ n → nat_cmp m n ≡ Equal
cmp-Equal m n h = grind (arith, nat_tests)

cmp-Greater : (m n : ℕ) → n < m → nat_cmp m n ≡ Greater
cmp-Greater m n h = grind (arith, nat_tests)

-- the parts of a triple that is not below another
pub not_below : (x y z a b c : ℕ) → is_lt (triple_cmp (x, y, z) (a, b, c)) ≡ false → (a ≤ x) × (x ≡ a → b ≤ y) × (x ≡ a → y ≡ b → c ≤ z)
not_below x y z a b c h = (grind (arith, nat_tests), λ e. grind (arith, nat_tests), λ e f. grind (arith, nat_tests))

below : (x y z a b c : ℕ) → is_lt (triple_cmp (x, y, z) (a, b, c)) ≡ true → (x ≤ a) × (x ≡ a → y ≤ b) × (x ≡ a → y ≡ b → z < c)
below x y z a b c h = (grind (arith, nat_tests), λ e. grind (arith, nat_tests), λ e f. grind (arith, nat_tests))

from_below : (a b c : ℕ) (t : Triple) → is_lt (triple_cmp t (a, b, c)) ≡ true → is_from a b c t ≡ false
from_below a b c t h = let s = below t.0 t.1 t.2 a b c h in grind (arith, nat_tests)

from_here : (a b c : ℕ) (t : Triple) → t.0 ≡ a → t.1 ≡ b → is_lt (triple_cmp t (a, b, c)) ≡ false → is_from a b c t ≡ true
from_here a b c t e f h = let s : c ≤ t.2 = (not_below t.0 t.1 t.2 a b c h).2 e f in grind (arith, nat_tests)

from_past : (a b c : ℕ) (e t : Triple) → is_lt (triple_cmp t e) ≡ false → is_lt (triple_cmp e (a, b, c)) ≡ false → (e.0 ≡ a → e.1 ≡ b → ⊥) → is_from a b c t ≡ false
from_past a b c e t h g other =
    let s = not_below t.0 t.1 t.2 e.0 e.1 e.2 h in
    let u = not_below e.0 e.1 e.2 a b c g in
    grind (arith, nat_tests)

same_default : {A : Type 0} (xs : List A) (k : ℕ) (d e : A) → k < length xs → get_or xs k d ≡ get_or xs k e
same_default [] k d e l = absurd (omega arith)
same_default (x ∷ xs) zero d e l = refl
same_default (x ∷ xs) (suc k) d e l = same_default xs k d e (omega arith)

-- the first that passes a test
pub find-none : {A : Type 0} (test : A → Bool) (xs : List A) → ((k : ℕ) (d : A) → k < length xs → test (get_or xs k d) ≡ false) → find test xs ≡ None
find-none test [] h = refl
find-none test (x ∷ xs) h =
    ap (λ t. cond t (Some x) (find test xs)) (h zero x (omega arith)) ∙ find-none test xs (λ k d l. h (suc k) d (omega arith))

pub find-here : {A : Type 0} (test : A → Bool) (xs : List A) (i : ℕ) (d : A) → i < length xs → ((k : ℕ) (d : A) → k < i → test (get_or xs k d) ≡ false) → test (get_or xs i d) ≡ true → find test xs ≡ Some (get_or xs i d)
find-here test [] i d l h t = absurd (omega arith)
find-here test (x ∷ xs) zero d l h t = ap (λ t. cond t (Some x) (find test xs)) t
find-here test (x ∷ xs) (suc i) d l h t =
    ap (λ t. cond t (Some x) (find test xs)) (h zero x (omega arith)) ∙ find-here test xs i d (omega arith) (λ k d m. h (suc k) d (omega arith)) t

-- the test that the search goes by
before-is_lt : (o : Ordering) → ltb (ordering_index o) 1 ≡ is_lt o
before-is_lt Less = refl
before-is_lt Equal = refl
before-is_lt Greater = refl

pub ascending-partitioned : (ts : List Triple) (a b c : ℕ) → Ascends ts → IsPartitionedBy (is_below a b c) ts
ascending-partitioned ts a b c up i j d l m e =
    sym (before-is_lt (triple_cmp (get_or ts i d) (a, b, c))) ∙ IsPartitionedBy-ltb (λ t. ordering_index (triple_cmp t (a, b, c))) ts 1 (searchable_from_sorted triple_total (λ t. t) ts (a, b, c) up) i j d l m (before-is_lt (triple_cmp (get_or ts j d) (a, b, c)) ∙ e)

module _ (ts : List Triple) (a b c i : ℕ) (up : Ascends ts)
    (point : IsPartitionPoint (λ t. is_below a b c t ≡ true) (λ t. is_below a b c t ≡ false) ts i) where
  front : (k : ℕ) (d : Triple) → k < i → is_from a b c (get_or ts k d) ≡ false
  front k d l = from_below a b c (get_or ts k d) (point.0 k d (omega arith) l)

  back : (k : ℕ) (d : Triple) → i ≤ k → k < length ts → is_lt (triple_cmp (get_or ts k d) (a, b, c)) ≡ false
  back k d l m = point.1 k d l m

  pub next-end : i ≡ length ts → next ts a b c ≡ None
  next-end e = ap (option_map (λ t. t.2)) (find-none (is_from a b c) ts (λ k d l. front k d (omega arith)))

  pub next-here : (d : Triple) → i < length ts → (get_or ts i d).0 ≡ a → (get_or ts i d).1 ≡ b → next ts a b c ≡ Some (get_or ts i d).2
  next-here d l e f = ap (option_map (λ t. t.2)) (find-here (is_from a b c) ts i d l front (from_here a b c (get_or ts i d) e f (back i d (omega arith) l)))

  pub next-past : (d : Triple) → i < length ts → ((get_or ts i d).0 ≡ a → (get_or ts i d).1 ≡ b → ⊥) → next ts a b c ≡ None
  next-past d l other = ap (option_map (λ t. t.2)) (find-none (is_from a b c) ts each)
    where
      later : (k : ℕ) (d' : Triple) → k < length ts → i ≤ k → is_from a b c (get_or ts k d') ≡ false
      later k d' m le =
          let far = sorted_far (λ x y. is_lt (triple_cmp x y)) (ranks_by triple_total (λ t. t)) ts up i k d le m in
          ap (is_from a b c) (same_default ts k d' d m) ∙ from_past a b c (get_or ts i d) (get_or ts k d) far (back i d (omega arith) l) other

      each : (k : ℕ) (d' : Triple) → k < length ts → is_from a b c (get_or ts k d') ≡ false
      each k d' m = elim (leb i k) as (λ r. leb i k ≡ r → is_from a b c (get_or ts k d') ≡ false) [ true ↦ λ e. later k d' m (grind (arith, nat_tests)) | false ↦ λ e. front k d' (grind (arith, nat_tests)) ] refl

-- a run is found as a number is
run_below : (x b : ℕ) (t : Triple) → is_lt (triple_cmp t (x, b, 0)) ≡ true → reaches x b t ≡ false
run_below x b t h = let s = below t.0 t.1 t.2 x b 0 h in grind (arith, nat_tests)

run_at : (x b : ℕ) (t : Triple) → t.0 ≡ x → is_lt (triple_cmp t (x, b, 0)) ≡ false → reaches x b t ≡ true
run_at x b t e h = let s : b ≤ t.1 = (not_below t.0 t.1 t.2 x b 0 h).1 e in grind (arith, nat_tests)

run_after : (x b : ℕ) (e t : Triple) → is_lt (triple_cmp t e) ≡ false → is_lt (triple_cmp e (x, b, 0)) ≡ false → (e.0 ≡ x → ⊥) → reaches x b t ≡ false
run_after x b e t h g other =
    let s = (not_below t.0 t.1 t.2 e.0 e.1 e.2 h).0 in
    let u = (not_below e.0 e.1 e.2 x b 0 g).0 in
    grind (arith, nat_tests)

module _ (ts : List Triple) (x b i : ℕ) (up : Ascends ts)
    (point : IsPartitionPoint (λ t. is_below x b 0 t ≡ true) (λ t. is_below x b 0 t ≡ false) ts i) where
  run-front : (k : ℕ) (d : Triple) → k < i → reaches x b (get_or ts k d) ≡ false
  run-front k d l = run_below x b (get_or ts k d) (point.0 k d (omega arith) l)

  pub run-end : i ≡ length ts → in_run ts x b ≡ false
  run-end e = ap (begins b) (find-none (reaches x b) ts (λ k d l. run-front k d (omega arith)))

  pub run-here : (d : Triple) → i < length ts → (get_or ts i d).0 ≡ x → in_run ts x b ≡ leb (get_or ts i d).2 b
  run-here d l e = ap (begins b) (find-here (reaches x b) ts i d l run-front (run_at x b (get_or ts i d) e (point.1 i d (omega arith) l)))

  pub run-past : (d : Triple) → i < length ts → ((get_or ts i d).0 ≡ x → ⊥) → in_run ts x b ≡ false
  run-past d l other = ap (begins b) (find-none (reaches x b) ts each)
    where
      later : (k : ℕ) (d' : Triple) → k < length ts → i ≤ k → reaches x b (get_or ts k d') ≡ false
      later k d' m le =
          let far = sorted_far (λ x y. is_lt (triple_cmp x y)) (ranks_by triple_total (λ t. t)) ts up i k d le m in
          ap (reaches x b) (same_default ts k d' d m) ∙ run_after x b (get_or ts i d) (get_or ts k d) far (point.1 i d (omega arith) l) other

      each : (k : ℕ) (d' : Triple) → k < length ts → reaches x b (get_or ts k d') ≡ false
      each k d' m = elim (leb i k) as (λ r. leb i k ≡ r → reaches x b (get_or ts k d') ≡ false) [ true ↦ λ e. later k d' m (grind (arith, nat_tests)) | false ↦ λ e. run-front k d' (grind (arith, nat_tests)) ] refl

-- what next answers
record Found {A : Type 0} (test : A → Bool) (xs : List A) (t : A) : Type 0 where
  pub at : ℕ
  pub within : at < length xs
  pub is : get_or xs at t ≡ t
  pub passes : test t ≡ true
  pub first : (k : ℕ) (d : A) → k < at → test (get_or xs k d) ≡ false

found-later : {A : Type 0} (test : A → Bool) (x : A) (xs : List A) (t : A) → test x ≡ false → Found test xs t → Found test (x ∷ xs) t
found-later {A} test x xs t f r = record { at = suc r.at; within = omega (arith, r.within); is = r.is; passes = r.passes; first = each }
  where
    each : (k : ℕ) (d : A) → k < suc r.at → test (get_or (x ∷ xs) k d) ≡ false
    each zero d l = f
    each (suc k) d l = r.first k d (omega arith)

found-step : {A : Type 0} (test : A → Bool) (x : A) (xs : List A) (t : A) → (find test xs ≡ Some t → Found test xs t) → (b : Bool) → test x ≡ b → cond b (Some x) (find test xs) ≡ Some t → Found test (x ∷ xs) t
found-step test x xs t ih true f e = let same : x ≡ t = cc in record { at = zero; within = omega arith; is = same; passes = sym (ap test same) ∙ f; first = λ k d l. absurd (omega arith) }
found-step test x xs t ih false f e = found-later test x xs t f (ih e)

find-some : {A : Type 0} (test : A → Bool) (xs : List A) (t : A) → find test xs ≡ Some t → Found test xs t
find-some test [] t e = cc
find-some test (x ∷ xs) t e = found-step test x xs t (find-some test xs t) (test x) refl e

all-step : {A : Type 0} (test : A → Bool) (x : A) (xs : List A) → (find test xs ≡ None → (k : ℕ) (d : A) → k < length xs → test (get_or xs k d) ≡ false) → (b : Bool) → test x ≡ b → cond b (Some x) (find test xs) ≡ None → (k : ℕ) (d : A) → k < length (x ∷ xs) → test (get_or (x ∷ xs) k d) ≡ false
all-step test x xs ih true f e k d l = cc
all-step test x xs ih false f e zero d l = f
all-step test x xs ih false f e (suc k) d l = ih e k d (omega arith)

find-all : {A : Type 0} (test : A → Bool) (xs : List A) → find test xs ≡ None → (k : ℕ) (d : A) → k < length xs → test (get_or xs k d) ≡ false
find-all test [] e k d l = absurd (omega arith)
find-all test (x ∷ xs) e k d l = all-step test x xs (find-all test xs) (test x) refl e k d l

from-parts : (a b c : ℕ) (t : Triple) → is_from a b c t ≡ true → (t.0 ≡ a) × (t.1 ≡ b) × (c ≤ t.2)
from-parts a b c t h = (grind (arith, nat_tests), grind (arith, nat_tests), grind (arith, nat_tests))

from-number : (a b c k : ℕ) → c ≤ k → is_from a b c (a, b, k) ≡ true
from-number a b c k l = grind (arith, nat_tests)

-- the least number from c on of which P holds
abbrev pub IsNext : (ℕ → Type 0) → ℕ → Option ℕ → Type 0
IsNext P c None = (k : ℕ) → c ≤ k → P k → ⊥
IsNext P c (Some n) = (c ≤ n) × P n × ((k : ℕ) → c ≤ k → k < n → P k → ⊥)

abbrev pub NextIs : List Triple → ℕ → ℕ → ℕ → Option ℕ → Type 0
NextIs ts a b c = IsNext (λ k. Contains ts (a, b, k)) c

pub next-is : (ts : List Triple) (a b c : ℕ) → Ascends ts → NextIs ts a b c (next ts a b c)
next-is ts a b c up = go (find (is_from a b c) ts) refl
  where
    go : (o : Option Triple) → find (is_from a b c) ts ≡ o → NextIs ts a b c (option_map (λ t. t.2) o)
    go None e = λ k l m. true≢false (sym (from-number a b c k l) ∙ (sym (ap (is_from a b c) m.2) ∙ find-all (is_from a b c) ts e m.0 (a, b, k) m.1))
    go (Some t) e = found (find-some (is_from a b c) ts t e)
      where
        found : Found (is_from a b c) ts t → NextIs ts a b c (Some t.2)
        found r = (parts.2, (r.at, r.within, here), least)
          where
            parts : (t.0 ≡ a) × (t.1 ≡ b) × (c ≤ t.2)
            parts = from-parts a b c t r.passes

            same : t ≡ (a, b, t.2)
            same = λ i. (parts.0 i, parts.1 i, t.2)

            here : get_or ts r.at (a, b, t.2) ≡ (a, b, t.2)
            here = same_default ts r.at (a, b, t.2) t r.within ∙ (r.is ∙ same)

            least : (k : ℕ) → c ≤ k → k < t.2 → Contains ts (a, b, k) → ⊥
            least k l m w = elim (ltb w.0 r.at) as (λ q. ltb w.0 r.at ≡ q → ⊥) [ true ↦ λ e. true≢false (sym (from-number a b c k l) ∙ (sym (ap (is_from a b c) w.2) ∙ r.first w.0 (a, b, k) (grind (arith, nat_tests)))) | false ↦ λ e. later (grind (arith, nat_tests)) ] refl
              where
                later : r.at ≤ w.0 → ⊥
                later le =
                    let far = sorted_far (λ x y. is_lt (triple_cmp x y)) (ranks_by triple_total (λ t. t)) ts up r.at w.0 (a, b, k) le w.1 in
                    let here : get_or ts r.at (a, b, k) ≡ t = same_default ts r.at (a, b, k) t r.within ∙ r.is in
                    let low : is_lt (triple_cmp (a, b, k) t) ≡ false = sym (ap (λ u. is_lt (triple_cmp u t)) w.2) ∙ (sym (ap (λ u. is_lt (triple_cmp (get_or ts w.0 (a, b, k)) u)) here) ∙ far) in
                    omega (arith, (not_below a b k t.0 t.1 t.2 low).2 (sym parts.0) (sym parts.1))

-- the list holds a triple exactly where it has it
pub holds-contains : (ts : List Triple) (a b k : ℕ) → Ascends ts → holds ts a b k ≡ true → Contains ts (a, b, k)
holds-contains ts a b k up h = go (next ts a b k) (next-is ts a b k up) h
  where
    go : (o : Option ℕ) → NextIs ts a b k o → is_number o k ≡ true → Contains ts (a, b, k)
    go None n e = absurd (true≢false (sym e))
    go (Some m) n e = let same : m ≡ k = grind (arith, nat_tests) in subst (λ z. Contains ts (a, b, z)) same n.1

pub contains-holds : (ts : List Triple) (a b k : ℕ) → Ascends ts → Contains ts (a, b, k) → holds ts a b k ≡ true
contains-holds ts a b k up m = go (next ts a b k) (next-is ts a b k up)
  where
    go : (o : Option ℕ) → NextIs ts a b k o → is_number o k ≡ true
    go None n = absurd (n k (omega arith) m)
    go (Some z) n = at (ltb k z) refl
      where
        at : (q : Bool) → ltb k z ≡ q → is_number (Some z) k ≡ true
        at true e = absurd (n.2 k (omega arith) (grind (arith, nat_tests)) m)
        at false e = let l : k ≤ z = n.0 in grind (arith, nat_tests)

not-held : (b : Bool) → (b ≡ true → ⊥) → b ≡ false
not-held true h = absurd (h refl)
not-held false h = refl

pub next-holds : (ts : List Triple) (a b c : ℕ) → Ascends ts → NextHolds ts a b c (next ts a b c)
next-holds ts a b c up = go (next ts a b c) (next-is ts a b c up)
  where
    go : (o : Option ℕ) → NextIs ts a b c o → NextHolds ts a b c o
    go None n = λ k l. not-held (holds ts a b k) (λ h. n k l (holds-contains ts a b k up h))
    go (Some z) n = (n.0, contains-holds ts a b z up n.1, λ k l m. not-held (holds ts a b k) (λ h. n.2 k l m (holds-contains ts a b k up h)))

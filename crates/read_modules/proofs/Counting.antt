-- Results that are counted up: each local behind the parameters is one of them, once.
use Rattle.std.specs.Prelude.{◌==◌, nat_lt, if◌then◌else◌, slice_get}
use Rattle.std.proofs.Common.{◌≡◌, ℕ, zero, suc, ◌+◌, ◌<◌, ◌≤◌, Bool, true, false, cond, Some, List, [], ◌∷◌, ◌++◌, length, refl, sym, ap, ◌∙◌, subst, arith, ⊎_elim, zero-add}
use Rattle.std.specs.List.{count_by, position_from}
use Rattle.std.proofs.lemmas.Bool.{and_from, eq-eqb, ne_eqb, lt-ltb, le-ltb, cond-true, cond-false, cases_eq, cases_lt}
use Rattle.std.proofs.lemmas.List.{append-nil, append_assoc, length-append}
use Rattle.std.proofs.lemmas.List.Sums.{sum_by-cons}
use Rattle.ir_values.specs.declared.ids.LocalId.{LocalId}
use Rattle.ir_values.specs.declared.name.Name.{Name}
use Rattle.ir_values.specs.declared.ty.Ty.{Ty}
use Rattle.ir_module.specs.declared.tree.Function.{Function}
use Rattle.ir_module.specs.Numbered.{defined_once, results_of}
use Rattle.ir_module.specs.Printable.{ascend_from}
use Rattle.read_modules.proofs.RightSteps.{Counts, Rest}

-- how often a number is among these
abbrev times : ℕ → List LocalId → ℕ
times x xs = count_by (λ r. r.0 == x) xs

times_once : (x : ℕ) (r : LocalId) (rs : List LocalId) → r.0 ≡ x → times x (r ∷ rs) ≡ 1 + times x rs
times_once x r rs e = sum_by-cons (λ r. cond (r.0 == x) 1 0) r rs ∙ ap (λ b. cond b 1 0 + times x rs) (eq-eqb r.0 x e)

times_not : (x : ℕ) (r : LocalId) (rs : List LocalId) → (r.0 ≡ x → ⊥) → times x (r ∷ rs) ≡ times x rs
times_not x r rs h = sum_by-cons (λ r. cond (r.0 == x) 1 0) r rs ∙ (ap (λ b. cond b 1 0 + times x rs) (ne_eqb r.0 x h) ∙ zero-add (times x rs))

below_none : (x v : ℕ) (xs : List LocalId) (w : ℕ) → Counts v xs w → x < v → times x xs ≡ 0
below_none x v [] w h l = refl
below_none x v (r ∷ rs) w h l =
    times_not x r rs (λ e. let d : v ≡ x = sym h.0 ∙ e in omega arith) ∙ below_none x (v + 1) rs w h.1 (omega arith)

within_once : (x v : ℕ) (xs : List LocalId) (w : ℕ) → Counts v xs w → v ≤ x → x < w → times x xs ≡ 1
within_once x v [] w h l k = absurd (omega (arith, h))
within_once x v (r ∷ rs) w h l k = ⊎_elim
    (λ (e : v ≡ x). times_once x r rs (h.0 ∙ e) ∙ ap (λ n. 1 + n) (below_none x (v + 1) rs w h.1 (omega arith)))
    (λ (n : v ≡ x → ⊥). times_not x r rs (λ e. n (sym h.0 ∙ e)) ∙ within_once x (v + 1) rs w h.1 (omega arith) k)
    (cases_eq v x)

wanted : (x params : ℕ) (results : List LocalId) (total : ℕ) → Counts params results total → x < total → (times x results == (if nat_lt x params then 0 else 1)) ≡ true
wanted x params results total h l = ⊎_elim
    (λ (k : x < params). eq-eqb _ _ (below_none x params results total h k ∙ sym (cond-true (nat_lt x params) 0 1 (lt-ltb x params k))))
    (λ (k : params ≤ x). eq-eqb _ _ (within_once x params results total h k l ∙ sym (cond-false (nat_lt x params) 0 1 (le-ltb x params k))))
    (cases_lt x params)

pub counted_once : (f : Function) (x more total : ℕ) → Counts f.params (results_of f) total → x + more ≡ total → defined_once f x more ≡ true
counted_once f x zero total h e = refl
counted_once f x (suc more) total h e =
    and_from _ _ (wanted x f.params (results_of f) total h (omega arith)) (counted_once f (suc x) more total h (omega arith))

pub counted_up : (v : ℕ) (xs : List LocalId) (w : ℕ) → Counts v xs w → ascend_from v xs ≡ true
counted_up v [] w h = refl
counted_up v (x ∷ xs) w h = and_from _ _ (eq-eqb x.0 v h.0) (counted_up (v + 1) xs w h.1)

-- Names by their places.

at_seam : (pre : List (Name × Ty)) (l : Name × Ty) (ls : List (Name × Ty)) → slice_get (pre ++ l ∷ ls) (length pre) ≡ Some l
at_seam [] l ls = refl
at_seam (p ∷ pre) l ls = at_seam pre l ls

length_seam : (pre : List (Name × Ty)) (l : Name × Ty) → length (pre ++ l ∷ []) ≡ length pre + 1
length_seam pre l = length-append pre (l ∷ [])

-- what stands behind the first ones is the rest
pub rest_is : (all pre ls : List (Name × Ty)) (v : ℕ) → all ≡ pre ++ ls → v ≡ length pre → Rest all v ls
rest_is all pre [] v e n = n ∙ sym (ap length (e ∙ append-nil pre))
rest_is all pre (l ∷ ls) v e n = (
  subst (λ k. slice_get all k ≡ Some l) (sym n) (subst (λ a. slice_get a (length pre) ≡ Some l) (sym e) (at_seam pre l ls)),
  rest_is all (pre ++ l ∷ []) ls (v + 1) (e ∙ sym (append_assoc pre (l ∷ []) ls)) (ap (λ k. k + 1) n ∙ sym (length_seam pre l)),
)

-- a place that is found is one of the list
pub found_below : {K : Type 0} (p : K → Bool) (i : ℕ) (xs : List K) (k : ℕ) → position_from p i xs ≡ Some k → k < i + length xs
found_below p i [] k e = absurd (cc)
found_below p i (x ∷ xs) k e = cases (p x) e (found_below p (i + 1) xs k)
  where
    cases : (b : Bool) → (if b then Some i else position_from p (i + 1) xs) ≡ Some k → (position_from p (i + 1) xs ≡ Some k → k < i + 1 + length xs) → k < i + length (x ∷ xs)
    cases true h ih = let j : i ≡ k = (cc) in omega arith
    cases false h ih = let l = ih h in omega arith

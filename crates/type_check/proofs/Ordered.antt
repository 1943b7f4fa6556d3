-- Lists in order, and how often a number stands in a list.
use Rattle.std.proofs.Common.{◌≡◌, ℕ, suc, ◌+◌, true, false, cond, List, ◌∷◌, ◌++◌, get_or, refl, sym, ap, ◌∙◌, arith}
use Rattle.std.proofs.lemmas.List.Sums.{sum_by-cons, sum_by-append}
use Rattle.std.specs.Cmp.{unsigned_Decides}
use Rattle.std.specs.List.Sorted.{IsSorted}
use Rattle.std.specs.Ordering.{is_lt}
use Rattle.std.specs.Prelude.{◌==◌}
use Rattle.std.specs.declared.cmp.Ordering.{Ordering}
use Rattle.type_check.specs.Rules.{times}

get-next : {A : Type 0} (x : A) (xs : List A) (k : ℕ) (d : A) → get_or (x ∷ xs) (k + 1) d ≡ get_or xs k d
get-next x xs k d = let e : k + 1 ≡ suc k = omega arith in rw e refl

pub sorted-tail : {A : Type 0} (cmp : A → A → Ordering) (x : A) (xs : List A) → IsSorted cmp (x ∷ xs) → IsSorted cmp xs
sorted-tail {A} cmp x xs up k d l m =
    sym (ap (λ (u : A × A). is_lt (cmp u.0 u.1)) (λ i. (get-next x xs (k + 1) d i, get-next x xs k d i))) ∙ up (k + 1) d (omega arith) (omega (arith, m))

pub times-cons : (q x : ℕ) (xs : List ℕ) → times q (x ∷ xs) ≡ (cond (x == q) 1 0) + times q xs
times-cons q x xs = sum_by-cons (λ n. cond (n == q) 1 0) x xs

pub times-both : (q : ℕ) (xs ys : List ℕ) → times q (xs ++ ys) ≡ times q xs + times q ys
times-both q xs ys = sum_by-append (λ n. cond (n == q) 1 0) xs ys

pub here : (q x : ℕ) (xs : List ℕ) → x ≡ q → times q (x ∷ xs) ≡ suc (times q xs)
here q x xs e =
    let t : (x == q) ≡ true = (unsigned_Decides x q).1 e in
    let g : 1 + times q xs ≡ suc (times q xs) = omega arith in
    times-cons q x xs ∙ ap (λ b. cond {A = ℕ} b 1 0 + times q xs) t ∙ g

pub elsewhere : (q x : ℕ) (xs : List ℕ) → (x == q) ≡ false → times q (x ∷ xs) ≡ times q xs
elsewhere q x xs e =
    let g : 0 + times q xs ≡ times q xs = omega arith in times-cons q x xs ∙ ap (λ b. cond {A = ℕ} b 1 0 + times q xs) e ∙ g

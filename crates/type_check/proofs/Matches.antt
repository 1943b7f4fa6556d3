-- As many entries are for each block as edges come from it exactly where both, in order, are one list of blocks.
use Rattle.std.proofs.Common.{◌≡◌, ◌⊎◌, inl, inr, ⊎_elim, ℕ, ◌<◌, ◌≤◌, Bool, true, false, cond, List, [], ◌∷◌, ◌++◌, refl, sym, ap, ◌∙◌, subst, arith}
use Rattle.std.proofs.lemmas.Bool.{and_parts}
use Rattle.std.proofs.lemmas.Bool.Decides.{nat_tests}
use Rattle.std.proofs.lemmas.List.Sorted.{sum_by-IsPermutation}
use Rattle.std.specs.Cmp.{unsigned_Decides}
use Rattle.std.specs.List.{list_all}
use Rattle.std.specs.List.Sorted.{IsSorted}
use Rattle.std.specs.Ordering.{nat_cmp, is_lt}
use Rattle.std.specs.Prelude.{◌==◌}
use Rattle.ir_values.specs.declared.ids.BlockId.{BlockId}
use Rattle.ir_module.specs.declared.tree.Block.{Block}
use Rattle.ir_module.specs.declared.tree.Operand.{Operand}
use Rattle.type_check.specs.code.Arcs.{Arc, come_from}
use Rattle.type_check.specs.code.Phis.{Ascend, arc_sources, LeadInto, SortsBlocks}
use Rattle.type_check.specs.Rules.{sources, times, entry_blocks, entries_match}
use Rattle.type_check.proofs.Ordered.{sorted-tail, times-cons, times-both, here, elsewhere}

-- ---- lists in order

not-above : (m n : ℕ) → is_lt (nat_cmp n m) ≡ false → m ≤ n
not-above m n h = grind (arith, nat_tests)

ascend-from : (n : ℕ) (xs : List ℕ) → IsSorted nat_cmp (n ∷ xs) → Ascend n xs
ascend-from n [] up = tt
ascend-from n (x ∷ xs) up = (not-above n x (up 0 0 (omega arith) (omega arith)), ascend-from x xs (sorted-tail nat_cmp n (x ∷ xs) up))

pub sorted-ascend : (xs : List ℕ) → IsSorted nat_cmp xs → Ascend 0 xs
sorted-ascend [] up = tt
sorted-ascend (x ∷ xs) up = (omega arith, ascend-from x xs up)

-- ---- how often a number stands in a list

not-equal : (x q : ℕ) → q < x → (x == q) ≡ false
not-equal x q h = grind (arith, nat_tests)

-- a number below an ascending list isn't there
below : (q n : ℕ) (xs : List ℕ) → q < n → Ascend n xs → times q xs ≡ 0
below q n [] l up = refl
below q n (x ∷ xs) l up = elsewhere q x xs (not-equal x q (omega (arith, l, up.0))) ∙ below q x xs (omega (arith, l, up.0)) up.1

-- two ascending lists in which each number stands as often are one
same-head : (x y : ℕ) (xs ys : List ℕ) → Ascend y ys → ((q : ℕ) → times q (x ∷ xs) ≡ times q (y ∷ ys)) → x < y → ⊥
same-head x y xs ys up h l =
    let a = here x x xs refl in
    let b = elsewhere x y ys (not-equal y x l) in
    let c = below x y ys l up in
    let e = h x in
    omega (arith, a, b, c, e)

pub one-list : (n m : ℕ) (xs ys : List ℕ) → Ascend n xs → Ascend m ys → ((q : ℕ) → times q xs ≡ times q ys) → xs ≡ ys
one-list n m [] [] up vp h = refl
one-list n m [] (y ∷ ys) up vp h = let a = here y y ys refl in let e = h y in absurd (omega (arith, a, e))
one-list n m (x ∷ xs) [] up vp h = let a = here x x xs refl in let e = h x in absurd (omega (arith, a, e))
one-list n m (x ∷ xs) (y ∷ ys) up vp h =
    let le : x ≤ y = at-most x y (same-head y x ys xs up.1 (λ q. sym (h q))) in
    let ge : y ≤ x = at-most y x (same-head x y xs ys vp.1 h) in
    let e : x ≡ y = omega (arith, le, ge) in
    ap (λ z. z ∷ xs) e ∙ ap (λ zs. y ∷ zs) (one-list x y xs ys up.1 vp.1 (λ q. rest q e))
  where
    at-most : (a b : ℕ) → (b < a → ⊥) → a ≤ b
    at-most a b f = omega (arith, f)

    rest : (q : ℕ) → x ≡ y → times q xs ≡ times q ys
    rest q e =
        let g = sym (times-cons q x xs) ∙ h q ∙ ap (λ z. times q (z ∷ ys)) (sym e) ∙ times-cons q x ys in omega (arith, g)

-- ---- the test of the definition

all-there : (p : ℕ → Bool) (q : ℕ) (xs : List ℕ) → list_all p xs ≡ true → (times q xs ≡ 0) ⊎ (p q ≡ true)
all-there p q [] h = inl refl
all-there p q (x ∷ xs) h = by (x == q) refl (all-there p q xs (and_parts (p x) (list_all p xs) h).1)
  where
    by : (b : Bool) → (x == q) ≡ b → (times q xs ≡ 0) ⊎ (p q ≡ true) → (times q (x ∷ xs) ≡ 0) ⊎ (p q ≡ true)
    by true e rest = inr (subst (λ z. p z ≡ true) ((unsigned_Decides x q).0 e) (and_parts (p x) (list_all p xs) h).0)
    by false e rest = ⊎_elim (λ z. inl (elsewhere q x xs e ∙ z)) (λ t. inr t) rest

all-pass : (p : ℕ → Bool) → ((q : ℕ) → p q ≡ true) → (xs : List ℕ) → list_all p xs ≡ true
all-pass p h [] = refl
all-pass p h (x ∷ xs) = rw (h x) (all-pass p h xs)

abbrev Even : List ℕ → List ℕ → ℕ → Bool
Even from to q = times q from == times q to

even-all : (from to : List ℕ) → list_all (Even from to) (from ++ to) ≡ true → (q : ℕ) → times q from ≡ times q to
even-all from to h q =
    ⊎_elim (λ (z : times q (from ++ to) ≡ 0). let b = times-both q from to in omega (arith, z, b)) (λ t. (unsigned_Decides (times q from) (times q to)).0 t)
    (all-there (Even from to) q (from ++ to) h)

-- ---- the test of the code

come-true : (bs : List ℕ) (arcs : List Arc) → come_from bs arcs ≡ true → bs ≡ arc_sources arcs
come-true [] [] h = refl
come-true [] (a ∷ arcs) h = cc
come-true (b ∷ bs) [] h = cc
come-true (b ∷ bs) (a ∷ arcs) h =
    let p = and_parts (a.1 == b) (come_from bs arcs) h in
    let e = (unsigned_Decides a.1 b).0 p.0 in
    ap (λ z. z ∷ bs) (sym e) ∙ ap (λ zs. a.1 ∷ zs) (come-true bs arcs p.1)

come-itself : (arcs : List Arc) → come_from (arc_sources arcs) arcs ≡ true
come-itself [] = refl
come-itself (a ∷ arcs) = rw ((unsigned_Decides a.1 a.1).1 refl) (come-itself arcs)

one-answer : (a b : Bool) → (a ≡ true → b ≡ true) → (b ≡ true → a ≡ true) → a ≡ b
one-answer true b f g = sym (f refl)
one-answer false true f g = g refl
one-answer false false f g = refl

pub matches : (blocks : List Block) (b : ℕ) (into : List Arc) (entries : List (Operand × BlockId)) (sorted : List ℕ)
    → SortsBlocks entries sorted → LeadInto blocks b into → come_from sorted into ≡ entries_match (sources b 0 blocks) entries
matches blocks b into entries sorted s l = one-answer (come_from sorted into) (entries_match from entries) forth back
  where
    from : List ℕ
    from = sources b 0 blocks

    counts : (q : ℕ) → times q sorted ≡ times q (entry_blocks entries)
    counts q = sum_by-IsPermutation (λ n. cond (n == q) 1 0) (entry_blocks entries) sorted s.same

    forth : come_from sorted into ≡ true → entries_match from entries ≡ true
    forth h =
        all-pass (Even from (entry_blocks entries))
        (λ q. (unsigned_Decides (times q from) (times q (entry_blocks entries))).1 (sym (l.same q) ∙ ap (times q) (sym (come-true sorted into h)) ∙ counts q))
        (from ++ entry_blocks entries)

    back : entries_match from entries ≡ true → come_from sorted into ≡ true
    back h =
        let e = one-list 0 0 sorted (arc_sources into) (sorted-ascend sorted s.ascends) l.ascend (λ q. counts q ∙ sym (even-all from (entry_blocks entries) h q) ∙ sym (l.same q)) in
        ap (λ z. come_from z into) e ∙ come-itself into

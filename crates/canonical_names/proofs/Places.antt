-- Places in lists, and names that are distinct.
use Rattle.std.specs.Prelude.{slice_get, not}
use Rattle.std.specs.List.{list_any, position_from}
use Rattle.std.proofs.Common.{◌≡◌, ℕ, zero, suc, ◌+◌, Bool, true, false, cond, None, Some, List, [], ◌∷◌, ◌++◌, length, map, refl, sym, ap, ◌∙◌, subst, arith, append_assoc}
use Rattle.std.proofs.lemmas.Bool.{and_parts, and_from, or_parts, or_from, or_left, or_right, not_from_false, cond-false, not-true, false≢true, false_from_ne_true}
use Rattle.std.proofs.lemmas.List.{length-append}
use Rattle.ir_values.specs.declared.name.Name.{Name}
use Rattle.ir_module.specs.Numbered.{same_name, are_distinct}
use Rattle.ir_names.specs.code.Names.{same_name as equal_names}
use Rattle.ir_names.specs.Sense.{number_of}
use Rattle.read_modules.proofs.SameNames.{same_decides, equal_is, equal_self}

-- ---- the items of a list from an index on

abbrev pub From : {A : Type 0} → List A → ℕ → List A → Type 0
From xs n [] = Unit {0}
From xs n (y ∷ ys) = (slice_get xs n ≡ Some y) × From xs (n + 1) ys

pub From-append : {A : Type 0} (xs : List A) (n k : ℕ) (ys zs : List A) → k ≡ n + length ys → From xs n ys → From xs k zs → From xs n (ys ++ zs)
From-append xs n k [] zs e h i = let d : k ≡ n = omega arith in subst (λ j. From xs j zs) d i
From-append xs n k (y ∷ ys) zs e h i = (h.0, From-append xs (n + 1) k ys zs (omega arith) h.1 i)

pub From-parts : {A : Type 0} (xs : List A) (n : ℕ) (ys zs : List A) → From xs n (ys ++ zs) → From xs n ys × From xs (n + length ys) zs
From-parts xs n [] zs h = let e : n ≡ n + 0 = omega arith in (tt, subst (λ k. From xs k zs) e h)
From-parts xs n (y ∷ ys) zs h =
    let w = From-parts xs (n + 1) ys zs h.1 in
    let e : n + 1 + length ys ≡ n + length (y ∷ ys) = omega arith in
    ((h.0, w.0), subst (λ k. From xs k zs) e w.1)

get_behind : {A : Type 0} (pre : List A) (x : A) (xs : List A) → slice_get (pre ++ x ∷ xs) (length pre) ≡ Some x
get_behind [] x xs = refl
get_behind (p ∷ pre) x xs = get_behind pre x xs

longer : {A : Type 0} (pre : List A) (x : A) → length (pre ++ x ∷ []) ≡ length pre + 1
longer pre x = let l = length-append pre (x ∷ []) in omega arith

from_behind : {A : Type 0} (all pre : List A) (n : ℕ) (xs : List A) → n ≡ length pre → all ≡ pre ++ xs → From all n xs
from_behind all pre n [] e i = tt
from_behind all pre n (x ∷ xs) e i = (
  ap (λ l. slice_get l n) i ∙ (ap (slice_get (pre ++ x ∷ xs)) e ∙ get_behind pre x xs),
  from_behind all (pre ++ x ∷ []) (n + 1) xs (let l = longer pre x in omega arith) (i ∙ sym (append_assoc pre (x ∷ []) xs)),
)

-- a list is its items
pub from_itself : {A : Type 0} (xs : List A) → From xs 0 xs
from_itself xs = from_behind xs [] 0 xs refl refl

pub same_some : {A : Type 0} {x y : A} → Some x ≡ Some y → x ≡ y
same_some e = cc

whole_behind : {A : Type 0} (pre : List A) (n : ℕ) (xs ys : List A) → n ≡ length pre → length ys ≡ length xs → From (pre ++ xs) n ys → ys ≡ xs
whole_behind pre n [] [] e l h = refl
whole_behind pre n [] (y ∷ ys) e l h = absurd (omega arith)
whole_behind pre n (x ∷ xs) [] e l h = absurd (omega arith)
whole_behind pre n (x ∷ xs) (y ∷ ys) e l h =
    let i : y ≡ x = same_some (sym h.0 ∙ (ap (slice_get (pre ++ x ∷ xs)) e ∙ get_behind pre x xs)) in
    let g : From ((pre ++ x ∷ []) ++ xs) (n + 1) ys = subst (λ l. From l (n + 1) ys) (sym (append_assoc pre (x ∷ []) xs)) h.1 in
    let m = longer pre x in
    ap (λ z. z ∷ ys) i ∙ ap (λ zs. x ∷ zs) (whole_behind (pre ++ x ∷ []) (n + 1) xs ys (omega arith) (omega arith) g)

-- as many items as the list has are the list
pub whole_from : {A : Type 0} (xs ys : List A) → length ys ≡ length xs → From xs 0 ys → ys ≡ xs
whole_from xs ys l h = whole_behind [] 0 xs ys refl l h

pub mapped_get : {A B : Type 0} (f : A → B) (xs : List A) (k : ℕ) (x : A) → slice_get xs k ≡ Some x → slice_get (map f xs) k ≡ Some (f x)
mapped_get f [] k x e = absurd (cc)
mapped_get f (y ∷ xs) zero x e = ap (λ z. Some (f z)) (same_some e)
mapped_get f (y ∷ xs) (suc k) x e = mapped_get f xs k x e

-- ---- names

-- a name that is there is found
pub any_from : (n : Name) (p : Name → Bool) (xs : List Name) (k : ℕ) → slice_get xs k ≡ Some n → p n ≡ true → list_any p xs ≡ true
any_from n p [] k e h = absurd (cc)
any_from n p (x ∷ xs) zero e h = or_left (p x) (list_any p xs) (ap p (same_some e) ∙ h)
any_from n p (x ∷ xs) (suc k) e h = or_right (p x) (list_any p xs) (any_from n p xs k e h)

-- a name of which another test is false
unequal : (n x : Name) → same_name x n ≡ false → equal_names n x ≡ false
unequal n x h = false_from_ne_true (equal_names n x) (λ e. false≢true (sym h ∙ (same_decides x n).1 (sym (equal_is n x e))))

-- a name that is none of these
none_placed : (n : Name) (i : ℕ) (xs : List Name) → list_any (same_name n) xs ≡ false → position_from (equal_names n) i xs ≡ None
none_placed n i [] h = refl
none_placed n i (x ∷ xs) h =
    let p = or_parts (same_name n x) (list_any (same_name n) xs) h in
    let e : equal_names n x ≡ false = false_from_ne_true (equal_names n x) (λ e. false≢true (sym p.0 ∙ (same_decides n x).1 (equal_is n x e))) in
    cond-false (equal_names n x) (Some i) (position_from (equal_names n) (i + 1) xs) e ∙ none_placed n (i + 1) xs p.1

differs : (x n : Name) (xs : List Name) (k : ℕ) → list_any (same_name x) xs ≡ false → slice_get xs k ≡ Some n → same_name x n ≡ false
differs x n xs k h e = false_from_ne_true (same_name x n) (λ i. false≢true (sym h ∙ any_from n (same_name x) xs k e i))

placed_from : (n : Name) (i : ℕ) (xs : List Name) (k : ℕ) → are_distinct xs ≡ true → slice_get xs k ≡ Some n → position_from (equal_names n) i xs ≡ Some (i + k)
placed_from n i [] k h e = absurd (cc)
placed_from n i (x ∷ xs) zero h e =
    let d : i + 0 ≡ i = omega arith in
    ap (λ b. cond b (Some i) (position_from (equal_names n) (i + 1) xs)) (equal_self n x (sym (same_some e))) ∙ ap Some (sym d)
placed_from n i (x ∷ xs) (suc k) h e =
    let p = and_parts (not (list_any (same_name x) xs)) (are_distinct xs) h in
    let d : i + 1 + k ≡ i + suc k = omega arith in
    cond-false (equal_names n x) (Some i) (position_from (equal_names n) (i + 1) xs) (unequal n x (differs x n xs k (not-true _ p.0) e))
    ∙ (placed_from n (i + 1) xs k p.1 e ∙ ap Some d)

-- the number of a name among distinct names
pub placed : (xs : List Name) (k : ℕ) (n : Name) → are_distinct xs ≡ true → slice_get xs k ≡ Some n → number_of equal_names xs n ≡ Some k
placed xs k n h e = let d : 0 + k ≡ k = omega arith in placed_from n 0 xs k h e ∙ ap Some d

none_left : (p : Name → Bool) (xs ys : List Name) → list_any p (xs ++ ys) ≡ false → list_any p xs ≡ false
none_left p [] ys h = refl
none_left p (x ∷ xs) ys h = let w = or_parts (p x) (list_any p (xs ++ ys)) h in or_from (p x) (list_any p xs) w.0 (none_left p xs ys w.1)

none_right : (p : Name → Bool) (xs ys : List Name) → list_any p (xs ++ ys) ≡ false → list_any p ys ≡ false
none_right p [] ys h = h
none_right p (x ∷ xs) ys h = none_right p xs ys (or_parts (p x) (list_any p (xs ++ ys)) h).1

pub distinct_left : (xs ys : List Name) → are_distinct (xs ++ ys) ≡ true → are_distinct xs ≡ true
distinct_left [] ys h = refl
distinct_left (x ∷ xs) ys h =
    let p = and_parts (not (list_any (same_name x) (xs ++ ys))) (are_distinct (xs ++ ys)) h in
    and_from (not (list_any (same_name x) xs)) (are_distinct xs) (not_from_false _ (none_left (same_name x) xs ys (not-true _ p.0))) (distinct_left xs ys p.1)

pub distinct_right : (xs ys : List Name) → are_distinct (xs ++ ys) ≡ true → are_distinct ys ≡ true
distinct_right [] ys h = h
distinct_right (x ∷ xs) ys h = distinct_right xs ys (and_parts (not (list_any (same_name x) (xs ++ ys))) (are_distinct (xs ++ ys)) h).1

-- a name of the one list is none of the other
pub apart_left : (xs ys : List Name) (k : ℕ) (n : Name) → are_distinct (xs ++ ys) ≡ true → slice_get xs k ≡ Some n → number_of equal_names ys n ≡ None
apart_left [] ys k n h e = absurd (cc)
apart_left (x ∷ xs) ys zero n h e =
    let p = and_parts (not (list_any (same_name x) (xs ++ ys))) (are_distinct (xs ++ ys)) h in
    none_placed n 0 ys (subst (λ x. list_any (same_name x) ys ≡ false) (same_some e) (none_right (same_name x) xs ys (not-true _ p.0)))
apart_left (x ∷ xs) ys (suc k) n h e = apart_left xs ys k n (and_parts (not (list_any (same_name x) (xs ++ ys))) (are_distinct (xs ++ ys)) h).1 e

apart_right_from : (i : ℕ) (xs ys : List Name) (k : ℕ) (n : Name) → are_distinct (xs ++ ys) ≡ true → slice_get ys k ≡ Some n → position_from (equal_names n) i xs ≡ None
apart_right_from i [] ys k n h e = refl
apart_right_from i (x ∷ xs) ys k n h e =
    let p = and_parts (not (list_any (same_name x) (xs ++ ys))) (are_distinct (xs ++ ys)) h in
    cond-false (equal_names n x) (Some i) (position_from (equal_names n) (i + 1) xs) (unequal n x (differs x n ys k (none_right (same_name x) xs ys (not-true _ p.0)) e))
    ∙ apart_right_from (i + 1) xs ys k n p.1 e

pub apart_right : (xs ys : List Name) (k : ℕ) (n : Name) → are_distinct (xs ++ ys) ≡ true → slice_get ys k ≡ Some n → number_of equal_names xs n ≡ None
apart_right xs ys k n h e = apart_right_from 0 xs ys k n h e

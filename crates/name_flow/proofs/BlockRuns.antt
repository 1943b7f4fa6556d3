-- The runs that are added, one name after another, are those of the blocks at whose ends a name is wanted.
use Rattle.std.proofs.Common.{◌≡◌, zero, suc, ◌⊎◌, ◌↔◌, ℕ, ◌+◌, ◌-◌, ◌<◌, ◌≤◌, ◌&&◌, ◌||◌, Bool, true, false, eqb, leb, cond, if◌then◌else◌, Result, Ok, Err, OnOk, List, [], ◌∷◌, ◌++◌, length, get_or, take, drop, map, find, Some, refl, sym, ap, ◌∙◌, arith, add-one, inl, inr, subst, Contains, true≢false}
use Rattle.std.specs.Ordering.{is_lt}
use Rattle.std.proofs.lemmas.Bool.Decides.{nat_tests}
use Rattle.std.proofs.lemmas.List.Sorted.{Contains-permutation, IsPermutation-sym, sorted_far, ranks_by}
use Rattle.name_flow.specs.code.Runs.{reaches, begins, in_run, runs_from, runs_of, name_first, block_of, lead, front, others, AddsName, AddsNames, no_name, one_name, AreRuns}
use Rattle.name_flow.specs.code.Spread.{Pair, IsWanted, used_here, used_later, IsWantedAfter}
use Rattle.name_flow.specs.code.Triples.{Triple, triple_cmp, Ascends, Sorts}
use Rattle.name_flow.proofs.Members.{none, here, there, cases, Contains-map, map-cases}
use Rattle.name_flow.proofs.Order.{triple_total, not_below}

pub on-ok : {T E : Type 0} {P Q : Type 0} (r : Result T E) → (P → Q) → OnOk r P → OnOk r Q
on-ok (Ok x) f p = f p
on-ok (Err e) f p = p

-- a fact of each triple
abbrev pub Each : (Triple → Type 0) → List Triple → Type 0
Each P [] = Unit {0}
Each P (t ∷ ts) = P t × Each P ts

Each-append : (P : Triple → Type 0) (xs ys : List Triple) → Each P xs → Each P ys → Each P (xs ++ ys)
Each-append P [] ys h k = k
Each-append P (x ∷ xs) ys h k = (h.0, Each-append P xs ys h.1 k)

Each-of : (P : Triple → Type 0) (xs : List Triple) (t : Triple) → Each P xs → Contains xs t → P t
Each-of P [] t h m = absurd (none t m)
Each-of P (x ∷ xs) t h m = elim (cases x t xs m) [ inl e ↦ subst P e h.0 | inr n ↦ Each-of P xs t h.1 n ]

Each-map : (P Q : Triple → Type 0) → ((t : Triple) → P t → Q t) → (xs : List Triple) → Each P xs → Each Q xs
Each-map P Q f [] h = tt
Each-map P Q f (x ∷ xs) h = (f x h.0, Each-map P Q f xs h.1)

Each-from : (P : Triple → Type 0) (xs : List Triple) → ((t : Triple) → Contains xs t → P t) → Each P xs
Each-from P [] h = tt
Each-from P (x ∷ xs) h = (h x (here x xs), Each-from P xs (λ t m. h t (there x t xs m)))

-- in ascending order
abbrev pub IsNotBelow : Triple → Triple → Type 0
IsNotBelow t u = is_lt (triple_cmp u t) ≡ false

abbrev pub Rises : List Triple → Type 0
Rises [] = Unit {0}
Rises (t ∷ ts) = Each (IsNotBelow t) ts × Rises ts

Rises-append : (xs ys : List Triple) → Rises xs → Rises ys → Each (λ t. Each (IsNotBelow t) ys) xs → Rises (xs ++ ys)
Rises-append [] ys h k a = k
Rises-append (x ∷ xs) ys h k a = (Each-append (IsNotBelow x) xs ys h.0 a.0, Rises-append xs ys h.1 k a.1)

Each-at : (P : Triple → Type 0) (xs : List Triple) (k : ℕ) (d : Triple) → k < length xs → Each P xs → P (get_or xs k d)
Each-at P [] k d l h = absurd (omega arith)
Each-at P (x ∷ xs) zero d l h = h.0
Each-at P (x ∷ xs) (suc k) d l h = Each-at P xs k d (omega arith) h.1

rises-at : (xs : List Triple) (k : ℕ) (d : Triple) → k + 1 < length xs → Rises xs → IsNotBelow (get_or xs k d) (get_or xs (k + 1) d)
rises-at [] k d l h = absurd (omega arith)
rises-at (x ∷ xs) zero d l h = Each-at (IsNotBelow x) (x ∷ xs) 1 d l (let e : IsNotBelow x x = grind (arith, nat_tests) in (e, h.0))
rises-at (x ∷ xs) (suc k) d l h = let e : suc k + 1 ≡ suc (k + 1) = omega arith in rw e (rises-at xs k d (omega arith) h.1)

pub Ascends-rises : (xs : List Triple) → Rises xs → Ascends xs
Ascends-rises xs h k d l m = rises-at xs k d m h

get-cons : (x : Triple) (xs : List Triple) (k : ℕ) (d : Triple) → get_or (x ∷ xs) (k + 1) d ≡ get_or xs k d
get-cons x xs k d = let e : k + 1 ≡ suc k = omega arith in rw e refl

rises-ascends : (xs : List Triple) → Ascends xs → Rises xs
rises-ascends [] up = tt
rises-ascends (x ∷ xs) up = (Each-from (IsNotBelow x) xs far, rises-ascends xs rest)
  where
    far : (t : Triple) → Contains xs t → IsNotBelow x t
    far t m =
        let f = sorted_far (λ x y. is_lt (triple_cmp x y)) (ranks_by triple_total (λ t. t)) (x ∷ xs) up 0 (suc m.0) t (omega arith) (omega (arith, m.1)) in
        subst (λ u. is_lt (triple_cmp u x) ≡ false) m.2 f

    rest : Ascends xs
    rest k d l m = sym (ap (λ (u : Triple × Triple). is_lt (triple_cmp u.0 u.1)) (λ i. (get-cons x xs (k + 1) d i, get-cons x xs k d i))) ∙ up (k + 1) d (omega arith) (omega (arith, m))

-- whether a list of triples has the block
abbrev has_block : ℕ → List Triple → Bool
has_block c [] = false
has_block c (t ∷ ts) = eqb t.1 c || has_block c ts

-- the blocks ascend from n on, all of the name x
abbrev Up : ℕ → ℕ → List Triple → Type 0
Up x n [] = Unit {0}
Up x n (t ∷ ts) = (t.0 ≡ x) × (n ≤ t.1) × Up x t.1 ts

has-below : (x n c : ℕ) (ts : List Triple) → Up x n ts → c < n → has_block c ts ≡ false
has-below x n c [] u l = refl
has-below x n c (t ∷ ts) u l = go (has-below x t.1 c ts u.2 (omega (arith, u.1)))
  where
    go : has_block c ts ≡ false → has_block c (t ∷ ts) ≡ false
    go h = let le : n ≤ t.1 = u.1 in grind (arith, nat_tests)

-- one block more
from-near : (run t : Triple) (ts : List Triple) → leb (t.1 - 1) run.1 ≡ true → runs_from run (t ∷ ts) ≡ runs_from (run.0, t.1, run.2) ts
from-near run t ts e = rw e refl

from-far : (run t : Triple) (ts : List Triple) → leb (t.1 - 1) run.1 ≡ false → runs_from run (t ∷ ts) ≡ run ∷ runs_from (run.0, t.1, t.1) ts
from-far run t ts e = rw e refl

-- the blocks that runs have
in-cons : (run : Triple) (runs : List Triple) (x c : ℕ) → in_run (run ∷ runs) x c ≡ (if eqb run.0 x && leb c run.1 then leb run.2 c else in_run runs x c)
in-cons run runs x c = by (eqb run.0 x && leb c run.1)
  where
    by : (r : Bool) → begins c (cond r (Some run) (find (reaches x c) runs)) ≡ (if r then leb run.2 c else in_run runs x c)
    by true = refl
    by false = refl

abbrev within : ℕ → ℕ → ℕ → Bool
within first last c = leb first c && leb c last

one-run : (x last first c : ℕ) → (if eqb x x && leb c last then leb first c else false) ≡ (within first last c || false)
one-run x last first c = by (leb c last) refl
  where
    same : eqb x x ≡ true
    same = grind (arith, nat_tests)

    by : (r : Bool) → leb c last ≡ r → (if eqb x x && leb c last then leb first c else false) ≡ (within first last c || false)
    by true e = rw (same, e) (end (leb first c))
      where
        end : (r : Bool) → r ≡ ((r && true) || false)
        end true = refl
        end false = refl
    by false e = rw (same, e) (end (leb first c))
      where
        end : (r : Bool) → false ≡ ((r && false) || false)
        end true = refl
        end false = refl

near-run : (last first c b : ℕ) (h : Bool) → first ≤ last → last ≤ b → leb (b - 1) last ≡ true → (within first b c || h) ≡ (within first last c || (eqb b c || h))
near-run last first c b true l m e = by (within first b c) (within first last c) (eqb b c)
  where
    by : (p q r : Bool) → (p || true) ≡ (q || (r || true))
    by true true r = refl
    by true false true = refl
    by true false false = refl
    by false true r = refl
    by false false true = refl
    by false false false = refl
near-run last first c b false l m e = by (eqb b c) refl
  where
    by : (r : Bool) → eqb b c ≡ r → (within first b c || false) ≡ (within first last c || (r || false))
    by true f = let p : leb first c ≡ true = grind (arith, nat_tests) in let q : leb c b ≡ true = grind (arith, nat_tests) in rw (p, q) (end (leb c last))
      where
        end : (r : Bool) → true ≡ ((true && r) || (true || false))
        end true = refl
        end false = refl
    by false f = let q : leb c b ≡ leb c last = cut (leb c last) refl in rw q refl
      where
        cut : (r : Bool) → leb c last ≡ r → leb c b ≡ leb c last
        cut true g = grind (arith, nat_tests)
        cut false g = grind (arith, nat_tests)

far-run : (x last first c b : ℕ) (h : Bool) → first ≤ last → last ≤ b → leb (b - 1) last ≡ false → (c < b → h ≡ false) → (if eqb x x && leb c last then leb first c else (within b b c || h)) ≡ (within first last c || (eqb b c || h))
far-run x last first c b h l m e out = by (leb c last) refl
  where
    same : eqb x x ≡ true
    same = grind (arith, nat_tests)

    by : (r : Bool) → leb c last ≡ r → (if eqb x x && r then leb first c else (within b b c || h)) ≡ ((leb first c && r) || (eqb b c || h))
    by true f = let o : h ≡ false = out (grind (arith, nat_tests)) in let q : eqb b c ≡ false = grind (arith, nat_tests) in rw (same, o, q) (end (leb first c))
      where
        end : (r : Bool) → r ≡ ((r && true) || (false || false))
        end true = refl
        end false = refl
    by false f = rw same (end (leb first c) ∙ ap (λ r. r || h) cut ∙ sym (rest (leb first c)))
      where
        cut : within b b c ≡ eqb b c
        cut = go (eqb b c) refl
          where
            go : (r : Bool) → eqb b c ≡ r → within b b c ≡ r
            go true g = let p : leb b c ≡ true = grind (arith, nat_tests) in let q : leb c b ≡ true = grind (arith, nat_tests) in rw (p, q) refl
            go false g = grind (arith, nat_tests)

        end : (r : Bool) → (within b b c || h) ≡ (within b b c || h)
        end r = refl

        rest : (r : Bool) → ((r && false) || (eqb b c || h)) ≡ (eqb b c || h)
        rest true = refl
        rest false = refl

from-has : (x last first : ℕ) (ts : List Triple) (c : ℕ) → first ≤ last → Up x last ts → in_run (runs_from (x, last, first) ts) x c ≡ (within first last c || has_block c ts)
from-has x last first [] c l u = in-cons (x, last, first) [] x c ∙ one-run x last first c
from-has x last first (t ∷ ts) c l u = by (λ f. from-has x t.1 f ts c) (leb (t.1 - 1) last) refl
  where
    by : ((f : ℕ) → f ≤ t.1 → Up x t.1 ts → in_run (runs_from (x, t.1, f) ts) x c ≡ (within f t.1 c || has_block c ts)) → (r : Bool) → leb (t.1 - 1) last ≡ r → in_run (runs_from (x, last, first) (t ∷ ts)) x c ≡ (within first last c || has_block c (t ∷ ts))
    by ih true e =
        ap (λ rs. in_run rs x c) (from-near (x, last, first) t ts e) ∙ ih first (omega (arith, u.1)) u.2 ∙ near-run last first c t.1 (has_block c ts) l u.1 e
    by ih false e =
        ap (λ rs. in_run rs x c) (from-far (x, last, first) t ts e) ∙ in-cons (x, last, first) (runs_from (x, t.1, t.1) ts) x c ∙ ap (λ r. if eqb x x && leb c last then leb first c else r) (ih t.1 (omega arith) u.2) ∙ far-run x last first c t.1 (has_block c ts) l u.1 e (λ m. has-below x t.1 c ts u.2 m)

-- their names and their order
abbrev IsPast : ℕ → ℕ → Triple → Type 0
IsPast x n r = (r.0 ≡ x) × (n ≤ r.1)

from-past : (x last first : ℕ) (ts : List Triple) (n : ℕ) → n ≤ last → Up x last ts → Each (IsPast x n) (runs_from (x, last, first) ts)
from-past x last first [] n l u = ((refl, l), tt)
from-past x last first (t ∷ ts) n l u = by (λ f m. from-past x t.1 f ts m) (leb (t.1 - 1) last) refl
  where
    by : ((f m : ℕ) → m ≤ t.1 → Up x t.1 ts → Each (IsPast x m) (runs_from (x, t.1, f) ts)) → (r : Bool) → leb (t.1 - 1) last ≡ r → Each (IsPast x n) (runs_from (x, last, first) (t ∷ ts))
    by ih true e = subst (Each (IsPast x n)) (sym (from-near (x, last, first) t ts e)) (ih first n (omega (arith, u.1)) u.2)
    by ih false e = subst (Each (IsPast x n)) (sym (from-far (x, last, first) t ts e)) ((refl, l), ih t.1 n (omega (arith, u.1)) u.2)

past-not : (x last first : ℕ) (r : Triple) → (r.0 ≡ x) × (last < r.1) → IsNotBelow (x, last, first) r
past-not x last first r h = let e : r.0 ≡ x = h.0 in let l : last < r.1 = h.1 in grind (arith, nat_tests)

from-rises : (x last first : ℕ) (ts : List Triple) → Up x last ts → Rises (runs_from (x, last, first) ts)
from-rises x last first [] u = (tt, tt)
from-rises x last first (t ∷ ts) u = by (λ f. from-rises x t.1 f ts) (leb (t.1 - 1) last) refl
  where
    by : ((f : ℕ) → Up x t.1 ts → Rises (runs_from (x, t.1, f) ts)) → (r : Bool) → leb (t.1 - 1) last ≡ r → Rises (runs_from (x, last, first) (t ∷ ts))
    by ih true e = subst Rises (sym (from-near (x, last, first) t ts e)) (ih first u.2)
    by ih false e =
        let l : last < t.1 = grind (arith, nat_tests) in
        subst Rises (sym (from-far (x, last, first) t ts e)) (Each-map (IsPast x t.1) (IsNotBelow (x, last, first)) (λ r h. past-not x last first r (h.0, omega (arith, h.1, l))) (runs_from (x, t.1, t.1) ts) (from-past x t.1 t.1 ts t.1 (omega arith) u.2), ih t.1 u.2)

-- the runs of the blocks of one name
within-self : (b c : ℕ) → within b b c ≡ eqb b c
within-self b c = go (eqb b c) refl
  where
    go : (r : Bool) → eqb b c ≡ r → within b b c ≡ r
    go true g = let p : leb b c ≡ true = grind (arith, nat_tests) in let q : leb c b ≡ true = grind (arith, nat_tests) in rw (p, q) refl
    go false g = grind (arith, nat_tests)

runs-has : (x c : ℕ) (ts : List Triple) → Up x 0 ts → in_run (runs_of ts) x c ≡ has_block c ts
runs-has x c [] u = refl
runs-has x c (t ∷ ts) u = ap (λ z. in_run (runs_from (z, t.1, t.1) ts) x c) u.0 ∙ from-has x t.1 t.1 ts c (omega arith) u.2 ∙ ap (λ r. r || has_block c ts) (within-self t.1 c)

runs-rises : (x : ℕ) (ts : List Triple) → Up x 0 ts → Rises (runs_of ts)
runs-rises x [] u = tt
runs-rises x (t ∷ ts) u = subst (λ z. Rises (runs_from (z, t.1, t.1) ts)) (sym u.0) (from-rises x t.1 t.1 ts u.2)

runs-named : (x : ℕ) (ts : List Triple) → Up x 0 ts → Each (λ r. r.0 ≡ x) (runs_of ts)
runs-named x [] u = tt
runs-named x (t ∷ ts) u = subst (λ z. Each (λ r. r.0 ≡ x) (runs_from (z, t.1, t.1) ts)) (sym u.0) (Each-map (IsPast x 0) (λ r. r.0 ≡ x) (λ r h. h.0) (runs_from (x, t.1, t.1) ts) (from-past x t.1 t.1 ts 0 (omega arith) u.2))

abbrev IsBlockOf : ℕ → Triple → Type 0
IsBlockOf x t = (t.0 ≡ x) × (t.2 ≡ 0)

up-of : (x n : ℕ) (ts : List Triple) → Rises ts → Each (IsBlockOf x) ts → Each (λ t. n ≤ t.1) ts → Up x n ts
up-of x n [] r h l = tt
up-of x n (t ∷ ts) r h l = (h.0.0, l.0, up-of x t.1 ts r.1 h.1 (Each-from (λ u. t.1 ≤ u.1) ts later))
  where
    later : (u : Triple) → Contains ts u → t.1 ≤ u.1
    later u m = (not_below u.0 u.1 u.2 t.0 t.1 t.2 (Each-of (IsNotBelow t) ts u r.0 m)).1 ((Each-of (IsBlockOf x) ts u h.1 m).0 ∙ sym h.0.0)

has-from : (x c : ℕ) (ts : List Triple) → Each (IsBlockOf x) ts → has_block c ts ≡ true → Contains ts (x, c, 0)
has-from x c [] h e = absurd (true≢false (sym e))
has-from x c (t ∷ ts) h e = by (has-from x c ts h.1) (eqb t.1 c) refl e
  where
    by : (has_block c ts ≡ true → Contains ts (x, c, 0)) → (r : Bool) → eqb t.1 c ≡ r → (r || has_block c ts) ≡ true → Contains (t ∷ ts) (x, c, 0)
    by ih true f g =
        let b : t.1 ≡ c = grind (arith, nat_tests) in
        let same : t ≡ (x, c, 0) = λ i. (h.0.0 i, b i, h.0.1 i) in
        subst (λ u. Contains (t ∷ ts) u) same (here t ts)
    by ih false f g = there t (x, c, 0) ts (ih g)

has-to : (x c : ℕ) (ts : List Triple) → Contains ts (x, c, 0) → has_block c ts ≡ true
has-to x c [] m = absurd (none (x, c, 0) m)
has-to x c (t ∷ ts) m = elim (cases t (x, c, 0) ts m) [ inl e ↦ first (ap (λ (u : Triple). u.1) e) | inr n ↦ rest (eqb t.1 c) (has-to x c ts n) ]
  where
    first : t.1 ≡ c → (eqb t.1 c || has_block c ts) ≡ true
    first e = let f : eqb t.1 c ≡ true = grind (arith, nat_tests) in rw f refl

    rest : (r : Bool) → has_block c ts ≡ true → (r || has_block c ts) ≡ true
    rest true e = refl
    rest false e = e

-- runs of other names are passed over
abbrev IsNot : ℕ → Triple → Type 0
IsNot x r = r.0 ≡ x → ⊥

not-named : (x : ℕ) (r : Triple) (c : ℕ) → IsNot x r → (eqb r.0 x && leb c r.1) ≡ false
not-named x r c h = by (eqb r.0 x) refl
  where
    by : (q : Bool) → eqb r.0 x ≡ q → (q && leb c r.1) ≡ false
    by true e = absurd (h (grind (arith, nat_tests)))
    by false e = refl

skip-one : (r : Triple) (rs : List Triple) (x c : ℕ) → IsNot x r → in_run (r ∷ rs) x c ≡ in_run rs x c
skip-one r rs x c h = in-cons r rs x c ∙ ap (λ q. if q then leb r.2 c else in_run rs x c) (not-named x r c h)

in-none : (rs : List Triple) (x c : ℕ) → Each (IsNot x) rs → in_run rs x c ≡ false
in-none [] x c h = refl
in-none (r ∷ rs) x c h = skip-one r rs x c h.0 ∙ in-none rs x c h.1

skip-front : (xs ys : List Triple) (x c : ℕ) → Each (IsNot x) xs → in_run (xs ++ ys) x c ≡ in_run ys x c
skip-front [] ys x c h = refl
skip-front (r ∷ rs) ys x c h = skip-one r (rs ++ ys) x c h.0 ∙ skip-front rs ys x c h.1

skip-back : (xs ys : List Triple) (x c : ℕ) → Each (IsNot x) ys → in_run (xs ++ ys) x c ≡ in_run xs x c
skip-back [] ys x c h = in-none ys x c h
skip-back (r ∷ rs) ys x c h = in-cons r (rs ++ ys) x c ∙ ap (λ q. if eqb r.0 x && leb c r.1 then leb r.2 c else q) (skip-back rs ys x c h) ∙ sym (in-cons r rs x c)

-- the uses of the first name, and the others
front-in : (x : ℕ) (l : List Triple) (u : Triple) → Contains (front x l) u → Contains l u × (u.0 ≡ x)
front-in x [] u m = absurd (none u m)
front-in x (t ∷ ts) u m = by (front-in x ts u) (eqb t.0 x) refl m
  where
    by : (Contains (front x ts) u → Contains ts u × (u.0 ≡ x)) → (r : Bool) → eqb t.0 x ≡ r → Contains (if r then t ∷ front x ts else []) u → Contains (t ∷ ts) u × (u.0 ≡ x)
    by ih false e n = absurd (none u n)
    by ih true e n = elim (cases t u (front x ts) n) [ inl f ↦ (subst (λ z. Contains (t ∷ ts) z) f (here t ts), (let g : t.0 ≡ x = grind (arith, nat_tests) in ap (λ (z : Triple). z.0) (sym f) ∙ g)) | inr k ↦ (let h = ih k in (there t u ts h.0, h.1)) ]

others-in : (x : ℕ) (l : List Triple) (u : Triple) → Contains (others x l) u → Contains l u
others-in x [] u m = m
others-in x (t ∷ ts) u m = by (others-in x ts u) (eqb t.0 x) m
  where
    by : (Contains (others x ts) u → Contains ts u) → (r : Bool) → Contains (if r then others x ts else t ∷ ts) u → Contains (t ∷ ts) u
    by ih true n = there t u ts (ih n)
    by ih false n = n

split-in : (x : ℕ) (l : List Triple) (u : Triple) → Contains l u → Contains (front x l) u ⊎ Contains (others x l) u
split-in x [] u m = inl m
split-in x (t ∷ ts) u m = by (split-in x ts u) (eqb t.0 x) (cases t u ts m)
  where
    by : (Contains ts u → Contains (front x ts) u ⊎ Contains (others x ts) u) → (r : Bool) → (t ≡ u) ⊎ Contains ts u → Contains (if r then t ∷ front x ts else []) u ⊎ Contains (if r then others x ts else t ∷ ts) u
    by ih true (inl e) = inl (subst (λ z. Contains (t ∷ front x ts) z) e (here t (front x ts)))
    by ih true (inr n) = elim (ih n) [ inl k ↦ inl (there t u (front x ts) k) | inr k ↦ inr k ]
    by ih false (inl e) = inr (subst (λ z. Contains (t ∷ ts) z) e (here t ts))
    by ih false (inr n) = inr (there t u ts n)

-- how many they are
pub lead-within : (x : ℕ) (l : List Triple) → lead x l ≤ length l
lead-within x [] = omega arith
lead-within x (t ∷ ts) = by (eqb t.0 x) (lead-within x ts)
  where
    by : (r : Bool) → lead x ts ≤ length ts → (if r then lead x ts + 1 else 0) ≤ length (t ∷ ts)
    by true h = omega arith
    by false h = omega arith

pub take-lead : (x : ℕ) (l : List Triple) → take (lead x l) l ≡ front x l
take-lead x [] = refl
take-lead x (t ∷ ts) = by (eqb t.0 x) (take-lead x ts)
  where
    by : (r : Bool) → take (lead x ts) ts ≡ front x ts → take (if r then lead x ts + 1 else 0) (t ∷ ts) ≡ (if r then t ∷ front x ts else [])
    by true h = rw add-one (ap (λ l. t ∷ l) h)
    by false h = refl

pub drop-lead : (x : ℕ) (l : List Triple) → drop (lead x l) l ≡ others x l
drop-lead x [] = refl
drop-lead x (t ∷ ts) = by (eqb t.0 x) (drop-lead x ts)
  where
    by : (r : Bool) → drop (lead x ts) ts ≡ others x ts → drop (if r then lead x ts + 1 else 0) (t ∷ ts) ≡ (if r then others x ts else t ∷ ts)
    by true h = rw add-one h
    by false h = refl

-- the first use is of the name, so fewer are left
others-fewer : (x : ℕ) (l : List Triple) → length (others x l) ≤ length l
others-fewer x [] = omega arith
others-fewer x (t ∷ ts) = by (eqb t.0 x) (others-fewer x ts)
  where
    by : (r : Bool) → length (others x ts) ≤ length ts → length (if r then others x ts else t ∷ ts) ≤ length (t ∷ ts)
    by true h = omega arith
    by false h = omega arith

others-first : (t : Triple) (ts : List Triple) → others t.0 (t ∷ ts) ≡ others t.0 ts
others-first t ts = let e : eqb t.0 t.0 ≡ true = grind (arith, nat_tests) in rw e refl

pub others-smaller : (d : Triple) (l : List Triple) → 1 ≤ length l → length (others (get_or l 0 d).0 l) < length l
others-smaller d [] l = absurd (omega arith)
others-smaller d (t ∷ ts) l = let f = others-fewer t.0 ts in rw others-first (omega (arith, f))

pub one-more : (defined es : List Triple) (d : Triple) (l old middle new : List Triple) → 1 ≤ length l → AddsName (front (get_or l 0 d).0 l) defined es old middle → AddsNames defined es (others (get_or l 0 d).0 l) middle new → AddsNames defined es l old new
one-more defined es d [] old middle new l a n = absurd (omega arith)
one-more defined es d (t ∷ ts) old middle new l a n = one_name a n

pub no-more : (defined es l old : List Triple) → length l < 1 → AddsNames defined es l old old
no-more defined es [] old l = no_name old
no-more defined es (t ∷ ts) old l = absurd (omega arith)

others-rise : (x : ℕ) (l : List Triple) → Rises l → Rises (others x l)
others-rise x [] r = tt
others-rise x (t ∷ ts) r = by (others-rise x ts) (eqb t.0 x)
  where
    by : (Rises ts → Rises (others x ts)) → (q : Bool) → Rises (if q then others x ts else t ∷ ts)
    by ih true = ih r.1
    by ih false = r

others-above : (x : ℕ) (l : List Triple) → Rises l → Each (λ u. x ≤ u.0) l → Each (λ u. x < u.0) (others x l)
others-above x [] r h = tt
others-above x (t ∷ ts) r h = by (others-above x ts r.1 h.1) (eqb t.0 x) refl
  where
    later : x < t.0 → (u : Triple) → IsNotBelow t u → x < u.0
    later l u n = let m : t.0 ≤ u.0 = (not_below u.0 u.1 u.2 t.0 t.1 t.2 n).0 in omega arith

    by : Each (λ u. x < u.0) (others x ts) → (q : Bool) → eqb t.0 x ≡ q → Each (λ u. x < u.0) (if q then others x ts else t ∷ ts)
    by ih true e = ih
    by ih false e = let le : x ≤ t.0 = h.0 in let l : x < t.0 = grind (arith, nat_tests) in (l, Each-map (IsNotBelow t) (λ u. x < u.0) (later l) ts r.0)

-- a wanted name is used somewhere
wanted-name : {used defined es : List Triple} {x b : ℕ} → IsWanted used defined es x b → (c : ℕ) × (i : ℕ) × Contains used (c, x, i)
wanted-name {b = b} (used_here i c e) = (b, i, c)
wanted-name (used_later h k w) = wanted-name w

module _ (used defined es : List Triple) where
  -- the runs so far are right for each name of which no use is still to come
  record IsRight (rest runs : List Triple) : Type 0 where
    rises : Rises runs
    up : Rises rest
    below : Each (λ t. Each (λ r. r.0 < t.0) runs) rest
    source : (t : Triple) → Contains rest t → Contains used (name_first t)
    held : (b x i : ℕ) → Contains used (b, x, i) → Contains rest (x, b, i) ⊎ ((t : Triple) → Contains rest t → t.0 ≡ x → ⊥)
    right : (x b : ℕ) → ((t : Triple) → Contains rest t → t.0 ≡ x → ⊥) → (in_run runs x b ≡ true) ↔ IsWantedAfter used defined es x b

  module _ (t : Triple) (rest old new : List Triple) (r : IsRight (t ∷ rest) old) (a : AddsName (front t.0 (t ∷ rest)) defined es old new) where
    abbrev mine : List Triple
    mine = front t.0 (t ∷ rest)

    abbrev after : List Triple
    after = others t.0 (t ∷ rest)

    abbrev group : List Triple
    group = runs_of a.blocks

    least : (u : Triple) → Contains (t ∷ rest) u → t.0 ≤ u.0
    least u m = elim (cases t u rest m) [ inl e ↦ (let f : t.0 ≡ u.0 = ap (λ (z : Triple). z.0) e in omega arith) | inr n ↦ (not_below u.0 u.1 u.2 t.0 t.1 t.2 (Each-of (IsNotBelow t) rest u r.up.0 n)).0 ]

    above : (u : Triple) → Contains after u → t.0 < u.0
    above u m = Each-of (λ u. t.0 < u.0) after u (others-above t.0 (t ∷ rest) r.up (Each-from (λ u. t.0 ≤ u.0) (t ∷ rest) least)) m

    -- by the uses of this name alone
    more : {x b : ℕ} → IsWanted (map name_first mine) defined es x b → IsWanted used defined es x b
    more {x} {b} (used_here i c e) =
        let m = map-cases name_first mine (b, x, i) c in
        used_here i (subst (λ u. Contains used u) m.is (r.source m.source (front-in t.0 (t ∷ rest) m.source m.within).0)) e
    more (used_later {s = s} h k w) = used_later {s = s} h k (more w)

    in-mine : (b i : ℕ) → Contains used (b, t.0, i) → Contains mine (t.0, b, i)
    in-mine b i m = elim (r.held b t.0 i m) [ inl n ↦ elim (split-in t.0 (t ∷ rest) (t.0, b, i) n) [ inl k ↦ k | inr k ↦ absurd (let l : t.0 < t.0 = above (t.0, b, i) k in omega arith) ] | inr no' ↦ absurd (no' t (here t rest) refl) ]

    fewer : {x b : ℕ} → x ≡ t.0 → IsWanted used defined es x b → IsWanted (map name_first mine) defined es x b
    fewer {x} {b} s (used_here i c e) = used_here i (subst (λ z. Contains (map name_first mine) (b, z, i)) (sym s) (Contains-map name_first mine (t.0, b, i) (in-mine b i (subst (λ z. Contains used (b, z, i)) s c)))) e
    fewer s (used_later {s = d} h k w) = used_later {s = d} h k (fewer s w)

    end-name : (p : Pair) → Contains a.ends p → p.1 ≡ t.0
    end-name p m =
        let w = wanted-name ((a.ends_are p.0 p.1).0 m).wanted in
        let u = map-cases name_first mine (w.0, p.1, w.1) w.2 in
        sym (ap (λ (z : Triple). z.1) u.is) ∙ (front-in t.0 (t ∷ rest) u.source u.within).1

    block-from : (u : Triple) → Contains a.blocks u → (p : Pair) × Contains a.ends p × (block_of p ≡ u)
    block-from u m = let h = map-cases block_of a.ends u (Contains-permutation a.blocks (map block_of a.ends) u (IsPermutation-sym (map block_of a.ends) a.blocks a.sorted.same) m) in (h.source, h.within, h.is)

    is-block : (u : Triple) → Contains a.blocks u → IsBlockOf t.0 u
    is-block u m = let h = block-from u m in (ap (λ (z : Triple). z.0) (sym h.2) ∙ end-name h.0 h.1, ap (λ (z : Triple). z.2) (sym h.2))

    are-blocks : Each (IsBlockOf t.0) a.blocks
    are-blocks = Each-from (IsBlockOf t.0) a.blocks is-block

    ups : Up t.0 0 a.blocks
    ups = up-of t.0 0 a.blocks (rises-ascends a.blocks a.sorted.ascends) are-blocks (Each-from (λ u. 0 ≤ u.1) a.blocks (λ u m. omega arith))

    group-right : (b : ℕ) → (in_run group t.0 b ≡ true) ↔ IsWantedAfter used defined es t.0 b
    group-right b = (to, back)
      where
        to : in_run group t.0 b ≡ true → IsWantedAfter used defined es t.0 b
        to e =
            let h = block-from (t.0, b, 0) (has-from t.0 b a.blocks are-blocks (sym (runs-has t.0 b a.blocks ups) ∙ e)) in
            let p : ◌≡◌ {A = Pair} h.0 (b, t.0) = λ i. ((h.2 i).1, (h.2 i).0) in
            let w = (a.ends_are b t.0).0 (subst (λ q. Contains a.ends q) p h.1) in
            record { target = w.target; edge = w.edge; wanted = more w.wanted }

        back : IsWantedAfter used defined es t.0 b → in_run group t.0 b ≡ true
        back w =
            let u : IsWantedAfter (map name_first mine) defined es t.0 b = record { target = w.target; edge = w.edge; wanted = fewer refl w.wanted } in
            runs-has t.0 b a.blocks ups ∙ has-to t.0 b a.blocks (Contains-permutation (map block_of a.ends) a.blocks (t.0, b, 0) a.sorted.same (Contains-map block_of a.ends (b, t.0) ((a.ends_are b t.0).1 u)))

    named : Each (λ u. u.0 ≡ t.0) group
    named = runs-named t.0 a.blocks ups

    new-rises : Rises (old ++ group)
    new-rises = Rises-append old group r.rises (runs-rises t.0 a.blocks ups) (Each-map (λ u. u.0 < t.0) (λ u. Each (IsNotBelow u) group) (λ u l. Each-map (λ v. v.0 ≡ t.0) (IsNotBelow u) (λ v e. apart u v l e) group named) old r.below.0)
      where
        apart : (u v : Triple) → u.0 < t.0 → v.0 ≡ t.0 → IsNotBelow u v
        apart u v l e = grind (arith, nat_tests)

    new-below : (u : Triple) → Contains after u → Each (λ v. v.0 < u.0) (old ++ group)
    new-below u m = Each-append (λ v. v.0 < u.0) old group (Each-of (λ w. Each (λ v. v.0 < w.0) old) (t ∷ rest) u r.below (others-in t.0 (t ∷ rest) u m)) (Each-map (λ v. v.0 ≡ t.0) (λ v. v.0 < u.0) (λ v e. (let l : t.0 < u.0 = above u m in omega arith)) group named)

    new-held : (b x i : ℕ) → Contains used (b, x, i) → Contains after (x, b, i) ⊎ ((u : Triple) → Contains after u → u.0 ≡ x → ⊥)
    new-held b x i m = elim (r.held b x i m) [ inl n ↦ elim (split-in t.0 (t ∷ rest) (x, b, i) n) [ inl k ↦ inr (λ u l e. (let s : x ≡ t.0 = (front-in t.0 (t ∷ rest) (x, b, i) k).1 in let h : t.0 < u.0 = above u l in omega arith)) | inr k ↦ inl k ] | inr no' ↦ inr (λ u l. no' u (others-in t.0 (t ∷ rest) u l)) ]

    new-right : (x b : ℕ) → ((u : Triple) → Contains after u → u.0 ≡ x → ⊥) → (in_run (old ++ group) x b ≡ true) ↔ IsWantedAfter used defined es x b
    new-right x b no' = by (eqb x t.0) refl
      where
        same : (u : Bool) (v : Bool) → u ≡ v → (v ≡ true) ↔ IsWantedAfter used defined es x b → (u ≡ true) ↔ IsWantedAfter used defined es x b
        same u v e h = (λ k. h.0 (sym e ∙ k), λ w. e ∙ h.1 w)

        not-there : eqb x t.0 ≡ false → (u : Triple) → Contains (t ∷ rest) u → u.0 ≡ x → ⊥
        not-there e u m f = elim (split-in t.0 (t ∷ rest) u m) [ inl k ↦ (let s : u.0 ≡ t.0 = (front-in t.0 (t ∷ rest) u k).1 in grind (arith, nat_tests)) | inr k ↦ no' u k f ]

        by : (q : Bool) → eqb x t.0 ≡ q → (in_run (old ++ group) x b ≡ true) ↔ IsWantedAfter used defined es x b
        by true e =
            let s : x ≡ t.0 = grind (arith, nat_tests) in
            same (in_run (old ++ group) x b) (in_run group x b) (skip-front old group x b (Each-map (λ u. u.0 < t.0) (IsNot x) (λ u l f. (let g : u.0 ≡ x = f in omega arith)) old r.below.0)) (subst (λ z. (in_run group z b ≡ true) ↔ IsWantedAfter used defined es z b) (sym s) (group-right b))
        by false e =
            same (in_run (old ++ group) x b) (in_run old x b) (skip-back old group x b (Each-map (λ u. u.0 ≡ t.0) (IsNot x) (λ u g f. (let s : x ≡ t.0 = sym f ∙ g in grind (arith, nat_tests))) group named)) (r.right x b (not-there e))

    IsRight-more : IsRight after new
    IsRight-more = subst (IsRight after) (sym a.is) (let all : IsRight after (old ++ group) = record { rises = new-rises; up = others-rise t.0 (t ∷ rest) r.up; below = Each-from (λ u. Each (λ v. v.0 < u.0) (old ++ group)) after new-below; source = λ u m. r.source u (others-in t.0 (t ∷ rest) u m); held = new-held; right = new-right } in all)

  IsRight-all : {rest old new : List Triple} → AddsNames defined es rest old new → IsRight rest old → IsRight [] new
  IsRight-all (no_name old) r = r
  IsRight-all (one_name {t} {rest} {old} {middle} {new} a n) r = IsRight-all n (IsRight-more t rest old middle r a)

  IsRight-none : (by_name : List Triple) → Sorts (map name_first used) by_name → IsRight by_name []
  IsRight-none by_name s = record { rises = tt; up = rises-ascends by_name s.ascends; below = Each-from (λ t. Unit {0}) by_name (λ t m. tt); source = source; held = λ b x i m. inl (to b x i m); right = right }
    where
      source : (t : Triple) → Contains by_name t → Contains used (name_first t)
      source t m =
          let h = map-cases name_first used t (Contains-permutation by_name (map name_first used) t (IsPermutation-sym (map name_first used) by_name s.same) m) in
          let e : ◌≡◌ {A = Triple} h.source (name_first t) = λ i. ((h.is i).1, (h.is i).0, (h.is i).2) in
          subst (λ u. Contains used u) e h.within

      to : (b x i : ℕ) → Contains used (b, x, i) → Contains by_name (x, b, i)
      to b x i m = Contains-permutation (map name_first used) by_name (x, b, i) s.same (Contains-map name_first used (b, x, i) m)

      right : (x b : ℕ) → ((t : Triple) → Contains by_name t → t.0 ≡ x → ⊥) → (in_run [] x b ≡ true) ↔ IsWantedAfter used defined es x b
      right x b no' = (λ e. absurd (true≢false (sym e)), λ w. (let u = wanted-name w.wanted in absurd (no' (x, u.0, u.1) (to u.0 x u.1 u.2) refl)))

  pub runs-rise : (by_name runs : List Triple) → Sorts (map name_first used) by_name → AddsNames defined es by_name [] runs → Ascends runs
  runs-rise by_name runs s a = Ascends-rises runs (IsRight-all a (IsRight-none by_name s)).rises

  pub AreRuns-added : (by_name runs : List Triple) → Sorts (map name_first used) by_name → AddsNames defined es by_name [] runs → AreRuns used defined es runs
  AreRuns-added by_name runs s a x b = (IsRight-all a (IsRight-none by_name s)).right x b (λ t m. absurd (none t m))

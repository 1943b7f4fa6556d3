-- Groups and nodes are found by their numbers.
use Rattle.std.specs.Prelude.{slice_get}
use Rattle.std.specs.List.{position_from, flat_map, filter_map, cons_option}
use Rattle.std.proofs.Common.{◌≡◌, ℕ, zero, suc, ◌+◌, ◌<◌, ◌≤◌, true, false, cond, Option, None, Some, List, [], ◌∷◌, ◌++◌, length, map, refl, sym, ap, ◌∙◌, subst, arith, append-nil, rules}
use Rattle.std.proofs.lemmas.Bool.{cond-false, false_from_ne_true}
use Rattle.std.proofs.lemmas.List.{map-append, length-map}
use Rattle.ir_values.specs.Equal.{equal_decides}
use Rattle.ir_grammar.specs.declared.tree.ItemSyntax.{ItemSyntax}
use Rattle.ir_names.specs.Module.{nothing_written}
use Rattle.ir_names.specs.Sense.{number_of}
use Rattle.ir_names.specs.code.Names.{same_written}
use Rattle.ir_names.specs.declared.numbers.Written.{Written}
use Rattle.read_modules.proofs.Each.{Each}

-- the number of a group or a node
abbrev pub mark : ℕ → Written
mark n = record { 0 = Some n }

written_is : (a b : Written) → same_written a b ≡ true → a ≡ b
written_is a b e = search (rules, equal_decides)

written_self : (a b : Written) → a ≡ b → same_written a b ≡ true
written_self a b e = search (rules, equal_decides)

mark_is : (m n : ℕ) → mark m ≡ mark n → m ≡ n
mark_is m n e = same_some (ap (λ w. w.0) e)
  where
    same_some : ◌≡◌ {A = Option ℕ} (Some m) (Some n) → m ≡ n
    same_some e = cc

marks_differ : (m n : ℕ) → (m ≡ n → ⊥) → same_written (mark m) (mark n) ≡ false
marks_differ m n h = false_from_ne_true (same_written (mark m) (mark n)) (λ e. h (mark_is m n (written_is (mark m) (mark n) e)))

no_mark : (n : ℕ) → same_written (mark n) nothing_written ≡ false
no_mark n = false_from_ne_true (same_written (mark n) nothing_written) (λ e. apart (written_is (mark n) nothing_written e))
  where
    apart : mark n ≡ nothing_written → ⊥
    apart e = let d : ◌≡◌ {A = Option ℕ} (Some n) None = ap (λ w. w.0) e in absurd (cc)

-- written numbers from n on
abbrev pub Marks : ℕ → List Written → Type 0
Marks n [] = Unit {0}
Marks n (w ∷ ws) = (w ≡ mark n) × Marks (n + 1) ws

found_mark : (ws rest : List Written) (n j i : ℕ) → Marks n ws → j < length ws → position_from (same_written (mark (n + j))) i (ws ++ rest) ≡ Some (i + j)
found_mark [] rest n j i h l = absurd (omega arith)
found_mark (w ∷ ws) rest n zero i h l =
    let e : n + 0 ≡ n = omega arith in
    let d : i + 0 ≡ i = omega arith in
    ap (λ b. cond b (Some i) (position_from (same_written (mark (n + 0))) (i + 1) (ws ++ rest))) (written_self (mark (n + 0)) w (ap mark e ∙ sym h.0)) ∙ ap Some (sym d)
found_mark (w ∷ ws) rest n (suc j) i h l =
    let e : n + 1 + j ≡ n + suc j = omega arith in
    let d : i + 1 + j ≡ i + suc j = omega arith in
    let no : same_written (mark (n + suc j)) w ≡ false = ap (same_written (mark (n + suc j))) h.0 ∙ marks_differ (n + suc j) n (λ k. absurd (omega arith)) in
    cond-false (same_written (mark (n + suc j)) w) (Some i) (position_from (same_written (mark (n + suc j))) (i + 1) (ws ++ rest)) no
    ∙ (ap (λ k. position_from (same_written (mark k)) (i + 1) (ws ++ rest)) (sym e) ∙ (found_mark ws rest (n + 1) j (i + 1) h.1 (omega arith) ∙ ap Some d))

skipped : (before rest : List Written) (n i : ℕ) → Each (λ w. w ≡ nothing_written) before → position_from (same_written (mark n)) i (before ++ rest) ≡ position_from (same_written (mark n)) (i + length before) rest
skipped [] rest n i h = let e : i ≡ i + 0 = omega arith in ap (λ k. position_from (same_written (mark n)) k rest) e
skipped (w ∷ before) rest n i h =
    let e : i + 1 + length before ≡ i + length (w ∷ before) = omega arith in
    cond-false (same_written (mark n) w) (Some i) (position_from (same_written (mark n)) (i + 1) (before ++ rest)) (ap (same_written (mark n)) h.0 ∙ no_mark n)
    ∙ (skipped before rest n (i + 1) h.1 ∙ ap (λ k. position_from (same_written (mark n)) k rest) e)

-- a number that none has
pub none_marked : (ws : List Written) (n k i : ℕ) → Marks k ws → k + length ws ≤ n → position_from (same_written (mark n)) i ws ≡ None
none_marked [] n k i h l = refl
none_marked (w ∷ ws) n k i h l =
    let no : same_written (mark n) w ≡ false = ap (same_written (mark n)) h.0 ∙ marks_differ n k (λ e. absurd (omega arith)) in
    cond-false (same_written (mark n) w) (Some i) (position_from (same_written (mark n)) (i + 1) ws) no ∙ none_marked ws n (k + 1) (i + 1) h.1 (omega arith)

-- a number that one has
pub some_marked : (ws : List Written) (n : ℕ) → Marks 0 ws → n < length ws → (k : ℕ) × (position_from (same_written (mark n)) 0 ws ≡ Some k)
some_marked ws n h l =
    let e : 0 + n ≡ n = omega arith in
    (0 + n, subst (λ j. position_from (same_written (mark j)) 0 ws ≡ Some (0 + n)) e (ap (position_from (same_written (mark (0 + n))) 0) (sym (append-nil ws)) ∙ found_mark ws [] 0 n 0 h l))

get_behind : {A : Type 0} (before xs : List A) (j : ℕ) → slice_get (before ++ xs) (length before + j) ≡ slice_get xs j
get_behind [] xs j = let e : 0 + j ≡ j = omega arith in ap (slice_get xs) e
get_behind (b ∷ before) xs j = let e : length (b ∷ before) + j ≡ suc (length before + j) = omega arith in ap (slice_get (b ∷ (before ++ xs))) e ∙ get_behind before xs j

get_within : {A : Type 0} (xs rest : List A) (j : ℕ) → j < length xs → slice_get (xs ++ rest) j ≡ slice_get xs j
get_within [] rest j l = absurd (omega arith)
get_within (x ∷ xs) rest zero l = refl
get_within (x ∷ xs) rest (suc j) l = get_within xs rest j (omega arith)

each_mapped : {A B : Type 0} (P : B → Type 0) (f : A → B) (xs : List A) → Each (λ x. P (f x)) xs → Each P (map f xs)
each_mapped P f [] h = tt
each_mapped P f (x ∷ xs) h = (h.0, each_mapped P f xs h.1)

-- The item of a number stands behind those that have none.
pub resolved : (written_by : ItemSyntax → Written) (before mid rest : List ItemSyntax) (n : ℕ) → Each (λ i. written_by i ≡ nothing_written) before → Marks 0 (map written_by mid) → n < length mid
    → (number_of same_written (map written_by (before ++ (mid ++ rest))) (mark n) ≡ Some (length before + n)) × (slice_get (before ++ (mid ++ rest)) (length before + n) ≡ slice_get mid n)
resolved written_by before mid rest n h k l =
    let c = length-map mid written_by in
    let b = length-map before written_by in
    let z : 0 + n ≡ n = omega arith in
    let s : 0 + length (map written_by before) + n ≡ length before + n = omega arith in
    let found : position_from (same_written (mark n)) (0 + length (map written_by before)) (map written_by mid ++ map written_by rest) ≡ Some (0 + length (map written_by before) + n) =
    ap (λ j. position_from (same_written (mark j)) (0 + length (map written_by before)) (map written_by mid ++ map written_by rest)) (sym z)
    ∙ found_mark (map written_by mid) (map written_by rest) 0 n (0 + length (map written_by before)) k (omega arith) in (
      ap (position_from (same_written (mark n)) 0) (map-append written_by before (mid ++ rest) ∙ ap (λ l. map written_by before ++ l) (map-append written_by mid rest))
          ∙ (skipped (map written_by before) (map written_by mid ++ map written_by rest) n 0 (each_mapped (λ w. w ≡ nothing_written) written_by before h) ∙ (found ∙ ap Some s)),
      get_behind before (mid ++ rest) n ∙ get_within mid rest n l,
    )

-- ---- filters

cons_append : {A : Type 0} (o : Option A) (xs ys : List A) → cons_option o (xs ++ ys) ≡ cons_option o xs ++ ys
cons_append None xs ys = refl
cons_append (Some x) xs ys = refl

pub filter_append : {A B : Type 0} (f : A → Option B) (xs ys : List A) → filter_map f (xs ++ ys) ≡ filter_map f xs ++ filter_map f ys
filter_append f [] ys = refl
filter_append f (x ∷ xs) ys = ap (cons_option (f x)) (filter_append f xs ys) ∙ cons_append (f x) (filter_map f xs) (filter_map f ys)

pub filter_none : {A B : Type 0} (f : A → Option B) (xs : List A) → Each (λ x. f x ≡ None) xs → filter_map f xs ≡ []
filter_none f [] h = refl
filter_none f (x ∷ xs) h = ap (λ o. cons_option o (filter_map f xs)) h.0 ∙ filter_none f xs h.1

pub flat_none : {A B : Type 0} (f : A → List B) (xs : List A) → Each (λ x. f x ≡ []) xs → flat_map f xs ≡ []
flat_none f [] h = refl
flat_none f (x ∷ xs) h = ap (λ l. l ++ flat_map f xs) h.0 ∙ flat_none f xs h.1

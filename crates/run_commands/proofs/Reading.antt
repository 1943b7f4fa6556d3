-- Lists that are read one by one, and words that are cut at commas.
use Rattle.std.proofs.Common.{◌≡◌, ◌∙◌, ℕ, ◌-◌, ◌≤◌, Bool, true, false, Option, None, Some, Bor, is_some, List, [], ◌∷◌, ◌++◌, length, take, drop, get_or, map, refl, sym, ap, subst, arith, append-nil, append_assoc}
use Rattle.std.specs.Prelude.{IsSome, ◌==◌, MatchOption}
use Rattle.std.specs.List.{after_first, slice_split}
use Rattle.std.proofs.lemmas.List.Splits.{slice_split_first, slice_split_none}
use Rattle.std.proofs.lemmas.List.Sums.{fails_before_first}
use Rattle.std.proofs.lemmas.Option.{MatchOption-at_none, MatchOption-at_some}
use Rattle.std.proofs.lemmas.Str.Pattern.{IsSplitOnceResult, split_once_first}
use Rattle.run_commands.specs.Words.{all_of, and_more, comma, digit_bit, script_in, scripts_in, parts_of}

module _ {A : Type 0} where
  -- all are there where the first is and all others are
  pub more-there : (o : Option A) (os : List (Option A)) → is_some o ≡ true → is_some (all_of (o ∷ os)) ≡ is_some (all_of os)
  more-there None os e = cc
  more-there (Some x) os e = by (all_of os)
    where
      by : (r : Option (List A)) → is_some (and_more (Some x) r) ≡ is_some r
      by None = refl
      by (Some xs) = refl

  pub none-there : (o : Option A) (os : List (Option A)) → is_some o ≡ false → is_some (all_of (o ∷ os)) ≡ false
  none-there None os e = refl
  none-there (Some x) os e = cc

  pub one-there : (o : Option A) → is_some (all_of (o ∷ [])) ≡ is_some o
  one-there None = refl
  one-there (Some x) = refl

  -- what was read of a list and what is left of it
  pub record Remains (whole left : List (Option A)) (read : List A) : Type 0 where
    pub all : List A
    pub there : all_of left ≡ Some all
    pub same : all_of whole ≡ Some (read ++ all)

  pub remains-start : (os : List (Option A)) → IsSome (all_of os) → Remains os os []
  remains-start os h = by (all_of os) refl h
    where
      by : (r : Option (List A)) → all_of os ≡ r → IsSome r → Remains os os []
      by None e h = cc
      by (Some xs) e h = record { all = xs; there = e; same = e }

  parts-there : (o : Option A) (r : Option (List A)) (xs : List A) → and_more o r ≡ Some xs → (x : A) × (ys : List A) × (o ≡ Some x) × (r ≡ Some ys) × (xs ≡ x ∷ ys)
  parts-there None r xs e = cc
  parts-there (Some x) None xs e = cc
  parts-there (Some x) (Some ys) xs e = (x, ys, refl, refl, cc)

  -- the first of those that are left is there
  pub remains-some : (whole : List (Option A)) (o : Option A) (left : List (Option A)) (read : List A) → Remains whole (o ∷ left) read → IsSome o
  remains-some whole o left read h = let p = parts-there o (all_of left) h.all h.there in subst IsSome (sym p.2) refl

  pub remains-next : (whole : List (Option A)) (o : Option A) (left : List (Option A)) (read : List A) (x : A) → Remains whole (o ∷ left) read → o ≡ Some x → Remains whole left (read ++ x ∷ [])
  remains-next whole o left read x h e =
      let p = parts-there o (all_of left) h.all h.there in
      let same : p.0 ≡ x = cc in
      record { all = p.1; there = p.3; same = h.same ∙ ap (λ l. Some (read ++ l)) (p.4 ∙ ap (λ y. y ∷ p.1) same) ∙ ap Some (sym (append_assoc read (x ∷ []) p.1)) }

  pub remains-none : (whole : List (Option A)) (read : List A) → Remains whole [] read → all_of whole ≡ Some read
  remains-none whole read h = let none : [] ≡ h.all = cc in h.same ∙ ap (λ l. Some (read ++ l)) (sym none) ∙ ap Some (append-nil read)

-- ---- digits

all-taken : (xs : List ℕ) → take (length xs) xs ≡ xs
all-taken [] = refl
all-taken (x ∷ xs) = ap (λ l. x ∷ l) (all-taken xs)

rest-is : (x : ℕ) (xs : List ℕ) → take (length (x ∷ xs) - 1) (drop 1 (x ∷ xs)) ≡ xs
rest-is x xs = let e : length (x ∷ xs) - 1 ≡ length xs = omega arith in ap (λ n. take n xs) e ∙ all-taken xs

-- the first of the digits was read
pub bits-remain : (whole : List (Option Bool)) (digits : List ℕ) (bits : List Bool) (bit : Bool) (d : ℕ) → 1 ≤ length digits → digit_bit (get_or digits 0 d) ≡ Some bit
    → Remains whole (map digit_bit digits) bits → Remains whole (map digit_bit (take (length digits - 1) (drop 1 digits))) (bits ++ bit ∷ [])
bits-remain whole [] bits bit d l e h = absurd (omega (arith, l))
bits-remain whole (x ∷ xs) bits bit d l e h =
    subst (λ ds. Remains whole (map digit_bit ds) (bits ++ bit ∷ [])) (sym (rest-is x xs)) (remains-next whole (digit_bit x) (map digit_bit xs) bits bit h e)

-- ---- words that are cut at commas

abbrev is_comma : ℕ → Bool
is_comma b = b == comma

-- a word that is cut at its first comma
pub cut : (word : List ℕ) (r : Option (Bor (List ℕ) × Bor (List ℕ))) → IsSplitOnceResult comma word r
    → MatchOption r (parts_of word ≡ word ∷ []) (λ x. parts_of word ≡ x.0.now ∷ parts_of x.1.now)
cut word None h =
    let at = split_once_first comma word None h (omega arith) in
    slice_split_none is_comma word (λ k d l. fails_before_first is_comma word k d (omega (arith, l, at)))
cut word (Some x) h =
    let at = split_once_first comma word (Some x) h (omega arith) in
    slice_split_first is_comma word 0 at.0 ∙ ap (λ l. l ∷ slice_split is_comma (after_first is_comma word)) (sym at.1) ∙ ap (λ l. x.0.now ∷ slice_split is_comma l) (sym at.2)

-- the parts of a word with a comma are those before and behind it
pub some-cut : (word : List ℕ) (r : Option (Bor (List ℕ) × Bor (List ℕ))) (x : Bor (List ℕ) × Bor (List ℕ)) → IsSplitOnceResult comma word r → r ≡ Some x → parts_of word ≡ x.0.now ∷ parts_of x.1.now
some-cut word r x h e = MatchOption-at_some (parts_of word ≡ word ∷ []) (λ x. parts_of word ≡ x.0.now ∷ parts_of x.1.now) x e (cut word r h)

pub none-cut : (word : List ℕ) (r : Option (Bor (List ℕ) × Bor (List ℕ))) → IsSplitOnceResult comma word r → r ≡ None → parts_of word ≡ word ∷ []
none-cut word r h e = MatchOption-at_none (parts_of word ≡ word ∷ []) (λ x. parts_of word ≡ x.0.now ∷ parts_of x.1.now) e (cut word r h)

abbrev Heads : List (List ℕ) → Bool
Heads parts = is_some (all_of (map script_in parts))

pub cut-there : (word : List ℕ) (first rest : List ℕ) → parts_of word ≡ first ∷ parts_of rest → is_some (script_in first) ≡ true → is_some (scripts_in word) ≡ is_some (scripts_in rest)
cut-there word first rest e t = ap Heads e ∙ more-there (script_in first) (map script_in (parts_of rest)) t

pub cut-not : (word : List ℕ) (first rest : List ℕ) → parts_of word ≡ first ∷ parts_of rest → is_some (script_in first) ≡ false → is_some (scripts_in word) ≡ false
cut-not word first rest e t = ap Heads e ∙ none-there (script_in first) (map script_in (parts_of rest)) t

pub whole-there : (word : List ℕ) → parts_of word ≡ word ∷ [] → is_some (scripts_in word) ≡ is_some (script_in word)
whole-there word e = ap Heads e ∙ one-there (script_in word)

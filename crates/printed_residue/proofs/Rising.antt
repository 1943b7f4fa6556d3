-- The items of a Base residue, whose phases don't fall, in the blocks of their phases.
use Rattle.std.proofs.Common.{◌≡◌, ℕ, ◌<◌, ◌≤◌, Bool, true, false, ◌&&◌, not, List, [], ◌∷◌, ◌++◌, refl, ap, ◌∙◌, arith}
use Rattle.std.proofs.lemmas.Bool.{and_parts}
use Rattle.std.specs.List.{list_all}
use Rattle.std.specs.Prelude.{◌==◌, if◌then◌else◌, filter, nat_lt}
use Rattle.kept_items.specs.declared.item.Item.{Item}
use Rattle.kept_items.specs.declared.item.Item.TheVariants as item
use Rattle.residue.specs.Functions.{is_named}
use Rattle.residue.specs.Instructions.{names_of_item}
use Rattle.residue.specs.Phases.{in_phase, phase_of, phases_rise}
use Rattle.residue.specs.Printed.{names_of_items}
use Rattle.residue.specs.Valid.{base_permits}
use Rattle.printed_residue.specs.Places.{phase_after}
use Rattle.printed_residue.proofs.Looks.{differ, same-itself}

not-less : (a n : ℕ) → nat_lt a n ≡ false → n ≤ a
not-less a n e = grind arith

pub filter-append : {A : Type 0} (f : A → Bool) (xs ys : List A) → filter f (xs ++ ys) ≡ filter f xs ++ filter f ys
filter-append f [] ys = refl
filter-append f (x ∷ xs) ys = by (f x) (filter-append f xs ys)
  where
    by : (b : Bool) → filter f (xs ++ ys) ≡ filter f xs ++ filter f ys → (if b then x ∷ filter f (xs ++ ys) else filter f (xs ++ ys)) ≡ (if b then x ∷ filter f xs else filter f xs) ++ filter f ys
    by true h = ap (λ l. x ∷ l) h
    by false h = h

module _ (irr : List (List ℕ)) where
  abbrev phase : Item → ℕ
  phase x = phase_of irr x

  pub phase-few : (x : Item) → (1 ≤ phase x) × (phase x ≤ 3)
  phase-few (item.Operation name args) = by (is_named irr name)
    where
      by : (b : Bool) → (1 ≤ (if b then 2 else 1)) × ((if b then 2 else 1) ≤ 3)
      by true = (omega arith, omega arith)
      by false = (omega arith, omega arith)
  phase-few (item.Binary d o g w a b) = (omega arith, omega arith)
  phase-few (item.Icmp d o w a b) = (omega arith, omega arith)
  phase-few (item.Convert d o w a to) = (omega arith, omega arith)
  phase-few (item.Select d w c a b) = (omega arith, omega arith)
  phase-few (item.Read d v) = (omega arith, omega arith)
  phase-few (item.Equal d v u) = (omega arith, omega arith)
  phase-few (item.Output c args) = (omega arith, omega arith)

  pub rises : (n : ℕ) (x : Item) (xs : List Item) → phases_rise irr n (x ∷ xs) ≡ true → (n ≤ phase x) × (phases_rise irr (phase x) xs ≡ true)
  rises n x xs h = by (nat_lt (phase x) n) refl h
    where
      by : (b : Bool) → nat_lt (phase x) n ≡ b → (not b && phases_rise irr (phase x) xs) ≡ true → (n ≤ phase x) × (phases_rise irr (phase x) xs ≡ true)
      by true e h = cc
      by false e h = (not-less (phase x) n e, h)

  pub rise-rest : (n : ℕ) (pre rest : List Item) → phases_rise irr n (pre ++ rest) ≡ true → phases_rise irr (phase_after irr n pre) rest ≡ true
  rise-rest n [] rest h = h
  rise-rest n (x ∷ pre) rest h = rise-rest (phase x) pre rest (rises n x (pre ++ rest) h).1

  after-least : (n : ℕ) (pre rest : List Item) → phases_rise irr n (pre ++ rest) ≡ true → n ≤ phase_after irr n pre
  after-least n [] rest h = omega arith
  after-least n (x ∷ pre) rest h = let r = rises n x (pre ++ rest) h in let a = r.0 in let b = after-least (phase x) pre rest r.1 in omega (arith, a, b)

  -- none of a later phase stands before
  pub rise-early : (n : ℕ) (pre rest : List Item) (m : ℕ) → phases_rise irr n (pre ++ rest) ≡ true → phase_after irr n pre < m → in_phase irr m pre ≡ []
  rise-early n [] rest m h lt = refl
  rise-early n (x ∷ pre) rest m h lt =
      let r = rises n x (pre ++ rest) h in
      let b = after-least (phase x) pre rest r.1 in
      ap (λ t. if t then x ∷ in_phase irr m pre else in_phase irr m pre) (differ (phase x) m (λ e. absurd (omega (arith, b, lt, e))))
      ∙ rise-early (phase x) pre rest m r.1 lt

  -- and none of an earlier phase behind
  pub rise-late : (n : ℕ) (rest : List Item) (m : ℕ) → phases_rise irr n rest ≡ true → m < n → in_phase irr m rest ≡ []
  rise-late n [] m h lt = refl
  rise-late n (x ∷ rest) m h lt =
      let r = rises n x rest h in
      let a = r.0 in
      ap (λ t. if t then x ∷ in_phase irr m rest else in_phase irr m rest) (differ (phase x) m (λ e. absurd (omega (arith, a, lt, e))))
      ∙ rise-late (phase x) rest m r.1 (omega (arith, a, lt))

  pub after-next : (n : ℕ) (pre : List Item) (x : Item) → phase_after irr n (pre ++ x ∷ []) ≡ phase x
  after-next n [] x = refl
  after-next n (y ∷ pre) x = after-next (phase y) pre x

  pub after-few : (n : ℕ) (pre : List Item) → n ≤ 3 → phase_after irr n pre ≤ 3
  after-few n [] le = le
  after-few n (x ∷ pre) le = after-few (phase x) pre (phase-few x).1

  -- the items of the phase, cut at an item of it
  pub in-phase-cut : (pre : List Item) (x : Item) (rest : List Item) → in_phase irr (phase x) (pre ++ (x ∷ rest)) ≡ in_phase irr (phase x) pre ++ (x ∷ in_phase irr (phase x) rest)
  in-phase-cut pre x rest =
      filter-append (λ y. phase y == phase x) pre (x ∷ rest)
      ∙ ap (λ t. in_phase irr (phase x) pre ++ (if t then x ∷ in_phase irr (phase x) rest else in_phase irr (phase x) rest)) (same-itself (phase x))

-- items that Base permits define no names
pub none-named : (x : Item) → base_permits x ≡ true → names_of_item x ≡ []
none-named (item.Operation name args) h = refl
none-named (item.Output c args) h = refl
none-named (item.Binary d o g w a b) h = cc
none-named (item.Icmp d o w a b) h = cc
none-named (item.Convert d o w a to) h = cc
none-named (item.Select d w c a b) h = cc
none-named (item.Read d v) h = cc
none-named (item.Equal d v u) h = cc

pub all-none-named : (xs : List Item) → list_all base_permits xs ≡ true → names_of_items xs ≡ []
all-none-named [] h = refl
all-none-named (x ∷ xs) h =
    let p = and_parts (base_permits x) (list_all base_permits xs) h in
    ap (λ l. l ++ names_of_items xs) (none-named x p.0) ∙ all-none-named xs p.1

pub filter-passes : {A : Type 0} (p f : A → Bool) (xs : List A) → list_all p xs ≡ true → list_all p (filter f xs) ≡ true
filter-passes p f [] h = refl
filter-passes p f (x ∷ xs) h =
    let s = and_parts (p x) (list_all p xs) h in by (f x) s.0 (filter-passes p f xs s.1)
  where
    by : (b : Bool) → p x ≡ true → list_all p (filter f xs) ≡ true → list_all p (if b then x ∷ filter f xs else filter f xs) ≡ true
    by true e ih = ap (λ b. b && list_all p (filter f xs)) e ∙ ih
    by false e ih = ih

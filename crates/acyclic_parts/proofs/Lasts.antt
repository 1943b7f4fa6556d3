-- Each part that doesn't stand for shared exits ends with a configuration, whose number tells the part's.
use Rattle.std.proofs.Common.{◌≡◌, ◌⊎◌, inl, inr, ⊎_elim, ℕ, zero, suc, ◌<◌, ◌≤◌, Bool, true, false, Option, None, Some, List, [], ◌∷◌, ◌++◌, length, map, refl, sym, ap, ◌∙◌, arith, option_map}
use Rattle.std.proofs.lemmas.Option.{slice_get-map, slice_get_within}
use Rattle.std.specs.Prelude.{slice_get}
use Rattle.ir_module.specs.declared.tree.Module.{Module}
use Rattle.kept_items.specs.declared.val.Dyn.{Dyn}
use Rattle.residue.specs.declared.parts.Part.{Part}
use Rattle.residue.specs.declared.parts.Tail.{Tail}
use Rattle.fused_parts.specs.declared.numbers.Numbers.{Numbers}
use Rattle.fused_parts.specs.Nodes.{Node}
use Rattle.fused_parts.specs.Parts.{Rest, after, alone, next_numbers, no_numbers, nowhere, outcome_tail, parts_of, rest_from, shared_part, whole}
use Rattle.fused_parts.specs.Ranks.{goes_on, part_number}

-- ---- numbers of parts

-- they don't fall
pub number-rises : (bs : List Bool) (i j : ℕ) → i ≤ j → part_number bs i ≤ part_number bs j
number-rises bs zero j le = omega arith
number-rises bs (suc i) zero le = absurd (omega (arith, le))
number-rises [] (suc i) (suc j) le = omega arith
number-rises (true ∷ bs) (suc i) (suc j) le = number-rises bs i j (omega (arith, le))
number-rises (false ∷ bs) (suc i) (suc j) le = let h = number-rises bs i j (omega (arith, le)) in omega (arith, h)

-- behind a configuration that goes on, the part is the same
pub number-stays : (xs : List Node) (bs : List Bool) (i : ℕ) → goes_on xs bs i ≡ true → part_number bs (suc i) ≡ part_number bs i
number-stays [] bs i h = cc
number-stays (x ∷ []) bs i h = cc
number-stays (x ∷ y ∷ xs) [] i h = cc
number-stays (x ∷ y ∷ xs) (true ∷ bs) zero h = refl
number-stays (x ∷ y ∷ xs) (false ∷ bs) zero h = cc
number-stays (x ∷ y ∷ xs) (true ∷ bs) (suc i) h = number-stays (y ∷ xs) bs i h
number-stays (x ∷ y ∷ xs) (false ∷ bs) (suc i) h = ap suc (number-stays (y ∷ xs) bs i h)

-- behind one that ends a part, and isn't the last, another part stands
pub number-next : (xs : List Node) (bs : List Bool) (i : ℕ) → length xs ≤ suc (length bs) → suc i < length xs → goes_on xs bs i ≡ false → part_number bs (suc i) ≡ suc (part_number bs i)
number-next [] bs i le lt h = absurd (omega (arith, lt))
number-next (x ∷ []) bs i le lt h = absurd (omega (arith, lt))
number-next (x ∷ y ∷ xs) [] i le lt h = absurd (omega (arith, le))
number-next (x ∷ y ∷ xs) (true ∷ bs) zero le lt h = cc
number-next (x ∷ y ∷ xs) (false ∷ bs) zero le lt h = refl
number-next (x ∷ y ∷ xs) (true ∷ bs) (suc i) le lt h = number-next (y ∷ xs) bs i (omega (arith, le)) (omega (arith, lt)) h
number-next (x ∷ y ∷ xs) (false ∷ bs) (suc i) le lt h = ap suc (number-next (y ∷ xs) bs i (omega (arith, le)) (omega (arith, lt)) h)

same-some : {A : Type 0} {x y : A} → Some x ≡ Some y → x ≡ y
same-some e = cc

-- what stands in two lists, one behind the other
get-either : {A : Type 0} (xs ys : List A) (n : ℕ) (x : A) → slice_get (xs ++ ys) n ≡ Some x → (slice_get xs n ≡ Some x) ⊎ ((k : ℕ) × (slice_get ys k ≡ Some x))
get-either [] ys n x e = inr (n, e)
get-either (y ∷ xs) ys zero x e = inl e
get-either (y ∷ xs) ys (suc n) x e = get-either xs ys n x e

module _ (m : Module) (nodes : List Node) (part_of : ℕ → ℕ) (shared : Option ℕ) where
  -- the tails of an open part and of the parts behind it
  abbrev tails_of : Rest → List Tail
  tails_of r = r.tail ∷ map (λ p. p.tail) r.parts

  -- a configuration ends part n, which has this tail
  pub record EndsPart (xs : List Node) (bs : List Bool) (n : ℕ) (t : Tail) : Type 0 where
    pub number : ℕ
    pub node : Node
    pub is : slice_get xs number ≡ Some node
    pub off : goes_on xs bs number ≡ false
    pub part : part_number bs number ≡ n
    pub mine : List Dyn
    pub tail : t ≡ outcome_tail part_of shared mine node.item node.links

  one-more : (x y : Node) (xs : List Node) (b : Bool) (bs : List Bool) (n k : ℕ) (t : Tail) → (e : EndsPart (y ∷ xs) bs n t) → part_number (b ∷ bs) (suc e.number) ≡ k → EndsPart (x ∷ y ∷ xs) (b ∷ bs) k t
  one-more x y xs b bs n k t e h = record { number = suc e.number; node = e.node; is = e.is; off = e.off; part = h; mine = e.mine; tail = e.tail }

  alone-ends : (x : Node) (xs : List Node) (bs : List Bool) (n : Numbers) (k : ℕ) (t : Tail) → goes_on (x ∷ xs) bs 0 ≡ false → slice_get (tails_of (alone m nodes part_of shared x n)) k ≡ Some t → (t ≡ nowhere) ⊎ EndsPart (x ∷ xs) bs k t
  alone-ends x xs bs n zero t off e = inr (record { number = 0; node = x; is = refl; off = off; part = refl; mine = (after x n).mine; tail = sym (same-some e) })
  alone-ends x xs bs n (suc k) t off e = cc

  tail-at : (xs : List Node) (bs : List Bool) (n : Numbers) (k : ℕ) (t : Tail) → slice_get (tails_of (rest_from m nodes part_of shared xs bs n)) k ≡ Some t → (t ≡ nowhere) ⊎ EndsPart xs bs k t
  tail-at [] bs n zero t e = inl (sym (same-some e))
  tail-at [] bs n (suc k) t e = cc
  tail-at (x ∷ []) bs n k t e = alone-ends x [] bs n k t refl e
  tail-at (x ∷ y ∷ xs) [] n k t e = alone-ends x (y ∷ xs) [] n k t refl e
  tail-at (x ∷ y ∷ xs) (true ∷ bs) n k t e =
      ⊎_elim (λ h. inl h) (λ h. inr (one-more x y xs true bs k k t h h.part)) (tail-at (y ∷ xs) bs (next_numbers x true y n) k t e)
  tail-at (x ∷ y ∷ xs) (false ∷ bs) n zero t e = inr (record { number = 0; node = x; is = refl; off = refl; part = refl; mine = (after x n).mine; tail = sym (same-some e) })
  tail-at (x ∷ y ∷ xs) (false ∷ bs) n (suc k) t e =
      ⊎_elim (λ h. inl h) (λ h. inr (one-more x y xs false bs k (suc k) t h (ap suc h.part))) (tail-at (y ∷ xs) bs (next_numbers x false y n) k t e)

  -- a part that isn't shared by exits
  pub record IsOwn (flags : List Bool) (n : ℕ) (p : Part) : Type 0 where
    pub inside : n < length (whole (rest_from m nodes part_of shared nodes flags no_numbers))
    pub ends : EndsPart nodes flags n p.tail

  pub own-part : (flags : List Bool) (n : ℕ) (p : Part) → slice_get (parts_of m part_of shared nodes flags) n ≡ Some p → (p.tail ≡ nowhere) ⊎ IsOwn flags n p
  own-part flags n p e =
      ⊎_elim own (λ h. inl (of-shared shared h.0 h.1)) (get-either (whole rest) (shared_part shared) n p e)
    where
      rest : Rest
      rest = rest_from m nodes part_of shared nodes flags no_numbers

      of-shared : (o : Option ℕ) (k : ℕ) → slice_get (shared_part o) k ≡ Some p → p.tail ≡ nowhere
      of-shared None k h = cc
      of-shared (Some j) zero h = ap (λ (q : Part). q.tail) (sym (same-some h))
      of-shared (Some j) (suc k) h = cc

      own : slice_get (whole (rest_from m nodes part_of shared nodes flags no_numbers)) n ≡ Some p → (p.tail ≡ nowhere) ⊎ IsOwn flags n p
      own h =
          ⊎_elim (λ z. inl z) (λ z. inr (record { inside = slice_get_within (whole (rest_from m nodes part_of shared nodes flags no_numbers)) n p h; ends = z }))
          (tail-at nodes flags no_numbers n p.tail (slice_get-map (λ (q : Part). q.tail) (whole (rest_from m nodes part_of shared nodes flags no_numbers)) n ∙ ap (option_map (λ (q : Part). q.tail)) h))

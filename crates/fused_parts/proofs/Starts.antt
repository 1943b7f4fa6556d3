-- The table of the numbers of parts.
use Rattle.std.proofs.Common.{◌≡◌, ℕ, zero, suc, ◌+◌, ◌<◌, ◌≤◌, Bool, true, false, Some, List, [], ◌∷◌, length, refl, ap, ◌∙◌, arith}
use Rattle.std.specs.Prelude.{slice_get}
use Rattle.fused_parts.specs.Parts.{next_part}
use Rattle.fused_parts.specs.Ranks.{part_number}
use Rattle.fused_parts.specs.code.Starts.{starts, starts_from}

-- as many as configurations
pub starts-length : (bs : List Bool) (n : ℕ) → length (starts_from n bs) ≡ length bs
starts-length [] n = refl
starts-length (b ∷ bs) n = ap suc (starts-length bs (next_part b n))

-- the entries are the numbers of parts
entry : (bs : List Bool) (n i : ℕ) → i ≤ length bs → slice_get (n ∷ starts_from n bs) i ≡ Some (n + part_number bs i)
entry bs n zero le = ap Some (omega arith)
entry [] n (suc i) le = absurd (omega arith)
entry (true ∷ bs) n (suc i) le = entry bs n i (omega (arith, le))
entry (false ∷ bs) n (suc i) le = entry bs (suc n) i (omega (arith, le)) ∙ ap Some (omega arith)

pub start-at : (bs : List Bool) (i : ℕ) → i ≤ length bs → slice_get (starts bs) i ≡ Some (part_number bs i)
start-at bs i le = entry bs 0 i le ∙ ap Some (omega arith)

-- none ends behind the last configuration
pub number-past : (bs : List Bool) (i : ℕ) → length bs ≤ i → part_number bs (length bs) ≡ part_number bs i
number-past [] zero le = refl
number-past [] (suc i) le = refl
number-past (b ∷ bs) zero le = absurd (omega (arith, le))
number-past (true ∷ bs) (suc i) le = number-past bs i (omega (arith, le))
number-past (false ∷ bs) (suc i) le = ap suc (number-past bs i (omega (arith, le)))

module _ (bs seen : List Bool) (table : List ℕ) (same : bs ≡ seen) (made : table ≡ starts bs) where
  table-length : length table ≡ suc (length bs)
  table-length = ap length made ∙ ap suc (starts-length bs 0)

  at-most : (i n : ℕ) → i ≤ length bs → slice_get table i ≡ Some n → n ≡ part_number bs i
  at-most i n le e =
      let f : slice_get table i ≡ Some (part_number bs i) = ap (λ t. slice_get t i) made ∙ start-at bs i le in
      cc

  -- a number that stands in the table
  pub inside-number : (i n : ℕ) → i < length table → slice_get table i ≡ Some n → n ≡ part_number seen i
  inside-number i n lt e =
      at-most i n (let l = table-length in omega (arith, l, lt)) e ∙ ap (λ f. part_number f i) same

  -- and behind it, by the last
  pub behind-number : (i k n : ℕ) → length table ≤ i → k ≡ length bs → slice_get table k ≡ Some n → n ≡ part_number seen i
  behind-number i k n le last e =
      at-most k n (omega (arith, last)) e ∙ ap (part_number bs) last
      ∙ number-past bs i (let l = table-length in omega (arith, l, le)) ∙ ap (λ f. part_number f i) same

  pub last-inside : (k : ℕ) → k ≡ length bs → k < length table
  last-inside k last = let l = table-length in omega (arith, l, last)

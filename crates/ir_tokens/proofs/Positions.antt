-- Positions behind one more byte, and behind further ones.
use Rattle.std.proofs.Common.{◌≡◌, ℕ, suc, ◌+◌, ◌≤◌, Bool, true, false, cond, List, [], ◌∷◌, ◌++◌, length, take, drop, min, refl, sym, ap, ◌∙◌, arith, append_assoc}
use Rattle.std.specs.Prelude.{not, count_by, reverse}
use Rattle.std.specs.List.{suffix_len, prefix_len}
use Rattle.std.proofs.lemmas.List.{append-nil, reverse-append, take-take, take-append-drop, length-take, length-reverse, take_min}
use Rattle.std.proofs.lemmas.List.Sums.{count_by-le-length, sum_by-append}
use Rattle.ir_tokens.specs.Positions.{ends_line, position_behind, position_of}
use Rattle.ir_tokens.specs.code.Moves.{step, moved}
use Rattle.ir_tokens.specs.declared.lines.Position.{Position}

record_step : (b : Bool) (n m : ℕ) → ◌≡◌ {A = Position} (record { line = n + (0 + cond b 1 0) + 1; column = cond (not b) (1 + m) 0 + 1 }) (cond b (record { line = n + 1 + 1; column = 1 }) (record { line = n + 1; column = m + 1 + 1 }))
record_step true n m = refl
record_step false n m =
    let d : n + 0 ≡ n = omega arith in
    let e : 1 + m ≡ m + 1 = omega arith in
    λ j. record { line = d j + 1; column = e j + 1 }

pub position-step : (a : List ℕ) (c : ℕ) → position_behind (a ++ c ∷ []) ≡ step (position_behind a) c
position-step a c =
    rw (sum_by-append (λ x. cond (ends_line x) 1 0) a (c ∷ []), reverse-append a (c ∷ []))
    (record_step (ends_line c) (count_by ends_line a) (suffix_len (λ x. not (ends_line x)) a))

pub position-moved : (b a : List ℕ) → position_behind (a ++ b) ≡ moved (position_behind a) b
position-moved [] a = ap position_behind (append-nil a)
position-moved (c ∷ cs) a =
    ap position_behind (sym (append_assoc a (c ∷ []) cs)) ∙ (position-moved cs (a ++ c ∷ []) ∙ ap (λ p. moved p cs) (position-step a c))

pub position_on : (bytes : List ℕ) (from to : ℕ) → from ≤ to → moved (position_of bytes from) (drop from (take to bytes)) ≡ position_of bytes to
unfolding position_of
position_on bytes from to h =
    sym (ap (λ s. moved (position_behind s) (drop from (take to bytes))) (take-take from to bytes h))
    ∙ (sym (position-moved (drop from (take to bytes)) (take from (take to bytes)))
    ∙ ap position_behind (take-append-drop from (take to bytes)))

prefix_step : (b : Bool) (n m : ℕ) → n ≤ m → cond b (1 + n) 0 ≤ suc m
prefix_step true n m h = omega arith
prefix_step false n m h = omega arith

prefix_len-le : (p : ℕ → Bool) (s : List ℕ) → prefix_len p s ≤ length s
prefix_len-le p [] = omega arith
prefix_len-le p (c ∷ cs) = prefix_step (p c) (prefix_len p cs) (length cs) (prefix_len-le p cs)

suffix_len-le : (p : ℕ → Bool) (s : List ℕ) → suffix_len p s ≤ length s
suffix_len-le p s = rw (length-reverse s) at (prefix_len-le p (reverse s))

pub line_at_most : (bytes : List ℕ) (n : ℕ) → (position_of bytes n).line ≤ n + 1
unfolding position_of
line_at_most bytes n = omega (arith, count_by-le-length ends_line (take n bytes), length-take n bytes)

pub column_at_most : (bytes : List ℕ) (n : ℕ) → (position_of bytes n).column ≤ n + 1
unfolding position_of
column_at_most bytes n = omega (arith, suffix_len-le (λ c. not (ends_line c)) (take n bytes), length-take n bytes)

-- a place behind the end counts as the end
pub position_end : (bytes : List ℕ) (n : ℕ) → position_of bytes (min n (length bytes)) ≡ position_of bytes n
unfolding position_of
position_end bytes n = ap position_behind (take_min n bytes)

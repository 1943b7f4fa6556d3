-- The bytes that strings stand for, one by one.
use Rattle.std.proofs.Common.{◌≡◌, ℕ, zero, suc, ◌≤◌, Bool, true, false, cond, List, [], ◌∷◌, length, drop, refl, ap, arith}
use Rattle.std.specs.Prelude.{◌==◌}
use Rattle.std.proofs.lemmas.List.{length-drop}
use Rattle.ir_values.specs.Bytes.{backslash}
use Rattle.ir_text.specs.Faults.{escape_length}
use Rattle.ir_tokens.specs.Decoded.{decoded, decoded_byte}
use Rattle.ir_tokens.specs.code.Behind.{behind_one}

short : (b : Bool) (n : ℕ) (cs : List ℕ) → length (cond b (drop n cs) cs) ≤ length cs
short true n cs = omega (arith, length-drop n cs)
short false n cs = omega arith

pub behind_length : (c : ℕ) (cs : List ℕ) → length (behind_one c cs) ≤ length cs
behind_length c cs = short (c == backslash) (escape_length cs) cs

skip : (n : ℕ) (s : List ℕ) → decoded n s ≡ decoded 0 (drop n s)
skip zero s = refl
skip (suc n) [] = refl
skip (suc n) (c ∷ cs) = skip n cs

turn : (b : Bool) (cs : List ℕ) → cond b (decoded (escape_length cs) cs) (decoded 0 cs) ≡ decoded 0 (cond b (drop (escape_length cs) cs) cs)
turn true cs = skip (escape_length cs) cs
turn false cs = refl

pub decoded_step : (c : ℕ) (cs : List ℕ) → decoded 0 (c ∷ cs) ≡ decoded_byte c cs ∷ decoded 0 (behind_one c cs)
decoded_step c cs = ap (λ x. decoded_byte c cs ∷ x) (turn (c == backslash) cs)

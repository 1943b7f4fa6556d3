-- A double is spelled exactly where nothing stands behind the longest at the front.
use Rattle.std.proofs.Common.{◌≡◌, ℕ, zero, suc, ◌≤◌, ◌<◌, Bool, true, false, cond, ltb, List, [], ◌∷◌, length, take, drop, Option, Some, None, refl, sym, ap, ◌∙◌, arith}
use Rattle.std.specs.Prelude.{◌==◌, ◌&&◌, ◌||◌}
use Rattle.std.specs.Char.{is_ascii_digit, is_ascii_hexdigit}
use Rattle.std.specs.List.{list_all}
use Rattle.std.proofs.lemmas.Bool.{and_parts, eqb-true, eqb-false, ne_eqb, ltb-true, ltb-false, false≢true}
use Rattle.std.proofs.lemmas.List.{length-drop}
use Rattle.ir_values.specs.Double.{is_nil, after_digits, after_sign, begins_with_digit, is_exponent, is_fraction, is_decimal, is_sixteen_hex, is_hex_form, is_double}
use Rattle.ir_values.specs.code.Double.{behind_exponent, behind_point, behind_decimal, behind_sixteen, behind_double}

-- whether something was found with nothing behind it
abbrev pub ends_there : Option (List ℕ) → Bool
ends_there None = false
ends_there (Some more) = is_nil more

exponent_step : (b g : Bool) (c : ℕ) (cs more : List ℕ) → (b && g && is_nil more) ≡ is_nil (cond (b && g) more (c ∷ cs))
exponent_step true true c cs more = refl
exponent_step true false c cs more = refl
exponent_step false g c cs more = refl

exponent_ends : (cs : List ℕ) → is_exponent cs ≡ is_nil (behind_exponent cs)
exponent_ends [] = refl
exponent_ends (c ∷ cs) = exponent_step ((c == 101) || (c == 69)) (begins_with_digit (after_sign cs)) c cs (after_digits (after_sign cs))

fraction_step : (b e : Bool) (more : List ℕ) → e ≡ is_nil more → (b && e) ≡ ends_there (cond b (Some more) None)
fraction_step true e more h = h
fraction_step false e more h = refl

fraction_ends : (cs : List ℕ) → is_fraction cs ≡ ends_there (behind_point cs)
fraction_ends [] = refl
fraction_ends (c ∷ cs) = fraction_step (c == 46) (is_exponent (after_digits cs)) (behind_exponent (after_digits cs)) (exponent_ends (after_digits cs))

decimal_step : (b f : Bool) (found : Option (List ℕ)) → f ≡ ends_there found → (b && f) ≡ ends_there (cond b found None)
decimal_step true f found h = h
decimal_step false f found h = refl

decimal_ends : (cs : List ℕ) → is_decimal cs ≡ ends_there (behind_decimal cs)
decimal_ends cs =
    let whole = after_sign cs in
    decimal_step (begins_with_digit whole) (is_fraction (after_digits whole)) (behind_point (after_digits whole)) (fraction_ends (after_digits whole))

nil_of : (cs : List ℕ) → length cs ≡ 0 → is_nil cs ≡ true
nil_of [] h = refl
nil_of (c ∷ cs) h = absurd (omega arith)

some_of : (cs : List ℕ) → 0 < length cs → is_nil cs ≡ false
some_of [] h = absurd (omega arith)
some_of (c ∷ cs) h = refl

take-all : (n : ℕ) (cs : List ℕ) → length cs ≡ n → take n cs ≡ cs
take-all n [] h = cc
take-all zero (c ∷ cs) h = absurd (omega arith)
take-all (suc n) (c ∷ cs) h = ap (λ x. c ∷ x) (take-all n cs (omega arith))

sixteen_step : (short exact : Bool) (cs : List ℕ) → ltb (length cs) 16 ≡ short → (length cs == 16) ≡ exact
    → (exact && list_all is_ascii_hexdigit cs) ≡ ends_there (cond short None (cond (list_all is_ascii_hexdigit (take 16 cs)) (Some (drop 16 cs)) None))
sixteen_step true true cs s e =
    let n : length cs < 16 = ltb-true (length cs) 16 s in
    let k : length cs ≡ 16 = eqb-true (length cs) 16 e in
    absurd (omega arith)
sixteen_step true false cs s e = refl
sixteen_step false true cs s e =
    let k : length cs ≡ 16 = eqb-true (length cs) 16 e in
    let front : take 16 cs ≡ cs = take-all 16 cs k in
    let none : is_nil (drop 16 cs) ≡ true = nil_of (drop 16 cs) (omega (arith, length-drop 16 cs)) in
    rw front (hex_whole (list_all is_ascii_hexdigit cs) (drop 16 cs) none)
  where
    hex_whole : (b : Bool) (more : List ℕ) → is_nil more ≡ true → b ≡ ends_there (cond b (Some more) None)
    hex_whole true more h = sym h
    hex_whole false more h = refl
sixteen_step false false cs s e =
    let n : 16 ≤ length cs = ltb-false (length cs) 16 s in
    let k : 16 < length cs = longer (length cs) n e in
    more_left (list_all is_ascii_hexdigit (take 16 cs)) (drop 16 cs) (some_of (drop 16 cs) (omega (arith, length-drop 16 cs)))
  where
    longer : (n : ℕ) → 16 ≤ n → (n == 16) ≡ false → 16 < n
    longer n h k = omega (arith, eqb-false n 16 k)

    more_left : (b : Bool) (more : List ℕ) → is_nil more ≡ false → false ≡ ends_there (cond b (Some more) None)
    more_left true more h = sym h
    more_left false more h = refl

sixteen_ends : (cs : List ℕ) → is_sixteen_hex cs ≡ ends_there (behind_sixteen cs)
sixteen_ends cs = sixteen_step (ltb (length cs) 16) (length cs == 16) cs refl refl

-- a decimal double begins with no "0x"
no_hex : (c d : ℕ) (cs : List ℕ) → ((c == 48) && (d == 120)) ≡ true → is_decimal (c ∷ d ∷ cs) ≡ false
no_hex c d cs h =
    let p = and_parts (c == 48) (d == 120) h in
    let zero_there : c ≡ 48 = eqb-true c 48 p.0 in
    let x_there : d ≡ 120 = eqb-true d 120 p.1 in
    ap (λ x. is_decimal (x ∷ d ∷ cs)) zero_there ∙ ap (λ x. is_decimal (48 ∷ x ∷ cs)) x_there

double_step : (b : Bool) (c d : ℕ) (cs : List ℕ) → ((c == 48) && (d == 120)) ≡ b
    → ((b && is_sixteen_hex cs) || is_decimal (c ∷ d ∷ cs)) ≡ ends_there (cond b (behind_sixteen cs) (behind_decimal (c ∷ d ∷ cs)))
double_step true c d cs h = rw (no_hex c d cs h) (or_none (is_sixteen_hex cs) ∙ sixteen_ends cs)
  where
    or_none : (x : Bool) → (x || false) ≡ x
    or_none true = refl
    or_none false = refl
double_step false c d cs h = decimal_ends (c ∷ d ∷ cs)

double_ends_there : (cs : List ℕ) → is_double cs ≡ ends_there (behind_double cs)
double_ends_there [] = refl
double_ends_there (c ∷ []) = decimal_ends (c ∷ [])
double_ends_there (c ∷ d ∷ cs) = double_step ((c == 48) && (d == 120)) c d cs refl

nil_length : (more : List ℕ) → (length more == 0) ≡ is_nil more
nil_length [] = refl
nil_length (c ∷ cs) = ne_eqb (length (c ∷ cs)) 0 (λ e. absurd (omega arith))

pub found_ends : (cs more : List ℕ) (none_left : Bool) → behind_double cs ≡ Some more → none_left ≡ (length more == 0) → none_left ≡ is_double cs
found_ends cs more none_left h e = e ∙ (nil_length more ∙ sym (double_ends_there cs ∙ ap ends_there h))

pub nothing_ends : (cs : List ℕ) → behind_double cs ≡ None → false ≡ is_double cs
nothing_ends cs h = sym (double_ends_there cs ∙ ap ends_there h)

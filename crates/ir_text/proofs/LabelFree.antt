-- Where no label can end.
use Rattle.std.proofs.Common.{◌≡◌, ℕ, zero, suc, ◌+◌, ◌-◌, ◌≤◌, ◌<◌, Bool, true, false, cond, List, [], ◌∷◌, length, drop, refl, sym, ap, ◌∙◌, arith}
use Rattle.std.specs.Prelude.{◌==◌, not, Result, Ok, Err, IfOk}
use Rattle.ir_values.specs.Double.{begins, after}
use Rattle.ir_text.specs.declared.tok.Tok.{Tok}
use Rattle.ir_text.specs.declared.tok.Span.{Span}
use Rattle.ir_text.specs.declared.tok.LexError.{LexError}
use Rattle.std.proofs.lemmas.List.{length-drop, drop-drop}
use Rattle.ir_text.specs.Forms.{in_name}
use Rattle.ir_text.specs.code.Next.{after_gap}
use Rattle.ir_text.specs.code.LabelFree.{ends_label, behind_label_free, IsLabelFree}
use Rattle.ir_text.specs.Tokens.{is_blank}
use Rattle.ir_text.specs.code.Scan.{Shape, label_or}
use Rattle.ir_text.proofs.Lengths.{below, length-after, length-after_gap}

-- where no ':' comes, there's no label
pub label_free : (other : Shape) (s : List ℕ) → begins (λ c. c == 58) s ≡ false → label_or other s ≡ other
label_free other [] h = refl
label_free other (c ∷ cs) h = rw h refl

within_step : (b : Bool) (c : ℕ) (cs a w : List ℕ) (k : ℕ) → suc k < length (c ∷ cs) - length (cond b a (c ∷ cs)) → length a ≤ length cs → (k < length cs - length a → w ≡ a) → w ≡ cond b a (c ∷ cs)
within_step true c cs a w k h n f = f (omega arith)
within_step false c cs a w k h n f = absurd (omega arith)

-- from each of the bytes that pass the test on, the same is behind them
pub after_within : (p : ℕ → Bool) (k : ℕ) (s : List ℕ) → k < length s - length (after p s) → after p (drop k s) ≡ after p s
after_within p zero s h = refl
after_within p (suc k) [] h = absurd (omega arith)
after_within p (suc k) (c ∷ cs) h = within_step (p c) c cs (after p cs) (after p (drop k cs)) k h (length-after p cs) (λ h. after_within p k cs h)

gap_turn : (b : Bool) (c : ℕ) (cs a d : List ℕ) → length a ≤ length cs → a ≡ drop (length cs - length a) cs → d ≡ drop (suc (length cs) - length d) (c ∷ cs) → cond b a d ≡ drop (suc (length cs) - length (cond b a d)) (c ∷ cs)
gap_turn true c cs a d n h k = let e : suc (length cs) - length a ≡ suc (length cs - length a) = omega arith in h ∙ sym (ap (λ m. drop m (c ∷ cs)) e)
gap_turn false c cs a d n h k = k

whole : (s : List ℕ) → s ≡ drop (length s - length s) s
whole s = let e : length s - length s ≡ 0 = omega arith in sym (ap (λ m. drop m s) e)

-- what stands behind a gap is the end of the bytes
pub after_gap_drop : (inside : Bool) (s : List ℕ) → after_gap inside s ≡ drop (length s - length (after_gap inside s)) s
after_gap_drop inside [] = refl
after_gap_drop true (c ∷ cs) = gap_turn true c cs (after_gap (not (c == 10)) cs) (c ∷ cs) (length-after_gap (not (c == 10)) cs) (after_gap_drop (not (c == 10)) cs) (whole (c ∷ cs))
after_gap_drop false (c ∷ cs) =
    gap_turn (c == 59) c cs (after_gap true cs) (cond (is_blank c) (after_gap false cs) (c ∷ cs)) (length-after_gap true cs) (after_gap_drop true cs)
    (gap_turn (is_blank c) c cs (after_gap false cs) (c ∷ cs) (length-after_gap false cs) (after_gap_drop false cs) (whole (c ∷ cs)))

-- the same, counted from the beginning of the text
pub rest_drop : (bytes rest : List ℕ) (at : ℕ) → at ≤ length bytes → rest ≡ after_gap false (drop at bytes) → rest ≡ drop (length bytes - length rest) bytes
rest_drop bytes rest at h e =
    let s = drop at bytes in
    let n : at + (length s - length (after_gap false s)) ≡ length bytes - length rest = omega (arith, ap length e, length-after_gap false s, length-drop at bytes) in
    e ∙ (after_gap_drop false s ∙ (drop-drop (length s - length (after_gap false s)) at bytes ∙ ap (λ m. drop m bytes) n))

pub at_rest : (bytes rest : List ℕ) (at : ℕ) → at ≤ length bytes → rest ≡ after_gap false (drop at bytes) → at ≤ length bytes - length rest
at_rest bytes rest at h e = omega (arith, ap length e, length-after_gap false (drop at bytes), length-drop at bytes)

-- what holds from a place on holds from a later one on
pub later : (bytes : List ℕ) (a b to : ℕ) → a ≤ b → IsLabelFree bytes a to → IsLabelFree bytes b to
later bytes a b to h p = λ q k l. p q (omega arith) l

-- no label begins at the first byte of a token before that place
pub first_plain : (bytes rest : List ℕ) (at to : ℕ) → at ≤ length bytes → rest ≡ after_gap false (drop at bytes) → IsLabelFree bytes (length bytes - length rest) to → length bytes - length rest < to → ends_label rest ≡ false
first_plain bytes rest at to h e p l = ap ends_label (rest_drop bytes rest at h e) ∙ p (length bytes - length rest) (omega arith) l

found_step : (b : Bool) (bytes rest : List ℕ) → ends_label rest ≡ b → rest ≡ drop (length bytes - length rest) bytes → length rest ≤ length bytes → IsLabelFree bytes (length bytes - length rest) (length bytes - length (cond b rest (after in_name rest)))
found_step true bytes rest f e n = λ q k l. absurd (omega arith)
found_step false bytes rest f e n = λ q k l.
    let a = after in_name rest in
    let m : length bytes - length rest + (q - (length bytes - length rest)) ≡ q = omega arith in
    let i : q - (length bytes - length rest) < length rest - length a = omega (arith, length-after in_name rest) in
    let j : drop (q - (length bytes - length rest)) rest ≡ drop q bytes = ap (drop (q - (length bytes - length rest))) e ∙ (drop-drop (q - (length bytes - length rest)) (length bytes - length rest) bytes ∙ ap (λ m. drop m bytes) m) in
    ap ends_label (sym j) ∙ (ap (begins (λ c. c == 58)) (after_within in_name (q - (length bytes - length rest)) rest i) ∙ f)

-- the bytes of names that come first end no label where they're followed by no ':'
pub found_plain : (bytes rest : List ℕ) → rest ≡ drop (length bytes - length rest) bytes → length rest ≤ length bytes → IsLabelFree bytes (length bytes - length rest) (length bytes - length (behind_label_free rest))
found_plain bytes rest e n = found_step (ends_label rest) bytes rest refl e n

pub length-behind_label_free : (s : List ℕ) → length (behind_label_free s) ≤ length s
length-behind_label_free s = below (ends_label s) s (after in_name s) (length s) (omega arith) (length-after in_name s)

pub ok_plain : (r : Result (Tok × Span) LexError) (bytes : List ℕ) (from to : ℕ) → IfOk r (λ found. from ≤ found.1.to) → IsLabelFree bytes from to → IfOk r (λ found. IsLabelFree bytes found.1.to to)
ok_plain (Ok found) bytes from to h p = later bytes from found.1.to to h p
ok_plain (Err e) bytes from to h p = tt

-- The tokens of a text: doubles are spelled so, widths are from 1 to 128, and there is at most one more than bytes.
use Rattle.std.specs.Prelude.{◌==◌, nat_eq, nat_lt, if◌then◌else◌, codes}
use Rattle.std.specs.Char.{is_ascii_digit}
use Rattle.std.specs.List.{list_all, list_any}
use Rattle.std.proofs.Common.{◌≡◌, ℕ, ◌+◌, ◌-◌, ◌≤◌, Bool, true, false, not, ◌&&◌, ◌||◌, List, [], ◌∷◌, ◌++◌, length, map, take, drop, refl, sym, ap, ◌∙◌, subst, arith, inl, inr}
use Rattle.std.proofs.Math.Seq.{drop-append_seam}
use Rattle.std.proofs.lemmas.List.{drop-drop, length-append, append_assoc, length-map, take_at}
use Rattle.std.proofs.lemmas.Bool.{ltb-true, eqb-true, and_parts, or_left, or_right, or_cases, not-true, both_ways, false≢true}
use Rattle.grammar.specs.Grammar.{has}
use Rattle.ir_values.specs.Bytes.{digit_zero, minus, equals, comma, star, less, greater, open_bracket, close_bracket, open_square, close_square, open_brace, close_brace}
use Rattle.ir_values.specs.Double.{begins, is_double}
use Rattle.ir_text.specs.Forms.{spells}
use Rattle.ir_text.specs.Tokens.{TokensFrom, Tokens}
use Rattle.ir_text.specs.declared.tok.Tok.{Tok}
use Rattle.ir_text.specs.declared.tok.Tok.TheVariants as tok
use Rattle.ir_text.specs.declared.tok.Span.{Span}
use Rattle.ir_tokens.specs.code.Kinds.{code}
use Rattle.ir_tokens.specs.Classified.{is_width, other_width, exact_width, padded_width, width_kind, local_kind, integer_kind, metadata_kind, sign_kind, kind_of, number_of}
use Rattle.ir_tokens.specs.Decoded.{behind_first, name_bytes}
use Rattle.ir_tokens.specs.Numbers.{value_of, halves, number_in}
use Rattle.ir_tokens.specs.Spelled.{spelling_at}
use Rattle.ir_tokens.specs.Texts.{slice, token_of}
use Rattle.ir_tokens.specs.Tokens.{tokens}
use Rattle.ir_tokens.specs.Whole.{IsWhole}
use Rattle.ir_tokens.specs.Words.{words, left_out, other_kind, look_up, word_kind, same_text}
use Rattle.ir_tokens.specs.declared.kind.Kind.{Kind}
use Rattle.ir_tokens.specs.declared.kind.Kind.TheVariants as kind
use Rattle.ir_tokens.specs.declared.token.Token.{Token}
use Rattle.ir_grammar.specs.Metadata.{width_kinds}
use Rattle.read_modules.proofs.Each.{Each, Each-map, Each-both}
use Rattle.read_modules.proofs.Scene.{Told}

-- Kinds by spellings.

-- a double, or a width in metadata
abbrev is_told : Kind → Bool
is_told k = has tokens (kind.DoubleLiteral ∷ width_kinds) k

record Lacks (test : Kind → Bool) (k : Kind) : Type 0 where
  lacks : test k ≡ false

leaf : {test : Kind → Bool} {k : Kind} → test k ≡ false → Lacks test k
leaf h = record { lacks = h }

either : {test : Kind → Bool} (b : Bool) (x y : Kind) → Lacks test x → Lacks test y → Lacks test (if b then x else y)
either true x y h k = h
either false x y h k = k

abbrev Untold : Kind → Type 0
Untold k = Lacks is_told k

local_untold : (s : List ℕ) → Untold (local_kind s)
local_untold s =
    either (same_text s (codes "Qubit")) kind.QubitName _ (leaf refl) (either (same_text s (codes "Result")) kind.ResultName _ (leaf refl) (leaf {k = kind.Local} refl))

integer_untold : (s : List ℕ) → Untold (integer_kind s)
integer_untold s = either (begins (λ c. c == minus) s) kind.Minus _ (leaf refl) (leaf {k = kind.Nat} refl)

metadata_untold : (s : List ℕ) → Untold (metadata_kind s)
metadata_untold [] = leaf refl
metadata_untold (c ∷ cs) = either (is_ascii_digit c) kind.Node _ (leaf refl) (leaf {k = kind.MetaName} refl)

sign_untold : (s : List ℕ) → Untold (sign_kind s)
sign_untold [] = leaf refl
sign_untold (c ∷ cs) = either (c == equals) kind.Equals _ (leaf refl) (either (c == comma) kind.Comma _ (leaf refl)
    (either (c == star) kind.Star _ (leaf refl) (either (c == open_bracket) kind.Open _ (leaf refl)
    (either (c == close_bracket) kind.Close _ (leaf refl) (either (c == open_square) kind.OpenSquare _ (leaf refl)
    (either (c == close_square) kind.CloseSquare _ (leaf refl) (either (c == open_brace) kind.OpenBrace _ (leaf refl)
    (either (c == close_brace) kind.CloseBrace _ (leaf refl) (either (c == less) kind.Less _ (leaf refl)
    (either (c == greater) kind.Greater _ (leaf refl) (leaf {k = kind.Dots} refl)))))))))))

look_untold : (rows : List (List ℕ × Kind)) (other : Kind) (s : List ℕ) → list_all (λ r. not (is_told r.1)) rows ≡ true → Untold other → Untold (look_up rows other s)
look_untold [] other s h k = k
look_untold (r ∷ rows) other s h k = let p = and_parts (not (is_told r.1)) _ h in either (same_text s r.0) r.1 _ (leaf (not-true (is_told r.1) p.0)) (look_untold rows other s p.1 k)

word_untold : (s : List ℕ) → Untold (word_kind s)
unfolding word_kind
word_untold s = look_untold words (other_kind s) s refl (either (list_any (same_text s) left_out) kind.LeftOutWord _ (leaf refl) (leaf {k = kind.OtherWord} refl))

-- Widths.

abbrev is_width_kind : Kind → Bool
is_width_kind k = has tokens width_kinds k

abbrev IsWidth : ℕ → Type 0
IsWidth n = (1 ≤ n) × (n ≤ 128)

record IsWide (k : Kind) : Type 0 where
  wide : is_width_kind k ≡ true

choose : (P : Type 0) (b : Bool) (x y : Kind) → (b ≡ true → IsWide x → P) → (IsWide y → P) → IsWide (if b then x else y) → P
choose P true x y f g h = f refl h
choose P false x y f g h = g h

equal_width : (n k : ℕ) → 1 ≤ k → k ≤ 128 → (n == k) ≡ true → IsWidth n
equal_width n k l h e = let i = eqb-true n k e in (omega arith, omega arith)

other_is : (n : ℕ) → IsWide (other_width n) → IsWidth n
other_is n h = choose (IsWidth n) (nat_lt 0 n && nat_lt n 129) kind.OddWidth kind.LeftOutWord
    (λ e _. let p = and_parts (nat_lt 0 n) (nat_lt n 129) e in let a = ltb-true 0 n p.0 in let b = ltb-true n 129 p.1 in (omega arith, omega arith))
    (λ f. absurd (false≢true f.wide)) h

exact_is : (n : ℕ) → IsWide (exact_width n) → IsWidth n
exact_is n h =
    choose (IsWidth n) (n == 1) kind.I1 _ (λ e _. equal_width n 1 (omega arith) (omega arith) e)
    (choose (IsWidth n) (n == 8) kind.I8 _ (λ e _. equal_width n 8 (omega arith) (omega arith) e)
    (choose (IsWidth n) (n == 16) kind.I16 _ (λ e _. equal_width n 16 (omega arith) (omega arith) e)
    (choose (IsWidth n) (n == 32) kind.I32 _ (λ e _. equal_width n 32 (omega arith) (omega arith) e)
    (choose (IsWidth n) (n == 64) kind.I64 _ (λ e _. equal_width n 64 (omega arith) (omega arith) e)
    (other_is n))))) h

one_of_five : (n : ℕ) → ((n == 1) || (n == 8) || (n == 16) || (n == 32) || (n == 64)) ≡ true → IsWidth n
one_of_five n h = elim (or_cases _ (n == 64) h) as (λ _. IsWidth n) [
  | inr e ↦ equal_width n 64 (omega arith) (omega arith) e
  | inl h ↦ elim (or_cases _ (n == 32) h) as (λ _. IsWidth n) [
    | inr e ↦ equal_width n 32 (omega arith) (omega arith) e
    | inl h ↦ elim (or_cases _ (n == 16) h) as (λ _. IsWidth n) [
      | inr e ↦ equal_width n 16 (omega arith) (omega arith) e
      | inl h ↦ elim (or_cases _ (n == 8) h) as (λ _. IsWidth n) [
        | inr e ↦ equal_width n 8 (omega arith) (omega arith) e
        | inl e ↦ equal_width n 1 (omega arith) (omega arith) e
      ]
    ]
  ]
]

padded_is : (n : ℕ) → IsWide (padded_width n) → IsWidth n
padded_is n h = choose (IsWidth n) ((n == 1) || (n == 8) || (n == 16) || (n == 32) || (n == 64)) kind.SameWidth _ (λ e _. one_of_five n e) (other_is n) h

width_is : (s : List ℕ) → IsWide (width_kind s) → IsWidth (number_in s)
width_is s h = choose (IsWidth (number_in s)) (begins (λ c. c == digit_zero) s) (padded_width (number_in s)) (exact_width (number_in s)) (λ _. padded_is (number_in s)) (exact_is (number_in s)) h

untold_width : (k : Kind) → Untold k → is_width_kind k ≡ true → ⊥
untold_width k u h = let t : is_told k ≡ true = or_right (nat_eq 9 (code k)) (is_width_kind k) h in both_ways (is_told k) u.lacks t

untold_double : (k : Kind) → Untold k → has tokens (kind.DoubleLiteral ∷ []) k ≡ true → ⊥
untold_double k u h = elim (or_cases (nat_eq 9 (code k)) false h) as (λ _. ⊥) [ inl e ↦ both_ways (is_told k) u.lacks (or_left (nat_eq 9 (code k)) (is_width_kind k) e) | inr e ↦ false≢true e ]

word_width : (b : Bool) (s : List ℕ) → is_width_kind (if b then width_kind (behind_first s) else word_kind s) ≡ true → IsWidth (if b then number_in (behind_first s) else 0)
word_width true s h = width_is (behind_first s) (record { wide = h })
word_width false s h = absurd (untold_width (word_kind s) (word_untold s) h)

width_of_kind : (k : Tok) (s : List ℕ) → is_width_kind (kind_of k s) ≡ true → IsWidth (number_of k s)
width_of_kind tok.Word s h = word_width (is_width s) s h
width_of_kind tok.Label s h = absurd (cc)
width_of_kind tok.Local s h = absurd (untold_width _ (local_untold (name_bytes (behind_first s))) h)
width_of_kind tok.Global s h = absurd (cc)
width_of_kind tok.Integer s h = absurd (untold_width _ (integer_untold s) h)
width_of_kind tok.Double s h = absurd (cc)
width_of_kind tok.Str s h = absurd (cc)
width_of_kind tok.ByteStr s h = absurd (cc)
width_of_kind tok.Group s h = absurd (cc)
width_of_kind tok.Metadata s h = absurd (untold_width _ (metadata_untold (behind_first s)) h)
width_of_kind tok.Sign s h = absurd (untold_width _ (sign_untold s) h)
width_of_kind tok.End s h = absurd (cc)

-- Doubles.

abbrev is_double_kind : Kind → Bool
is_double_kind k = has tokens (kind.DoubleLiteral ∷ []) k

abbrev NoDouble : Kind → Type 0
NoDouble k = Lacks is_double_kind k

other_width_no : (n : ℕ) → NoDouble (other_width n)
other_width_no n = either (nat_lt 0 n && nat_lt n 129) kind.OddWidth _ (leaf refl) (leaf {k = kind.LeftOutWord} refl)

width_no : (s : List ℕ) → NoDouble (width_kind s)
width_no s =
    let n = number_in s in
    either (begins (λ c. c == digit_zero) s) (padded_width n) (exact_width n)
    (either ((n == 1) || (n == 8) || (n == 16) || (n == 32) || (n == 64)) kind.SameWidth _ (leaf refl) (other_width_no n))
    (either (n == 1) kind.I1 _ (leaf refl) (either (n == 8) kind.I8 _ (leaf refl) (either (n == 16) kind.I16 _ (leaf refl)
    (either (n == 32) kind.I32 _ (leaf refl) (either (n == 64) kind.I64 _ (leaf refl) (other_width_no n))))))

word_no : (b : Bool) (s : List ℕ) → is_double_kind (if b then width_kind (behind_first s) else word_kind s) ≡ true → ⊥
word_no true s h = both_ways (is_double_kind (width_kind (behind_first s))) (width_no (behind_first s)).lacks h
word_no false s h = untold_double (word_kind s) (word_untold s) h

-- a token of the kind of doubles is spelled as one
double_of_kind : (k : Tok) (s : List ℕ) → is_double_kind (kind_of k s) ≡ true → spells k s ≡ true → is_double s ≡ true
double_of_kind tok.Word s h e = absurd (word_no (is_width s) s h)
double_of_kind tok.Label s h e = absurd (cc)
double_of_kind tok.Local s h e = absurd (untold_double _ (local_untold (name_bytes (behind_first s))) h)
double_of_kind tok.Global s h e = absurd (cc)
double_of_kind tok.Integer s h e = absurd (untold_double _ (integer_untold s) h)
double_of_kind tok.Double s h e = e
double_of_kind tok.Str s h e = absurd (cc)
double_of_kind tok.ByteStr s h e = absurd (cc)
double_of_kind tok.Group s h e = absurd (cc)
double_of_kind tok.Metadata s h e = absurd (untold_double _ (metadata_untold (behind_first s)) h)
double_of_kind tok.Sign s h e = absurd (untold_double _ (sign_untold s) h)
double_of_kind tok.End s h e = absurd (cc)

-- The tokens of a text.

-- the bytes of a token's slice spell it, but for the end
abbrev Spelled : List ℕ → Tok × Span → Type 0
Spelled text f = is_double_kind (kind_of f.0 (slice text f.1)) ≡ true → spells f.0 (slice text f.1) ≡ true

behind : (gap more : List ℕ) (at : ℕ) (text rest : List ℕ) → rest ≡ drop at text → rest ≡ gap ++ more → drop (at + length gap) text ≡ more
behind gap more at text rest e split = sym (drop-drop (length gap) at text) ∙ (ap (drop (length gap)) (sym e ∙ split) ∙ drop-append_seam gap more)

slice_is : (text : List ℕ) (span : Span) (at : ℕ) (rest gap spelling more : List ℕ) → rest ≡ drop at text → rest ≡ gap ++ (spelling ++ more) → span ≡ record { from = at + length gap; to = at + length gap + length spelling } → slice text span ≡ spelling
slice_is text span at rest gap spelling more e split p =
    ap (slice text) p
    ∙ (ap (λ s. take (at + length gap + length spelling - (at + length gap)) s) (behind gap (spelling ++ more) at text rest e split)
    ∙ take_at spelling more (at + length gap + length spelling - (at + length gap)) (omega arith))

end_no : (s : List ℕ) (k : Tok) → k ≡ tok.End → is_double_kind (kind_of k s) ≡ true → ⊥
end_no s k e h = let g : is_double_kind (kind_of tok.End s) ≡ true = subst (λ x. is_double_kind (kind_of x s) ≡ true) e h in cc

spelled_from : (text : List ℕ) (found : List (Tok × Span)) (at : ℕ) (rest : List ℕ) → rest ≡ drop at text → TokensFrom at rest found → Each (Spelled text) found
spelled_from text [] at rest e h = tt
spelled_from text (f ∷ found) at rest e (inl h) =
    ((λ d. absurd (end_no _ f.0 h.0.kind d)), subst (λ l. Each (Spelled text) l) (sym h.1) tt)
spelled_from text (f ∷ found) at rest e (inr (gap, spelling, more, w, h)) =
    let i = slice_is text f.1 at rest gap spelling more e w.split w.place in
    let d = behind (gap ++ spelling) more at text rest e (w.split ∙ sym (append_assoc gap spelling more)) in
    let n : at + length (gap ++ spelling) ≡ at + length gap + length spelling = omega (arith, length-append gap spelling) in
    let left : more ≡ drop (at + length gap + length spelling) text = sym d ∙ ap (λ k. drop k text) n in
    ((λ _. subst (λ s. spells f.0 s ≡ true) (sym i) w.heads.spelled), spelled_from text found (at + length gap + length spelling) more left h)

not_empty : (k : Tok) (s : List ℕ) → spells k s ≡ true → 1 ≤ length s
not_empty k (c ∷ cs) h = omega arith
not_empty tok.Word [] h = absurd (cc)
not_empty tok.Label [] h = absurd (cc)
not_empty tok.Local [] h = absurd (cc)
not_empty tok.Global [] h = absurd (cc)
not_empty tok.Integer [] h = absurd (cc)
not_empty tok.Double [] h = absurd (cc)
not_empty tok.Str [] h = absurd (cc)
not_empty tok.ByteStr [] h = absurd (cc)
not_empty tok.Group [] h = absurd (cc)
not_empty tok.Metadata [] h = absurd (cc)
not_empty tok.Sign [] h = absurd (cc)
not_empty tok.End [] h = absurd (cc)

few_from : (found : List (Tok × Span)) (at : ℕ) (rest : List ℕ) → TokensFrom at rest found → length found ≤ length rest + 1
few_from [] at rest h = omega arith
few_from (f ∷ found) at rest (inl h) = let l = ap length h.1 in omega arith
few_from (f ∷ found) at rest (inr (gap, spelling, more, w, h)) =
    let a = few_from found (at + length gap + length spelling) more h in
    let b = not_empty f.0 spelling w.heads.spelled in
    let c = ap length w.split in
    let d = length-append gap (spelling ++ more) in
    let e = length-append spelling more in
    omega arith

halves_value : (n : ℕ) → value_of (halves n) ≡ n
halves_value n = omega arith

token_told : (text : List ℕ) (f : Tok × Span) → Spelled text f → spelling_at text f.1.from ≡ slice text f.1 → Told (λ t. spelling_at text t.place) (token_of text f)
token_told text f h e = record {
  double = λ d. subst (λ s. is_double s ≡ true) (sym e) (double_of_kind f.0 (slice text f.1) d (h d));
  width = λ w. subst (λ n. (1 ≤ n) × (n ≤ 128)) (sym (halves_value (number_of f.0 (slice text f.1)))) (width_of_kind f.0 (slice text f.1) w);
}

-- a token's spelling is found again by its place
abbrev pub FoundAgain : Type 0
FoundAgain = (bytes : List ℕ) (found : List (Tok × Span)) → Tokens bytes found →
    map (λ token. spelling_at bytes token.1.from) found ≡ map (λ token. slice bytes token.1) found

same_each : {A B : Type 0} (f g : A → B) (xs : List A) → map f xs ≡ map g xs → Each (λ x. f x ≡ g x) xs
same_each f g [] e = tt
same_each f g (x ∷ xs) e = (cc, same_each f g xs (cc))

pub tokens_told : FoundAgain → (text : List ℕ) (ts : List Token) → IsWhole text ts → Each (Told (λ t. spelling_at text t.place)) ts
tokens_told law text ts (found, h, e) =
    let again = same_each (λ f. spelling_at text f.1.from) (λ f. slice text f.1) found (law text found h) in
    subst (λ l. Each (Told (λ t. spelling_at text t.place)) l) (sym e)
    (Each-map _ (token_of text) found (Each-both (Spelled text) (λ f. spelling_at text f.1.from ≡ slice text f.1) _ (λ f x y. token_told text f x y) found (spelled_from text found 0 text refl h) again))

pub tokens_few : (text : List ℕ) (ts : List Token) → IsWhole text ts → length ts ≤ length text + 1
tokens_few text ts (found, h, e) =
    let a = few_from found 0 text h in let b = length-map found (token_of text) in let c = ap length e in omega arith

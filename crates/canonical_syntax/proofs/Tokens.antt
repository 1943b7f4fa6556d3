-- Names, numbers and words are the tokens that the grammar asks for.
use Rattle.std.specs.Prelude.{◌==◌, nat_lt, nat_eq, codes, decimal, ℤ, pos, negsuc, ◌-ℤ◌}
use Rattle.std.specs.Char.{is_ascii_digit}
use Rattle.std.specs.Fmt.{signed_decimal}
use Rattle.std.specs.List.{list_all}
use Rattle.std.proofs.Common.{◌≡◌, ℕ, suc, ◌+◌, ◌-◌, ◌^◌, ◌<◌, ◌≤◌, Bool, true, false, cond, None, List, [], ◌∷◌, refl, sym, ap, ◌∙◌, subst, arith}
use Rattle.std.proofs.lemmas.Bool.{and_parts, cond_both, lt-ltb, ltb-false, eq-eqb, ne_eqb, false≢true}
use Rattle.std.proofs.lemmas.Bool.Decides.{nat_tests}
use Rattle.std.proofs.lemmas.Int.{ints}
use Rattle.grammar.specs.Grammar.{has, tok}
use Rattle.ir_values.specs.Int.{signed}
use Rattle.ir_values.specs.Width.{bits_of}
use Rattle.ir_values.specs.declared.int.Width.{Width}
use Rattle.ir_values.specs.declared.int.Width.TheVariants.{W1, W8, W16, W32, W64}
use Rattle.ir_values.specs.declared.name.Name.{Name}
use Rattle.ir_values.specs.Double.{begins}
use Rattle.ir_text.specs.Forms.{is_digits, after_minus}
use Rattle.ir_text.specs.declared.tok.Tok.{Tok}
use Rattle.ir_text.specs.declared.tok.Tok.TheVariants as sort
use Rattle.ir_tokens.specs.Classified.{kind_of, number_of, local_kind}
use Rattle.ir_tokens.specs.Decoded.{behind_first, but_last, name_bytes}
use Rattle.ir_tokens.specs.Numbers.{number_in}
use Rattle.ir_tokens.specs.Spelled.{name_of, name_part}
use Rattle.ir_tokens.specs.Tokens.{tokens}
use Rattle.ir_tokens.specs.code.Kinds.{code}
use Rattle.ir_names.specs.Instructions.{is_global}
use Rattle.ir_tokens.specs.Words.{same_text}
use Rattle.ir_tokens.specs.declared.kind.Kind.{Kind}
use Rattle.ir_tokens.specs.declared.kind.Kind.TheVariants as kind
use Rattle.ir_tokens.specs.declared.rule.Rule.TheVariants.{LiteralRange, Syntax}
use Rattle.ir_tokens.specs.declared.token.Token.{Token}
use Rattle.ir_grammar.specs.SideRules.{number, unless, numbered, same_number, is_negative, fits, in_range, bits_of_sign}
use Rattle.ir_grammar.specs.Words.{local_kinds, local, global, label, group, nat, integer_kinds, integer, zero_number}
use Rattle.ir_module.specs.Printable.{name_fits}
use Rattle.ir_parts.specs.Parts.{token}
use Rattle.ir_printer.specs.Spellings.{name_spelling, label_spelling}
use Rattle.ir_printer.specs.Operands.{local_token, global_token}
use Rattle.ir_printer.specs.Groups.{group_token}
use Rattle.canonical_text.proofs.Written.{decimal_digits}
use Rattle.canonical_syntax.specs.Builds.{IsSpelled, Builds}
use Rattle.canonical_syntax.specs.Tells.{name_by}
use Rattle.canonical_syntax.proofs.Again.{name_again, label_again, number_again}
use Rattle.canonical_syntax.proofs.Builds.{builds_tok, builds_as, builds_one}

-- ---- names

few_numbered : (t : Token) (n : ℕ) → number t ≡ n → n < 2 ^ 32 → numbered t ≡ None
few_numbered t n e h = let l : number t < 2 ^ 32 = omega arith in ap (λ b. unless b LiteralRange) (lt-ltb (number t) (2 ^ 32) l)

local_in : (name : List ℕ) → has tokens local_kinds (local_kind name) ≡ true
local_in name = cond_both (same_text name (codes "Qubit")) kind.QubitName (cond (same_text name (codes "Result")) kind.ResultName kind.Local) (λ k. has tokens local_kinds k ≡ true) (λ _. refl)
    (λ _. cond_both (same_text name (codes "Result")) kind.ResultName kind.Local (λ k. has tokens local_kinds k ≡ true) (λ _. refl) (λ _. refl))

local_part_is : (name s : List ℕ) → name_part (local_kind name) s ≡ behind_first s
local_part_is name s = cond_both (same_text name (codes "Qubit")) kind.QubitName (cond (same_text name (codes "Result")) kind.ResultName kind.Local) (λ k. name_part k s ≡ behind_first s) (λ _. refl)
    (λ _. cond_both (same_text name (codes "Result")) kind.ResultName kind.Local (λ k. name_part k s ≡ behind_first s) (λ _. refl) (λ _. refl))

local_no_global : (name : List ℕ) → (code (local_kind name) == code kind.Global) ≡ false
local_no_global name = cond_both (same_text name (codes "Qubit")) kind.QubitName (cond (same_text name (codes "Result")) kind.ResultName kind.Local) (λ k. (code k == code kind.Global) ≡ false) (λ _. refl)
    (λ _. cond_both (same_text name (codes "Result")) kind.ResultName kind.Local (λ k. (code k == code kind.Global) ≡ false) (λ _. refl) (λ _. refl))

module _ {spelling : Token → List ℕ} where
  name_is : (kind : Tok) (s : List ℕ) (t : Token) → IsSpelled spelling kind s t → name_by spelling t ≡ name_of (name_part (kind_of kind s) s)
  name_is kind s t w = ap (λ k. name_of (name_part k (spelling t))) w.kind ∙ ap (λ r. name_of (name_part (kind_of kind s) r)) w.spelled

  pub local_builds : (n : Name) → name_fits n ≡ true → Builds spelling local (local_token n ∷ []) (λ t. (is_global t ≡ false) × (name_by spelling t ≡ n))
  unfolding local
  local_builds n h =
      let w = name_again n h in
      let s = 37 ∷ name_spelling n in
      builds_tok local_kinds sort.Local s (λ t i. (
        subst (λ k. has tokens local_kinds k ≡ true) (sym i.kind) (local_in (name_bytes (name_spelling n))),
        few_numbered t (number_in (name_spelling n)) i.number w.few,
        (
          ap (λ k. code k == code kind.Global) i.kind ∙ local_no_global (name_bytes (name_spelling n)),
          name_is sort.Local s t i ∙ (ap name_of (local_part_is (name_bytes (name_spelling n)) s) ∙ w.name),
        ),
      ))

  pub global_builds : (n : Name) → name_fits n ≡ true → Builds spelling global (global_token n ∷ []) (λ t. (t.kind ≡ kind.Global) × (name_by spelling t ≡ n))
  unfolding global
  global_builds n h =
      let w = name_again n h in
      let s = 64 ∷ name_spelling n in
      builds_tok (kind.Global ∷ []) sort.Global s (λ t i. (
        subst (λ k. has tokens (kind.Global ∷ []) k ≡ true) (sym i.kind) refl,
        few_numbered t (number_in (name_spelling n)) i.number w.few,
        (i.kind, name_is sort.Global s t i ∙ w.name),
      ))

  pub label_builds : (n : Name) → name_fits n ≡ true → Builds spelling label (token sort.Label (label_spelling n) ∷ []) (λ t. name_by spelling t ≡ n)
  unfolding label
  label_builds n h =
      let w = label_again n h in
      let s = label_spelling n in
      builds_tok (kind.Label ∷ []) sort.Label s (λ t i. (
        subst (λ k. has tokens (kind.Label ∷ []) k ≡ true) (sym i.kind) refl,
        few_numbered t (number_in (but_last s)) i.number w.few,
        name_is sort.Label s t i ∙ w.name,
      ))

  pub group_builds : (n : ℕ) → n < 2 ^ 32 → Builds spelling group (group_token n ∷ []) (λ t. number t ≡ n)
  unfolding group
  group_builds n h =
      let k = number_again n (omega arith) in
      builds_tok (kind.Group ∷ []) sort.Group (35 ∷ decimal n) (λ t i. (
        subst (λ k. has tokens (kind.Group ∷ []) k ≡ true) (sym i.kind) refl,
        few_numbered t n (i.number ∙ k) h,
        i.number ∙ k,
      ))

-- ---- integers

abbrev pub sign_of : ℤ → Kind
sign_of (pos n) = kind.Nat
sign_of (negsuc n) = kind.Minus

abbrev pub size_of : ℤ → ℕ
size_of (pos n) = n
size_of (negsuc n) = suc n

-- digits begin with no '-'
no_minus : (s : List ℕ) → is_digits s ≡ true → (begins (λ c. c == 45) s ≡ false) × (after_minus s ≡ s)
no_minus [] h = absurd (false≢true h)
no_minus (c ∷ cs) h =
    let e = digit_no_minus c (and_parts (is_ascii_digit c) (list_all is_ascii_digit cs) h).0 in
    (e, rw e refl)
  where
    digit_no_minus : (c : ℕ) → is_ascii_digit c ≡ true → (c == 45) ≡ false
    digit_no_minus c h = grind (arith, nat_tests)

-- the kind and the number of an integer
pub decimal_is : (n : ℕ) → n < 2 ^ 128 → (kind_of sort.Integer (decimal n) ≡ kind.Nat) × (number_of sort.Integer (decimal n) ≡ n)
decimal_is n h =
    let w = decimal_digits n h in
    let m = no_minus (decimal n) w.0 in
    (ap (λ b. cond b kind.Minus kind.Nat) m.0, ap number_in m.1 ∙ number_again n h)

pub minus_is : (n : ℕ) → n < 2 ^ 128 → (kind_of sort.Integer (45 ∷ decimal n) ≡ kind.Minus) × (number_of sort.Integer (45 ∷ decimal n) ≡ n)
minus_is n h = (refl, number_again n h)

signed_is : (z : ℤ) → size_of z < 2 ^ 128 → (kind_of sort.Integer (signed_decimal z) ≡ sign_of z) × (number_of sort.Integer (signed_decimal z) ≡ size_of z)
signed_is (pos n) h = decimal_is n h
signed_is (negsuc n) h = minus_is (suc n) h

-- the sign and the magnitude fit, and stand for these bits
pub record Counts (w : ℕ) (k : Kind) (n bits : ℕ) : Type 0 where
  pub is_integer : has tokens integer_kinds k ≡ true
  pub fit : fits w (is_negative k) n ≡ true
  pub bits_are : bits_of_sign w (is_negative k) n ≡ bits

pub positive_counts : (w n : ℕ) → n < 2 ^ w → Counts w kind.Nat n n
positive_counts w n h = record { is_integer = refl; fit = lt-ltb n (2 ^ w) h; bits_are = refl }

pub negative_counts : (w n bits : ℕ) → 0 < n → n ≤ 2 ^ (w - 1) → n + bits ≡ 2 ^ w → Counts w kind.Minus n bits
negative_counts w n bits p h e =
    let z : nat_eq n 0 ≡ false = ne_eqb n 0 (λ i. absurd (omega arith)) in
    let b : 2 ^ w - n ≡ bits = omega arith in
    record { is_integer = refl; fit = lt-ltb n (2 ^ (w - 1) + 1) (omega arith); bits_are = ap (λ z. cond z 0 (2 ^ w - n)) z ∙ b }

-- a value of so many bits by its sign and its magnitude
signed_counts : (w bits : ℕ) (z : ℤ) → 2 ^ w ≡ 2 ^ (w - 1) + 2 ^ (w - 1) → bits < 2 ^ w → z ≡ cond (nat_lt bits (2 ^ (w - 1))) (pos bits) (pos bits -ℤ pos (2 ^ w)) → Counts w (sign_of z) (size_of z) bits × (size_of z < 2 ^ w + 1)
signed_counts w bits z d h e = cases (nat_lt bits (2 ^ (w - 1))) refl e
  where
    below : (z : ℤ) → z ≡ pos bits → Counts w (sign_of z) (size_of z) bits × (size_of z < 2 ^ w + 1)
    below (pos n) e = let i : n ≡ bits = omega (arith, ints) in subst (λ k. Counts w kind.Nat k bits × (k < 2 ^ w + 1)) (sym i) (positive_counts w bits h, omega arith)
    below (negsuc n) e = absurd (omega (arith, ints))

    above : (z : ℤ) → 2 ^ (w - 1) ≤ bits → z ≡ pos bits -ℤ pos (2 ^ w) → Counts w (sign_of z) (size_of z) bits × (size_of z < 2 ^ w + 1)
    above (pos n) l e = absurd (omega (arith, ints))
    above (negsuc n) l e = let i : suc n + bits ≡ 2 ^ w = omega (arith, ints) in (negative_counts w (suc n) bits (omega arith) (omega arith) i, omega arith)

    cases : (b : Bool) → nat_lt bits (2 ^ (w - 1)) ≡ b → z ≡ cond b (pos bits) (pos bits -ℤ pos (2 ^ w)) → Counts w (sign_of z) (size_of z) bits × (size_of z < 2 ^ w + 1)
    cases true l e = below z e
    cases false l e = above z (ltb-false bits (2 ^ (w - 1)) l) e

ranged : (t : Token) (w : ℕ) (k : Kind) (n bits : ℕ) → t.kind ≡ k → number t ≡ n → Counts w k n bits → (has tokens integer_kinds t.kind ≡ true) × (in_range w t ≡ None) × (bits_of_sign w (is_negative t.kind) (number t) ≡ bits)
ranged t w k n bits e i c = (
  subst (λ k. has tokens integer_kinds k ≡ true) (sym e) c.is_integer,
  ap (λ k. unless (fits w (is_negative k) (number t)) LiteralRange) e ∙ (ap (λ n. unless (fits w (is_negative k) n) LiteralRange) i ∙ ap (λ b. unless b LiteralRange) c.fit),
  ap (λ k. bits_of_sign w (is_negative k) (number t)) e ∙ (ap (λ n. bits_of_sign w (is_negative k) n) i ∙ c.bits_are),
)

module _ {spelling : Token → List ℕ} where
  -- a token that is an integer of so many bits
  pub ranged_builds : (w : ℕ) (s : List ℕ) (k : Kind) (n bits : ℕ) → kind_of sort.Integer s ≡ k → number_of sort.Integer s ≡ n → Counts w k n bits
      → Builds spelling (tok integer_kinds (in_range w)) (token sort.Integer s ∷ []) (λ t. bits_of_sign w (is_negative t.kind) (number t) ≡ bits)
  ranged_builds w s k n bits e i c = builds_tok integer_kinds sort.Integer s (λ t j. ranged t w k n bits (j.kind ∙ e) (j.number ∙ i) c)

  wide_builds : (w : Width) (bits : ℕ) → 2 ^ bits_of w ≡ 2 ^ (bits_of w - 1) + 2 ^ (bits_of w - 1) → 2 ^ bits_of w + 1 ≤ 2 ^ 128 → bits < 2 ^ bits_of w
      → Builds spelling (integer w) (token sort.Integer (signed_decimal (signed (record { width = w; bits = bits }))) ∷ []) (λ i. i ≡ record { width = w; bits = bits })
  unfolding integer
  wide_builds w bits d m h =
      let z = signed (record { width = w; bits = bits }) in
      let c = signed_counts (bits_of w) bits z d h refl in
      let k = signed_is z (omega (arith, c.1)) in
      builds_as (ranged_builds (bits_of w) (signed_decimal z) (sign_of z) (size_of z) bits k.0 k.1 c.0) (λ t e. ap (λ b. record { width = w; bits = b }) e)

  -- an integer of a width
  pub integer_builds : (w : Width) (bits : ℕ) → bits < 2 ^ bits_of w
      → Builds spelling (integer w) (token sort.Integer (signed_decimal (signed (record { width = w; bits = bits }))) ∷ []) (λ i. i ≡ record { width = w; bits = bits })
  integer_builds W1 bits h = wide_builds W1 bits refl (omega arith) h
  integer_builds W8 bits h = wide_builds W8 bits refl (omega arith) h
  integer_builds W16 bits h = wide_builds W16 bits refl (omega arith) h
  integer_builds W32 bits h = wide_builds W32 bits refl (omega arith) h
  integer_builds W64 bits h = wide_builds W64 bits refl (omega arith) h

  -- a number without a sign
  pub nat_builds : (n : ℕ) → n < 2 ^ 128 → Builds spelling nat (token sort.Integer (decimal n) ∷ []) (λ k. k ≡ n)
  unfolding nat
  nat_builds n h = let d = decimal_is n h in builds_as (builds_one kind.Nat sort.Integer (decimal n) d.0) (λ t w. w.1.number ∙ d.1)

  -- the same number again
  pub again_builds : (n : ℕ) → n < 2 ^ 128 → Builds spelling (tok (kind.Nat ∷ []) (same_number n)) (token sort.Integer (decimal n) ∷ []) (λ t. Unit {0})
  again_builds n h =
      let d = decimal_is n h in
      builds_tok (kind.Nat ∷ []) sort.Integer (decimal n) (λ t i. (
        subst (λ k. has tokens (kind.Nat ∷ []) k ≡ true) (sym (i.kind ∙ d.0)) refl,
        ap (λ b. unless b Syntax) (eq-eqb n (number t) (sym (i.number ∙ d.1))),
        tt,
      ))

  -- '0'
  pub zero_builds : Builds spelling zero_number (token sort.Integer (codes "0") ∷ []) (λ t. Unit {0})
  unfolding zero_number
  zero_builds = builds_tok integer_kinds sort.Integer (codes "0") (λ t i. (
    subst (λ k. has tokens integer_kinds k ≡ true) (sym i.kind) refl,
    ap (λ b. unless b Syntax) (eq-eqb 0 (number t) (sym i.number)),
    tt,
  ))

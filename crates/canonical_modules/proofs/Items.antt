-- The parts of constants, groups, lists and nodes are sentences of the grammar, with the trees of what they print.
use Rattle.std.specs.Prelude.{◌==◌, ◌&&◌, ◌||◌, nat_lt, nat_le, codes, decimal}
use Rattle.std.specs.Char.{is_ascii_digit}
use Rattle.std.specs.Fmt.{digits}
use Rattle.std.specs.List.{list_all, flat_map}
use Rattle.std.proofs.Common.{◌≡◌, ℕ, zero, suc, ◌+◌, ◌-◌, ◌^◌, ◌<◌, ◌≤◌, Bool, true, false, cond, Option, None, Some, List, [], ◌∷◌, ◌++◌, length, map, refl, sym, ap, ◌∙◌, subst, arith, append_assoc, pow_mono, pow-suc}
use Rattle.std.proofs.lemmas.Bool.{and_parts, and_from, cond_both, eqb-true, eq-eqb, ltb-true, lt-ltb, leb-true, false≢true}
use Rattle.grammar.specs.Grammar.{has, tok}
use Rattle.ir_values.specs.Double.{begins}
use Rattle.ir_text.specs.Forms.{is_digits}
use Rattle.ir_text.specs.declared.tok.Tok.TheVariants as sort
use Rattle.ir_module.specs.Numbered.{are_few}
use Rattle.ir_module.specs.Printable.{name_fits, are_bytes, value_fits, attr_fits, constant_text_fits, part_fits}
use Rattle.ir_module.specs.declared.tree.Attr.{Attr}
use Rattle.ir_module.specs.declared.tree.Constant.{Constant}
use Rattle.ir_module.specs.declared.tree.FlagPart.{FlagPart}
use Rattle.ir_module.specs.declared.tree.FlagPart.TheVariants as part_is
use Rattle.ir_tokens.specs.Classified.{kind_of, number_of, is_width, other_width, exact_width, padded_width, width_kind, metadata_kind}
use Rattle.ir_tokens.specs.Decoded.{behind_first, between, decoded}
use Rattle.ir_tokens.specs.Numbers.{number_in}
use Rattle.ir_tokens.specs.Spelled.{string_part}
use Rattle.ir_tokens.specs.Tokens.{tokens}
use Rattle.ir_tokens.specs.Words.{word_kind}
use Rattle.ir_tokens.specs.declared.kind.Kind.{Kind}
use Rattle.ir_tokens.specs.declared.kind.Kind.TheVariants as kind
use Rattle.ir_tokens.specs.declared.rule.Rule.TheVariants.{LiteralRange, StringLength}
use Rattle.ir_tokens.specs.declared.token.Token.{Token}
use Rattle.ir_grammar.specs.Forms.{one, one_of}
use Rattle.ir_grammar.specs.Metadata.{in_width, bit_of, bit_part, width_kinds, width_part, integer_part, bang_elem, elem, nodes, elems, list_line, node_line}
use Rattle.ir_grammar.specs.Module.{type_line, header, bytes_of, sized_bytes, constant_words, alignment, constant_line, setting, attribute, attribute_group}
use Rattle.ir_grammar.specs.SideRules.{number, unless, is_negative, in_range, bits_of_sign}
use Rattle.ir_grammar.specs.Words.{local, node, integer_kinds}
use Rattle.ir_grammar.specs.declared.tree.AttrSyntax.{AttrSyntax}
use Rattle.ir_grammar.specs.declared.tree.AttrSyntax.TheVariants as attr_syntax
use Rattle.ir_grammar.specs.declared.tree.ElemSyntax.{ElemSyntax}
use Rattle.ir_grammar.specs.declared.tree.ElemSyntax.TheVariants as elem_syntax
use Rattle.ir_grammar.specs.declared.tree.ItemSyntax.{ItemSyntax}
use Rattle.ir_grammar.specs.declared.tree.ItemSyntax.TheVariants as item_syntax
use Rattle.ir_grammar.specs.declared.tree.PartSyntax.{PartSyntax}
use Rattle.ir_grammar.specs.declared.tree.PartSyntax.TheVariants as part_syntax
use Rattle.ir_parts.specs.Parts.{Part, token}
use Rattle.ir_printer.specs.Canonical.{type_line as type_line_parts, constant_begin, constant_value, constant_line as constant_parts}
use Rattle.ir_printer.specs.Groups.{attr_value, attr_parts, attrs_parts, group_begin, group_line}
use Rattle.ir_printer.specs.Metadata.{node_token, node_begin, node_open, node_close, text_parts, int_parts, flag_part_parts, flags_begin}
use Rattle.ir_printer.specs.Operands.{bit_part as bit_word}
use Rattle.ir_printer.specs.Pieces.{blank, line_end, sign, word, listed as listed_parts}
use Rattle.ir_printer.specs.Spellings.{quoted, signed_spelling}
use Rattle.canonical_text.proofs.OperandsGood.{few_bytes}
use Rattle.canonical_text.proofs.Written.{decimal_digits}
use Rattle.read_modules.proofs.Each.{Each}
use Rattle.canonical_syntax.specs.Builds.{Builds}
use Rattle.canonical_syntax.specs.Tells.{name_by, string_by}
use Rattle.canonical_syntax.proofs.Again.{quoted_again, number_again}
use Rattle.canonical_syntax.proofs.Builds.{Stand, IsSomeOf, builds_tok, builds_any, builds_one, builds_gap, builds_trail, builds_dep, builds_seq, builds_alone, builds_as, builds_weaker, builds_same, builds_left, builds_right, builds_none, builds_some, builds_rep, builds_commas, behind, before}
use Rattle.canonical_syntax.proofs.Operands.{array_builds}
use Rattle.canonical_syntax.proofs.Tokens.{global_builds, group_builds, positive_counts, negative_counts, decimal_is, minus_is, ranged_builds}
use Rattle.canonical_syntax.proofs.Words.{type_word, opaque_word, internal_word, constant_word, attributes_word, true_word, false_word}

-- ---- strings

module _ (spelling : Token → List ℕ) where
  string_is : (k : Kind) (s : List ℕ) (t : Token) → t.kind ≡ k → spelling t ≡ s → string_by spelling t ≡ decoded 0 (between (string_part k s))
  string_is k s t e i = ap (λ k. decoded 0 (between (string_part k (spelling t)))) e ∙ ap (λ s. decoded 0 (between (string_part k s))) i

  string_builds : (bytes : List ℕ) → are_bytes bytes ≡ true → Builds spelling (one kind.Str) (token sort.Str (quoted bytes) ∷ []) (λ t. string_by spelling t ≡ bytes)
  string_builds bytes h = builds_weaker (builds_one kind.Str sort.Str (quoted bytes) refl) (λ t w. string_is kind.Str (quoted bytes) t w.0 w.1.spelled ∙ quoted_again bytes h)

  bytes_build : (bytes : List ℕ) → are_bytes bytes ≡ true → Builds spelling (bytes_of (length bytes)) (token sort.ByteStr (99 ∷ quoted bytes) ∷ []) (λ t. string_by spelling t ≡ bytes)
  unfolding bytes_of
  bytes_build bytes h = builds_tok (kind.ByteStr ∷ []) sort.ByteStr (99 ∷ quoted bytes) (λ t i.
      let e : number t ≡ length bytes = i.number ∙ ap length (quoted_again bytes h) in (
        subst (λ k. has tokens (kind.ByteStr ∷ []) k ≡ true) (sym i.kind) refl,
        ap (λ b. unless b StringLength) (eq-eqb (length bytes) (number t) (sym e)),
        string_is kind.ByteStr (99 ∷ quoted bytes) t i.kind i.spelled ∙ quoted_again bytes h,
      ))

-- ---- headers and constants

abbrev pub IsConstantItem : (Token → List ℕ) → Constant → ItemSyntax → Type 0
IsConstantItem spelling c (item_syntax.Constant t b) = (name_by spelling t ≡ c.name) × (string_by spelling b ≡ c.bytes)
IsConstantItem spelling c i = ⊥

module _ (spelling : Token → List ℕ) where
  type_line_builds : (name : List ℕ) → Builds spelling local (token sort.Local name ∷ []) (λ t. Unit {0}) → Builds spelling header (type_line_parts name) (λ i. i ≡ item_syntax.Aside)
  unfolding header type_line
  type_line_builds name h = builds_as (builds_right (builds_right (builds_trail (codes "\n") (before kind.Opaque sort.Word (codes "opaque") opaque_word (builds_trail (codes " ") (before kind.TypeWord sort.Word (codes "type") type_word (builds_trail (codes " ")
      (before kind.Equals sort.Sign (codes "=") refl (builds_trail (codes " ") h))))))))) (λ t w. refl)

  opaque_name : (name : List ℕ) → has tokens (kind.Local ∷ kind.QubitName ∷ kind.ResultName ∷ []) (kind_of sort.Local name) ≡ true → number_of sort.Local name ≡ 0 → Builds spelling local (token sort.Local name ∷ []) (λ t. Unit {0})
  unfolding local
  opaque_name name h e = builds_tok (kind.Local ∷ kind.QubitName ∷ kind.ResultName ∷ []) sort.Local name (λ t i. (
    subst (λ k. has tokens (kind.Local ∷ kind.QubitName ∷ kind.ResultName ∷ []) k ≡ true) (sym i.kind) h,
    ap (λ b. unless b LiteralRange) (lt-ltb (number t) (2 ^ 32) (let n = i.number in omega arith)),
    tt,
  ))

  pub qubit_line : Builds spelling header (type_line_parts (codes "%Qubit")) (λ i. i ≡ item_syntax.Aside)
  qubit_line = type_line_builds (codes "%Qubit") (opaque_name (codes "%Qubit") refl refl)

  pub result_line : Builds spelling header (type_line_parts (codes "%Result")) (λ i. i ≡ item_syntax.Aside)
  result_line = type_line_builds (codes "%Result") (opaque_name (codes "%Result") refl refl)

  sized_builds : (bytes : List ℕ) → are_bytes bytes ≡ true → length bytes < 2 ^ 128 → Builds spelling sized_bytes (constant_value bytes) (λ t. string_by spelling t ≡ bytes)
  unfolding sized_bytes constant_value
  sized_builds bytes h l = builds_as (builds_dep (array_builds (length bytes) l)
      (λ n e. subst (λ n. Builds spelling (bytes_of n) (blank ∷ token sort.ByteStr (99 ∷ quoted bytes) ∷ []) (λ t. string_by spelling t ≡ bytes)) (sym e) (builds_gap (codes " ") (bytes_build spelling bytes h)))) (λ p w. w.1)

  words_build : Builds spelling constant_words (word (codes "internal") ∷ blank ∷ word (codes "constant") ∷ blank ∷ []) (λ t. Unit {0})
  unfolding constant_words
  words_build = builds_as (builds_seq (builds_some (builds_trail (codes " ") (builds_any _ kind.Internal sort.Word (codes "internal") internal_word refl))) (builds_seq builds_none (builds_trail (codes " ") (builds_one kind.Constant sort.Word (codes "constant") constant_word)))) (λ p w. tt)

  no_alignment : Builds spelling alignment [] (λ o. o ≡ None)
  unfolding alignment
  no_alignment = builds_none

  pub constant_builds : (c : Constant) → constant_text_fits c ≡ true → Builds spelling constant_line (constant_parts c) (IsConstantItem spelling c)
  unfolding constant_line constant_begin
  constant_builds c h =
      let p = and_parts (name_fits c.name) (are_bytes c.bytes && are_few c.bytes) h in
      let q = and_parts (are_bytes c.bytes) (are_few c.bytes) p.1 in
      builds_as (builds_seq (before kind.Equals sort.Sign (codes "=") refl (builds_trail (codes " ") (global_builds c.name p.0)))
      (builds_gap (codes " ") (builds_seq words_build (builds_trail (codes "\n") (builds_alone (sized_builds c.bytes q.0 (few_bytes c.bytes q.1)) no_alignment)))))
      (λ x w. (w.0.1, w.1.1.0))

-- ---- groups of attributes

attrs_are : (attrs : List Attr) → flat_map (λ a. blank ∷ attr_parts a) attrs ≡ attrs_parts attrs
attrs_are [] = refl
attrs_are (a ∷ attrs) = ap (λ l. blank ∷ (attr_parts a ++ l)) (attrs_are attrs)

abbrev pub IsValue : (Token → List ℕ) → Option (List ℕ) → Option Token → Type 0
IsValue spelling None None = Unit {0}
IsValue spelling None (Some t) = ⊥
IsValue spelling (Some v) None = ⊥
IsValue spelling (Some v) (Some t) = string_by spelling t ≡ v

abbrev pub IsAttr : (Token → List ℕ) → Attr → AttrSyntax → Type 0
IsAttr spelling a (attr_syntax.Text key value) = (string_by spelling key ≡ a.key) × IsValue spelling a.value value
IsAttr spelling a attr_syntax.Word = ⊥

abbrev pub IsGroupItem : (Token → List ℕ) → ℕ → List Attr → ItemSyntax → Type 0
IsGroupItem spelling n attrs (item_syntax.Group t xs) = (number t ≡ n) × Stand (IsAttr spelling) attrs xs
IsGroupItem spelling n attrs i = ⊥

module _ (spelling : Token → List ℕ) where
  setting_builds : (o : Option (List ℕ)) → value_fits o ≡ true → Builds spelling setting (attr_value o) (IsValue spelling o)
  unfolding setting
  setting_builds None h = builds_weaker builds_none (λ o e. subst (IsValue spelling None) (sym e) tt)
  setting_builds (Some v) h = builds_weaker (builds_some (behind kind.Equals sort.Sign (codes "=") refl (string_builds spelling v h))) some
    where
      some : (o : Option Token) → IsSomeOf (λ t. string_by spelling t ≡ v) o → IsValue spelling (Some v) o
      some None w = absurd w
      some (Some t) w = w

  attr_builds : (a : Attr) → attr_fits a ≡ true → Builds spelling attribute (blank ∷ attr_parts a) (IsAttr spelling a)
  unfolding attribute
  attr_builds a h =
      let p = and_parts (are_bytes a.key) (value_fits a.value) h in
      builds_gap (codes " ") (builds_left (builds_as (builds_seq (string_builds spelling a.key p.0) (setting_builds a.value p.1)) (λ x w. w)))

  each_attr : (attrs : List Attr) → list_all attr_fits attrs ≡ true → Each (λ a. Builds spelling attribute (blank ∷ attr_parts a) (IsAttr spelling a)) attrs
  each_attr [] h = tt
  each_attr (a ∷ attrs) h = let p = and_parts (attr_fits a) (list_all attr_fits attrs) h in (attr_builds a p.0, each_attr attrs p.1)

  pub group_line_builds : (n : ℕ) (attrs : List Attr) → n < 2 ^ 32 → list_all attr_fits attrs ≡ true → Builds spelling attribute_group (group_line n attrs) (IsGroupItem spelling n attrs)
  unfolding attribute_group group_begin
  group_line_builds n attrs l h =
      let same : ((attrs_parts attrs ++ blank ∷ []) ++ sign (codes "}") ∷ []) ++ line_end ∷ [] ≡ attrs_parts attrs ++ blank ∷ sign (codes "}") ∷ line_end ∷ [] =
      append_assoc (attrs_parts attrs ++ blank ∷ []) (sign (codes "}") ∷ []) (line_end ∷ []) ∙ append_assoc (attrs_parts attrs) (blank ∷ []) (sign (codes "}") ∷ line_end ∷ []) in
      builds_as (behind kind.Attributes sort.Word (codes "attributes") attributes_word (builds_gap (codes " ")
      (builds_seq (before kind.Equals sort.Sign (codes "=") refl (builds_trail (codes " ") (group_builds n l)))
      (builds_gap (codes " ") (behind kind.OpenBrace sort.Sign (codes "{") refl (builds_same same (builds_trail (codes "\n") (before kind.CloseBrace sort.Sign (codes "}") refl (builds_trail (codes " ")
      (builds_same (attrs_are attrs) (builds_rep (λ a. blank ∷ attr_parts a) (IsAttr spelling) attrs (each_attr attrs h))))))))))))
      (λ x w. w)

-- ---- integers and strings in nodes

abbrev pub IsPart : (Token → List ℕ) → FlagPart → PartSyntax → Type 0
IsPart spelling (part_is.Int width bits) (part_syntax.Integer w negative n) = (w ≡ width) × (bits_of_sign w negative n ≡ bits)
IsPart spelling (part_is.Int width bits) (part_syntax.Text t) = ⊥
IsPart spelling (part_is.Text bytes) (part_syntax.Integer w negative n) = ⊥
IsPart spelling (part_is.Text bytes) (part_syntax.Text t) = string_by spelling t ≡ bytes

abbrev from_64 : ℕ → Kind
from_64 n = cond (n == 64) kind.I64 (other_width n)

abbrev from_32 : ℕ → Kind
from_32 n = cond (n == 32) kind.I32 (from_64 n)

abbrev from_16 : ℕ → Kind
from_16 n = cond (n == 16) kind.I16 (from_32 n)

abbrev from_8 : ℕ → Kind
from_8 n = cond (n == 8) kind.I8 (from_16 n)

abbrev IsWidth : Kind → Type 0
IsWidth k = has tokens width_kinds k ≡ true

odd_in : (n : ℕ) → 0 < n → n ≤ 128 → IsWidth (other_width n)
odd_in n l h =
    let o : other_width n ≡ kind.OddWidth = ap (λ b. cond b kind.OddWidth kind.LeftOutWord) (and_from (nat_lt 0 n) (nat_lt n 129) (lt-ltb 0 n l) (lt-ltb n 129 (omega arith))) in
    subst IsWidth (sym o) refl

-- the kind of the type of a width other than 1
width_in : (n : ℕ) → 0 < n → n ≤ 128 → (n == 1) ≡ false → IsWidth (exact_width n)
width_in n l h e =
    subst (λ b. IsWidth (cond b kind.I1 (from_8 n))) (sym e)
    (cond_both (n == 8) kind.I8 (from_16 n) IsWidth (λ _. refl) (λ _.
    cond_both (n == 16) kind.I16 (from_32 n) IsWidth (λ _. refl) (λ _.
    cond_both (n == 32) kind.I32 (from_64 n) IsWidth (λ _. refl) (λ _.
    cond_both (n == 64) kind.I64 (other_width n) IsWidth (λ _. refl) (λ _. odd_in n l h)))))

padded_in : (n : ℕ) → 0 < n → n ≤ 128 → IsWidth (padded_width n)
padded_in n l h = cond_both ((n == 1) || (n == 8) || (n == 16) || (n == 32) || (n == 64)) kind.SameWidth (other_width n) IsWidth (λ _. refl) (λ _. odd_in n l h)

width_word : (n : ℕ) → 0 < n → n ≤ 128 → (n == 1) ≡ false → (has tokens width_kinds (kind_of sort.Word (105 ∷ decimal n)) ≡ true) × (number_of sort.Word (105 ∷ decimal n) ≡ n)
width_word n l h e =
    let w = decimal_digits n (omega arith) in
    let d : is_width (105 ∷ decimal n) ≡ true = w.0 in
    let i = number_again n (omega arith) in
    let k : has tokens width_kinds (width_kind (decimal n)) ≡ true = cond_both (begins (λ c. c == 48) (decimal n)) (padded_width (number_in (decimal n))) (exact_width (number_in (decimal n))) (λ k. has tokens width_kinds k ≡ true)
    (λ _. subst (λ j. has tokens width_kinds (padded_width j) ≡ true) (sym i) (padded_in n l h)) (λ _. subst (λ j. has tokens width_kinds (exact_width j) ≡ true) (sym i) (width_in n l h e)) in
    (word_in (105 ∷ decimal n) d k, counted (105 ∷ decimal n) d ∙ i)
  where
    word_in : (s : List ℕ) → is_width s ≡ true → has tokens width_kinds (width_kind (behind_first s)) ≡ true → has tokens width_kinds (kind_of sort.Word s) ≡ true
    word_in s d k = subst (λ b. has tokens width_kinds (cond b (width_kind (behind_first s)) (word_kind s)) ≡ true) (sym d) k

    counted : (s : List ℕ) → is_width s ≡ true → number_of sort.Word s ≡ number_in (behind_first s)
    counted s d = ap (λ b. cond b (number_in (behind_first s)) 0) d

module _ (spelling : Token → List ℕ) where
  wide_builds : (w bits : ℕ) → 0 < w → w ≤ 128 → bits < 2 ^ w → Builds spelling (in_width w) (token sort.Integer (signed_spelling w bits) ∷ []) (IsPart spelling (part_is.Int w bits))
  unfolding in_width
  wide_builds w bits l h b =
      let wide : 2 ^ w ≤ 2 ^ 128 = pow_mono h in
      let half : 2 ^ (w - 1) + 2 ^ (w - 1) ≡ 2 ^ w = doubled w l in
      builds_as (cond_both (nat_le (2 ^ (w - 1)) bits) (45 ∷ decimal (2 ^ w - bits)) (decimal bits) (λ s. Builds spelling (tok integer_kinds (in_range w)) (token sort.Integer s ∷ []) (λ t. bits_of_sign w (is_negative t.kind) (number t) ≡ bits))
      (λ e. let above = leb-true (2 ^ (w - 1)) bits e in let k = minus_is (2 ^ w - bits) (omega arith) in ranged_builds w (45 ∷ decimal (2 ^ w - bits)) kind.Minus (2 ^ w - bits) bits k.0 k.1 (negative_counts w (2 ^ w - bits) bits (omega arith) (omega arith) (omega arith)))
      (λ e. let k = decimal_is bits (omega arith) in ranged_builds w (decimal bits) kind.Nat bits bits k.0 k.1 (positive_counts w bits b)))
      (λ t e. (refl, e))
    where
      doubled : (w : ℕ) → 0 < w → 2 ^ (w - 1) + 2 ^ (w - 1) ≡ 2 ^ w
      doubled zero l = absurd (omega arith)
      doubled (suc w) l =
          let e : suc w - 1 ≡ w = omega arith in
          let p = pow-suc 2 w in
          ap (λ k. 2 ^ k + 2 ^ k) e ∙ (let q = p in omega arith)

  bit_builds : (bits : ℕ) → bits < 2 → Builds spelling (one_of (kind.True ∷ kind.False ∷ [])) (bit_word bits ∷ []) (λ t. IsPart spelling (part_is.Int 1 bits) (bit_of t.kind))
  bit_builds bits h = cond_both (bits == 0) (word (codes "false")) (word (codes "true")) (λ p. Builds spelling (one_of (kind.True ∷ kind.False ∷ [])) (p ∷ []) (λ t. IsPart spelling (part_is.Int 1 bits) (bit_of t.kind)))
      (λ e. let i : 0 ≡ bits = sym (eqb-true bits 0 e) in builds_weaker (builds_any _ kind.False sort.Word (codes "false") false_word refl) (λ t w. subst (λ k. IsPart spelling (part_is.Int 1 bits) (bit_of k)) (sym w.0) (refl, i)))
      (λ e. let i : 1 ≡ bits = one_bit bits h e in builds_weaker (builds_any _ kind.True sort.Word (codes "true") true_word refl) (λ t w. subst (λ k. IsPart spelling (part_is.Int 1 bits) (bit_of k)) (sym w.0) (refl, i)))
    where
      one_bit : (n : ℕ) → n < 2 → (n == 0) ≡ false → 1 ≡ n
      one_bit zero h e = absurd (false≢true (sym e))
      one_bit (suc n) h e = omega arith

  int_by : (w bits : ℕ) → 0 < w → w ≤ 128 → bits < 2 ^ w → (b : Bool) → (w == 1) ≡ b → Builds spelling integer_part (word (105 ∷ decimal w) ∷ blank ∷ cond b (bit_word bits) (token sort.Integer (signed_spelling w bits)) ∷ []) (IsPart spelling (part_is.Int w bits))
  unfolding integer_part bit_part width_part digits
  int_by w bits l h b true e =
      let i : 1 ≡ w = sym (eqb-true w 1 e) in
      subst (λ w. Builds spelling integer_part (word (105 ∷ decimal w) ∷ blank ∷ bit_word bits ∷ []) (IsPart spelling (part_is.Int w bits))) i
      (builds_left (behind kind.I1 sort.Word (codes "i1") refl (builds_gap (codes " ") (builds_right (builds_as (bit_builds bits (subst (λ w. bits < 2 ^ w) (sym i) b)) (λ t p. p))))))
  int_by w bits l h b false e =
      let k = width_word w l h e in
      builds_right (builds_as {Q = IsPart spelling (part_is.Int w bits)} (builds_dep {P = λ j. j ≡ w} {Q = λ j x. IsPart spelling (part_is.Int w bits) x} (builds_as (builds_any width_kinds (kind_of sort.Word (105 ∷ decimal w)) sort.Word (105 ∷ decimal w) refl k.0) (λ t i. i.1.number ∙ k.1))
      (λ j i. subst (λ j. Builds spelling (in_width j) (blank ∷ token sort.Integer (signed_spelling w bits) ∷ []) (IsPart spelling (part_is.Int w bits))) (sym i) (builds_gap (codes " ") (wide_builds w bits l h b)))) (λ p x. x.1))

  pub int_builds : (w bits : ℕ) → 0 < w → w ≤ 128 → bits < 2 ^ w → Builds spelling integer_part (int_parts w bits) (IsPart spelling (part_is.Int w bits))
  int_builds w bits l h b = int_by w bits l h b (w == 1) refl

  text_builds : (bytes : List ℕ) → are_bytes bytes ≡ true → Builds spelling bang_elem (text_parts bytes) (λ x. (t : Token) × (x ≡ elem_syntax.Part (part_syntax.Text t)) × (string_by spelling t ≡ bytes))
  unfolding bang_elem
  text_builds bytes h = behind kind.Bang sort.Metadata (codes "!") refl (builds_left (builds_as (string_builds spelling bytes h) (λ t e. (t, refl, e))))

-- ---- elements of nodes

-- an integer or a string, or the name of a node
pub data Cell : Type 0 where
  part_cell : FlagPart → Cell
  node_cell : ℕ → Cell

abbrev pub cell_parts : Cell → List Part
cell_parts (part_cell p) = flag_part_parts p
cell_parts (node_cell n) = node_token n ∷ []

abbrev pub cell_fits : Cell → Bool
cell_fits (part_cell p) = part_fits p
cell_fits (node_cell n) = nat_lt n (2 ^ 32)

abbrev pub IsCell : (Token → List ℕ) → Cell → ElemSyntax → Type 0
IsCell spelling (part_cell p) (elem_syntax.Part x) = IsPart spelling p x
IsCell spelling (node_cell n) (elem_syntax.Node t) = number t ≡ n
IsCell spelling c x = ⊥

abbrev pub IsNodeItem : (Token → List ℕ) → ℕ → List Cell → ItemSyntax → Type 0
IsNodeItem spelling n cs (item_syntax.Node t xs) = (number t ≡ n) × Stand (IsCell spelling) cs xs
IsNodeItem spelling n cs i = ⊥

abbrev pub IsListItem : (Token → List ℕ) → List ℕ → ItemSyntax → Type 0
IsListItem spelling ns (item_syntax.List t ts) = (spelling t ≡ codes "!llvm.module.flags") × Stand (λ n t. number t ≡ n) ns ts
IsListItem spelling ns i = ⊥

module _ (spelling : Token → List ℕ) where
  node_builds : (n : ℕ) → n < 2 ^ 32 → Builds spelling node (node_token n ∷ []) (λ t. number t ≡ n)
  unfolding node
  node_builds n h =
      let k = number_again n (omega arith) in
      builds_tok (kind.Node ∷ []) sort.Metadata (33 ∷ decimal n) (λ t i. (
        subst (λ k. has tokens (kind.Node ∷ []) k ≡ true) (sym (i.kind ∙ node_kind n (omega arith))) refl,
        ap (λ b. unless b LiteralRange) (lt-ltb (number t) (2 ^ 32) (let e = i.number ∙ k in omega arith)),
        i.number ∙ k,
      ))
    where
      node_kind : (n : ℕ) → n < 2 ^ 128 → kind_of sort.Metadata (33 ∷ decimal n) ≡ kind.Node
      node_kind n h = digits_kind (decimal n) (decimal_digits n h).0
        where
          digits_kind : (s : List ℕ) → is_digits s ≡ true → metadata_kind s ≡ kind.Node
          digits_kind [] e = absurd (false≢true e)
          digits_kind (c ∷ cs) e = ap (λ b. cond b kind.Node kind.MetaName) (and_parts (is_ascii_digit c) _ e).0

  cell_builds : (c : Cell) → cell_fits c ≡ true → Builds spelling elem (cell_parts c) (IsCell spelling c)
  unfolding elem
  cell_builds (part_cell (part_is.Int w bits)) h =
      let p = and_parts (nat_lt 0 w) (nat_le w 128 && nat_lt bits (2 ^ w)) h in
      let q = and_parts (nat_le w 128) (nat_lt bits (2 ^ w)) p.1 in
      builds_left (builds_as (int_builds spelling w bits (ltb-true 0 w p.0) (leb-true w 128 q.0) (ltb-true bits (2 ^ w) q.1)) (λ x e. e))
  cell_builds (part_cell (part_is.Text bytes)) h = builds_right (builds_right (builds_right (builds_weaker (text_builds spelling bytes h) (λ x w. subst (IsCell spelling (part_cell (part_is.Text bytes))) (sym w.1) w.2))))
  cell_builds (node_cell n) h = builds_right (builds_left (builds_as (node_builds n (ltb-true n (2 ^ 32) h)) (λ t e. e)))

  each_cell : (cs : List Cell) → list_all cell_fits cs ≡ true → Each (λ c. Builds spelling elem (cell_parts c) (IsCell spelling c)) cs
  each_cell [] h = tt
  each_cell (c ∷ cs) h = let p = and_parts (cell_fits c) (list_all cell_fits cs) h in (cell_builds c p.0, each_cell cs p.1)

  -- '!0 = !{..}'
  pub node_line_builds : (n : ℕ) (cs : List Cell) → n < 2 ^ 32 → list_all cell_fits cs ≡ true → Builds spelling node_line (node_begin n ++ (node_open ++ (listed_parts (map cell_parts cs) ++ node_close))) (IsNodeItem spelling n cs)
  unfolding node_line elems
  node_line_builds n cs l h =
      let inside = listed_parts (map cell_parts cs) in
      builds_as (builds_seq (before kind.Equals sort.Sign (codes "=") refl (builds_trail (codes " ") (node_builds n l)))
      (builds_gap (codes " ") (behind kind.Bang sort.Metadata (codes "!") refl (behind kind.OpenBrace sort.Sign (codes "{") refl
      (builds_same (append_assoc inside (sign (codes "}") ∷ []) (line_end ∷ [])) (builds_trail (codes "\n") (before kind.CloseBrace sort.Sign (codes "}") refl (builds_commas elem cell_parts (IsCell spelling) cs (each_cell cs h)))))))))
      (λ x w. w)

  each_node : (ns : List ℕ) → list_all (λ n. nat_lt n (2 ^ 32)) ns ≡ true → Each (λ n. Builds spelling node (node_token n ∷ []) (λ t. number t ≡ n)) ns
  each_node [] h = tt
  each_node (n ∷ ns) h = let p = and_parts (nat_lt n (2 ^ 32)) (list_all (λ n. nat_lt n (2 ^ 32)) ns) h in (node_builds n (ltb-true n (2 ^ 32) p.0), each_node ns p.1)

  -- '!llvm.module.flags = !{!0, !1}'
  pub list_line_builds : (ns : List ℕ) → list_all (λ n. nat_lt n (2 ^ 32)) ns ≡ true → Builds spelling list_line (flags_begin ++ (listed_parts (map (λ n. node_token n ∷ []) ns) ++ node_close)) (IsListItem spelling ns)
  unfolding list_line nodes flags_begin
  list_line_builds ns h =
      let inside = listed_parts (map (λ n. node_token n ∷ []) ns) in
      builds_as (builds_seq (before kind.Equals sort.Sign (codes "=") refl (builds_trail (codes " ") (builds_one kind.MetaName sort.Metadata (codes "!llvm.module.flags") refl)))
      (builds_gap (codes " ") (behind kind.Bang sort.Metadata (codes "!") refl (behind kind.OpenBrace sort.Sign (codes "{") refl
      (builds_same (append_assoc inside (sign (codes "}") ∷ []) (line_end ∷ [])) (builds_trail (codes "\n") (before kind.CloseBrace sort.Sign (codes "}") refl (builds_commas node (λ n. node_token n ∷ []) (λ n t. number t ≡ n) ns (each_node ns h)))))))))
      (λ x w. (w.0.1.spelled, w.1))

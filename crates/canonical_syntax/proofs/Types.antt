-- The parts of a type are a sentence of the grammar, with the type and its nesting.
use Rattle.std.specs.Prelude.{if◌then◌else◌, ◌&&◌, nat_lt, nat_le, codes, not}
use Rattle.std.specs.List.{flat_map}
use Rattle.std.proofs.Common.{◌≡◌, ℕ, zero, suc, ◌+◌, ◌≤◌, ◌<◌, max, Bool, true, false, None, Some, List, [], ◌∷◌, ◌++◌, map, length, take, drop, refl, sym, ap, ◌∙◌, subst, arith, append_assoc, append-nil}
use Rattle.std.proofs.lemmas.Bool.{and_parts, cond_both, lt-ltb, leb-true, ltb-true, ltb-false, not-true, false≢true}
use Rattle.std.proofs.lemmas.List.{length-map}
use Rattle.grammar.specs.Grammar.{Grammar, has, marked}
use Rattle.ir_values.specs.declared.int.Width.{Width}
use Rattle.ir_values.specs.declared.int.Width.TheVariants.{W1, W8, W16, W32, W64}
use Rattle.ir_values.specs.declared.sig.TyWord.{TyWord}
use Rattle.ir_values.specs.declared.sig.TyWord.TheVariants as word
use Rattle.ir_values.specs.declared.ty.Ty.{Ty}
use Rattle.ir_values.specs.declared.ty.Ty.TheVariants as ty
use Rattle.ir_values.specs.Types.{words_of, signature}
use Rattle.ir_values.specs.Words.{spells, is_sig}
use Rattle.ir_text.specs.declared.tok.Tok.TheVariants as sort
use Rattle.ir_module.specs.Numbered.{is_void}
use Rattle.ir_module.specs.Printable.{behind_type, deepest as deepest_words, voids_return, type_fits, value_type_fits}
use Rattle.ir_tokens.specs.declared.kind.Kind.TheVariants as kind
use Rattle.ir_tokens.specs.declared.rule.Rule.TheVariants.{TooDeep}
use Rattle.ir_tokens.specs.declared.token.Token.{Token}
use Rattle.ir_tokens.specs.Classified.{kind_of}
use Rattle.ir_tokens.specs.Tokens.{tokens}
use Rattle.ir_grammar.specs.declared.tree.TypeSyntax.{TypeSyntax}
use Rattle.ir_grammar.specs.SideRules.{unless}
use Rattle.ir_grammar.specs.Types.{typed, word_type, width_of, integer_type, byte_or_text, plain_type, byte_type, qubit_type, result_type, void_type, base_type, deepest, return_type_of, value_type_of, suffix_at, value_type_at, value_type, return_type}
use Rattle.ir_parts.specs.Parts.{Part, token}
use Rattle.ir_printer.specs.Pieces.{blank, sign, word as word_token, listed as listed_parts}
use Rattle.ir_printer.specs.Types.{width_part, pointer_parts, with_pointer, types_parts, first_type, type_parts}
use Rattle.read_modules.proofs.Each.{Each}
use Rattle.canonical_syntax.specs.Builds.{IsSpelled, Builds}
use Rattle.canonical_syntax.proofs.Builds.{Stand, IsSomeOf, builds_tok, builds_any, builds_one, builds_gap, builds_dep, builds_seq, builds_as, builds_left, builds_right, builds_marked, builds_none, builds_some, before, before_both, builds_commas, builds_same, builds_weaker, grown_first, grown_more}
use Rattle.canonical_syntax.proofs.Words.{void_word, double_word}

-- the tree has this type, nested so deep
pub record Typed (t : Ty) (n : ℕ) (x : TypeSyntax) : Type 0 where
  pub type : x.ty ≡ t
  pub nested : x.nesting ≡ n

-- ---- types that are no function pointers

module _ {spelling : Token → List ℕ} where
  plain_builds : (s : List ℕ) (t : Ty) → has tokens (kind.I1 ∷ kind.I16 ∷ kind.I32 ∷ kind.I64 ∷ kind.DoubleType ∷ []) (kind_of sort.Word s) ≡ true → word_type (kind_of sort.Word s) ≡ t → Builds spelling base_type (word_token s ∷ []) (Typed t 0)
  unfolding base_type plain_type
  plain_builds s t h e = builds_left (builds_as (builds_any _ (kind_of sort.Word s) sort.Word s refl h) (λ x w. record { type = ap word_type w.0 ∙ e; nested = refl }))

  byte_builds : Builds spelling base_type (word_token (codes "i8") ∷ []) (Typed (ty.Int W8) 0)
  unfolding base_type byte_type
  byte_builds = builds_right (builds_left (builds_as (builds_seq (builds_one kind.I8 sort.Word (codes "i8") refl) builds_none) (λ p w. record { type = ap byte_or_text w.1; nested = refl })))

  text_builds : Builds spelling base_type (word_token (codes "i8") ∷ sign (codes "*") ∷ []) (Typed ty.Text 0)
  unfolding base_type byte_type
  text_builds = builds_right (builds_left (builds_as (builds_seq (builds_one kind.I8 sort.Word (codes "i8") refl) (builds_some (builds_one kind.Star sort.Sign (codes "*") refl))) (λ p w. starred p.0 p.1 w.1)))
    where
      starred : (t : Token) (o : _) → IsSomeOf (λ t. (t.kind ≡ kind.Star) × IsSpelled spelling sort.Sign (codes "*") t) o → Typed ty.Text 0 (typed (byte_or_text o) t)
      starred t None w = absurd w
      starred t (Some star) w = record { type = refl; nested = refl }

  qubit_builds : Builds spelling base_type (token sort.Local (codes "%Qubit") ∷ sign (codes "*") ∷ []) (Typed ty.Qubit 0)
  unfolding base_type qubit_type
  qubit_builds = builds_right (builds_right (builds_left (builds_as (before kind.Star sort.Sign (codes "*") refl (builds_one kind.QubitName sort.Local (codes "%Qubit") refl)) (λ t w. record { type = refl; nested = refl }))))

  result_builds : Builds spelling base_type (token sort.Local (codes "%Result") ∷ sign (codes "*") ∷ []) (Typed ty.Res 0)
  unfolding base_type result_type
  result_builds = builds_right (builds_right (builds_right (builds_as (before kind.Star sort.Sign (codes "*") refl (builds_one kind.ResultName sort.Local (codes "%Result") refl)) (λ t w. record { type = refl; nested = refl }))))

  void_builds : Builds spelling void_type (word_token (codes "void") ∷ []) (Typed ty.Void 0)
  unfolding void_type
  void_builds = builds_as (builds_one kind.Void sort.Word (codes "void") void_word) (λ t w. record { type = refl; nested = refl })

  integer_base : (w : Width) → Builds spelling base_type (width_part w ∷ []) (Typed (ty.Int w) 0)
  integer_base W1 = plain_builds (codes "i1") (ty.Int W1) refl refl
  integer_base W8 = byte_builds
  integer_base W16 = plain_builds (codes "i16") (ty.Int W16) refl refl
  integer_base W32 = plain_builds (codes "i32") (ty.Int W32) refl refl
  integer_base W64 = plain_builds (codes "i64") (ty.Int W64) refl refl

  double_builds : Builds spelling base_type (word_token (codes "double") ∷ []) (Typed ty.Double 0)
  double_builds = plain_builds (codes "double") ty.Double (subst (λ k. has tokens (kind.I1 ∷ kind.I16 ∷ kind.I32 ∷ kind.I64 ∷ kind.DoubleType ∷ []) k ≡ true) (sym double_word) refl) (ap word_type double_word)

  -- the type of integers of a width
  pub width_builds : (w : Width) → Builds spelling integer_type (width_part w ∷ []) (λ x. x ≡ w)
  unfolding integer_type
  width_builds W1 = builds_as (builds_marked (builds_any _ kind.I1 sort.Word (codes "i1") refl refl)) (λ t w. ap width_of w.0)
  width_builds W8 = builds_as (builds_marked (builds_any _ kind.I8 sort.Word (codes "i8") refl refl)) (λ t w. ap width_of w.0)
  width_builds W16 = builds_as (builds_marked (builds_any _ kind.I16 sort.Word (codes "i16") refl refl)) (λ t w. ap width_of w.0)
  width_builds W32 = builds_as (builds_marked (builds_any _ kind.I32 sort.Word (codes "i32") refl refl)) (λ t w. ap width_of w.0)
  width_builds W64 = builds_as (builds_marked (builds_any _ kind.I64 sort.Word (codes "i64") refl refl)) (λ t w. ap width_of w.0)

-- ---- how deep words nest

-- words of one type, in which n function pointer types stand open at once
pub record Deep (n : ℕ) (ws : List TyWord) : Type 0 where
  pub deep : (open_types : List ℕ) (rest : List TyWord) → 0 < n → length open_types + n ≤ deepest_words open_types (ws ++ rest)
  pub goes : (open_types : List ℕ) (rest : List TyWord) → deepest_words (behind_type open_types) rest ≤ deepest_words open_types (ws ++ rest)

-- of one word
flat : (w : TyWord) → ((open_types : List ℕ) (rest : List TyWord) → deepest_words (behind_type open_types) rest ≤ deepest_words open_types (w ∷ rest)) → Deep 0 (w ∷ [])
flat w h = record { deep = λ o rest n. absurd (omega arith); goes = h }

-- the greatest of numbers
abbrev greatest : ℕ → List ℕ → ℕ
greatest n [] = n
greatest n (k ∷ ks) = greatest (if nat_lt n k then k else n) ks

greatest_is : (n : ℕ) (xs : List TypeSyntax) → deepest n xs ≡ greatest n (map (λ x. x.nesting) xs)
greatest_is n [] = refl
greatest_is n (x ∷ xs) = greatest_is (if nat_lt n x.nesting then x.nesting else n) xs

-- what each has, the greatest has
greatest_has : (P : ℕ → Type 0) (n : ℕ) (ks : List ℕ) → P n → Each P ks → P (greatest n ks)
greatest_has P n [] p h = p
greatest_has P n (k ∷ ks) p h = greatest_has P (if nat_lt n k then k else n) ks (cond_both (nat_lt n k) k n P (λ _. h.0) (λ _. p)) h.1

grows : (n k : ℕ) → n ≤ (if nat_lt n k then k else n)
grows n k = cond_both (nat_lt n k) k n (λ m. n ≤ m) (λ e. omega (arith, ltb-true n k e)) (λ e. omega arith)

covers : (n k : ℕ) → k ≤ (if nat_lt n k then k else n)
covers n k = cond_both (nat_lt n k) k n (λ m. k ≤ m) (λ e. omega arith) (λ e. ltb-false n k e)

greatest_above : (n : ℕ) (ks : List ℕ) → n ≤ greatest n ks
greatest_above n [] = omega arith
greatest_above n (k ∷ ks) = omega (arith, grows n k, greatest_above (if nat_lt n k then k else n) ks)

greatest_each : (n : ℕ) (ks : List ℕ) → Each (λ k. k ≤ greatest n ks) ks
greatest_each n [] = tt
greatest_each n (k ∷ ks) = (omega (arith, covers n k, greatest_above (if nat_lt n k then k else n) ks), greatest_each (if nat_lt n k then k else n) ks)

-- ---- a type with its parts

pub record TypeItem (spelling : Token → List ℕ) : Type 0 where
  pub parts : List Part
  pub type : Ty
  pub nesting : ℕ
  pub deep : Deep nesting (words_of type)
  pub as_void : is_void type ≡ true → Builds spelling void_type parts (Typed type nesting)
  pub as_value : (left : ℕ) → nesting ≤ left → is_void type ≡ false → Builds spelling (value_type_of (suffix_at left)) parts (Typed type nesting)
  pub as_return : (left : ℕ) → nesting ≤ left → Builds spelling (return_type_of (suffix_at left)) parts (Typed type nesting)

module _ (spelling : Token → List ℕ) where
  base_item : (w : TyWord) (t : Ty) → words_of t ≡ w ∷ [] → is_void t ≡ false → ((o : List ℕ) (rest : List TyWord) → deepest_words (behind_type o) rest ≤ deepest_words o (w ∷ rest)) → (ps : List Part) → Builds spelling base_type ps (Typed t 0) → TypeItem spelling
  base_item w t e v d ps h = record {
    parts = ps;
    type = t;
    nesting = 0;
    deep = subst (Deep 0) (sym e) (flat w d);
    as_void = λ i. absurd (false≢true (sym v ∙ i));
    as_value = λ left l i. builds_marked (grown_first (builds_left h));
    as_return = λ left l. builds_marked (grown_first (builds_left h));
  }

  void_item : TypeItem spelling
  void_item = record {
    parts = word_token (codes "void") ∷ [];
    type = ty.Void;
    nesting = 0;
    deep = flat word.Void (λ o rest. omega arith);
    as_void = λ i. void_builds;
    as_value = λ left l i. absurd (false≢true (sym i));
    as_return = λ left l. builds_marked (grown_first (builds_right void_builds));
  }

-- ---- function pointer types

abbrev types : {spelling : Token → List ℕ} → List (TypeItem spelling) → List Ty
types is = map (λ i. i.type) is

abbrev nestings : {spelling : Token → List ℕ} → List (TypeItem spelling) → List ℕ
nestings is = map (λ i. i.nesting) is

abbrev IsValue : {spelling : Token → List ℕ} → TypeItem spelling → Type 0
IsValue i = is_void i.type ≡ false

module _ (spelling : Token → List ℕ) where
  -- the words behind the first types
  parameters_go : (is : List (TypeItem spelling)) (o : List ℕ) (rest : List TyWord) → deepest_words (behind_type o) rest ≤ deepest_words (behind_type (length (types is) ∷ o)) (flat_map words_of (types is) ++ rest)
  parameters_go [] o rest = omega arith
  parameters_go (i ∷ is) o rest =
      let e = append_assoc (words_of i.type) (flat_map words_of (types is)) rest in
      let a = i.deep.goes (length (types is) ∷ o) (flat_map words_of (types is) ++ rest) in
      let b = parameters_go is o rest in
      subst (λ ws. deepest_words (behind_type o) rest ≤ deepest_words (length (types is) ∷ o) ws) (sym e) (omega arith)

  parameters_deep : (d : ℕ) (is : List (TypeItem spelling)) (o : List ℕ) (rest : List TyWord) → deepest_words (behind_type (length (types is) ∷ o)) (flat_map words_of (types is) ++ rest) ≤ d → Each (λ n. 0 < n → length o + 1 + n ≤ d) (nestings is)
  parameters_deep d [] o rest h = tt
  parameters_deep d (i ∷ is) o rest h =
      let e = append_assoc (words_of i.type) (flat_map words_of (types is)) rest in
      let k : deepest_words (length (types is) ∷ o) (words_of i.type ++ (flat_map words_of (types is) ++ rest)) ≤ d = subst (λ ws. deepest_words (length (types is) ∷ o) ws ≤ d) e h in
      let a = i.deep.goes (length (types is) ∷ o) (flat_map words_of (types is) ++ rest) in
      let b = i.deep.deep (length (types is) ∷ o) (flat_map words_of (types is) ++ rest) in
      ((λ n. omega (arith, b n)), parameters_deep d is o rest (omega arith))

  pointer_deep : (ret : TypeItem spelling) (is : List (TypeItem spelling)) → Deep (greatest ret.nesting (nestings is) + 1) (signature ret.type (types is))
  pointer_deep ret is = record { deep = deep; goes = goes }
    where
      words : List TyWord
      words = words_of ret.type ++ flat_map words_of (types is)

      inner : (o : List ℕ) (rest : List TyWord) → List TyWord
      inner o rest = flat_map words_of (types is) ++ rest

      goes : (o : List ℕ) (rest : List TyWord) → deepest_words (behind_type o) rest ≤ deepest_words o (signature ret.type (types is) ++ rest)
      goes o rest =
          let e = append_assoc (words_of ret.type) (flat_map words_of (types is)) rest in
          let a = ret.deep.goes (length (types is) ∷ o) (flat_map words_of (types is) ++ rest) in
          let b = parameters_go is o rest in
          subst (λ ws. deepest_words (behind_type o) rest ≤ max (length (length (types is) ∷ o)) (deepest_words (length (types is) ∷ o) ws)) (sym e) (omega arith)

      deep : (o : List ℕ) (rest : List TyWord) → 0 < greatest ret.nesting (nestings is) + 1 → length o + (greatest ret.nesting (nestings is) + 1) ≤ deepest_words o (signature ret.type (types is) ++ rest)
      deep o rest p =
          let d = max (length (length (types is) ∷ o)) (deepest_words (length (types is) ∷ o) (words_of ret.type ++ (flat_map words_of (types is) ++ rest))) in
          let e = append_assoc (words_of ret.type) (flat_map words_of (types is)) rest in
          let a = ret.deep.goes (length (types is) ∷ o) (flat_map words_of (types is) ++ rest) in
          let own = ret.deep.deep (length (types is) ∷ o) (flat_map words_of (types is) ++ rest) in
          let each = parameters_deep d is o rest (omega arith) in
          let most = greatest_has (λ n. 0 < n → length o + 1 + n ≤ d) ret.nesting (nestings is) (λ n. omega (arith, own n)) each in
          subst (λ ws. length o + (greatest ret.nesting (nestings is) + 1) ≤ max (length (length (types is) ∷ o)) (deepest_words (length (types is) ∷ o) ws)) (sym e)
          (bounded (greatest ret.nesting (nestings is)) (length o) d most (omega arith))
        where
          bounded : (n l d : ℕ) → (0 < n → l + 1 + n ≤ d) → l + 1 ≤ d → l + (n + 1) ≤ d
          bounded zero l d h k = omega arith
          bounded (suc n) l d h k = let i = h (omega arith) in omega arith

  -- ' (T, T)*' behind a type
  abbrev suffix_parts : List (TypeItem spelling) → List Part
  suffix_parts is = blank ∷ sign (codes "(") ∷ (listed_parts (map (λ i. i.parts) is) ++ sign (codes ")") ∷ sign (codes "*") ∷ [])

  abbrev Same : TypeItem spelling → TypeSyntax → Type 0
  Same i x = Typed i.type i.nesting x

  same_types : (is : List (TypeItem spelling)) (xs : List TypeSyntax) → Stand Same is xs → (map (λ x. x.ty) xs ≡ types is) × (map (λ x. x.nesting) xs ≡ nestings is)
  same_types [] [] h = (refl, refl)
  same_types [] (x ∷ xs) h = absurd h
  same_types (i ∷ is) [] h = absurd h
  same_types (i ∷ is) (x ∷ xs) h =
      let w = same_types is xs h.1 in
      (ap (λ t. t ∷ map (λ x. x.ty) xs) h.0.type ∙ ap (λ l. i.type ∷ l) w.0, ap (λ n. n ∷ map (λ x. x.nesting) xs) h.0.nested ∙ ap (λ l. i.nesting ∷ l) w.1)

  parameters_build : (left : ℕ) (is : List (TypeItem spelling)) → Each IsValue is → Each (λ n. n ≤ left) (nestings is) → Each (λ i. Builds spelling (value_type_of (suffix_at left)) i.parts (Same i)) is
  parameters_build left [] h l = tt
  parameters_build left (i ∷ is) h l = (i.as_value left l.0 h.0, parameters_build left is h.1 l.1)

  suffix_builds : (left : ℕ) (ret : TypeItem spelling) (is : List (TypeItem spelling)) → Each IsValue is → greatest ret.nesting (nestings is) ≤ left → (x : TypeSyntax) → Typed ret.type ret.nesting x
      → Builds spelling (suffix_at (suc left) x) (suffix_parts is) (Typed (ty.Func (signature ret.type (types is))) (greatest ret.nesting (nestings is) + 1))
  unfolding suffix_at
  suffix_builds left ret is h l x w =
      let own : x.nesting < suc left = omega (arith, greatest_above ret.nesting (nestings is), w.nested) in
      let each = below (nestings is) (greatest_each ret.nesting (nestings is)) in
      builds_gap (codes " ") (builds_as (builds_seq
      (builds_tok {P = λ t. Unit {0}} (kind.Open ∷ []) sort.Sign (codes "(") (λ t i. (subst (λ k. has tokens (kind.Open ∷ []) k ≡ true) (sym i.kind) refl, ap (λ b. unless b TooDeep) (lt-ltb x.nesting (suc left) own), tt)))
      (before_both kind.Close kind.Star sort.Sign sort.Sign (codes ")") (codes "*") refl refl (builds_commas _ (λ i. i.parts) Same is (parameters_build left is h each))))
      (λ p v. let s = same_types is p.1 v.1 in record {
        type = ap (λ t. ty.Func (signature t (map (λ p. p.ty) p.1))) w.type ∙ ap (λ ts. ty.Func (signature ret.type ts)) s.0;
        nested = ap (λ n. n + 1) (greatest_is x.nesting p.1 ∙ (ap (λ n. greatest n (map (λ x. x.nesting) p.1)) w.nested ∙ ap (greatest ret.nesting) s.1));
      }))
    where
      below : (ks : List ℕ) → Each (λ k. k ≤ greatest ret.nesting (nestings is)) ks → Each (λ k. k ≤ left) ks
      below [] h = tt
      below (k ∷ ks) h = (omega (arith, h.0), below ks h.1)

  unmarked : {A : Type 0} {a : Grammar tokens A} {P : A → Type 0} {ps : List Part} → Builds spelling (marked a) ps P → Builds spelling a ps P
  unmarked f = record { built = f.built }

  module _ (ret : TypeItem spelling) (is : List (TypeItem spelling)) (h : Each IsValue is) where
    abbrev Pointer : TypeSyntax → Type 0
    Pointer x = Typed (ty.Func (signature ret.type (types is))) (greatest ret.nesting (nestings is) + 1) x

    value_by : (left : ℕ) → greatest ret.nesting (nestings is) ≤ left → (b : Bool) → is_void ret.type ≡ b → Builds spelling (value_type_of (suffix_at (suc left))) (ret.parts ++ suffix_parts is) Pointer
    value_by left l true e = builds_marked (grown_first (builds_right (builds_as (builds_dep (ret.as_void e) (λ x w. suffix_builds left ret is h l x w)) (λ p w. w.1))))
    value_by left l false e = builds_marked (grown_more (unmarked (ret.as_value (suc left) (omega (arith, greatest_above ret.nesting (nestings is))) e)) (λ x w. suffix_builds left ret is h l x w))

    return_by : (left : ℕ) → greatest ret.nesting (nestings is) ≤ left → Builds spelling (return_type_of (suffix_at (suc left))) (ret.parts ++ suffix_parts is) Pointer
    return_by left l = builds_marked (grown_more (unmarked (ret.as_return (suc left) (omega (arith, greatest_above ret.nesting (nestings is))))) (λ x w. suffix_builds left ret is h l x w))

    as_value_at : (left : ℕ) → greatest ret.nesting (nestings is) + 1 ≤ left → Builds spelling (value_type_of (suffix_at left)) (ret.parts ++ suffix_parts is) Pointer
    as_value_at zero l = absurd (omega arith)
    as_value_at (suc left) l = value_by left (omega arith) (is_void ret.type) refl

    as_return_at : (left : ℕ) → greatest ret.nesting (nestings is) + 1 ≤ left → Builds spelling (return_type_of (suffix_at left)) (ret.parts ++ suffix_parts is) Pointer
    as_return_at zero l = absurd (omega arith)
    as_return_at (suc left) l = return_by left (omega arith)

    pointer_item : TypeItem spelling
    pointer_item = record {
      parts = ret.parts ++ suffix_parts is;
      type = ty.Func (signature ret.type (types is));
      nesting = greatest ret.nesting (nestings is) + 1;
      deep = pointer_deep ret is;
      as_void = λ e. absurd (false≢true e);
      as_value = λ left l e. as_value_at left l;
      as_return = λ left l. as_return_at left l;
    }

-- ---- the types that words spell, one after another

abbrev SolidFrom : {spelling : Token → List ℕ} → Bool → List (TypeItem spelling) → Type 0
SolidFrom b [] = Unit
SolidFrom b (i ∷ is) = (b ≡ false → IsValue i) × Each IsValue is

all_solid : {spelling : Token → List ℕ} (is : List (TypeItem spelling)) → SolidFrom false is → Each IsValue is
all_solid [] h = tt
all_solid (i ∷ is) h = (h.0 refl, h.1)

record Items (spelling : Token → List ℕ) (ws : List TyWord) (n : ℕ) (b : Bool) : Type 0 where
  items : List (TypeItem spelling)
  count : length items ≡ n
  parts_are : map (λ i. i.parts) items ≡ types_parts ws
  words_are : flat_map words_of (types items) ≡ ws
  solid : SolidFrom b items

map_taken : {A B : Type 0} (f : A → B) (k : ℕ) (xs : List A) → map f (take k xs) ≡ take k (map f xs)
map_taken f zero xs = refl
map_taken f (suc k) [] = refl
map_taken f (suc k) (x ∷ xs) = ap (λ l. f x ∷ l) (map_taken f k xs)

map_dropped : {A B : Type 0} (f : A → B) (k : ℕ) (xs : List A) → map f (drop k xs) ≡ drop k (map f xs)
map_dropped f zero xs = refl
map_dropped f (suc k) [] = refl
map_dropped f (suc k) (x ∷ xs) = map_dropped f k xs

each_taken : {A : Type 0} (P : A → Type 0) (k : ℕ) (xs : List A) → Each P xs → Each P (take k xs)
each_taken P zero xs h = tt
each_taken P (suc k) [] h = tt
each_taken P (suc k) (x ∷ xs) h = (h.0, each_taken P k xs h.1)

each_dropped : {A : Type 0} (P : A → Type 0) (k : ℕ) (xs : List A) → Each P xs → Each P (drop k xs)
each_dropped P zero xs h = h
each_dropped P (suc k) [] h = tt
each_dropped P (suc k) (x ∷ xs) h = each_dropped P k xs h.1

pub taken_length : {A : Type 0} (k : ℕ) (xs : List A) → k ≤ length xs → length (take k xs) ≡ k
taken_length zero xs h = refl
taken_length (suc k) [] h = absurd (omega arith)
taken_length (suc k) (x ∷ xs) h = let e = taken_length k xs (omega arith) in omega arith

dropped_length : {A : Type 0} (k : ℕ) (xs : List A) → k ≤ length xs → length (drop k xs) + k ≡ length xs
dropped_length zero xs h = omega arith
dropped_length (suc k) [] h = absurd (omega arith)
dropped_length (suc k) (x ∷ xs) h = let e = dropped_length k xs (omega arith) in omega arith

flat_parted : {spelling : Token → List ℕ} (k : ℕ) (is : List (TypeItem spelling)) → flat_map words_of (types (take k is)) ++ flat_map words_of (types (drop k is)) ≡ flat_map words_of (types is)
flat_parted zero is = refl
flat_parted (suc k) [] = refl
flat_parted (suc k) (i ∷ is) = append_assoc (words_of i.type) (flat_map words_of (types (take k is))) (flat_map words_of (types (drop k is))) ∙ ap (λ l. words_of i.type ++ l) (flat_parted k is)

module _ (spelling : Token → List ℕ) where
  pointed : (k n : ℕ) (ws : List TyWord) (b : Bool) → Items spelling ws (suc (n + k)) true → Items spelling (word.Func k ∷ ws) (suc n) b
  unfolding pointer_item
  pointed k n ws b r = go r.items r.count r.parts_are r.words_are r.solid
    where
      go : (is : List (TypeItem spelling)) → length is ≡ suc (n + k) → map (λ i. i.parts) is ≡ types_parts ws → flat_map words_of (types is) ≡ ws → SolidFrom true is → Items spelling (word.Func k ∷ ws) (suc n) b
      go [] c p w s = absurd (omega arith)
      go (ret ∷ rest) c p w s =
          let few : k ≤ length rest = omega arith in
          let left = dropped_length k rest few in
          let item = pointer_item spelling ret (take k rest) (each_taken IsValue k rest s.1) in
          let taken : length (types (take k rest)) ≡ k = length-map (take k rest) (λ i. i.type) ∙ taken_length k rest few in
          let whole : words_of item.type ++ flat_map words_of (types (drop k rest)) ≡ word.Func k ∷ ws =
          ap (λ l. word.Func (length (types (take k rest))) ∷ l) (append_assoc (words_of ret.type) (flat_map words_of (types (take k rest))) (flat_map words_of (types (drop k rest))) ∙ (ap (λ l. words_of ret.type ++ l) (flat_parted k rest) ∙ w))
          ∙ ap (λ j. word.Func j ∷ ws) taken in
          record {
            items = item ∷ drop k rest;
            count = omega arith;
            parts_are = ap (λ l. pointer_parts ret.parts l ∷ map (λ i. i.parts) (drop k rest)) (map_taken (λ i. i.parts) k rest)
                ∙ (ap (λ l. pointer_parts ret.parts (take k (map (λ i. i.parts) rest)) ∷ l) (map_dropped (λ i. i.parts) k rest) ∙ ap (with_pointer k) p);
            words_are = whole;
            solid = (λ e. refl, each_dropped IsValue k rest s.1);
          }

  leaf : (i : TypeItem spelling) (w : TyWord) (ws : List TyWord) (n : ℕ) (b : Bool) → words_of i.type ≡ w ∷ [] → types_parts (w ∷ ws) ≡ i.parts ∷ types_parts ws → (b ≡ false → IsValue i) → Items spelling ws n false → Items spelling (w ∷ ws) (suc n) b
  leaf i w ws n b e p v r = record {
    items = i ∷ r.items;
    count = let c = r.count in omega arith;
    parts_are = ap (λ l. i.parts ∷ l) r.parts_are ∙ sym p;
    words_are = ap (λ l. l ++ flat_map words_of (types r.items)) e ∙ ap (λ l. w ∷ l) r.words_are;
    solid = (v, all_solid r.items r.solid);
  }

  integer_item : Width → TypeItem spelling
  integer_item w = base_item spelling (word.Int w) (ty.Int w) refl refl (λ o rest. omega arith) (width_part w ∷ []) (integer_base w)

  double_item : TypeItem spelling
  double_item = base_item spelling word.Double ty.Double refl refl (λ o rest. omega arith) (word_token (codes "double") ∷ []) double_builds

  qubit_item : TypeItem spelling
  qubit_item = base_item spelling word.Qubit ty.Qubit refl refl (λ o rest. omega arith) (token sort.Local (codes "%Qubit") ∷ sign (codes "*") ∷ []) qubit_builds

  result_item : TypeItem spelling
  result_item = base_item spelling word.Res ty.Res refl refl (λ o rest. omega arith) (token sort.Local (codes "%Result") ∷ sign (codes "*") ∷ []) result_builds

  text_item : TypeItem spelling
  text_item = base_item spelling word.Text ty.Text refl refl (λ o rest. omega arith) (word_token (codes "i8") ∷ sign (codes "*") ∷ []) text_builds

  types_items : (ws : List TyWord) (n : ℕ) (b : Bool) → spells ws n ≡ true → voids_return b ws ≡ true → Items spelling ws n b
  unfolding integer_item double_item qubit_item result_item text_item void_item base_item
  types_items [] zero b h v = record { items = []; count = refl; parts_are = refl; words_are = refl; solid = tt }
  types_items [] (suc n) b h v = absurd (false≢true h)
  types_items (w ∷ ws) zero b h v = absurd (false≢true h)
  types_items (word.Func k ∷ ws) (suc n) b h v = pointed k n ws b (types_items ws (suc (n + k)) true h v)
  types_items (word.Void ∷ ws) (suc n) b h v =
      let p = and_parts b (voids_return false ws) v in
      leaf (void_item spelling) word.Void ws n b refl refl (λ e. absurd (false≢true (sym e ∙ p.0))) (types_items ws n false h p.1)
  types_items (word.Int w ∷ ws) (suc n) b h v = leaf (integer_item w) (word.Int w) ws n b refl refl (λ e. refl) (types_items ws n false h v)
  types_items (word.Double ∷ ws) (suc n) b h v = leaf double_item word.Double ws n b refl refl (λ e. refl) (types_items ws n false h v)
  types_items (word.Qubit ∷ ws) (suc n) b h v = leaf qubit_item word.Qubit ws n b refl refl (λ e. refl) (types_items ws n false h v)
  types_items (word.Res ∷ ws) (suc n) b h v = leaf result_item word.Res ws n b refl refl (λ e. refl) (types_items ws n false h v)
  types_items (word.Text ∷ ws) (suc n) b h v = leaf text_item word.Text ws n b refl refl (λ e. refl) (types_items ws n false h v)

-- ---- whole types

one_type : (ws : List TyWord) → is_sig ws ≡ true → spells ws 1 ≡ true
one_type [] h = absurd (false≢true h)
one_type (word.Func k ∷ ws) h = let e : suc (0 + k) ≡ suc k = omega arith in subst (λ n. spells ws n ≡ true) (sym e) h
one_type (word.Void ∷ ws) h = absurd (false≢true h)
one_type (word.Int w ∷ ws) h = absurd (false≢true h)
one_type (word.Double ∷ ws) h = absurd (false≢true h)
one_type (word.Qubit ∷ ws) h = absurd (false≢true h)
one_type (word.Res ∷ ws) h = absurd (false≢true h)
one_type (word.Text ∷ ws) h = absurd (false≢true h)

pointer_of : (t : Ty) (ws : List TyWord) → words_of t ≡ ws → is_sig ws ≡ true → t ≡ ty.Func ws
pointer_of ty.Void ws e h = absurd (false≢true (ap is_sig e ∙ h))
pointer_of (ty.Int w) ws e h = absurd (false≢true (ap is_sig e ∙ h))
pointer_of ty.Double ws e h = absurd (false≢true (ap is_sig e ∙ h))
pointer_of ty.Qubit ws e h = absurd (false≢true (ap is_sig e ∙ h))
pointer_of ty.Res ws e h = absurd (false≢true (ap is_sig e ∙ h))
pointer_of ty.Text ws e h = absurd (false≢true (ap is_sig e ∙ h))
pointer_of (ty.Func us) ws e h = ap ty.Func e

record WholeType (spelling : Token → List ℕ) (t : Ty) : Type 0 where
  item : TypeItem spelling
  type_is : item.type ≡ t
  parts_are : item.parts ≡ type_parts t
  shallow : item.nesting ≤ 64

module _ (spelling : Token → List ℕ) where
  whole_pointer : (ws : List TyWord) → is_sig ws ≡ true → deepest_words [] ws ≤ 64 → Items spelling ws 1 true → WholeType spelling (ty.Func ws)
  whole_pointer ws g d r = go r.items r.count r.parts_are r.words_are
    where
      low : (i : TypeItem spelling) → words_of i.type ≡ ws → i.nesting ≤ 64
      low i e = bounded i.nesting (i.deep.deep [] [])
        where
          same : deepest_words [] (words_of i.type ++ []) ≡ deepest_words [] ws
          same = ap (deepest_words []) (append-nil (words_of i.type) ∙ e)

          bounded : (n : ℕ) → (0 < n → 0 + n ≤ deepest_words [] (words_of i.type ++ [])) → n ≤ 64
          bounded zero h = omega arith
          bounded (suc n) h = let k = h (omega arith) in let s = same in omega arith

      go : (is : List (TypeItem spelling)) → length is ≡ 1 → map (λ i. i.parts) is ≡ types_parts ws → flat_map words_of (types is) ≡ ws → WholeType spelling (ty.Func ws)
      go [] c p w = absurd (omega arith)
      go (i ∷ []) c p w =
          let e = sym (append-nil (words_of i.type)) ∙ w in
          record { item = i; type_is = pointer_of i.type ws e g; parts_are = ap first_type p; shallow = low i e }
      go (i ∷ j ∷ is) c p w = absurd (omega arith)

  whole_type : (t : Ty) → type_fits t ≡ true → WholeType spelling t
  unfolding integer_item double_item qubit_item result_item text_item void_item base_item
  whole_type ty.Void h = record { item = void_item spelling; type_is = refl; parts_are = refl; shallow = omega arith }
  whole_type (ty.Int w) h = record { item = integer_item spelling w; type_is = refl; parts_are = refl; shallow = omega arith }
  whole_type ty.Double h = record { item = double_item spelling; type_is = refl; parts_are = refl; shallow = omega arith }
  whole_type ty.Qubit h = record { item = qubit_item spelling; type_is = refl; parts_are = refl; shallow = omega arith }
  whole_type ty.Res h = record { item = result_item spelling; type_is = refl; parts_are = refl; shallow = omega arith }
  whole_type ty.Text h = record { item = text_item spelling; type_is = refl; parts_are = refl; shallow = omega arith }
  whole_type (ty.Func ws) h =
      let p = and_parts (is_sig ws) (nat_le (deepest_words [] ws) 64 && voids_return true ws) h in
      let q = and_parts (nat_le (deepest_words [] ws) 64) (voids_return true ws) p.1 in
      whole_pointer ws p.0 (leb-true (deepest_words [] ws) 64 q.0) (types_items spelling ws 1 true (one_type ws p.0) q.1)

module _ {spelling : Token → List ℕ} where
  -- a type that an operand may have
  pub value_builds : (t : Ty) → value_type_fits t ≡ true → Builds spelling value_type (type_parts t) (λ x. x.ty ≡ t)
  unfolding value_type_at
  value_builds t h =
      let p = and_parts (not (is_void t)) (type_fits t) h in
      let w = whole_type spelling t p.1 in
      let v = w.item.as_value 64 w.shallow (ap is_void w.type_is ∙ not-true (is_void t) p.0) in
      builds_same w.parts_are (builds_weaker v (λ x y. y.type ∙ w.type_is))

  -- a type that a function may give
  pub return_builds : (t : Ty) → type_fits t ≡ true → Builds spelling return_type (type_parts t) (λ x. x.ty ≡ t)
  unfolding return_type
  return_builds t h =
      let w = whole_type spelling t h in
      builds_same w.parts_are (builds_weaker (w.item.as_return 64 w.shallow) (λ x y. y.type ∙ w.type_is))

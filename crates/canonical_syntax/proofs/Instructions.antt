-- The parts of an instruction are a sentence of the grammar, and its tree stands for the instruction.
use Rattle.std.specs.Prelude.{◌&&◌, ◌==◌, codes}
use Rattle.std.specs.List.{list_all, flat_map}
use Rattle.std.proofs.Common.{◌≡◌, ℕ, Bool, true, false, cond, Option, None, Some, List, [], ◌∷◌, ◌++◌, map, refl, sym, ap, ◌∙◌, subst, append_assoc}
use Rattle.std.proofs.lemmas.Bool.{and_parts, false≢true}
use Rattle.grammar.specs.Grammar.{has, ignored, alt, opt, as_tree}
use Rattle.ir_values.specs.Arithmetic.{allows}
use Rattle.ir_values.specs.declared.int.BinOp.{BinOp}
use Rattle.ir_values.specs.declared.int.BinOp.TheVariants as op
use Rattle.ir_values.specs.declared.int.Conv.{Conv}
use Rattle.ir_values.specs.declared.int.Conv.TheVariants as conv
use Rattle.ir_values.specs.declared.int.Flags.{Flags}
use Rattle.ir_values.specs.declared.int.Pred.{Pred}
use Rattle.ir_values.specs.declared.int.Pred.TheVariants as pred
use Rattle.ir_values.specs.declared.int.Width.{Width}
use Rattle.ir_values.specs.declared.int.Width.TheVariants.{W1}
use Rattle.ir_values.specs.declared.ty.Ty.{Ty}
use Rattle.ir_values.specs.declared.ty.Ty.TheVariants as ty
use Rattle.ir_text.specs.declared.tok.Tok.TheVariants as sort
use Rattle.ir_module.specs.Numbered.{operand_in_range, kind_allows, kind_on_integers}
use Rattle.ir_module.specs.Operands.{operands_of, callee_operand}
use Rattle.ir_module.specs.Printable.{operand_fits, type_fits, value_type_fits, typed_fits, boolean, kind_fits, result_type}
use Rattle.ir_module.specs.declared.tree.Callee.{Callee}
use Rattle.ir_module.specs.declared.tree.Callee.TheVariants as callee_is
use Rattle.ir_module.specs.declared.tree.Function.{Function}
use Rattle.ir_module.specs.declared.tree.InstKind.{InstKind}
use Rattle.ir_module.specs.declared.tree.InstKind.TheVariants as what
use Rattle.ir_module.specs.declared.tree.Module.{Module}
use Rattle.ir_module.specs.declared.tree.Operand.{Operand}
use Rattle.ir_tokens.specs.Tokens.{tokens}
use Rattle.ir_tokens.specs.code.Kinds.{code}
use Rattle.ir_tokens.specs.declared.kind.Kind.TheVariants as kind
use Rattle.ir_tokens.specs.declared.token.Token.{Token}
use Rattle.ir_grammar.specs.Forms.{one}
use Rattle.ir_grammar.specs.Operands.{integer_operand, operand}
use Rattle.ir_grammar.specs.Instructions.{binary_of, no_flags, with_flag, exact_of, wrap_flag, wrapping_words, wrapping, exact_words, exacting, flagless, operand_pair, operand_pairs, binary, predicate_of, predicate, compare, conversion_of, conversion_words, convert, typed_operand, condition, select, worded_type, argument, callee, arguments, groups, call_word, call}
use Rattle.ir_grammar.specs.Blocks.{valued}
use Rattle.ir_grammar.specs.declared.tree.ArgSyntax.{ArgSyntax}
use Rattle.ir_grammar.specs.declared.tree.InstSyntax.{InstSyntax}
use Rattle.ir_grammar.specs.declared.tree.OperandSyntax.{OperandSyntax}
use Rattle.ir_names.specs.Faults.{unknown}
use Rattle.ir_names.specs.Functions.{type_of}
use Rattle.ir_names.specs.Instructions.{arg_faults, arg_of, is_global, callee_faults, callee_of, group_faults}
use Rattle.ir_names.specs.Sense.{Sense, func_id, local_id}
use Rattle.ir_names.specs.declared.fault.Fault.{Fault}
use Rattle.ir_printer.specs.Pieces.{blank, sign, word, comma}
use Rattle.ir_printer.specs.Types.{width_part, type_parts}
use Rattle.ir_printer.specs.Operands.{operand_parts, typed_parts}
use Rattle.ir_printer.specs.Instructions.{operation_word, predicate_word, conversion_word, flag_word, operation_parts, pair_parts, choices_parts, boolean_parts, callee_part, argument_parts, arguments_parts, kind_parts}
use Rattle.canonical_text.proofs.OperandsGood.{Known}
use Rattle.read_modules.proofs.Each.{Each}
use Rattle.canonical_syntax.specs.Builds.{Builds}
use Rattle.canonical_syntax.specs.Tells.{Tells, MeansOperand, MeansKind}
use Rattle.canonical_syntax.proofs.Builds.{Stand, IsSomeOf, Grows, builds_any, builds_one, builds_gap, builds_trail, builds_dep, builds_seq, builds_alone, builds_as, builds_weaker, builds_same, builds_left, builds_right, builds_none, builds_some, builds_never, builds_commas, behind, before, between, grows_none, grows_more, builds_grow}
use Rattle.canonical_syntax.proofs.Operands.{local_use, function_use, operand_builds}
use Rattle.canonical_syntax.proofs.Types.{width_builds, value_builds, return_builds}
use Rattle.canonical_syntax.proofs.Words.{operation_kind, operation_kind_is, predicate_kind, predicate_kind_is, conversion_kind, conversion_kind_is, nuw_word, nsw_word, exact_word, icmp_word, to_word, select_word, call_word as call_is_word}

-- ---- flags

abbrev flags_of : Bool → Bool → Bool → Flags
flags_of b c e = record { nuw = b; nsw = c; exact = e }

-- the operation and its flags
abbrev IsHead : BinOp → Flags → Token × Flags → Type 0
IsHead o flags p = (binary_of p.0.kind ≡ o) × (p.1 ≡ flags)

module _ (spelling : Token → List ℕ) where
  nuw_step : Builds spelling (wrap_flag no_flags) (word (codes "nuw") ∷ blank ∷ []) (λ f. f ≡ flags_of true false false)
  unfolding wrap_flag
  nuw_step = builds_as (builds_trail (codes " ") (builds_any _ kind.Nuw sort.Word (codes "nuw") nuw_word refl)) (λ t w. ap (with_flag no_flags) w.0)

  nsw_step : (b : Bool) → Builds spelling (wrap_flag (flags_of b false false)) (word (codes "nsw") ∷ blank ∷ []) (λ f. f ≡ flags_of b true false)
  unfolding wrap_flag
  nsw_step true = builds_as (builds_trail (codes " ") (builds_any _ kind.Nsw sort.Word (codes "nsw") nsw_word refl)) (λ t w. ap (with_flag (flags_of true false false)) w.0)
  nsw_step false = builds_as (builds_trail (codes " ") (builds_any _ kind.Nsw sort.Word (codes "nsw") nsw_word refl)) (λ t w. ap (with_flag (flags_of false false false)) w.0)

  nsw_grows : (b c : Bool) → Grows spelling wrap_flag (flags_of b false false) (flag_word c (codes "nsw") ++ []) (λ f. f ≡ flags_of b c false)
  nsw_grows b false = grows_none refl
  nsw_grows b true = grows_more (nsw_step b) (λ y e. grows_none e)

  wrap_grows : (b c : Bool) → Grows spelling wrap_flag no_flags (flag_word b (codes "nuw") ++ (flag_word c (codes "nsw") ++ [])) (λ f. f ≡ flags_of b c false)
  wrap_grows false c = nsw_grows false c
  wrap_grows true c = grows_more nuw_step (λ y e. subst (λ f. Grows spelling wrap_flag f (flag_word c (codes "nsw") ++ []) (λ f. f ≡ flags_of true c false)) (sym e) (nsw_grows true c))

  abbrev Head : BinOp → Flags → Type 0
  Head o flags = Builds spelling (alt wrapping (alt exacting flagless)) (operation_parts o flags) (IsHead o flags)

  wrap_head : (o : BinOp) → has tokens wrapping_words (operation_kind o) ≡ true → binary_of (operation_kind o) ≡ o → (b c : Bool) → Head o (flags_of b c false)
  unfolding wrapping
  wrap_head o h e b c = builds_left (builds_weaker (builds_seq (builds_trail (codes " ") (builds_any wrapping_words (operation_kind o) sort.Word (operation_word o) (operation_kind_is o) h)) (builds_grow (wrap_grows b c)))
      (λ p w. (ap binary_of w.0.0 ∙ e, w.1)))

  exact_opt : (e : Bool) → Builds spelling (as_tree exact_of (opt (one kind.Exact))) (flag_word e (codes "exact")) (λ f. f ≡ flags_of false false e)
  exact_opt false = builds_as builds_none (λ o w. ap exact_of w)
  exact_opt true = builds_as {P = IsSomeOf (λ t. Unit {0})} (builds_some (builds_weaker (builds_trail (codes " ") (builds_one kind.Exact sort.Word (codes "exact") exact_word)) (λ t w. tt))) some
    where
      some : (o : Option Token) → IsSomeOf (λ t. Unit {0}) o → exact_of o ≡ flags_of false false true
      some None w = absurd w
      some (Some t) w = refl

  exact_head : (o : BinOp) → has tokens exact_words (operation_kind o) ≡ true → binary_of (operation_kind o) ≡ o → (e : Bool) → Head o (flags_of false false e)
  unfolding exacting
  exact_head o h i e = builds_right (builds_left (builds_weaker (builds_seq (builds_trail (codes " ") (builds_any exact_words (operation_kind o) sort.Word (operation_word o) (operation_kind_is o) h)) (exact_opt e))
      (λ p w. (ap binary_of w.0.0 ∙ i, w.1))))

  plain_head : (o : BinOp) → has tokens (kind.URem ∷ kind.SRem ∷ kind.And ∷ kind.Or ∷ kind.Xor ∷ []) (operation_kind o) ≡ true → binary_of (operation_kind o) ≡ o → Head o (flags_of false false false)
  unfolding flagless
  plain_head o h i = builds_right (builds_right (builds_as (builds_trail (codes " ") (builds_any _ (operation_kind o) sort.Word (operation_word o) (operation_kind_is o) h)) (λ t w. (ap binary_of w.0 ∙ i, refl))))

  head_builds : (o : BinOp) (b c e : Bool) → allows o (flags_of b c e) ≡ true → Head o (flags_of b c e)
  head_builds op.Add b c false h = wrap_head op.Add refl refl b c
  head_builds op.Add b c true h = absurd (false≢true h)
  head_builds op.Sub b c false h = wrap_head op.Sub refl refl b c
  head_builds op.Sub b c true h = absurd (false≢true h)
  head_builds op.Mul b c false h = wrap_head op.Mul refl refl b c
  head_builds op.Mul b c true h = absurd (false≢true h)
  head_builds op.UDiv false false e h = exact_head op.UDiv refl refl e
  head_builds op.UDiv false true e h = absurd (false≢true h)
  head_builds op.UDiv true c e h = absurd (false≢true h)
  head_builds op.SDiv false false e h = exact_head op.SDiv refl refl e
  head_builds op.SDiv false true e h = absurd (false≢true h)
  head_builds op.SDiv true c e h = absurd (false≢true h)
  head_builds op.URem false false false h = plain_head op.URem refl refl
  head_builds op.URem false false true h = absurd (false≢true h)
  head_builds op.URem false true e h = absurd (false≢true h)
  head_builds op.URem true c e h = absurd (false≢true h)
  head_builds op.SRem false false false h = plain_head op.SRem refl refl
  head_builds op.SRem false false true h = absurd (false≢true h)
  head_builds op.SRem false true e h = absurd (false≢true h)
  head_builds op.SRem true c e h = absurd (false≢true h)
  head_builds op.Shl b c false h = wrap_head op.Shl refl refl b c
  head_builds op.Shl b c true h = absurd (false≢true h)
  head_builds op.LShr false false e h = exact_head op.LShr refl refl e
  head_builds op.LShr false true e h = absurd (false≢true h)
  head_builds op.LShr true c e h = absurd (false≢true h)
  head_builds op.AShr false false e h = exact_head op.AShr refl refl e
  head_builds op.AShr false true e h = absurd (false≢true h)
  head_builds op.AShr true c e h = absurd (false≢true h)
  head_builds op.And false false false h = plain_head op.And refl refl
  head_builds op.And false false true h = absurd (false≢true h)
  head_builds op.And false true e h = absurd (false≢true h)
  head_builds op.And true c e h = absurd (false≢true h)
  head_builds op.Or false false false h = plain_head op.Or refl refl
  head_builds op.Or false false true h = absurd (false≢true h)
  head_builds op.Or false true e h = absurd (false≢true h)
  head_builds op.Or true c e h = absurd (false≢true h)
  head_builds op.Xor false false false h = plain_head op.Xor refl refl
  head_builds op.Xor false false true h = absurd (false≢true h)
  head_builds op.Xor false true e h = absurd (false≢true h)
  head_builds op.Xor true c e h = absurd (false≢true h)

-- ---- instructions

pub none_both : {xs ys : List Fault} → xs ≡ [] → ys ≡ [] → xs ++ ys ≡ []
none_both {ys = ys} e d = ap (λ l. l ++ ys) e ∙ d

-- lists of syntax stand for their items
pub stand_means : {A X : Type 0} (R : X → A → Type 0) (faults : A → List Fault) (stands_for : A → X) → ((x : X) (y : A) → R x y → (faults y ≡ []) × (stands_for y ≡ x)) → (xs : List X) (ys : List A) → Stand R xs ys → (flat_map faults ys ≡ []) × (map stands_for ys ≡ xs)
stand_means R faults stands_for f [] [] h = (refl, refl)
stand_means R faults stands_for f [] (y ∷ ys) h = absurd h
stand_means R faults stands_for f (x ∷ xs) [] h = absurd h
stand_means R faults stands_for f (x ∷ xs) (y ∷ ys) h =
    let l = f x y h.0 in
    let w = stand_means R faults stands_for f xs ys h.1 in
    (none_both l.0 w.0, ap (λ z. z ∷ map stands_for ys) l.1 ∙ ap (λ zs. x ∷ zs) w.1)

same_binary : {o o' : BinOp} {g g' : Flags} {t t' : Ty} {a a' b b' : Operand} → o ≡ o' → g ≡ g' → t ≡ t' → a ≡ a' → b ≡ b' → what.Binary o g t a b ≡ what.Binary o' g' t' a' b'
same_binary e f g h i = cc

same_icmp : {o o' : Pred} {t t' : Ty} {a a' b b' : Operand} → o ≡ o' → t ≡ t' → a ≡ a' → b ≡ b' → what.Icmp o t a b ≡ what.Icmp o' t' a' b'
same_icmp e f g h = cc

same_convert : {o o' : Conv} {t t' u u' : Ty} {a a' : Operand} → o ≡ o' → t ≡ t' → a ≡ a' → u ≡ u' → what.Convert o t a u ≡ what.Convert o' t' a' u'
same_convert e f g h = cc

same_select : {c c' a a' b b' : Operand} {t t' u u' : Ty} → c ≡ c' → t ≡ t' → a ≡ a' → u ≡ u' → b ≡ b' → what.Select c t a u b ≡ what.Select c' t' a' u' b'
same_select e f g h i = cc

same_call : {t t' : Ty} {g g' : Callee} {xs xs' : List (Ty × Operand)} → t ≡ t' → g ≡ g' → xs ≡ xs' → what.Call t g xs ≡ what.Call t' g' xs'
same_call e f g = cc

module _ {spelling : Token → List ℕ} where
  pub worded_builds : (t : Ty) → value_type_fits t ≡ true → Builds spelling worded_type (type_parts t) (λ x. x.ty ≡ t)
  unfolding worded_type ignored
  worded_builds t h = builds_as (builds_alone (value_builds t h) (builds_as {Q = λ u. Unit {0}} builds_never (λ x w. tt))) (λ p w. w.0)

-- the syntax stands for the instruction, and gives what it gives
pub record IsInst (spelling : Token → List ℕ) (m : Module) (f : Function) (i : InstKind) (x : InstSyntax) : Type 0 where
  pub means : MeansKind spelling m f i x
  pub type : type_of x ≡ result_type i

-- what is known of an instruction
pub record FitKind (m : Module) (f : Function) (i : InstKind) : Type 0 where
  pub fits : kind_fits i ≡ true
  pub in_range : list_all (operand_in_range m f) (operands_of i) ≡ true
  pub flags : kind_allows i ≡ true
  pub integers : kind_on_integers i ≡ true

module _ (spelling : Token → List ℕ) (m : Module) (f : Function) (k : Known m f) where
  abbrev Means : Operand → OperandSyntax → Type 0
  Means a x = MeansOperand spelling m f a x

  pub integer_use : (w : Width) (a : Operand) → operand_fits (ty.Int w) a ≡ true → operand_in_range m f a ≡ true → Builds spelling (integer_operand w) (operand_parts m f (ty.Int w) a) (Means a)
  unfolding operand
  integer_use w a h d = operand_builds spelling m f k (ty.Int w) a h d

  pub typed_use : (t : Ty) (a : Operand) → typed_fits (t, a) ≡ true → operand_in_range m f a ≡ true → Builds spelling typed_operand (typed_parts m f t a) (λ p. (p.0.ty ≡ t) × Means a p.1)
  unfolding typed_operand
  typed_use t a h d =
      let p = and_parts (value_type_fits t) (operand_fits t a) h in
      builds_dep (value_builds t p.0) (λ x e. subst (λ u. Builds spelling (operand u) (blank ∷ operand_parts m f t a) (Means a)) (sym e) (builds_gap (codes " ") (operand_builds spelling m f k t a p.1 d)))

  abbrev IsPair : Width → Operand → Operand → Width × (OperandSyntax × OperandSyntax) → Type 0
  IsPair w a b p = (p.0 ≡ w) × (Means a p.1.0 × Means b p.1.1)

  pairs_build : (w : Width) (a b : Operand) → operand_fits (ty.Int w) a ≡ true → operand_in_range m f a ≡ true → operand_fits (ty.Int w) b ≡ true → operand_in_range m f b ≡ true → Builds spelling operand_pairs (pair_parts m f (ty.Int w) a b) (IsPair w a b)
  unfolding operand_pairs operand_pair
  pairs_build w a b h d i e = builds_dep (width_builds w)
      (λ v q. subst (λ v. Builds spelling (operand_pair v) (blank ∷ (operand_parts m f (ty.Int w) a ++ (comma ++ operand_parts m f (ty.Int w) b))) (λ p. Means a p.0 × Means b p.1)) (sym q)
      (builds_gap (codes " ") (between kind.Comma sort.Sign (codes ",") refl (integer_use w a h d) (builds_gap (codes " ") (integer_use w b i e)))))

  abbrev Kind : InstKind → InstSyntax → Type 0
  Kind i x = IsInst spelling m f i x

  binary_builds : (o : BinOp) (g : Flags) (w : Width) (a b : Operand) → allows o g ≡ true → Builds spelling operand_pairs (pair_parts m f (ty.Int w) a b) (IsPair w a b) → Builds spelling binary (kind_parts m f (what.Binary o g (ty.Int w) a b)) (Kind (what.Binary o g (ty.Int w) a b))
  unfolding binary
  binary_builds o g w a b h p = builds_as (builds_seq (head_builds spelling o g.nuw g.nsw g.exact h) p)
      (λ q v. record {
        means = λ s r. let l = v.1.1.0 s r in let j = v.1.1.1 s r in (none_both l.0 j.0, same_binary v.0.0 v.0.1 (ap ty.Int v.1.0) l.1 j.1);
        type = ap ty.Int v.1.0;
      })

  compare_builds : (o : Pred) (w : Width) (a b : Operand) → Builds spelling operand_pairs (pair_parts m f (ty.Int w) a b) (IsPair w a b) → Builds spelling compare (kind_parts m f (what.Icmp o (ty.Int w) a b)) (Kind (what.Icmp o (ty.Int w) a b))
  unfolding compare predicate
  compare_builds o w a b p = builds_as (behind kind.Icmp sort.Word (codes "icmp") icmp_word (builds_gap (codes " ")
      (builds_seq (builds_as {Q = λ q. q ≡ o} (builds_trail (codes " ") (builds_any _ (predicate_kind o) sort.Word (predicate_word o) (predicate_kind_is o) (predicate_in o))) (λ t v. ap predicate_of v.0 ∙ predicate_again o)) p)))
      (λ q v. record {
        means = λ s r. let l = v.1.1.0 s r in let j = v.1.1.1 s r in (none_both l.0 j.0, same_icmp v.0 (ap ty.Int v.1.0) l.1 j.1);
        type = refl;
      })
    where
      predicate_in : (o : Pred) → has tokens (kind.Eq ∷ kind.Ne ∷ kind.Ugt ∷ kind.Uge ∷ kind.Ult ∷ kind.Ule ∷ kind.Sgt ∷ kind.Sge ∷ kind.Slt ∷ kind.Sle ∷ []) (predicate_kind o) ≡ true
      predicate_in pred.Eq = refl
      predicate_in pred.Ne = refl
      predicate_in pred.Ugt = refl
      predicate_in pred.Uge = refl
      predicate_in pred.Ult = refl
      predicate_in pred.Ule = refl
      predicate_in pred.Sgt = refl
      predicate_in pred.Sge = refl
      predicate_in pred.Slt = refl
      predicate_in pred.Sle = refl

      predicate_again : (o : Pred) → predicate_of (predicate_kind o) ≡ o
      predicate_again pred.Eq = refl
      predicate_again pred.Ne = refl
      predicate_again pred.Ugt = refl
      predicate_again pred.Uge = refl
      predicate_again pred.Ult = refl
      predicate_again pred.Ule = refl
      predicate_again pred.Sgt = refl
      predicate_again pred.Sge = refl
      predicate_again pred.Slt = refl
      predicate_again pred.Sle = refl

  convert_builds : (c : Conv) (w : Width) (a : Operand) (v : Width) → operand_fits (ty.Int w) a ≡ true → operand_in_range m f a ≡ true → Builds spelling convert (kind_parts m f (what.Convert c (ty.Int w) a (ty.Int v))) (Kind (what.Convert c (ty.Int w) a (ty.Int v)))
  unfolding convert
  convert_builds c w a v h d =
      let typed = builds_dep {Q = λ u x. Means a x} (width_builds w) (λ u e. subst (λ u. Builds spelling (integer_operand u) (blank ∷ operand_parts m f (ty.Int w) a) (Means a)) (sym e) (builds_gap (codes " ") (integer_use w a h d))) in
      builds_as (builds_seq (builds_trail (codes " ") (builds_any conversion_words (conversion_kind c) sort.Word (conversion_word c) (conversion_kind_is c) (conversion_in c)))
      (builds_same (append_assoc (typed_parts m f (ty.Int w) a) (blank ∷ []) (word (codes "to") ∷ blank ∷ width_part v ∷ []))
      (between kind.To sort.Word (codes "to") to_word (builds_trail (codes " ") typed) (builds_gap (codes " ") (width_builds v)))))
      (λ q u. record {
        means = λ s r. let l = u.1.0.1 s r in (l.0, same_convert (ap conversion_of u.0.0 ∙ conversion_again c) (ap ty.Int u.1.0.0) l.1 (ap ty.Int u.1.1));
        type = ap ty.Int u.1.1;
      })
    where
      conversion_in : (c : Conv) → has tokens conversion_words (conversion_kind c) ≡ true
      conversion_in conv.ZExt = refl
      conversion_in conv.SExt = refl
      conversion_in conv.Trunc = refl

      conversion_again : (c : Conv) → conversion_of (conversion_kind c) ≡ c
      conversion_again conv.ZExt = refl
      conversion_again conv.SExt = refl
      conversion_again conv.Trunc = refl

  -- 'i1 c,'
  pub condition_builds : (c : Operand) → operand_fits boolean c ≡ true → operand_in_range m f c ≡ true → Builds spelling condition (boolean_parts m f c ++ sign (codes ",") ∷ []) (Means c)
  unfolding condition
  condition_builds c h d = behind kind.I1 sort.Word (codes "i1") refl (builds_gap (codes " ") (before kind.Comma sort.Sign (codes ",") refl (integer_use W1 c h d)))

  select_builds : (c : Operand) (t : Ty) (a : Operand) (u : Ty) (b : Operand) → operand_fits boolean c ≡ true → operand_in_range m f c ≡ true → typed_fits (t, a) ≡ true → operand_in_range m f a ≡ true → typed_fits (u, b) ≡ true → operand_in_range m f b ≡ true
      → Builds spelling select (kind_parts m f (what.Select c t a u b)) (Kind (what.Select c t a u b))
  unfolding select
  select_builds c t a u b h d i e j g =
      builds_as (behind kind.Select sort.Word (codes "select") select_word (builds_gap (codes " ")
      (builds_same (append_assoc (boolean_parts m f c) (sign (codes ",") ∷ []) (blank ∷ choices_parts m f t a u b))
      (builds_seq (condition_builds c h d) (builds_gap (codes " ") (between kind.Comma sort.Sign (codes ",") refl (typed_use t a i e) (builds_gap (codes " ") (typed_use u b j g))))))))
      (λ q v. record {
        means = λ s r. let x = v.0 s r in let y = v.1.0.1 s r in let z = v.1.1.1 s r in (none_both x.0 (none_both y.0 z.0), same_select x.1 v.1.0.0 y.1 v.1.1.0 z.1);
        type = v.1.0.0;
      })

  -- ---- calls

  abbrev IsArg : Ty × Operand → ArgSyntax → Type 0
  IsArg a x = (s : Sense) → Tells spelling m f s → (arg_faults s x ≡ []) × (arg_of s x ≡ a)

  same_arg : {t t' : Ty} {a a' : Operand} → t ≡ t' → a ≡ a' → ◌≡◌ {A = Ty × Operand} (t, a) (t', a')
  same_arg e d = cc

  argument_builds : (a : Ty × Operand) → typed_fits a ≡ true → operand_in_range m f a.1 ≡ true → Builds spelling argument (argument_parts m f a) (IsArg a)
  unfolding argument
  argument_builds a h d =
      let p = and_parts (value_type_fits a.0) (operand_fits a.0 a.1) h in
      builds_as (builds_dep {Q = λ x y. Means a.1 y} (worded_builds a.0 p.0) (λ x e. subst (λ u. Builds spelling (operand u) (blank ∷ operand_parts m f a.0 a.1) (Means a.1)) (sym e) (builds_gap (codes " ") (operand_builds spelling m f k a.0 a.1 p.1 d))))
      (λ q w s r. let l = w.1 s r in (l.0, same_arg w.0 l.1))

  each_argument : (args : List (Ty × Operand)) → list_all typed_fits args ≡ true → list_all (operand_in_range m f) (map (λ a. a.1) args) ≡ true → Each (λ a. Builds spelling argument (argument_parts m f a) (IsArg a)) args
  each_argument [] h d = tt
  each_argument (a ∷ args) h d =
      let p = and_parts (typed_fits a) (list_all typed_fits args) h in
      let q = and_parts (operand_in_range m f a.1) (list_all (operand_in_range m f) (map (λ a. a.1) args)) d in
      (argument_builds a p.0 q.0, each_argument args p.1 q.1)

  arguments_build : (args : List (Ty × Operand)) → list_all typed_fits args ≡ true → list_all (operand_in_range m f) (map (λ a. a.1) args) ≡ true → Builds spelling arguments (arguments_parts m f args) (Stand IsArg args)
  unfolding arguments
  arguments_build args h d = behind kind.Open sort.Sign (codes "(") refl (before kind.Close sort.Sign (codes ")") refl (builds_commas argument (argument_parts m f) IsArg args (each_argument args h d)))

  abbrev IsCallee : Callee → Token → Type 0
  IsCallee g t = (s : Sense) → Tells spelling m f s → (callee_faults s t ≡ []) × (callee_of s t ≡ g)

  callee_builds : (g : Callee) → operand_in_range m f (callee_operand g) ≡ true → Builds spelling callee (callee_part m f g ∷ []) (IsCallee g)
  unfolding callee
  callee_builds (callee_is.Func g) d = builds_left (builds_weaker (function_use spelling m f k g d) (λ t w s r.
      let e = w.1 s r in
      let b : is_global t ≡ true = ap (λ k. code k == code kind.Global) w.0 in (
        ap (λ b. cond b (unknown t (s.function (s.name t))) (unknown t (s.value (s.name t)))) b ∙ ap (unknown t) e,
        ap (λ b. cond b (callee_is.Func (func_id (s.function (s.name t)))) (callee_is.Local (local_id (s.value (s.name t))))) b ∙ ap (λ o. callee_is.Func (func_id o)) e,
      )))
  callee_builds (callee_is.Local x) d = builds_right (builds_weaker (local_use spelling m f k x d) (λ t w s r.
      let e = w.1 s r in (
        ap (λ b. cond b (unknown t (s.function (s.name t))) (unknown t (s.value (s.name t)))) w.0 ∙ ap (unknown t) e,
        ap (λ b. cond b (callee_is.Func (func_id (s.function (s.name t)))) (callee_is.Local (local_id (s.value (s.name t))))) w.0 ∙ ap (λ o. callee_is.Local (local_id o)) e,
      )))

  pub call_builds : (ret : Ty) (g : Callee) (args : List (Ty × Operand)) → FitKind m f (what.Call ret g args) → Builds spelling call (kind_parts m f (what.Call ret g args)) (λ p. Kind (what.Call ret g args) p.1)
  unfolding call call_word groups
  call_builds ret g args h =
      let p = and_parts (type_fits ret) (list_all typed_fits args) h.fits in
      let q = and_parts (operand_in_range m f (callee_operand g)) (list_all (operand_in_range m f) (map (λ a. a.1) args)) h.in_range in
      builds_as (builds_seq (builds_left (builds_one kind.Call sort.Word (codes "call") call_is_word))
      (builds_gap (codes " ") (builds_same (sym (append_assoc (type_parts ret) (blank ∷ callee_part m f g ∷ []) (arguments_parts m f args)))
      (builds_seq (return_builds ret p.0) (builds_gap (codes " ") (builds_seq (callee_builds g q.0) (builds_alone (arguments_build args p.1 q.1) builds_never)))))))
      (λ t w. record {
        means = λ s r.
            let c = w.1.1.0 s r in
            let a = stand_means IsArg (arg_faults s) (arg_of s) (λ x y v. v s r) args t.1.1.1.0 w.1.1.1.0 in
            (none_both c.0 (none_both a.0 (ap (flat_map (group_faults s)) w.1.1.1.1)), same_call w.1.0 c.1 a.1);
        type = w.1.0;
      })

  -- ---- whatever may define a name

  pub kind_builds : (i : InstKind) → FitKind m f i → Builds spelling valued (kind_parts m f i) (Kind i)
  unfolding valued
  kind_builds (what.Binary o g (ty.Int w) a b) h =
      let p = and_parts (typed_fits (ty.Int w, a)) (operand_fits (ty.Int w) b) h.fits in
      let q = and_parts (value_type_fits (ty.Int w)) (operand_fits (ty.Int w) a) p.0 in
      let r = and_parts (operand_in_range m f a) (operand_in_range m f b && true) h.in_range in
      builds_left (binary_builds o g w a b h.flags (pairs_build w a b q.1 r.0 p.1 (and_parts (operand_in_range m f b) true r.1).0))
  kind_builds (what.Binary o g t a b) h = absurd (false≢true h.integers)
  kind_builds (what.Icmp o (ty.Int w) a b) h =
      let p = and_parts (typed_fits (ty.Int w, a)) (operand_fits (ty.Int w) b) h.fits in
      let q = and_parts (value_type_fits (ty.Int w)) (operand_fits (ty.Int w) a) p.0 in
      let r = and_parts (operand_in_range m f a) (operand_in_range m f b && true) h.in_range in
      builds_right (builds_left (compare_builds o w a b (pairs_build w a b q.1 r.0 p.1 (and_parts (operand_in_range m f b) true r.1).0)))
  kind_builds (what.Icmp o t a b) h = absurd (false≢true h.integers)
  kind_builds (what.Convert c (ty.Int w) a (ty.Int v)) h =
      let p = and_parts (typed_fits (ty.Int w, a)) (value_type_fits (ty.Int v)) h.fits in
      let q = and_parts (value_type_fits (ty.Int w)) (operand_fits (ty.Int w) a) p.0 in
      builds_right (builds_right (builds_left (convert_builds c w a v q.1 (and_parts (operand_in_range m f a) true h.in_range).0)))
  kind_builds (what.Convert c t a u) h = absurd (false≢true h.integers)
  kind_builds (what.Select c t a u b) h =
      let p = and_parts (operand_fits boolean c) (typed_fits (t, a) && typed_fits (u, b)) h.fits in
      let q = and_parts (typed_fits (t, a)) (typed_fits (u, b)) p.1 in
      let r = and_parts (operand_in_range m f c) (operand_in_range m f a && (operand_in_range m f b && true)) h.in_range in
      let l = and_parts (operand_in_range m f a) (operand_in_range m f b && true) r.1 in
      builds_right (builds_right (builds_right (builds_left (select_builds c t a u b p.0 r.0 q.0 l.0 q.1 (and_parts (operand_in_range m f b) true l.1).0))))
  kind_builds (what.Call ret g args) h = builds_right (builds_right (builds_right (builds_right (builds_as (call_builds ret g args h) (λ p w. w)))))

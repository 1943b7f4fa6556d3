-- The parts of an operand are a sentence of the grammar, and its tree stands for the operand.
use Rattle.std.specs.Prelude.{◌&&◌, ◌==◌, nat_lt, codes, slice_get}
use Rattle.std.specs.List.{list_all}
use Rattle.std.proofs.Common.{◌≡◌, ℕ, zero, suc, ◌^◌, ◌<◌, Bool, true, false, cond, not, Option, None, Some, List, [], ◌∷◌, ◌++◌, length, refl, sym, ap, ◌∙◌, subst, arith}
use Rattle.std.proofs.lemmas.Bool.{and_parts, cond_both, eqb-true, eq-eqb, ltb-true, false≢true}
use Rattle.grammar.specs.Grammar.{Grammar, alt, as_tree}
use Rattle.ir_values.specs.Double.{is_double}
use Rattle.ir_values.specs.Int.{IntValue}
use Rattle.ir_values.specs.Width.{bits_of}
use Rattle.ir_values.specs.declared.ids.FuncId.{FuncId}
use Rattle.ir_values.specs.declared.ids.GlobalId.{GlobalId}
use Rattle.ir_values.specs.declared.ids.LocalId.{LocalId}
use Rattle.ir_values.specs.declared.ids.BlockId.{BlockId}
use Rattle.ir_values.specs.declared.int.Width.{Width}
use Rattle.ir_values.specs.declared.int.Width.TheVariants.{W1, W8, W16, W32, W64}
use Rattle.ir_values.specs.declared.name.Name.{Name}
use Rattle.ir_values.specs.declared.ty.Ty.{Ty}
use Rattle.ir_values.specs.declared.ty.Ty.TheVariants as ty
use Rattle.ir_values.specs.declared.value.Value.{Value}
use Rattle.ir_values.specs.declared.value.Value.TheVariants as value
use Rattle.ir_text.specs.declared.tok.Tok.TheVariants as sort
use Rattle.ir_module.specs.Numbered.{are_few, operand_in_range, local_in_range}
use Rattle.ir_module.specs.Printable.{name_fits, int_fits, constant_fits, operand_fits, constant_text_fits, are_bytes}
use Rattle.ir_module.specs.Tree.{blocks_at, blocks_of, blocks_or_none}
use Rattle.ir_module.specs.declared.tree.Block.{Block}
use Rattle.ir_module.specs.declared.tree.Constant.{Constant}
use Rattle.ir_module.specs.declared.tree.Function.{Function}
use Rattle.ir_module.specs.declared.tree.Module.{Module}
use Rattle.ir_module.specs.declared.tree.Operand.{Operand}
use Rattle.ir_module.specs.declared.tree.Operand.TheVariants as operand_is
use Rattle.ir_tokens.specs.Classified.{kind_of}
use Rattle.ir_tokens.specs.Tokens.{tokens}
use Rattle.ir_tokens.specs.declared.kind.Kind.{Kind}
use Rattle.ir_tokens.specs.declared.kind.Kind.TheVariants as kind
use Rattle.ir_tokens.specs.declared.token.Token.{Token}
use Rattle.ir_grammar.specs.Forms.{one}
use Rattle.ir_grammar.specs.Words.{local, global}
use Rattle.ir_grammar.specs.Operands.{or_local, truth_of, truth, constant, integer_operand, double_operand, numbered_handle, handle_operand, zero_index, array_type, same_array, array_types, indexed, label_operand, text_operand, function_operand, operand}
use Rattle.ir_grammar.specs.declared.tree.OperandSyntax.{OperandSyntax}
use Rattle.ir_grammar.specs.declared.tree.OperandSyntax.TheVariants as syntax
use Rattle.ir_names.specs.Faults.{unknown, fault_if}
use Rattle.ir_names.specs.declared.fault.NameCode.TheVariants.{StringLength}
use Rattle.ir_names.specs.Instructions.{is_global}
use Rattle.ir_names.specs.Operands.{is_size, label_faults, operand_faults, double_of, operand_of}
use Rattle.ir_names.specs.Sense.{Sense, global_id, func_id, local_id}
use Rattle.ir_parts.specs.Parts.{token}
use Rattle.ir_printer.specs.Pieces.{blank, sign, word, comma}
use Rattle.ir_printer.specs.Operands.{local_token, global_token, name_of_local, name_of_function, name_of_block, local_part, function_part, block_part, bit_part, int_of_width, int_part, address_parts, handle_parts, array_parts, index_parts, label_parts, label_of, value_parts, operand_parts}
use Rattle.canonical_text.proofs.Facts.{At, all_at}
use Rattle.canonical_text.proofs.OperandsGood.{Known, few_bytes}
use Rattle.canonical_syntax.specs.Builds.{Builds}
use Rattle.canonical_syntax.specs.Tells.{name_by, Tells, MeansOperand}
use Rattle.canonical_syntax.proofs.Builds.{builds_any, builds_one, builds_gap, builds_trail, builds_dep, builds_seq, builds_as, builds_weaker, builds_same, builds_left, builds_right, behind, before}
use Rattle.canonical_syntax.proofs.Tokens.{local_builds, global_builds, integer_builds, nat_builds, again_builds, zero_builds}
use Rattle.canonical_syntax.proofs.Words.{null_word, to_word, inttoptr_word, getelementptr_word, inbounds_word, x_word, true_word, false_word}

-- ---- what stands at an index

pub found : {A : Type 0} (xs : List A) (i : ℕ) → i < length xs → (x : A) × (slice_get xs i ≡ Some x)
found [] i h = absurd (omega arith)
found (x ∷ xs) zero h = (x, refl)
found (x ∷ xs) (suc i) h = found xs i (omega arith)

pub found_all : {A : Type 0} (p : A → Bool) (xs : List A) (i : ℕ) (x : A) → list_all p xs ≡ true → slice_get xs i ≡ Some x → p x ≡ true
found_all p xs i x h e = subst (At p) e (all_at p xs i h)

-- ---- integers

abbrev width_from : ℕ → Width
width_from n = cond (n == 1) W1 (cond (n == 8) W8 (cond (n == 16) W16 (cond (n == 32) W32 W64)))

width_again : (w : Width) → width_from (bits_of w) ≡ w
width_again W1 = refl
width_again W8 = refl
width_again W16 = refl
width_again W32 = refl
width_again W64 = refl

pub width_is : (v w : Width) → (bits_of v == bits_of w) ≡ true → v ≡ w
width_is v w e = sym (width_again v) ∙ (ap width_from (eqb-true (bits_of v) (bits_of w) e) ∙ width_again w)

module _ {spelling : Token → List ℕ} where
  pub bit_builds : (n : ℕ) → n < 2 → Builds spelling truth (bit_part n ∷ []) (λ j. j ≡ record { width = W1; bits = n })
  unfolding truth
  bit_builds n h = cond_both (n == 0) (word (codes "false")) (word (codes "true")) (λ p. Builds spelling truth (p ∷ []) (λ j. j ≡ record { width = W1; bits = n }))
      (λ e. let i : 0 ≡ n = sym (eqb-true n 0 e) in builds_as (builds_any _ kind.False sort.Word (codes "false") false_word refl) (λ t w. ap truth_of w.0 ∙ ap (λ b. record { width = W1; bits = b }) i))
      (λ e. let i : 1 ≡ n = one n h e in builds_as (builds_any _ kind.True sort.Word (codes "true") true_word refl) (λ t w. ap truth_of w.0 ∙ ap (λ b. record { width = W1; bits = b }) i))
    where
      one : (n : ℕ) → n < 2 → (n == 0) ≡ false → 1 ≡ n
      one zero h e = absurd (false≢true (sym e))
      one (suc n) h e = omega arith

  width_constant : (w : Width) (b : ℕ) → b < 2 ^ bits_of w → Builds spelling (constant w) (int_of_width w (record { width = w; bits = b }) ∷ []) (λ j. j ≡ record { width = w; bits = b })
  unfolding constant
  width_constant W1 b h = builds_left (bit_builds b h)
  width_constant W8 b h = integer_builds W8 b h
  width_constant W16 b h = integer_builds W16 b h
  width_constant W32 b h = integer_builds W32 b h
  width_constant W64 b h = integer_builds W64 b h

  -- an integer of a width
  pub constant_builds : (w : Width) (i : IntValue) → int_fits w i ≡ true → Builds spelling (constant w) (int_part i ∷ []) (λ j. j ≡ i)
  constant_builds w i h =
      let p = and_parts (bits_of i.width == bits_of w) (nat_lt i.bits (2 ^ bits_of w)) h in
      let e = width_is i.width w p.0 in
      let l : i.bits < 2 ^ bits_of w = ltb-true i.bits (2 ^ bits_of w) p.1 in
      subst (λ v. Builds spelling (constant v) (int_part i ∷ []) (λ j. j ≡ i)) e (width_constant i.width i.bits (subst (λ v. i.bits < 2 ^ bits_of v) (sym e) l))

  -- '[3 x i8]'
  pub array_builds : (n : ℕ) → n < 2 ^ 128 → Builds spelling array_type (array_parts n) (λ j. j ≡ n)
  unfolding array_type
  array_builds n h = behind kind.OpenSquare sort.Sign (codes "[") refl (before kind.CloseSquare sort.Sign (codes "]") refl (before kind.I8 sort.Word (codes "i8") refl (builds_trail (codes " ")
      (before kind.X sort.Word (codes "x") x_word (builds_trail (codes " ") (nat_builds n h))))))

-- ---- names of the module and the function

-- the token has the name of this local
abbrev pub IsLocal : (Token → List ℕ) → Function → LocalId → Token → Type 0
IsLocal spelling f x t = (l : Name × Ty) × (slice_get f.locals x.0 ≡ Some l) × (name_by spelling t ≡ l.0)

block_is : (o : Option (List Block)) (b : BlockId) (x : Block) → slice_get (blocks_or_none o) b.0 ≡ Some x → blocks_at o b ≡ Some x
block_is None b x e = e
block_is (Some bs) b x e = e

module _ (spelling : Token → List ℕ) (m : Module) (f : Function) (k : Known m f) where
  pub local_use : (x : LocalId) → local_in_range f x ≡ true → Builds spelling local (local_part f x ∷ []) (λ t. (is_global t ≡ false) × ((s : Sense) → Tells spelling m f s → s.value (s.name t) ≡ Some x.0))
  local_use x h =
      let l = found f.locals x.0 (ltb-true x.0 (length f.locals) h) in
      builds_same (ap (λ o. local_token (name_of_local o) ∷ []) (sym l.1))
      (builds_weaker (local_builds l.0.0 (found_all (λ l. name_fits l.0) f.locals x.0 l.0 k.locals l.1))
      (λ t e. (e.0, λ s r. ap s.value (ap (λ g. g t) r.name ∙ e.1) ∙ (r.values x.0 l.0 l.1).0)))

  -- a local name that is defined
  pub local_named : (x : LocalId) → local_in_range f x ≡ true → Builds spelling local (local_part f x ∷ []) (IsLocal spelling f x)
  local_named x h =
      let l = found f.locals x.0 (ltb-true x.0 (length f.locals) h) in
      builds_same (ap (λ o. local_token (name_of_local o) ∷ []) (sym l.1))
      (builds_weaker (local_builds l.0.0 (found_all (λ l. name_fits l.0) f.locals x.0 l.0 k.locals l.1)) (λ t e. (l.0, l.1, e.1)))

  pub function_use : (g : FuncId) → nat_lt g.0 (length m.funcs) ≡ true → Builds spelling global (function_part m g ∷ []) (λ t. (t.kind ≡ kind.Global) × ((s : Sense) → Tells spelling m f s → s.function (s.name t) ≡ Some g.0))
  function_use g h =
      let l = found m.funcs g.0 (ltb-true g.0 (length m.funcs) h) in
      builds_same (ap (λ o. global_token (name_of_function o) ∷ []) (sym l.1))
      (builds_weaker (global_builds l.0.name (found_all (λ g. name_fits g.name) m.funcs g.0 l.0 k.functions l.1))
      (λ t e. (e.0, λ s r. ap s.function (ap (λ g. g t) r.name ∙ e.1) ∙ r.functions g.0 l.0 l.1)))

  pub block_use : (b : BlockId) → nat_lt b.0 (length (blocks_of f)) ≡ true → Builds spelling local (block_part f b ∷ []) (λ t. (s : Sense) → Tells spelling m f s → s.label (s.name t) ≡ Some b.0)
  block_use b h =
      let l = found (blocks_of f) b.0 (ltb-true b.0 (length (blocks_of f)) h) in
      builds_same (ap (λ o. local_token (name_of_block o) ∷ []) (sym (block_is f.blocks b l.0 l.1)))
      (builds_weaker (local_builds l.0.name (found_all (λ b. name_fits b.name) (blocks_of f) b.0 l.0 k.blocks l.1))
      (λ t e s r. ap s.label (ap (λ g. g t) r.name ∙ e.1) ∙ (r.labels b.0 l.0 l.1).0))

  -- ---- operands

  abbrev Means : Operand → OperandSyntax → Type 0
  Means a x = MeansOperand spelling m f a x

  or_local_builds : (a : Grammar tokens OperandSyntax) (x : LocalId) → local_in_range f x ≡ true → Builds spelling (or_local a) (local_part f x ∷ []) (Means (operand_is.Local x))
  or_local_builds a x h = builds_left (builds_as (local_use x h) (λ t e s r. (ap (unknown t) (e.1 s r), ap (λ o. operand_is.Local (local_id o)) (e.1 s r))))

  local_operand : (t : Ty) (x : LocalId) → local_in_range f x ≡ true → Builds spelling (operand t) (local_part f x ∷ []) (Means (operand_is.Local x))
  unfolding operand integer_operand double_operand handle_operand text_operand function_operand
  local_operand ty.Void x h = builds_as (local_use x h) (λ t e s r. (ap (unknown t) (e.1 s r), ap (λ o. operand_is.Local (local_id o)) (e.1 s r)))
  local_operand (ty.Int w) x h = or_local_builds _ x h
  local_operand ty.Double x h = or_local_builds _ x h
  local_operand ty.Qubit x h = or_local_builds _ x h
  local_operand ty.Res x h = or_local_builds _ x h
  local_operand ty.Text x h = or_local_builds _ x h
  local_operand (ty.Func ws) x h = or_local_builds _ x h

  integer_builds_operand : (w : Width) (i : IntValue) → int_fits w i ≡ true → Builds spelling (integer_operand w) (int_part i ∷ []) (Means (operand_is.Const (value.Int i)))
  unfolding integer_operand
  integer_builds_operand w i h = builds_right (builds_as (constant_builds w i h) (λ j e s r. (refl, ap (λ j. operand_is.Const (value.Int j)) e)))

  double_operand_builds : (bytes : List ℕ) → is_double bytes ≡ true → Builds spelling double_operand (token sort.Double bytes ∷ []) (Means (operand_is.Const (value.Double bytes)))
  unfolding double_operand
  double_operand_builds bytes h = builds_right (builds_as (builds_one kind.DoubleLiteral sort.Double bytes refl)
      (λ t w s r. (refl, ap (λ l. operand_is.Const (double_of l)) (r.spelled t ∙ w.1.spelled) ∙ ap (λ b. operand_is.Const (cond b (value.Double bytes) value.NoLabel)) h)))

  -- ---- qubits and results

  abbrev IsHandle : ℕ → OperandSyntax → Type 0
  IsHandle n x = x ≡ syntax.Handle n

  address_builds : (name : Kind) (text : List ℕ) (n : ℕ) → kind_of sort.Local text ≡ name → n < 2 ^ 64
      → Builds spelling (numbered_handle name) (word (codes "inttoptr") ∷ blank ∷ sign (codes "(") ∷ word (codes "i64") ∷ blank ∷ int_of_width W64 (record { width = W64; bits = n }) ∷ blank ∷ word (codes "to") ∷ blank ∷ token sort.Local text ∷ sign (codes "*") ∷ sign (codes ")") ∷ []) (IsHandle n)
  unfolding numbered_handle
  address_builds name text n e h =
      behind kind.IntToPtr sort.Word (codes "inttoptr") inttoptr_word (builds_gap (codes " ")
      (behind kind.Open sort.Sign (codes "(") refl
      (behind kind.I64 sort.Word (codes "i64") refl (builds_gap (codes " ")
      (builds_as (before kind.Close sort.Sign (codes ")") refl (before kind.Star sort.Sign (codes "*") refl (before name sort.Local text e (builds_trail (codes " ") (before kind.To sort.Word (codes "to") to_word (builds_trail (codes " ") (integer_builds W64 n h)))))))
      (λ i w. ap (λ i. syntax.Handle i.bits) w))))))

  abbrev constant_handle : Kind → Grammar tokens OperandSyntax
  constant_handle name = alt (as_tree (λ t. syntax.Handle 0) (one kind.Null)) (numbered_handle name)

  handle_builds : (name : Kind) (t : Ty) (n : ℕ) → nat_lt n (2 ^ 64) ≡ true → Builds spelling (numbered_handle name) (address_parts t n) (IsHandle n) → Builds spelling (handle_operand name) (handle_parts t n) (Means (operand_is.Const (value.Id n)))
  unfolding handle_operand
  handle_builds name t n h b = builds_right (builds_weaker
      (cond_both (n == 0) (word (codes "null") ∷ []) (address_parts t n) (λ ps. Builds spelling (constant_handle name) ps (IsHandle n))
      (λ e. builds_left (builds_as (builds_one kind.Null sort.Word (codes "null") null_word) (λ t w. ap syntax.Handle (sym (eqb-true n 0 e)))))
      (λ e. builds_right b))
      (λ x e s r. (ap (operand_faults s) e, ap (operand_of s) e)))

  -- ---- labels

  same_builds : (n : ℕ) → n < 2 ^ 128 → Builds spelling (same_array n) (array_parts n) (λ t. Unit {0})
  unfolding same_array
  same_builds n h = behind kind.OpenSquare sort.Sign (codes "[") refl (before kind.CloseSquare sort.Sign (codes "]") refl (before kind.I8 sort.Word (codes "i8") refl (builds_trail (codes " ")
      (before kind.X sort.Word (codes "x") x_word (builds_trail (codes " ") (again_builds n h))))))

  arrays_build : (n : ℕ) → n < 2 ^ 128 → Builds spelling array_types (array_parts n ++ (comma ++ array_parts n)) (λ j. j ≡ n)
  unfolding array_types
  arrays_build n h = builds_as (builds_dep (before kind.Comma sort.Sign (codes ",") refl (array_builds n h))
      (λ j e. subst (λ j. Builds spelling (same_array j) (blank ∷ array_parts n) (λ t. Unit {0})) (sym e) (builds_gap (codes " ") (same_builds n h)))) (λ p w. w.0)

  index_builds : Builds spelling zero_index (word (codes "i32") ∷ blank ∷ token sort.Integer (codes "0") ∷ []) (λ t. Unit {0})
  unfolding zero_index
  index_builds = builds_as (builds_seq (builds_any _ kind.I32 sort.Word (codes "i32") refl refl) (builds_gap (codes " ") zero_builds)) (λ p w. tt)

  abbrev IsConstant : ℕ → Token → Type 0
  IsConstant g t = (s : Sense) → Tells spelling m f s → s.constant (s.name t) ≡ Some g

  indexed_builds : (g : ℕ) (c : Constant) → slice_get m.globals g ≡ Some c → name_fits c.name ≡ true
      → Builds spelling indexed (global_token c.name ∷ (index_parts ++ index_parts)) (IsConstant g)
  unfolding indexed
  indexed_builds g c e h =
      builds_as (builds_seq
      (before kind.Comma sort.Sign (codes ",") refl (builds_weaker {Q = IsConstant g} (global_builds c.name h) (λ t w s r. ap s.constant (ap (λ g. g t) r.name ∙ w.1) ∙ (r.constants g c e).0)))
      (builds_gap (codes " ") (builds_seq (before kind.Comma sort.Sign (codes ",") refl index_builds) (builds_gap (codes " ") index_builds))))
      (λ p w. w.0)

  label_builds : (g : GlobalId) (c : Constant) → slice_get m.globals g.0 ≡ Some c → Builds spelling label_operand (label_parts c) (Means (operand_is.Const (value.Label g)))
  unfolding label_operand
  label_builds g c e =
      let fit = found_all constant_text_fits m.globals g.0 c k.constants e in
      let p = and_parts (name_fits c.name) (are_bytes c.bytes && are_few c.bytes) fit in
      let few = few_bytes c.bytes (and_parts (are_bytes c.bytes) (are_few c.bytes) p.1).1 in
      builds_as (builds_seq (builds_one kind.GetElementPtr sort.Word (codes "getelementptr") getelementptr_word)
      (builds_gap (codes " ") (behind kind.InBounds sort.Word (codes "inbounds") inbounds_word (builds_gap (codes " ") (behind kind.Open sort.Sign (codes "(") refl
      (builds_seq (before kind.Star sort.Sign (codes "*") refl (arrays_build (length c.bytes) few))
      (builds_gap (codes " ") (before kind.Close sort.Sign (codes ")") refl (indexed_builds g.0 c e p.0)))))))))
      (λ q w s r. let n = w.1.1 s r in
      let sized : not (is_size (s.size g.0) q.1.0) ≡ false = ap (λ o. not (is_size o q.1.0)) (r.constants g.0 c e).1 ∙ ap not (eq-eqb (length c.bytes) q.1.0 (sym w.1.0)) in
      (ap (label_faults s q.0 q.1.0 q.1.1) n ∙ ap (λ b. fault_if b StringLength q.0) sized, ap (λ o. operand_is.Const (value.Label (global_id o))) n))

  -- ---- constants of a type

  value_builds : (t : Ty) (v : Value) → constant_fits t v ≡ true → operand_in_range m f (operand_is.Const v) ≡ true → Builds spelling (operand t) (value_parts m t v) (Means (operand_is.Const v))
  unfolding operand text_operand function_operand
  value_builds (ty.Int w) (value.Int i) h d = integer_builds_operand w i h
  value_builds ty.Double (value.Double bytes) h d = double_operand_builds bytes h
  value_builds ty.Qubit (value.Id n) h d = handle_builds kind.QubitName ty.Qubit n h (address_builds kind.QubitName (codes "%Qubit") n refl (ltb-true n (2 ^ 64) h))
  value_builds ty.Res (value.Id n) h d = handle_builds kind.ResultName ty.Res n h (address_builds kind.ResultName (codes "%Result") n refl (ltb-true n (2 ^ 64) h))
  value_builds ty.Text (value.Label g) h d =
      let l = found m.globals g.0 (ltb-true g.0 (length m.globals) d) in
      builds_right (builds_right (builds_same (ap label_of (sym l.1)) (label_builds g l.0 l.1)))
  value_builds ty.Text value.NoLabel h d = builds_right (builds_left (builds_as (builds_one kind.Null sort.Word (codes "null") null_word) (λ t w s r. (refl, refl))))
  value_builds (ty.Func ws) (value.Func g) h d = builds_right (builds_as (function_use g d) (λ t w s r. (ap (unknown t) (w.1 s r), ap (λ o. operand_is.Const (value.Func (func_id o))) (w.1 s r))))
  value_builds t v h d = absurd (false≢true h)

  pub operand_builds : (t : Ty) (a : Operand) → operand_fits t a ≡ true → operand_in_range m f a ≡ true → Builds spelling (operand t) (operand_parts m f t a) (Means a)
  operand_builds t (operand_is.Const v) h d = value_builds t v h d
  operand_builds t (operand_is.Local x) h d = local_operand t x d

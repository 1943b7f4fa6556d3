-- What operands keep: each is of its type, and what it names is there.
use Rattle.std.specs.Prelude.{◌==◌, nat_eq, nat_lt}
use Rattle.std.proofs.Common.{◌≡◌, ℕ, ◌-◌, ◌^◌, ◌<◌, Bool, true, false, Option, None, Some, List, [], refl, sym, ◌∙◌, subst, arith}
use Rattle.std.proofs.lemmas.Bool.{ltb-true, lt-ltb, eqb-false, eq-eqb, and_from, and_parts, cond_both, cond-true}
use Rattle.std.proofs.lemmas.Nat.{pow_pos}
use Rattle.grammar.specs.Grammar.{Grammar, second}
use Rattle.ir_values.specs.Double.{is_double}
use Rattle.ir_values.specs.Int.{IntValue}
use Rattle.ir_values.specs.Width.{bits_of}
use Rattle.ir_values.specs.declared.int.Width.{Width}
use Rattle.ir_values.specs.declared.int.Width.TheVariants as width
use Rattle.ir_values.specs.declared.sig.TyWord.{TyWord}
use Rattle.ir_values.specs.declared.ty.Ty.{Ty}
use Rattle.ir_values.specs.declared.ty.Ty.TheVariants as ty
use Rattle.ir_values.specs.declared.value.Value.TheVariants as value
use Rattle.ir_module.specs.declared.tree.Function.{Function}
use Rattle.ir_module.specs.declared.tree.Module.{Module}
use Rattle.ir_module.specs.declared.tree.Operand.TheVariants.{Const}
use Rattle.ir_module.specs.Printable.{int_fits, constant_fits}
use Rattle.ir_tokens.specs.declared.kind.Kind.{Kind}
use Rattle.ir_tokens.specs.declared.kind.Kind.TheVariants as kind
use Rattle.ir_tokens.specs.declared.rule.Rule.TheVariants.{LiteralRange}
use Rattle.ir_tokens.specs.declared.token.Token.{Token}
use Rattle.ir_tokens.specs.Tokens.{tokens}
use Rattle.ir_grammar.specs.declared.tree.OperandSyntax.{OperandSyntax}
use Rattle.ir_grammar.specs.declared.tree.OperandSyntax.TheVariants as syntax
use Rattle.ir_grammar.specs.Forms.{first, ◌▸◌, ◌◂◌}
use Rattle.ir_grammar.specs.SideRules.{number, unless, fits, in_range, is_negative, bits_of_sign, integer_of}
use Rattle.ir_grammar.specs.Words.{integer}
use Rattle.ir_grammar.specs.Operands.{or_local, truth_of, truth, constant_of, constant, integer_operand, double_operand, numbered_handle, handle_operand, label_operand, text_operand, function_operand, operand}
use Rattle.ir_names.specs.Faults.{unknown}
use Rattle.ir_names.specs.Operands.{operand_faults, operand_of, label_faults, double_of}
use Rattle.ir_names.specs.Sense.{Sense}
use Rattle.read_modules.proofs.Keeping.{Keeps, keeps_tok, keeps_seq, keeps_alt, keeps_tree, keeps_any}
use Rattle.read_modules.proofs.Scene.{Told, Fair, known_below, Right}

-- A token of kind k and then a, and a and then such a token.

pub keeps_behind : {A : Type 0} {P : Token → Type 0} {Q : A → Type 0} (k : Kind) (a : Grammar tokens A) → Keeps P a Q → Keeps P (k ▸ a) Q
keeps_behind {Q = Q} k a h = keeps_tree {R = Q} second _ (keeps_seq _ a (keeps_any _) h) (λ p q. q.1)

pub keeps_before : {A : Type 0} {P : Token → Type 0} {Q : A → Type 0} (a : Grammar tokens A) (k : Kind) → Keeps P a Q → Keeps P (a ◂ k) Q
keeps_before {Q = Q} a k h = keeps_tree {R = Q} first _ (keeps_seq a _ h (keeps_any _)) (λ p q. q.0)

-- Integers.

positive : (w : ℕ) → 0 < 2 ^ w
positive w = pow_pos w

below_power : (w n : ℕ) → fits w false n ≡ true → n < 2 ^ w
below_power w n e = ltb-true n (2 ^ w) e

pub sign_fits : (w : ℕ) (negative : Bool) (n : ℕ) → fits w negative n ≡ true → bits_of_sign w negative n < 2 ^ w
sign_fits w true n e = let p = positive w in cond_both (nat_eq n 0) 0 (2 ^ w - n) (λ k. k < 2 ^ w) (λ d. p) (λ d. let z = eqb-false n 0 d in omega arith)
sign_fits w false n e = below_power w n e

pub unless_none : (b : Bool) → unless b LiteralRange ≡ None → b ≡ true
unless_none true e = refl
unless_none false e = absurd (cc)

integer_fits : (w : Width) (t : Token) → in_range (bits_of w) t ≡ None → int_fits w (integer_of w t) ≡ true
integer_fits w t e =
    let b = unless_none (fits (bits_of w) (is_negative t.kind) (number t)) e in
    and_from (bits_of w == bits_of w) _ (eq-eqb (bits_of w) (bits_of w) refl) (lt-ltb _ _ (sign_fits (bits_of w) (is_negative t.kind) (number t) b))

truth_fits : (k : Kind) → int_fits width.W1 (truth_of k) ≡ true
truth_fits kind.True = refl
truth_fits k = refl

-- what operands of a type keep
pub record OperandKept (spelling : Token → List ℕ) (t : Ty) (a : OperandSyntax) : Type 0 where
  pub right : (m : Module) (f : Function) (s : Sense) → Fair spelling m f s → operand_faults s a ≡ [] → Right m f t (operand_of s a)

spelled_right : (m : Module) (f : Function) (bytes : List ℕ) → is_double bytes ≡ true → Right m f ty.Double (Const (double_of bytes))
spelled_right m f bytes h =
    let d : double_of bytes ≡ value.Double bytes = cond-true (is_double bytes) (value.Double bytes) value.NoLabel h in
    subst (λ v. Right m f ty.Double (Const v)) (sym d) (record { fits = h; written = refl; in_range = refl })

label_known : (s : Sense) (word : Token) (n : ℕ) (t : Token) (o : Option ℕ) → label_faults s word n t o ≡ [] → unknown t o ≡ []
label_known s word n t None e = e
label_known s word n t (Some k) e = refl

module _ {spelling : Token → List ℕ} where
  local_right : (t : Ty) (name : Token) → OperandKept spelling t (syntax.Local name)
  local_right t name = record { right = λ m f s fair e. record { fits = refl; written = refl; in_range = known_below name (s.value (s.name name)) _ (fair.values (s.name name)) e } }

  integer_right : (w : Width) (i : IntValue) → int_fits w i ≡ true → OperandKept spelling (ty.Int w) (syntax.Integer i)
  integer_right w i h = record { right = λ m f s fair e. record { fits = h; written = refl; in_range = refl } }

  double_right : (t : Token) → is_double (spelling t) ≡ true → OperandKept spelling ty.Double (syntax.Double t)
  double_right t h = record { right = λ m f s fair e. spelled_right m f (s.spelling t) (subst (λ b. is_double b ≡ true) (sym (fair.spelled t)) h) }

  handle_right : (t : Ty) (n : ℕ) → constant_fits t (value.Id n) ≡ nat_lt n (2 ^ 64) → n < 2 ^ 64 → OperandKept spelling t (syntax.Handle n)
  handle_right t n h l = record { right = λ m f s fair e. record { fits = h ∙ lt-ltb n (2 ^ 64) l; written = refl; in_range = refl } }

  null_right : OperandKept spelling ty.Text syntax.NoLabel
  null_right = record { right = λ m f s fair e. record { fits = refl; written = refl; in_range = refl } }

  label_right : (word : Token) (n : ℕ) (t : Token) → OperandKept spelling ty.Text (syntax.LabelOf word n t)
  label_right word n t = record { right = λ m f s fair e. record { fits = refl; written = refl; in_range = known_below t (s.constant (s.name t)) _ (fair.constants (s.name t)) (label_known s word n t (s.constant (s.name t)) e) } }

  function_right : (ws : List TyWord) (t : Token) → OperandKept spelling (ty.Func ws) (syntax.Function t)
  function_right ws t = record { right = λ m f s fair e. record { fits = refl; written = refl; in_range = known_below t (s.function (s.name t)) _ (fair.functions (s.name t)) e } }

  local_kept : (t : Ty) (a : Grammar tokens OperandSyntax) → Keeps (Told spelling) a (OperandKept spelling t) → Keeps (Told spelling) (or_local a) (OperandKept spelling t)
  local_kept t a h = keeps_alt _ a (keeps_tree _ _ (keeps_any _) (λ name _. local_right t name)) h

  integer_kept : (w : Width) → Keeps (Told spelling) (integer w) (λ i. int_fits w i ≡ true)
  unfolding integer
  integer_kept w = keeps_tree _ _ (keeps_tok {Q = λ t. in_range (bits_of w) t ≡ None} _ _ (λ t p i e. e)) (λ t e. integer_fits w t e)

  constant_of_kept : (w : Width) → Keeps (Told spelling) (constant_of w) (λ i. int_fits w i ≡ true)
  unfolding truth
  constant_of_kept width.W1 = keeps_alt _ _ (keeps_tree _ _ (keeps_any _) (λ t _. truth_fits t.kind)) (integer_kept width.W1)
  constant_of_kept width.W8 = integer_kept width.W8
  constant_of_kept width.W16 = integer_kept width.W16
  constant_of_kept width.W32 = integer_kept width.W32
  constant_of_kept width.W64 = integer_kept width.W64

  pub constant_kept : (w : Width) → Keeps (Told spelling) (constant w) (λ i. int_fits w i ≡ true)
  unfolding constant
  constant_kept w = constant_of_kept w

  pub integer_operand_kept : (w : Width) → Keeps (Told spelling) (integer_operand w) (OperandKept spelling (ty.Int w))
  unfolding integer_operand
  integer_operand_kept w = local_kept (ty.Int w) _ (keeps_tree _ _ (constant_kept w) (integer_right w))

  double_kept : Keeps (Told spelling) double_operand (OperandKept spelling ty.Double)
  unfolding double_operand
  double_kept = local_kept ty.Double _ (keeps_tree _ _ (keeps_tok {Q = λ t. is_double (spelling t) ≡ true} _ _ (λ t p i e. p.double i)) double_right)

  handle_kept : (t : Ty) (name : Kind) → ((n : ℕ) → constant_fits t (value.Id n) ≡ nat_lt n (2 ^ 64)) → Keeps (Told spelling) (handle_operand name) (OperandKept spelling t)
  unfolding handle_operand numbered_handle
  handle_kept t name h = local_kept t _ (keeps_alt _ _
      (keeps_tree _ _ (keeps_any _) (λ _ _. handle_right t 0 (h 0) (positive 64)))
      (keeps_behind _ _ (keeps_behind _ _ (keeps_behind _ _ (keeps_tree _ _
      (keeps_before _ _ (keeps_before _ _ (keeps_before _ _ (keeps_before _ _ (integer_kept width.W64)))))
      (λ i e. handle_right t i.bits (h i.bits) (ltb-true _ _ (and_parts _ _ e).1)))))))

  text_kept : Keeps (Told spelling) text_operand (OperandKept spelling ty.Text)
  unfolding text_operand label_operand
  text_kept = local_kept ty.Text _ (keeps_alt _ _ (keeps_tree _ _ (keeps_any _) (λ _ _. null_right)) (keeps_tree _ _ (keeps_any _) (λ p _. label_right p.0 p.1.0 p.1.1)))

  function_kept : (ws : List TyWord) → Keeps (Told spelling) function_operand (OperandKept spelling (ty.Func ws))
  unfolding function_operand
  function_kept ws = local_kept (ty.Func ws) _ (keeps_tree _ _ (keeps_any _) (λ t _. function_right ws t))

  pub operand_kept : (t : Ty) → Keeps (Told spelling) (operand t) (OperandKept spelling t)
  unfolding operand
  operand_kept (ty.Int w) = integer_operand_kept w
  operand_kept ty.Double = double_kept
  operand_kept ty.Qubit = handle_kept ty.Qubit kind.QubitName (λ n. refl)
  operand_kept ty.Res = handle_kept ty.Res kind.ResultName (λ n. refl)
  operand_kept ty.Text = text_kept
  operand_kept (ty.Func ws) = function_kept ws
  operand_kept ty.Void = keeps_tree _ _ (keeps_any _) (λ name _. local_right ty.Void name)

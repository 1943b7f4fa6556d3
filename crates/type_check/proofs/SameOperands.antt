-- The test of two operands tells whether they are equal.
use Rattle.std.proofs.Common.{◌≡◌, ℕ, Bool, true, Decides, refl, ap, ◌∙◌, subst}
use Rattle.std.specs.Prelude.{◌==◌}
use Rattle.std.specs.Cmp.{unsigned_Decides}
use Rattle.std.specs.Cmp.Lexicographic.{pointwise_decides}
use Rattle.std.proofs.lemmas.Bool.{and_parts}
use Rattle.ir_values.specs.declared.value.Value.{Value}
use Rattle.ir_values.specs.declared.value.Value.TheVariants as value
use Rattle.ir_values.specs.Equal.{same_test}
use Rattle.ir_values.specs.Int.{IntValue}
use Rattle.ir_values.specs.Values.{same_int, same_value, same_width}
use Rattle.ir_module.specs.declared.tree.Operand.{Operand}
use Rattle.ir_module.specs.declared.tree.Operand.TheVariants as operand
use Rattle.type_check.specs.Rules.{same_operand}
use Rattle.type_check.proofs.Equal.{same_width-is, same_width-decides}

same-numbers : (a b : ℕ) → (a == b) ≡ true → a ≡ b
same-numbers a b e = (unsigned_Decides a b).0 e

itself : (a : ℕ) → (a == a) ≡ true
itself a = (unsigned_Decides a a).1 refl

same-ints : (i j : IntValue) → same_int i j ≡ true → i ≡ j
same-ints i j e =
    let p = and_parts (same_width i.width j.width) (i.bits == j.bits) e in
    let w = same_width-is i.width j.width p.0 in
    let b = same-numbers i.bits j.bits p.1 in
    ap (λ w. record { width = w; bits = i.bits }) w ∙ ap (λ b. record { width = j.width; bits = b }) b

same-values : (v u : Value) → same_value v u ≡ true → v ≡ u
same-values (value.Int i) (value.Int j) e = ap value.Int (same-ints i j e)
same-values (value.Double a) (value.Double b) e = ap value.Double ((pointwise_decides unsigned_Decides a b).0 e)
same-values (value.Id i) (value.Id j) e = ap value.Id (same-numbers i j e)
same-values (value.Alloc i) (value.Alloc j) e = ap value.Alloc (same-numbers i j e)
same-values (value.Measured i) (value.Measured j) e = ap value.Measured (same-numbers i j e)
same-values value.One value.One e = refl
same-values value.Zero value.Zero e = refl
same-values (value.Label a) (value.Label b) e = ap (λ n. value.Label (record { 0 = n })) (same-numbers a.0 b.0 e)
same-values value.NoLabel value.NoLabel e = refl
same-values (value.Func f) (value.Func g) e = ap (λ n. value.Func (record { 0 = n })) (same-numbers f.0 g.0 e)
same-values v u e = cc

same_value-itself : (v : Value) → same_value v v ≡ true
same_value-itself (value.Int i) = rw ((same_width-decides i.width i.width).1 refl, itself i.bits) refl
same_value-itself (value.Double a) = (pointwise_decides unsigned_Decides a a).1 refl
same_value-itself (value.Id i) = itself i
same_value-itself (value.Alloc i) = itself i
same_value-itself (value.Measured i) = itself i
same_value-itself value.One = refl
same_value-itself value.Zero = refl
same_value-itself (value.Label a) = itself a.0
same_value-itself value.NoLabel = refl
same_value-itself (value.Func f) = itself f.0

same-operands : (a b : Operand) → same_operand a b ≡ true → a ≡ b
same-operands (operand.Const v) (operand.Const w) e = ap operand.Const (same-values v w e)
same-operands (operand.Local x) (operand.Local y) e = ap (λ n. operand.Local (record { 0 = n })) (same-numbers x.0 y.0 e)
same-operands a b e = cc

same_operand-itself : (a : Operand) → same_operand a a ≡ true
same_operand-itself (operand.Const v) = same_value-itself v
same_operand-itself (operand.Local x) = itself x.0

pub same_operand-decides : (a b : Operand) → Decides (same_operand a b) (a ≡ b)
same_operand-decides a b = (same-operands a b, λ e. subst (λ z. same_operand a z ≡ true) e (same_operand-itself a))

-- a test of equality is that of operands
pub operand_test : (b : Bool) (u v : Operand) → Decides b (u ≡ v) → b ≡ same_operand u v
operand_test b u v d = same_test b (same_operand u v) d (same_operand-decides u v)

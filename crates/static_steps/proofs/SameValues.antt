-- The test of two values tells whether they are equal.
use Rattle.std.proofs.Common.{◌≡◌, ◌↔◌, ℕ, Bool, true, refl, ap, ◌∙◌, subst}
use Rattle.std.specs.Prelude.{◌==◌, IsTrue}
use Rattle.std.specs.Bool.{Decides}
use Rattle.std.specs.Cmp.{unsigned_Decides}
use Rattle.std.specs.Cmp.Lexicographic.{pointwise_decides}
use Rattle.std.proofs.lemmas.Bool.{and_parts}
use Rattle.ir_values.specs.declared.int.Width.{Width}
use Rattle.ir_values.specs.declared.int.Width.TheVariants.{W1, W8, W16, W32, W64}
use Rattle.ir_values.specs.declared.value.Value.{Value}
use Rattle.ir_values.specs.declared.value.Value.TheVariants as value
use Rattle.ir_values.specs.Equal.{same_test}
use Rattle.ir_values.specs.Int.{IntValue}
use Rattle.ir_values.specs.Values.{same_int, same_value, same_width}

same-numbers : (a b : ℕ) → (a == b) ≡ true → a ≡ b
same-numbers a b e = (unsigned_Decides a b).0 e

itself : (a : ℕ) → (a == a) ≡ true
itself a = (unsigned_Decides a a).1 refl

pub same-widths : (a b : Width) → same_width a b ≡ true → a ≡ b
same-widths W1 W1 e = refl
same-widths W8 W8 e = refl
same-widths W16 W16 e = refl
same-widths W32 W32 e = refl
same-widths W64 W64 e = refl
same-widths a b e = cc

same-ints : (i j : IntValue) → same_int i j ≡ true → i ≡ j
same-ints i j e =
    let p = and_parts (same_width i.width j.width) (i.bits == j.bits) e in
    let w = same-widths i.width j.width p.0 in
    let b = same-numbers i.bits j.bits p.1 in
    ap (λ w. record { width = w; bits = i.bits }) w ∙ ap (λ b. record { width = j.width; bits = b }) b

pub same-values : (v u : Value) → same_value v u ≡ true → v ≡ u
same-values (value.Int i) (value.Int j) e = ap value.Int (same-ints i j e)
same-values (value.Double a) (value.Double b) e = ap value.Double ((pointwise_decides unsigned_Decides a b).0 e)
same-values (value.Id i) (value.Id j) e = ap value.Id (same-numbers i j e)
same-values (value.Alloc i) (value.Alloc j) e = ap value.Alloc (same-numbers i j e)
same-values (value.Measured i) (value.Measured j) e = ap value.Measured (same-numbers i j e)
same-values value.One value.One e = refl
same-values value.Zero value.Zero e = refl
same-values (value.Label a) (value.Label b) e = ap (λ n. value.Label (record { 0 = n })) (same-numbers a.0 b.0 e)
same-values value.NoLabel value.NoLabel e = refl
same-values (value.Func f) (value.Func g) e = ap (λ n. value.Func (record { 0 = n })) (same-numbers f.0 g.0 e)
same-values v u e = cc

same_width-refl : (w : Width) → same_width w w ≡ true
same_width-refl W1 = refl
same_width-refl W8 = refl
same_width-refl W16 = refl
same_width-refl W32 = refl
same_width-refl W64 = refl

same_value-refl : (v : Value) → same_value v v ≡ true
same_value-refl (value.Int i) = rw (same_width-refl i.width, itself i.bits) refl
same_value-refl (value.Double a) = (pointwise_decides unsigned_Decides a a).1 refl
same_value-refl (value.Id i) = itself i
same_value-refl (value.Alloc i) = itself i
same_value-refl (value.Measured i) = itself i
same_value-refl value.One = refl
same_value-refl value.Zero = refl
same_value-refl (value.Label a) = itself a.0
same_value-refl value.NoLabel = refl
same_value-refl (value.Func f) = itself f.0

pub same_value-decides : (v u : Value) → Decides (same_value v u) (v ≡ u)
same_value-decides v u = (same-values v u, λ e. subst (λ z. same_value v z ≡ true) e (same_value-refl v))

-- a test of equality is this one
pub told : (b : Bool) (v u : Value) → IsTrue b ↔ (v ≡ u) → b ≡ same_value v u
told b v u h = same_test b (same_value v u) (h.0, h.1) (same_value-decides v u)

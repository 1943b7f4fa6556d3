-- The operands that values are printed as fit the types of their places.
use Rattle.std.proofs.Common.{◌≡◌, ◌^◌, Bool, true, false, ◌&&◌, List, [], ◌∷◌, refl, sym, ap, ◌∙◌}
use Rattle.std.proofs.lemmas.Bool.{and_from, and_parts}
use Rattle.std.specs.List.{list_all}
use Rattle.std.specs.Prelude.{◌==◌, nat_lt}
use Rattle.ir_module.specs.Printable.{constant_fits, int_fits, operand_fits, typed_fits, value_type_fits}
use Rattle.ir_values.specs.declared.int.Width.{Width}
use Rattle.ir_values.specs.declared.ty.Ty.{Ty}
use Rattle.ir_values.specs.declared.ty.Ty.TheVariants as ty
use Rattle.ir_values.specs.declared.value.Value.{Value}
use Rattle.ir_values.specs.declared.value.Value.TheVariants as value
use Rattle.ir_values.specs.Int.{IntValue}
use Rattle.ir_values.specs.Values.{same_width}
use Rattle.ir_values.specs.Width.{bits_of}
use Rattle.kept_items.specs.declared.val.Val.{Val}
use Rattle.kept_items.specs.declared.val.Val.TheVariants.{Known, Dynamic}
use Rattle.residue.specs.declared.parts.Residue.{Residue}
use Rattle.residue.specs.Instructions.{Words, named_value, operand_of}
use Rattle.residue.specs.Printed.{words}
use Rattle.residue.specs.Scopes.{gives_of, uses_of, written}
use Rattle.residue.specs.Valid.{Valid, is_constant_result, number_small, val_has, value_has}
use Rattle.kept_items.specs.declared.target.Target.{Target}
use Rattle.printed_residue.proofs.Looks.{same-numbers}
use Rattle.numbered_residue.proofs.Forms.{uses-of-written}
use Rattle.printable_residue.specs.Pieces.{HasPrintablePieces}
use Rattle.printable_values.specs.Values.{val_prints, value_prints}

-- two tests of a list together
pub all-and : {A : Type 0} (p q : A → Bool) (xs : List A) → list_all p xs ≡ true → list_all q xs ≡ true → list_all (λ x. p x && q x) xs ≡ true
all-and p q [] h g = refl
all-and p q (x ∷ xs) h g =
    let a = and_parts (p x) (list_all p xs) h in
    let b = and_parts (q x) (list_all q xs) g in
    and_from (p x && q x) (list_all (λ x. p x && q x) xs) (and_from (p x) (q x) a.0 b.0) (all-and p q xs a.1 b.1)

-- an integer within its own width
pub within : (i : IntValue) (w : Width) → same_width i.width w ≡ true → nat_lt i.bits (2 ^ bits_of i.width) ≡ true → int_fits w i ≡ true
within i w h p = and_from (bits_of i.width == bits_of w) (nat_lt i.bits (2 ^ bits_of w)) h (ap (λ b. nat_lt i.bits (2 ^ b)) (sym (same-numbers (bits_of i.width) (bits_of w) h)) ∙ p)

-- integer types are types of values
pub ints-are-values : (w : Width) → value_type_fits (ty.Int w) ≡ true
ints-are-values w = refl

module _ (r : Residue) (t : Target) (ok : Valid r t) (pieces : HasPrintablePieces r) where
  abbrev ws : Words
  ws = words r

  abbrev has : Ty → Val → Bool
  has u a = val_has (gives_of r) u a

  -- ---- integers

  integer-known : (w : Width) (v : Value) → value_has (ty.Int w) v ≡ true → value_prints v ≡ true → constant_fits (ty.Int w) (named_value ws v) ≡ true
  integer-known w (value.Int i) h p = within i w h p
  integer-known w v h p = cc

  pub integer-fits : (w : Width) (a : Val) → has (ty.Int w) a ≡ true → val_prints a ≡ true → operand_fits (ty.Int w) (operand_of ws a) ≡ true
  integer-fits w (Known v) h p = integer-known w v h p
  integer-fits w (Dynamic d) h p = refl

  -- ---- values of every type

  abbrev small : Val → Bool
  small a = number_small r.own_qubits r.own_results a

  value-fits : (u : Ty) (v : Value) → value_has u v ≡ true → value_prints v ≡ true → small (Known v) ≡ true → is_constant_result (Known v) ≡ false → constant_fits u (named_value ws v) ≡ true
  value-fits (ty.Int w) v h p s c = integer-known w v h p
  value-fits ty.Double (value.Double spelling) h p s c = p
  value-fits ty.Qubit (value.Id n) h p s c = p
  value-fits ty.Qubit (value.Alloc j) h p s c = s
  value-fits ty.Res (value.Id n) h p s c = p
  value-fits ty.Res (value.Measured j) h p s c = s
  value-fits ty.Res value.One h p s c = cc
  value-fits ty.Res value.Zero h p s c = cc
  value-fits ty.Text (value.Label g) h p s c = refl
  value-fits ty.Text value.NoLabel h p s c = refl
  value-fits u v h p s c = cc

  known-has : (u : Ty) (v : Value) → has u (Known v) ≡ true → value_has u v ≡ true
  known-has ty.Void v h = h
  known-has (ty.Int w) v h = h
  known-has ty.Double v h = h
  known-has ty.Qubit v h = h
  known-has ty.Res v h = h
  known-has ty.Text v h = h
  known-has (ty.Func us) v h = h

  -- what is known of the values of a residue at their places: their types, that they can be printed, and that their numbers are small
  abbrev pub good : Ty × Val → Bool
  good a = has a.0 a.1 && (val_prints a.1 && small a.1)

  pub all-good : list_all good (uses_of r) ≡ true
  all-good =
      all-and (λ a. has a.0 a.1) (λ a. val_prints a.1 && small a.1) (uses_of r) ok.types
      (all-and (λ (a : Ty × Val). val_prints a.1) (λ (a : Ty × Val). small a.1) (uses_of r) (uses-of-written val_prints r pieces.values)
      (uses-of-written (λ a. small a) r (and_parts (list_all (λ a. small a) (written r)) _ ok.numbers).0))

  -- the parts of that
  pub good-has : (u : Ty) (a : Val) → good (u, a) ≡ true → has u a ≡ true
  good-has u a h = (and_parts (has u a) (val_prints a && small a) h).0

  pub good-prints : (u : Ty) (a : Val) → good (u, a) ≡ true → val_prints a ≡ true
  good-prints u a h = (and_parts (val_prints a) (small a) (and_parts (has u a) (val_prints a && small a) h).1).0

  pub good-small : (u : Ty) (a : Val) → good (u, a) ≡ true → small a ≡ true
  good-small u a h = (and_parts (val_prints a) (small a) (and_parts (has u a) (val_prints a && small a) h).1).1

  pub good-integer : (w : Width) (a : Val) → good (ty.Int w, a) ≡ true → operand_fits (ty.Int w) (operand_of ws a) ≡ true
  good-integer w a h = integer-fits w a (good-has (ty.Int w) a h) (good-prints (ty.Int w) a h)

  -- one and zero, which have no text, aside
  pub good-fits : (u : Ty) (a : Val) → good (u, a) ≡ true → is_constant_result a ≡ false → operand_fits u (operand_of ws a) ≡ true
  good-fits u (Dynamic d) h c = refl
  good-fits u (Known v) h c = value-fits u v (known-has u v (good-has u (Known v) h)) (good-prints u (Known v) h) (good-small u (Known v) h) c

  -- ---- types

  pub value-type : (u : Ty) (a : Val) → has u a ≡ true → value_type_fits u ≡ true
  value-type ty.Void (Known v) h = cc
  value-type ty.Void (Dynamic d) h = cc
  value-type (ty.Int w) a h = refl
  value-type ty.Double a h = refl
  value-type ty.Qubit a h = refl
  value-type ty.Res a h = refl
  value-type ty.Text a h = refl
  value-type (ty.Func us) (Known v) h = cc
  value-type (ty.Func us) (Dynamic d) h = cc

  pub good-typed : (u : Ty) (a : Val) → good (u, a) ≡ true → is_constant_result a ≡ false → typed_fits (u, operand_of ws a) ≡ true
  good-typed u a h c = and_from (value_type_fits u) (operand_fits u (operand_of ws a)) (value-type u a (good-has u a h)) (good-fits u a h c)

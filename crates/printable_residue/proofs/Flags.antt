-- The flags and the attributes of the printed module.
use Rattle.std.proofs.Common.{◌≡◌, ℕ, ◌*◌, ◌^◌, ◌≤◌, Bool, true, false, ◌&&◌, Some, List, [], ◌∷◌, ◌++◌, length, refl, ap, arith, length-append}
use Rattle.std.proofs.lemmas.Bool.{and_from, and_parts}
use Rattle.std.specs.List.{find, list_all}
use Rattle.std.specs.Prelude.{cond, codes, decimal, filter, nat_le, not, option_and_then}
use Rattle.ir_module.specs.declared.tree.Attr.{Attr}
use Rattle.ir_module.specs.declared.tree.Flag.{Flag}
use Rattle.ir_module.specs.Entry.{attribute_of}
use Rattle.ir_module.specs.Printable.{are_bytes, attr_fits, flag_fits, value_fits}
use Rattle.ir_values.specs.Calls.{same_text}
use Rattle.kept_items.specs.declared.target.Target.{Target}
use Rattle.kept_items.specs.declared.target.Target.TheVariants.{Base, Adaptive}
use Rattle.residue.specs.declared.parts.Residue.{Residue}
use Rattle.residue.specs.Functions.{irreversible_attrs, is_named}
use Rattle.residue.specs.Printed.{entry_attrs, flag_on, flags_of, own_flags, own_keys, profile_of, schema_key}
use Rattle.printed_residue.proofs.Rising.{filter-passes}
use Rattle.numbered_residue.proofs.Passing.{all-both}
use Rattle.printable_residue.proofs.Bytes.{decimal-bytes}
use Rattle.printable_residue.specs.Pieces.{HasPrintablePieces}

-- ---- flags

flag-fits : (b : Bool) (key : List ℕ) → are_bytes key ≡ true → list_all flag_fits (flag_on b key) ≡ true
flag-fits true key h = ap (λ b. (b && true) && true) h
flag-fits false key h = refl

capabilities-fit : (t : Target) → list_all flag_fits (flags_of t) ≡ true
capabilities-fit Base = refl
capabilities-fit (Adaptive caps) =
    let ints : List Flag = flag_on caps.ints (codes "int_computations") in
    let switch : List Flag = flag_on caps.switch (codes "multiple_target_branching") in
    let returns : List Flag = flag_on caps.returns (codes "multiple_return_points") in
    let loops : List Flag = flag_on caps.loops (codes "backwards_branching") in
    all-both flag_fits ints (switch ++ (returns ++ loops)) (flag-fits caps.ints (codes "int_computations") refl)
    (all-both flag_fits switch (returns ++ loops) (flag-fits caps.switch (codes "multiple_target_branching") refl)
    (all-both flag_fits returns loops (flag-fits caps.returns (codes "multiple_return_points") refl)
    (flag-fits caps.loops (codes "backwards_branching") refl)))

pub flags-fit : (t : Target) → list_all flag_fits (own_flags ++ flags_of t) ≡ true
flags-fit t = all-both flag_fits own_flags (flags_of t) refl (capabilities-fit t)

one-flag : (b : Bool) (key : List ℕ) → length (flag_on b key) ≤ 1
one-flag true key = omega arith
one-flag false key = omega arith

four-flags : (t : Target) → length (flags_of t) ≤ 4
four-flags Base = omega arith
four-flags (Adaptive caps) =
    let ints : List Flag = flag_on caps.ints (codes "int_computations") in
    let switch : List Flag = flag_on caps.switch (codes "multiple_target_branching") in
    let returns : List Flag = flag_on caps.returns (codes "multiple_return_points") in
    let loops : List Flag = flag_on caps.loops (codes "backwards_branching") in
    let a = length-append ints (switch ++ (returns ++ loops)) in
    let b = length-append switch (returns ++ loops) in
    let c = length-append returns loops in
    let d = one-flag caps.ints (codes "int_computations") in
    let e = one-flag caps.switch (codes "multiple_target_branching") in
    let f = one-flag caps.returns (codes "multiple_return_points") in
    let g = one-flag caps.loops (codes "backwards_branching") in
    omega (arith, a, b, c, d, e, f, g)

at-most : (a b : ℕ) → a ≤ b → nat_le a b ≡ true
at-most a b h = grind arith

pub flags-few : (t : Target) → nat_le (2 * length (own_flags ++ flags_of t)) (2 ^ 32) ≡ true
flags-few t = at-most (2 * length (own_flags ++ flags_of t)) (2 ^ 32) (let a = length-append own_flags (flags_of t) in let b = four-flags t in let c : length own_flags ≡ 4 = refl in omega (arith, a, b, c))

-- ---- attributes

profile-bytes : (t : Target) → are_bytes (profile_of t) ≡ true
profile-bytes Base = refl
profile-bytes (Adaptive caps) = refl

-- the value of an attribute among others
value-found : (test : Attr → Bool) (attrs : List Attr) → list_all attr_fits attrs ≡ true → value_fits (option_and_then (λ (a : Attr). a.value) (find test attrs)) ≡ true
value-found test [] h = refl
value-found test (a ∷ attrs) h =
    let p = and_parts (attr_fits a) (list_all attr_fits attrs) h in
    by (test a) (and_parts (are_bytes a.key) (value_fits a.value) p.0).1 (value-found test attrs p.1)
  where
    by : (b : Bool) → value_fits a.value ≡ true → value_fits (option_and_then (λ (a : Attr). a.value) (find test attrs)) ≡ true → value_fits (option_and_then (λ (a : Attr). a.value) (cond b (Some a) (find test attrs))) ≡ true
    by true e ih = e
    by false e ih = ih

five : (a b c d e : Bool) → a ≡ true → b ≡ true → c ≡ true → d ≡ true → e ≡ true → (a && (b && (c && (d && e)))) ≡ true
five a b c d e f g h i j = and_from a (b && (c && (d && e))) f (and_from b (c && (d && e)) g (and_from c (d && e) h (and_from d e i j)))

pub entry-attrs : (r : Residue) (t : Target) → HasPrintablePieces r → list_all attr_fits (entry_attrs r t) ≡ true
entry-attrs r t pieces =
    five (value_fits (Some (profile_of t))) (value_fits (option_and_then (λ (a : Attr). a.value) (attribute_of schema_key r.attrs))) (value_fits (Some (decimal r.all_qubits))) (value_fits (Some (decimal r.all_results))) (list_all attr_fits (filter (λ a. not (is_named own_keys a.key)) r.attrs))
    (profile-bytes t) (value-found (λ a. same_text a.key schema_key) r.attrs pieces.attributes) (decimal-bytes r.all_qubits pieces.qubits) (decimal-bytes r.all_results pieces.results)
    (filter-passes attr_fits (λ a. not (is_named own_keys a.key)) r.attrs pieces.attributes)

pub irreversible-attrs : (b : Bool) → list_all attr_fits (irreversible_attrs b) ≡ true
irreversible-attrs true = refl
irreversible-attrs false = refl

-- The declarations of the printed module.
use Rattle.std.proofs.Common.{◌≡◌, ℕ, suc, ◌+◌, ◌^◌, ◌≤◌, Bool, true, false, ◌&&◌, not, List, [], ◌∷◌, length, map, refl, ap, ◌∙◌, arith}
use Rattle.std.proofs.lemmas.Bool.{and_from, and_parts}
use Rattle.std.specs.List.{list_all}
use Rattle.std.specs.Prelude.{◌||◌, ◌==◌, if◌then◌else◌, is_none, nat_lt}
use Rattle.ir_module.specs.declared.tree.Function.{Function}
use Rattle.ir_module.specs.Numbered.{are_few}
use Rattle.ir_module.specs.Printable.{are_bytes, are_numbered, attr_fits, declaration_fits, in_text_order, name_fits, names_fit, type_fits, types_fit}
use Rattle.ir_values.specs.declared.class.Class.{Class}
use Rattle.ir_values.specs.declared.class.Class.TheVariants as class
use Rattle.ir_values.specs.declared.ty.Ty.{Ty}
use Rattle.ir_values.specs.declared.ty.Ty.TheVariants as ty
use Rattle.ir_values.specs.declared.value.Value.{Value}
use Rattle.kept_items.specs.declared.item.Item.{Item}
use Rattle.kept_items.specs.declared.item.Item.TheVariants as item
use Rattle.kept_items.specs.declared.target.Target.{Target}
use Rattle.kept_items.specs.declared.val.Val.{Val}
use Rattle.residue.specs.declared.parts.Residue.{Residue}
use Rattle.residue.specs.Functions.{Called, all_items, called, calls_of, calls_of_residue, declaration, declared_of, initialize, is_constant, is_named, parameters, read_result, reading, record_name, types_of}
use Rattle.residue.specs.Printed.{names_of}
use Rattle.residue.specs.Scopes.{item_uses, gives_of, written}
use Rattle.residue.specs.Valid.{Valid, number_small, parts_and_lines, val_has}
use Rattle.printed_residue.proofs.Declared.{fits}
use Rattle.printed_residue.proofs.Facts.{passes-here}
use Rattle.printed_residue.proofs.Looks.{same-itself}
use Rattle.numbered_residue.proofs.Forms.{item-uses-pass}
use Rattle.numbered_residue.proofs.Listed.{uses-pass}
use Rattle.numbered_residue.proofs.Passing.{all-both, all-each, all-flat, all-map}
use Rattle.numbered_residue.proofs.Shared.{below, less, parameters-long}
use Rattle.printable_residue.proofs.Flags.{irreversible-attrs}
use Rattle.printable_residue.proofs.Values.{value-type}
use Rattle.printable_residue.specs.Pieces.{HasPrintablePieces}
use Rattle.printable_values.specs.Values.{name_prints}

-- ---- a called function that can be declared

abbrev pub called_prints : Called → Bool
called_prints c = are_bytes c.name && (type_fits c.ret && (list_all type_fits c.params && are_few c.params))

reading-prints : (v : Value) → list_all called_prints (reading v) ≡ true
reading-prints v = by (is_constant v)
  where
    by : (b : Bool) → list_all called_prints (if b then [] else (read_result ∷ [])) ≡ true
    by true = refl
    by false = refl

record-bytes : (c : Class) → are_bytes (record_name c) ≡ true
record-bytes class.Tuple = refl
record-bytes class.Array = refl
record-bytes class.ResRecord = refl
record-bytes class.BoolRecord = refl
record-bytes class.IntRecord = refl
record-bytes class.DoubleRecord = refl
record-bytes c = refl

module _ (r : Residue) (t : Target) (ok : Valid r t) (pieces : HasPrintablePieces r) where
  types-print : (args : List (Ty × Val)) → list_all (fits (gives_of r)) args ≡ true → list_all type_fits (types_of args) ≡ true
  types-print [] h = refl
  types-print (a ∷ args) h =
      let p = and_parts (val_has (gives_of r) a.0 a.1) (list_all (fits (gives_of r)) args) h in
      and_from (type_fits a.0) (list_all type_fits (types_of args)) (and_parts _ (type_fits a.0) (value-type r t ok pieces a.0 a.1 p.0)).1 (types-print args p.1)

  types-long : (args : List (Ty × Val)) → length (types_of args) ≡ length args
  types-long [] = refl
  types-long (a ∷ args) = ap suc (types-long args)

  -- a call without a value
  call-prints : (name : List ℕ) (args : List (Ty × Val)) → are_bytes name ≡ true → list_all (fits (gives_of r)) args ≡ true → are_few args ≡ true → list_all called_prints (called name ty.Void (types_of args) ∷ []) ≡ true
  call-prints name args b h few =
      ap (λ s. s && true) (and_from (are_bytes name) (list_all type_fits (types_of args) && are_few (types_of args)) b
      (and_from (list_all type_fits (types_of args)) (are_few (types_of args)) (types-print args h) (ap (λ n. nat_lt n (2 ^ 32)) (types-long args) ∙ few)))

  calls-print : (x : Item) → list_all (fits (gives_of r)) (item_uses x) ≡ true → name_prints x ≡ true → are_few (item_uses x) ≡ true → list_all called_prints (calls_of x) ≡ true
  calls-print (item.Binary d o f w a b) u p few = refl
  calls-print (item.Icmp d o w a b) u p few = refl
  calls-print (item.Convert d o w a to) u p few = refl
  calls-print (item.Select d w c a b) u p few = refl
  calls-print (item.Read d v) u p few = refl
  calls-print (item.Equal d v w) u p few = all-both called_prints (reading v) (reading w) (reading-prints v) (reading-prints w)
  calls-print (item.Operation name args) u p few = call-prints name args p u few
  calls-print (item.Output c args) u p few = call-prints (record_name c) args (record-bytes c) u few

  arguments-few : list_all (λ x. are_few (item_uses x)) (all_items r) ≡ true
  arguments-few =
      let a = and_parts (list_all (number_small r.own_qubits r.own_results) (written r)) _ ok.numbers in
      let b = and_parts (nat_lt (length (names_of r.parts)) (2 ^ 64)) _ a.1 in
      (and_parts (nat_lt (parts_and_lines r.parts) (2 ^ 31)) (list_all (λ x. are_few (item_uses x)) (all_items r)) b.1).1

  declared-print : list_all called_prints (declared_of r) ≡ true
  declared-print =
      uses-pass called_prints (calls_of_residue r) (initialize ∷ []) refl
      (all-flat called_prints calls_of (all_items r) (all-each (λ x. list_all called_prints (calls_of x)) (all_items r) (λ i x s.
      calls-print x (item-uses-pass (fits (gives_of r)) r x ok.types (i, s)) (passes-here name_prints (all_items r) i x pieces.operations s) (passes-here (λ x. are_few (item_uses x)) (all_items r) i x arguments-few s))))

  -- what each called function that prints passes, each declaration passes
  declarations-pass : (test : Function → Bool) → ((c : Called) → called_prints c ≡ true → test (declaration r.irreversible c) ≡ true) → list_all test (map (declaration r.irreversible) (declared_of r)) ≡ true
  declarations-pass test h = all-map test (declaration r.irreversible) (declared_of r) (all-each (λ c. test (declaration r.irreversible c)) (declared_of r) (λ i c s. h c (passes-here called_prints (declared_of r) i c declared-print s)))

  -- ---- the parts of that

  called-parts : (c : Called) → called_prints c ≡ true → (are_bytes c.name ≡ true) × (type_fits c.ret ≡ true) × (list_all type_fits c.params ≡ true) × (are_few c.params ≡ true)
  called-parts c h =
      let a = and_parts (are_bytes c.name) (type_fits c.ret && (list_all type_fits c.params && are_few c.params)) h in
      let b = and_parts (type_fits c.ret) (list_all type_fits c.params && are_few c.params) a.1 in
      let d = and_parts (list_all type_fits c.params) (are_few c.params) b.1 in
      (a.0, b.0, d.0, d.1)

  -- ---- parameters

  parameters-typed : (n : ℕ) (us : List Ty) → list_all type_fits us ≡ true → list_all (λ l. type_fits l.1) (parameters n us) ≡ true
  parameters-typed n [] h = refl
  parameters-typed n (u ∷ us) h =
      let p = and_parts (type_fits u) (list_all type_fits us) h in
      and_from (type_fits u) (list_all (λ l. type_fits l.1) (parameters (suc n) us)) p.0 (parameters-typed (suc n) us p.1)

  parameters-named : (n : ℕ) (us : List Ty) → n + length us ≤ 2 ^ 32 → list_all (λ l. name_fits l.0) (parameters n us) ≡ true
  parameters-named n [] le = refl
  parameters-named n (u ∷ us) le =
      and_from (nat_lt n (2 ^ 32)) (list_all (λ l. name_fits l.0) (parameters (suc n) us)) (below n (2 ^ 32) (omega (arith, le))) (parameters-named (suc n) us (omega (arith, le)))

  parameters-numbered : (n : ℕ) (us : List Ty) → are_numbered n (parameters n us) ≡ true
  parameters-numbered n [] = refl
  parameters-numbered n (u ∷ us) =
      and_from (n == n) (are_numbered (n + 1) (parameters (suc n) us)) (same-itself n)
      (ap (λ k. are_numbered k (parameters (suc n) us)) (let z : n + 1 ≡ suc n = omega arith in z) ∙ parameters-numbered (suc n) us)

  -- ---- the rules, of all declarations

  pub declarations-fit : list_all (λ f. not (is_none f.blocks) || declaration_fits f) (map (declaration r.irreversible) (declared_of r)) ≡ true
  declarations-fit = declarations-pass (λ f. not (is_none f.blocks) || declaration_fits f) (λ c h. and_from (length c.params == length (parameters 0 c.params)) (are_numbered 0 (parameters 0 c.params)) (ap (λ n. length c.params == n) (parameters-long 0 c.params) ∙ same-itself (length c.params)) (parameters-numbered 0 c.params))

  pub declarations-ordered : list_all in_text_order (map (declaration r.irreversible) (declared_of r)) ≡ true
  declarations-ordered = declarations-pass in_text_order (λ c h. refl)

  pub declarations-typed : list_all types_fit (map (declaration r.irreversible) (declared_of r)) ≡ true
  declarations-typed = declarations-pass types_fit (λ c h. let p = called-parts c h in and_from (type_fits c.ret) (list_all (λ l. type_fits l.1) (parameters 0 c.params)) p.1 (parameters-typed 0 c.params p.2))

  pub declarations-named : list_all (λ f. names_fit f && nat_lt f.params (2 ^ 32)) (map (declaration r.irreversible) (declared_of r)) ≡ true
  declarations-named = declarations-pass (λ f. names_fit f && nat_lt f.params (2 ^ 32)) (λ c h.
      let p = called-parts c h in
      let lt = less (length c.params) (2 ^ 32) p.3 in
      and_from (are_bytes c.name && (list_all (λ l. name_fits l.0) (parameters 0 c.params) && true)) (nat_lt (length c.params) (2 ^ 32))
      (and_from (are_bytes c.name) (list_all (λ l. name_fits l.0) (parameters 0 c.params) && true) p.0 (ap (λ b. b && true) (parameters-named 0 c.params (omega (arith, lt))))) p.3)

  pub declarations-marked : list_all (λ f. list_all attr_fits f.attrs) (map (declaration r.irreversible) (declared_of r)) ≡ true
  declarations-marked = declarations-pass (λ f. list_all attr_fits f.attrs) (λ c h. irreversible-attrs (is_named r.irreversible c.name))

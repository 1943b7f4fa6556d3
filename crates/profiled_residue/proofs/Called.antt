-- The functions that the printed instructions call: their classes, and whether they are marked.
use Rattle.std.proofs.Common.{◌≡◌, ℕ, Bool, true, false, None, Some, List, [], ◌∷◌, map, refl, sym, ap, ◌∙◌, option_map}
use Rattle.std.proofs.lemmas.Bool.{and_parts}
use Rattle.std.proofs.lemmas.Option.{slice_get-map}
use Rattle.std.specs.List.{list_all}
use Rattle.std.specs.Option.{option_and_then}
use Rattle.std.specs.Prelude.{codes, if◌then◌else◌, is_some, slice_get}
use Rattle.ir_module.specs.declared.tree.Callee.TheVariants as callee
use Rattle.ir_module.specs.declared.tree.Operand.{Operand}
use Rattle.ir_module.specs.declared.tree.Operand.TheVariants as operand
use Rattle.ir_module.specs.Classes.{class_of_function}
use Rattle.ir_module.specs.Entry.{has_attribute}
use Rattle.ir_values.specs.declared.class.Class.{Class}
use Rattle.ir_values.specs.declared.class.Class.TheVariants as class
use Rattle.ir_values.specs.declared.ids.FuncId.{FuncId}
use Rattle.ir_values.specs.declared.ty.Ty.{Ty}
use Rattle.ir_values.specs.declared.ty.Ty.TheVariants as ty
use Rattle.ir_values.specs.declared.value.Value.{Value}
use Rattle.ir_values.specs.declared.value.Value.TheVariants as value
use Rattle.ir_values.specs.Calls.{class_of}
use Rattle.ir_values.specs.Types.{signature}
use Rattle.kept_items.specs.declared.item.Item.{Item}
use Rattle.kept_items.specs.declared.item.Item.TheVariants as item
use Rattle.kept_items.specs.declared.target.Target.{Target}
use Rattle.kept_items.specs.declared.val.Val.{Val}
use Rattle.profile_rules.specs.Calls.{Call, calls_class, calls_irreversible, declared_class, is_irreversible, passes}
use Rattle.residue.specs.declared.parts.Residue.{Residue}
use Rattle.residue.specs.Functions.{Called, all_items, called, calls_of, calls_of_residue, declaration, declared_of, initialize, irreversible_attrs, is_named, place_among, read_name, types_of}
use Rattle.residue.specs.Instructions.{named_value, typed_operand}
use Rattle.residue.specs.Printed.{printed, words}
use Rattle.residue.specs.Scopes.{gives_of}
use Rattle.residue.specs.Valid.{Valid, all_alike, is_instruction}
use Rattle.printed_residue.proofs.Calls.{Declares}
use Rattle.printed_residue.proofs.Declared.{Among, call-finds, declared-class, fits}
use Rattle.printed_residue.proofs.Ends.{initialize-declared}
use Rattle.printed_residue.proofs.Lines.{all-typed}
use Rattle.numbered_residue.proofs.Shared.{some-same}

-- ---- what the printed instructions call, and with which arguments

abbrev pub initialization : Call
initialization = record { callee = callee.Func (record { 0 = 1 }); args = (ty.Text, operand.Const value.NoLabel) ∷ [] }

abbrev pub reading : Residue → Value → Call
reading r v = record { callee = callee.Func ((words r).function read_name); args = (ty.Res, operand.Const (named_value (words r) v)) ∷ [] }

abbrev pub call_named : Residue → List ℕ → List (Ty × Val) → Call
call_named r name args = record { callee = callee.Func ((words r).function name); args = map (typed_operand (words r)) args }

module _ (r : Residue) (t : Target) where
  -- a call of a declared function has its class
  pub class-called : (g : FuncId) (args : List (Ty × Operand)) (name : List ℕ) (c : Class) (test : Class → Bool) → Declares (printed r t) g name c → calls_class (printed r t) test (record { callee = callee.Func g; args = args }) ≡ test c
  class-called g args name c test d =
      ap (λ o. passes (option_and_then declared_class o) test) d.is
      ∙ ap (λ bs. passes (if is_some bs then None else class_of_function d.function) test) d.no_body
      ∙ ap (λ o. passes o test) d.class

  pub class-initialized : (test : Class → Bool) → calls_class (printed r t) test initialization ≡ test class.Init
  class-initialized test = class-called (record { 0 = 1 }) initialization.args initialize.name class.Init test (initialize-declared r t)

  module _ (ok : Valid r t) where
    -- what an item calls stands under its number
    pub declaration-called : (x : Item) (c : Called) → Among (all_items r) x → Among (calls_of x) c → slice_get (printed r t).funcs ((words r).function c.name).0 ≡ Some (declaration r.irreversible c)
    declaration-called x c a b =
        let i = and_parts (list_all is_instruction (all_items r)) (all_alike (calls_of_residue r)) ok.calls in
        slice_get-map (declaration r.irreversible) (declared_of r) (place_among (declared_of r) c.name)
        ∙ ap (option_map (declaration r.irreversible)) (call-finds r t i.0 i.1 ok.outputs (all-typed (fits (gives_of r)) r.parts ok.types) a.0 x c a.1 b)

    -- and has the class by its name and types
    pub class-is : (x : Item) (c : Called) (k : Class) → Among (all_items r) x → Among (calls_of x) c → Declares (printed r t) ((words r).function c.name) c.name k → class_of c.name (signature c.ret c.params) ≡ Some k
    class-is x c k a b d =
        sym (declared-class r.irreversible c)
        ∙ ap class_of_function (some-same (sym (declaration-called x c a b) ∙ d.is))
        ∙ d.class

    -- a declaration is marked where its name is among those of the irreversible operations
    pub marked : (c : Called) → is_irreversible (declaration r.irreversible c) ≡ is_named r.irreversible c.name
    marked c = by (is_named r.irreversible c.name)
      where
        by : (b : Bool) → has_attribute (codes "irreversible") (irreversible_attrs b) ≡ b
        by true = refl
        by false = refl

    pub irreversible-called : (name : List ℕ) (args : List (Ty × Val)) → Among (all_items r) (item.Operation name args) → calls_irreversible (printed r t) (call_named r name args) ≡ is_named r.irreversible name
    irreversible-called name args a =
        ap (λ o. passes o is_irreversible) (declaration-called (item.Operation name args) (called name ty.Void (types_of args)) a (0, refl))
        ∙ marked (called name ty.Void (types_of args))

-- The operands of an item have the types of their places in the scope of its part.
use Rattle.std.proofs.Common.{◌≡◌, ⊎_elim, ℕ, Bool, true, List, [], ◌∷◌, flat_map, map, refl, sym, ap, ◌∙◌, subst}
use Rattle.std.proofs.lemmas.Bool.{and_from, and_parts}
use Rattle.std.proofs.lemmas.List.Folds.{list_all-append}
use Rattle.std.specs.List.{list_all}
use Rattle.std.specs.Prelude.{⊤}
use Rattle.ir_module.specs.declared.tree.Module.{Module}
use Rattle.ir_module.specs.Classes.{type_words}
use Rattle.ir_values.specs.declared.class.Class.{Class}
use Rattle.ir_values.specs.declared.class.Class.TheVariants as class
use Rattle.ir_values.specs.declared.int.Width.{Width}
use Rattle.ir_values.specs.declared.ty.Ty.{Ty}
use Rattle.ir_values.specs.declared.ty.Ty.TheVariants as ty
use Rattle.ir_values.specs.declared.value.Value.{Value}
use Rattle.ir_values.specs.declared.value.Value.TheVariants as value
use Rattle.ir_values.specs.Calls.{is_operand}
use Rattle.ir_values.specs.ClassTypes.{HasTypes}
use Rattle.ir_values.specs.Types.{words_of}
use Rattle.ir_values.specs.Values.{same_width}
use Rattle.kept_items.specs.declared.item.Item.{Item}
use Rattle.kept_items.specs.declared.item.Item.TheVariants as item
use Rattle.kept_items.specs.declared.target.Target.{Target}
use Rattle.kept_items.specs.declared.val.Dyn.{Dyn}
use Rattle.kept_items.specs.declared.val.Val.{Val}
use Rattle.kept_items.specs.declared.val.Val.TheVariants.{Known, Dynamic}
use Rattle.residue.specs.Functions.{types_of}
use Rattle.residue.specs.Scopes.{item_uses}
use Rattle.residue.specs.Valid.{val_has, value_has}
use Rattle.static_steps.specs.Configurations.{Bounds, IsValue}
use Rattle.fused_parts.specs.Parts.{renamed, renamed_arg, renamed_item}
use Rattle.valid_steps.specs.Items.{AreOperands, IsItem, IsOperand, permits_record}
use Rattle.valid_steps.proofs.Operands.{never-varies}
use Rattle.scoped_parts.proofs.Fits.{Fit, dynamic-has, int_type, same-width}
use Rattle.scoped_parts.proofs.Operations.{operation-operands}

-- no type of functions
abbrev NoFunction : Ty → Type 0
NoFunction (ty.Func ws) = ⊥
NoFunction u = ⊤

abbrev NoFunctions : List Ty → Type 0
NoFunctions [] = ⊤
NoFunctions (u ∷ us) = NoFunction u × NoFunctions us

-- what an item uses, by the numbers of this list
uses-renamed : (mine : List Dyn) (i : Item) (n : ℕ) → item_uses (renamed_item mine n i) ≡ map (renamed_arg mine) (item_uses i)
uses-renamed mine (item.Binary d o flags w a b) n = refl
uses-renamed mine (item.Icmp d o w a b) n = refl
uses-renamed mine (item.Convert d o w a to) n = refl
uses-renamed mine (item.Select d w c a b) n = refl
uses-renamed mine (item.Read d v) n = refl
uses-renamed mine (item.Equal d v u) n = refl
uses-renamed mine (item.Operation name args) n = refl
uses-renamed mine (item.Output c args) n = refl

module _ (m : Module) (t : Target) (b : Bounds) (scope : List (ℕ × Width)) (mine : List Dyn) (ws : List Width) (fit : Fit scope mine ws) where
  abbrev has_type : Ty × Val → Bool
  has_type a = val_has scope a.0 a.1

  known-has : (u : Ty) (v : Value) → NoFunction u → IsValue m b u v → value_has u v ≡ true
  known-has (ty.Int w) (value.Int i) f h = ap (λ x. same_width x w) h ∙ same-width w
  known-has ty.Double (value.Double d) f h = refl
  known-has ty.Qubit (value.Id i) f h = refl
  known-has ty.Qubit (value.Alloc j) f h = refl
  known-has ty.Res (value.Id i) f h = refl
  known-has ty.Res (value.Measured j) f h = refl
  known-has ty.Res value.One f h = refl
  known-has ty.Res value.Zero f h = refl
  known-has ty.Text (value.Label g) f h = refl
  known-has ty.Text value.NoLabel f h = refl
  known-has (ty.Func us) v f h = absurd f
  known-has u v f h = absurd h

  operand-has : (u : Ty) (a : Val) → NoFunction u → IsOperand m t b (map int_type ws) u a → val_has scope u (renamed mine a) ≡ true
  operand-has u (Known v) f h = known-has u v f h
  operand-has u (Dynamic d) f h = dynamic-has scope mine ws u d fit h.1

  operands-have : (args : List (Ty × Val)) → NoFunctions (types_of args) → AreOperands m t b (map int_type ws) args → list_all has_type (map (renamed_arg mine) args) ≡ true
  operands-have [] f h = refl
  operands-have (a ∷ args) f h =
      and_from (val_has scope a.0 (renamed mine a.1)) (list_all has_type (map (renamed_arg mine) args)) (operand-has a.0 a.1 f.0 h.0) (operands-have args f.1 h.1)

  -- ---- operations

  no-function : (u : Ty) (a : Val) → IsOperand m t b (map int_type ws) u a → list_all is_operand (words_of u) ≡ true → NoFunction u
  no-function (ty.Func us) (Known (value.Func g)) h e = clash (ap (list_all is_operand) h.2 ∙ e)
    where
      clash : list_all is_operand (type_words h.0) ≡ true → ⊥
      clash e = cc
  no-function (ty.Func us) (Known v) h e = absurd h
  no-function (ty.Func us) (Dynamic d) h e = never-varies t (ty.Func us) refl h.0
  no-function u a h e = tt

  no-functions : (args : List (Ty × Val)) → AreOperands m t b (map int_type ws) args → list_all is_operand (flat_map words_of (types_of args)) ≡ true → NoFunctions (types_of args)
  no-functions [] h e = tt
  no-functions (a ∷ args) h e =
      let p = and_parts (list_all is_operand (words_of a.0)) (list_all is_operand (flat_map words_of (types_of args))) (sym (list_all-append is_operand (words_of a.0) (flat_map words_of (types_of args))) ∙ e) in
      (no-function a.0 a.1 h.0 p.0, no-functions args h.1 p.1)

  -- ---- records

  record-types : (c : Class) (us : List Ty) → HasTypes c ty.Void us → permits_record t c ≡ true → NoFunctions us
  record-types class.Tuple us h e = subst NoFunctions (sym h.1) (tt, (tt, tt))
  record-types class.Array us h e = subst NoFunctions (sym h.1) (tt, (tt, tt))
  record-types class.ResRecord us h e = subst NoFunctions (sym h.1) (tt, (tt, tt))
  record-types class.BoolRecord us h e = subst NoFunctions (sym h.1) (tt, (tt, tt))
  record-types class.IntRecord us h e = subst NoFunctions (sym h.1) (tt, (tt, tt))
  record-types class.DoubleRecord us h e = subst NoFunctions (sym h.1) (tt, (tt, tt))
  record-types c us h e = cc

  -- ---- items

  module _ (held : List ℕ) where
    uses-fit : (i : Item) → IsItem m t b (map int_type ws) held i → AreOperands m t b (map int_type ws) (item_uses i)
    uses-fit (item.Binary d o flags w x y) h = (h.4, (h.5, tt))
    uses-fit (item.Icmp d o w x y) h = (h.3, (h.4, tt))
    uses-fit (item.Convert d o w x to) h = (h.3, tt)
    uses-fit (item.Select d w c x y) h = (h.3, (h.4, (h.5, tt)))
    uses-fit (item.Read d v) h = (h.3, tt)
    uses-fit (item.Equal d v u) h = (h.2, (h.3, tt))
    uses-fit (item.Operation name args) h = h.1
    uses-fit (item.Output c args) h = h.1

    plain-uses : (i : Item) → IsItem m t b (map int_type ws) held i → NoFunctions (types_of (item_uses i))
    plain-uses (item.Binary d o flags w x y) h = (tt, (tt, tt))
    plain-uses (item.Icmp d o w x y) h = (tt, (tt, tt))
    plain-uses (item.Convert d o w x to) h = (tt, tt)
    plain-uses (item.Select d w c x y) h = (tt, (tt, (tt, tt)))
    plain-uses (item.Read d v) h = (tt, tt)
    plain-uses (item.Equal d v u) h = (tt, (tt, tt))
    plain-uses (item.Operation name args) h =
        no-functions args h.1
        (⊎_elim (λ e. operation-operands name (types_of args) class.Gate refl e) (λ e. operation-operands name (types_of args) class.Measure refl e) h.0)
    plain-uses (item.Output c args) h = record-types c (types_of args) h.0 h.2

    -- the operands of an item that fits have their types
    pub item-has : (i : Item) (n : ℕ) → IsItem m t b (map int_type ws) held i
        → list_all (λ (a : Ty × Val). val_has scope a.0 a.1) (item_uses (renamed_item mine n i)) ≡ true
    item-has i n h = ap (list_all has_type) (uses-renamed mine i n) ∙ operands-have (item_uses i) (plain-uses i h) (uses-fit i h)

-- The functions that a lowered program calls: one name has one list of types.
use Rattle.std.proofs.Common.{◌≡◌, ℕ, Bool, true, false, Option, Some, List, [], ◌∷◌, map, slice_get, refl, sym, ap, ◌∙◌, subst}
use Rattle.std.proofs.lemmas.Bool.{and_from, true≢false}
use Rattle.std.specs.List.{list_all, starts_with}
use Rattle.std.specs.Prelude.{◌||◌, if◌then◌else◌, nat_eq, not}
use Rattle.ir_module.specs.declared.tree.Module.{Module}
use Rattle.ir_module.specs.Numbered.{are_distinct, global_names}
use Rattle.ir_values.specs.declared.class.Class.{Class}
use Rattle.ir_values.specs.declared.class.Class.TheVariants as class
use Rattle.ir_values.specs.declared.int.Width.TheVariants.{W1, W64}
use Rattle.ir_values.specs.declared.ty.Ty.{Ty}
use Rattle.ir_values.specs.declared.ty.Ty.TheVariants as ty
use Rattle.ir_values.specs.Calls.{same_text}
use Rattle.ir_values.specs.ClassTypes.{HasTypes}
use Rattle.ir_values.specs.Names.{instruction_prefix}
use Rattle.kept_items.specs.declared.item.Item.{Item}
use Rattle.kept_items.specs.declared.item.Item.TheVariants as item
use Rattle.kept_items.specs.declared.target.Target.{Target}
use Rattle.kept_items.specs.declared.val.Dyn.{Dyn}
use Rattle.kept_items.specs.declared.val.Val.{Val}
use Rattle.residue.specs.Functions.{Called, called, calls_of, is_constant, read_result, reading, record_name, types_of}
use Rattle.residue.specs.Valid.{all_alike, calls_alike, same_types}
use Rattle.static_steps.specs.Configurations.{Bounds}
use Rattle.fused_parts.specs.Parts.{renamed_arg, renamed_item}
use Rattle.valid_steps.specs.Items.{IsItem, permits_record}
use Rattle.valid_lines.proofs.Items.{named, types-kept}
use Rattle.valid_residue.proofs.Lists.{not-true, one-passes}
use Rattle.valid_calls.proofs.Items.{Each, each-append}
use Rattle.valid_calls.proofs.Sources.{Source, one-list, text-is}

-- the runtime functions that lowered programs call
abbrev runtime : List Called
runtime =
    read_result
    ∷ called (record_name class.Tuple) ty.Void (ty.Int W64 ∷ ty.Text ∷ [])
    ∷ called (record_name class.Array) ty.Void (ty.Int W64 ∷ ty.Text ∷ [])
    ∷ called (record_name class.ResRecord) ty.Void (ty.Res ∷ ty.Text ∷ [])
    ∷ called (record_name class.BoolRecord) ty.Void (ty.Int W1 ∷ ty.Text ∷ [])
    ∷ called (record_name class.IntRecord) ty.Void (ty.Int W64 ∷ ty.Text ∷ [])
    ∷ called (record_name class.DoubleRecord) ty.Void (ty.Double ∷ ty.Text ∷ [])
    ∷ []

-- their types go by their names
runtime-alike : list_all (λ c. list_all (calls_alike c) runtime) runtime ≡ true
runtime-alike = refl

abbrev is_runtime : Called → Bool
is_runtime c = not (starts_with nat_eq c.name instruction_prefix)

-- and none is a quantum instruction
runtime-apart : list_all is_runtime runtime ≡ true
runtime-apart = refl

-- a runtime function, or an operation that a function of the module issues
pub data IsCallOf (m : Module) (c : Called) : Type 0 where
  by_runtime : (i : ℕ) → slice_get runtime i ≡ Some c → IsCallOf m c
  by_operation : starts_with nat_eq c.name instruction_prefix ≡ true → Source m c.name c.params → IsCallOf m c

module _ (m : Module) (distinct : are_distinct (global_names m) ≡ true) where
  by-names : (c d : Called) (b : Bool) → same_text c.name d.name ≡ b → (b ≡ true → same_types c.params d.params ≡ true) → (not b || same_types c.params d.params) ≡ true
  by-names c d true e h = h refl
  by-names c d false e h = refl

  -- where they have one name they have one list of types
  alike-where : (c d : Called) → (c.name ≡ d.name → same_types c.params d.params ≡ true) → calls_alike c d ≡ true
  alike-where c d h = by-names c d (same_text c.name d.name) refl (λ e. h (text-is c.name d.name e))

  no-instruction : (c : Called) (i : ℕ) → slice_get runtime i ≡ Some c → starts_with nat_eq c.name instruction_prefix ≡ false
  no-instruction c i e = not-true (starts_with nat_eq c.name instruction_prefix) (one-passes is_runtime runtime i c runtime-apart e)

  clash : (c d : Called) → starts_with nat_eq c.name instruction_prefix ≡ false → starts_with nat_eq d.name instruction_prefix ≡ true → c.name ≡ d.name → ⊥
  clash c d off on e = true≢false (sym on ∙ (ap (λ n. starts_with nat_eq n instruction_prefix) (sym e) ∙ off))

  alike : (c d : Called) → IsCallOf m c → IsCallOf m d → calls_alike c d ≡ true
  alike c d (by_runtime i e) (by_runtime j k) = one-passes (calls_alike c) runtime j d (one-passes (λ c. list_all (calls_alike c) runtime) runtime i c runtime-alike e) k
  alike c d (by_runtime i e) (by_operation on s) = alike-where c d (λ z. absurd (clash c d (no-instruction c i e) on z))
  alike c d (by_operation on s) (by_runtime j k) = alike-where c d (λ z. absurd (clash d c (no-instruction d j k) on (sym z)))
  alike c d (by_operation on s) (by_operation off t) = alike-where c d (λ z. one-list m distinct d.name c.params d.params (subst (λ n. Source m n c.params) z s) t)

  all-with : (c : Called) (ds : List Called) → IsCallOf m c → Each (IsCallOf m) ds → list_all (calls_alike c) ds ≡ true
  all-with c [] h k = refl
  all-with c (d ∷ ds) h k = and_from (calls_alike c d) (list_all (calls_alike c) ds) (alike c d h k.0) (all-with c ds h k.1)

  pub all-are-alike : (cs : List Called) → Each (IsCallOf m) cs → all_alike cs ≡ true
  all-are-alike [] h = refl
  all-are-alike (c ∷ cs) h = and_from (list_all (calls_alike c) cs) (all_alike cs) (all-with c cs h.0 h.1) (all-are-alike cs h.1)

-- ---- the calls of an item

module _ (m : Module) (t : Target) (b : Bounds) (ts : List (Option Ty)) (held : List ℕ) (mine : List Dyn) where
  reads-call : (q : Bool) → Each (IsCallOf m) (if q then [] else (read_result ∷ []))
  reads-call true = tt
  reads-call false = (by_runtime 0 refl, tt)

  -- a record of so many types
  record-call : (i : ℕ) (c : Class) (args : List (Ty × Val)) (us : List Ty) → slice_get runtime i ≡ Some (called (record_name c) ty.Void us) → types_of args ≡ us → Each (IsCallOf m) (calls_of (item.Output c args))
  record-call i c args us e is = (by_runtime i (e ∙ ap (λ l. Some (called (record_name c) ty.Void l)) (sym is)), tt)

  records-call : (c : Class) (args : List (Ty × Val)) → HasTypes c ty.Void (types_of args) → permits_record t c ≡ true → Each (IsCallOf m) (calls_of (item.Output c (map (renamed_arg mine) args)))
  records-call class.Tuple args h e = record-call 1 class.Tuple (map (renamed_arg mine) args) (ty.Int W64 ∷ ty.Text ∷ []) refl (types-kept mine args ∙ h.1)
  records-call class.Array args h e = record-call 2 class.Array (map (renamed_arg mine) args) (ty.Int W64 ∷ ty.Text ∷ []) refl (types-kept mine args ∙ h.1)
  records-call class.ResRecord args h e = record-call 3 class.ResRecord (map (renamed_arg mine) args) (ty.Res ∷ ty.Text ∷ []) refl (types-kept mine args ∙ h.1)
  records-call class.BoolRecord args h e = record-call 4 class.BoolRecord (map (renamed_arg mine) args) (ty.Int W1 ∷ ty.Text ∷ []) refl (types-kept mine args ∙ h.1)
  records-call class.IntRecord args h e = record-call 5 class.IntRecord (map (renamed_arg mine) args) (ty.Int W64 ∷ ty.Text ∷ []) refl (types-kept mine args ∙ h.1)
  records-call class.DoubleRecord args h e = record-call 6 class.DoubleRecord (map (renamed_arg mine) args) (ty.Double ∷ ty.Text ∷ []) refl (types-kept mine args ∙ h.1)
  records-call c args h e = cc

  pub item-calls : (i : Item) (n : ℕ) → IsItem m t b ts held i → ((name : List ℕ) (args : List (Ty × Val)) → i ≡ item.Operation name args → Source m name (types_of args)) → Each (IsCallOf m) (calls_of (renamed_item mine n i))
  item-calls (item.Binary d o flags w x y) n h s = tt
  item-calls (item.Icmp d o w x y) n h s = tt
  item-calls (item.Convert d o w x to) n h s = tt
  item-calls (item.Select d w c x y) n h s = tt
  item-calls (item.Read d v) n h s = (by_runtime 0 refl, tt)
  item-calls (item.Equal d v u) n h s = each-append (IsCallOf m) (reading v) (reading u) (reads-call (is_constant v)) (reads-call (is_constant u))
  item-calls (item.Operation name args) n h s =
      (by_operation (named mine m t b ts held (item.Operation name args) n h) (subst (Source m name) (sym (types-kept mine args)) (s name args refl)), tt)
  item-calls (item.Output c args) n h s = records-call c args h.0 h.2

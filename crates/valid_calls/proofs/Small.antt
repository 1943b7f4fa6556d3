-- Items have few arguments.
use Rattle.std.proofs.Common.{◌≡◌, ℕ, zero, suc, ◌^◌, ◌<◌, ◌≤◌, true, Option, Some, List, [], ◌∷◌, length, take, slice_get, refl, ap, ◌∙◌, arith}
use Rattle.std.proofs.lemmas.Bool.{lt-ltb}
use Rattle.std.proofs.lemmas.List.{length-map}
use Rattle.std.specs.Prelude.{nat_lt}
use Rattle.ir_module.specs.declared.tree.Function.{Function}
use Rattle.ir_module.specs.declared.tree.Module.{Module}
use Rattle.ir_module.specs.Classes.{parameter_types}
use Rattle.ir_module.specs.Numbered.{are_few}
use Rattle.ir_values.specs.declared.class.Class.{Class}
use Rattle.ir_values.specs.declared.class.Class.TheVariants as class
use Rattle.ir_values.specs.declared.name.Name.{Name}
use Rattle.ir_values.specs.declared.sig.TyWord.{TyWord}
use Rattle.ir_values.specs.declared.sig.TyWord.TheVariants as word
use Rattle.ir_values.specs.declared.ty.Ty.{Ty}
use Rattle.ir_values.specs.declared.ty.Ty.TheVariants as ty
use Rattle.ir_values.specs.ClassTypes.{HasTypes}
use Rattle.kept_items.specs.declared.item.Item.{Item}
use Rattle.kept_items.specs.declared.item.Item.TheVariants as item
use Rattle.kept_items.specs.declared.target.Target.{Target}
use Rattle.kept_items.specs.declared.val.Dyn.{Dyn}
use Rattle.kept_items.specs.declared.val.Val.{Val}
use Rattle.residue.specs.Scopes.{item_uses}
use Rattle.static_steps.specs.Configurations.{Bounds}
use Rattle.fused_parts.specs.Parts.{renamed_arg, renamed_item}
use Rattle.valid_steps.specs.Items.{IsItem, permits_record, types_of}
use Rattle.valid_lines.proofs.Items.{uses-kept}
use Rattle.valid_calls.proofs.Sources.{Source, by_name, by_result}

few : (n : ℕ) → n ≤ 3 → nat_lt n (2 ^ 32) ≡ true
few n h = let z : 4294967296 ≡ 2 ^ 32 = refl in lt-ltb n (2 ^ 32) (omega (arith, h, z))

length-take : {A : Type 0} (n : ℕ) (xs : List A) → length (take n xs) ≤ n
length-take zero [] = omega arith
length-take zero (x ∷ xs) = omega arith
length-take (suc n) [] = omega arith
length-take (suc n) (x ∷ xs) = let ih = length-take n xs in omega (arith, ih)

same-count : (a b : ℕ) (us ws : List TyWord) → word.Func a ∷ us ≡ word.Func b ∷ ws → a ≡ b
same-count a b us ws e = cc

module _ (m : Module) (small : (g : ℕ) (f : Function) → slice_get m.funcs g ≡ Some f → f.params < 2 ^ 32) where
  few-parameters : (f : Function) → length (parameter_types f) ≤ f.params
  few-parameters f =
      let a = length-map (take f.params f.locals) (λ (l : Name × Ty). l.1) in
      let b = length-take f.params f.locals in
      omega (arith, a, b)

  -- an operation has as many arguments as a function has parameters
  few-types : (n : List ℕ) (us : List Ty) → Source m n us → length us < 2 ^ 32
  few-types n us (by_name g f c at d e words) =
      let a = same-count (length (parameter_types f)) (length us) _ _ words in
      let b = few-parameters f in
      let k = small g f at in
      omega (arith, a, b, k)
  few-types n us (by_result e t) = let a = ap length t in let z : 4294967296 ≡ 2 ^ 32 = refl in omega (arith, a, z)

  module _ (t : Target) (b : Bounds) (ts : List (Option Ty)) (held : List ℕ) where
    two-types : (c : Class) (us : List Ty) → HasTypes c ty.Void us → permits_record t c ≡ true → length us ≡ 2
    two-types class.Tuple us h e = ap length h.1
    two-types class.Array us h e = ap length h.1
    two-types class.ResRecord us h e = ap length h.1
    two-types class.BoolRecord us h e = ap length h.1
    two-types class.IntRecord us h e = ap length h.1
    two-types class.DoubleRecord us h e = ap length h.1
    two-types c us h e = cc

    few-uses : (i : Item) → IsItem m t b ts held i → ((name : List ℕ) (args : List (Ty × Val)) → i ≡ item.Operation name args → Source m name (types_of args)) → nat_lt (length (item_uses i)) (2 ^ 32) ≡ true
    few-uses (item.Binary d o flags w x y) h s = few 2 (omega arith)
    few-uses (item.Icmp d o w x y) h s = few 2 (omega arith)
    few-uses (item.Convert d o w x to) h s = few 1 (omega arith)
    few-uses (item.Select d w c x y) h s = few 3 (omega arith)
    few-uses (item.Read d v) h s = few 1 (omega arith)
    few-uses (item.Equal d v u) h s = few 2 (omega arith)
    few-uses (item.Operation name args) h s =
        let a = few-types name (types_of args) (s name args refl) in
        let b = length-map args (λ (a : Ty × Val). a.0) in
        lt-ltb (length args) (2 ^ 32) (omega (arith, a, b))
    few-uses (item.Output c args) h s =
        let a = two-types c (types_of args) h.0 h.2 in
        let b = length-map args (λ (a : Ty × Val). a.0) in
        few (length args) (omega (arith, a, b))

    pub item-few : (i : Item) (mine : List Dyn) (n : ℕ) → IsItem m t b ts held i → ((name : List ℕ) (args : List (Ty × Val)) → i ≡ item.Operation name args → Source m name (types_of args))
        → are_few (item_uses (renamed_item mine n i)) ≡ true
    item-few i mine n h s =
        ap (λ (l : List (Ty × Val)). nat_lt (length l) (2 ^ 32)) (uses-kept mine i n) ∙ (ap (λ k. nat_lt k (2 ^ 32)) (length-map (item_uses i) (renamed_arg mine)) ∙ few-uses i h s)

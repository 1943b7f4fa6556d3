-- The function of the module that issues an operation: one name has one, and one list of types.
use Rattle.std.proofs.Common.{◌≡◌, ℕ, zero, suc, Bool, true, false, cond, option_map, None, Some, List, [], ◌∷◌, ◌++◌, map, slice_get, codes, refl, sym, ap, ◌∙◌, subst}
use Rattle.std.proofs.lemmas.Bool.{and_parts, true≢false}
use Rattle.std.specs.Cmp.{unsigned_Decides}
use Rattle.std.specs.Cmp.Lexicographic.{pointwise_decides}
use Rattle.std.specs.List.{list_any}
use Rattle.std.specs.Prelude.{not}
use Rattle.ir_module.specs.declared.tree.Constant.{Constant}
use Rattle.ir_module.specs.declared.tree.Function.{Function}
use Rattle.ir_module.specs.declared.tree.Module.{Module}
use Rattle.ir_module.specs.Classes.{class_of_function, type_words}
use Rattle.ir_module.specs.Numbered.{are_distinct, global_names, same_name}
use Rattle.ir_values.specs.declared.class.Class.{Class}
use Rattle.ir_values.specs.declared.class.Class.TheVariants as class
use Rattle.ir_values.specs.declared.name.Name.{Name}
use Rattle.ir_values.specs.declared.name.Name.TheVariants as name
use Rattle.ir_values.specs.declared.sig.TyWord.{TyWord}
use Rattle.ir_values.specs.declared.ty.Ty.{Ty}
use Rattle.ir_values.specs.declared.ty.Ty.TheVariants as ty
use Rattle.ir_values.specs.Calls.{Row, class_of, qis, row, same_text, same_words}
use Rattle.ir_values.specs.Names.{name_text}
use Rattle.ir_values.specs.Types.{signature}
use Rattle.ir_values.proofs.WordLemmas.{same_words_decides}
use Rattle.residue.specs.Valid.{same_types}
use Rattle.issued_steps.specs.Issues.{IsIssued, Issues}
use Rattle.valid_residue.proofs.Lists.{get-map, none-at, not-true, same-some}
use Rattle.valid_residue.proofs.Names.{name-turned}

-- ---- texts

pub text-is : (a b : List ℕ) → same_text a b ≡ true → a ≡ b
text-is a b e = (pointwise_decides unsigned_Decides a b).0 e

pub same-text : (a b : List ℕ) → a ≡ b → same_text a b ≡ true
same-text a b e = (pointwise_decides unsigned_Decides a b).1 e

-- ---- names that are distinct stand at one place

distinct-place : (ns : List Name) (i j : ℕ) (a b : Name) → are_distinct ns ≡ true → slice_get ns i ≡ Some a → slice_get ns j ≡ Some b → same_name a b ≡ true → i ≡ j
distinct-place [] i j a b h e k s = cc
distinct-place (n ∷ ns) zero zero a b h e k s = refl
distinct-place (n ∷ ns) zero (suc j) a b h e k s =
    let p = and_parts (not (list_any (same_name n) ns)) (are_distinct ns) h in
    let z : n ≡ a = cc in
    absurd (true≢false (sym s ∙ (ap (λ q. same_name q b) (sym z) ∙ none-at (same_name n) ns j b (not-true (list_any (same_name n) ns) p.0) k)))
distinct-place (n ∷ ns) (suc i) zero a b h e k s =
    let p = and_parts (not (list_any (same_name n) ns)) (are_distinct ns) h in
    let z : n ≡ b = cc in
    let off = none-at (same_name n) ns i a (not-true (list_any (same_name n) ns) p.0) e in
    absurd (true≢false (sym s ∙ (ap (same_name a) (sym z) ∙ name-turned n a off)))
distinct-place (n ∷ ns) (suc i) (suc j) a b h e k s = ap suc (distinct-place ns i j a b (and_parts (not (list_any (same_name n) ns)) (are_distinct ns) h).1 e k s)

distinct-behind : (xs ys : List Name) → are_distinct (xs ++ ys) ≡ true → are_distinct ys ≡ true
distinct-behind [] ys h = h
distinct-behind (x ∷ xs) ys h = distinct-behind xs ys (and_parts (not (list_any (same_name x) (xs ++ ys))) (are_distinct (xs ++ ys)) h).1

-- a function that has a class has a text for a name
named-text : (n : Name) (ws : List TyWord) (c : Class) → class_of (name_text n) ws ≡ Some c → (t : List ℕ) × (n ≡ name.Text t)
unfolding class_of
named-text (name.Text t) ws c e = (t, refl)
named-text (name.Number n) ws c e = cc

-- ---- `mz` has one list of types, and is a measurement

abbrev mz : List ℕ
mz = qis (codes "mz__body")

abbrev mz_words : List TyWord
mz_words = signature ty.Void (ty.Qubit ∷ ty.Res ∷ [])

mz-found : (ws : List TyWord) (c : Class) (b : Bool) → same_words ws mz_words ≡ b → option_map (λ (r : Row). r.class) (cond b (Some (row mz mz_words class.Measure)) None) ≡ Some c
    → (same_words ws mz_words ≡ true) × (c ≡ class.Measure)
mz-found ws c true s e = let z : class.Measure ≡ c = cc in (s, sym z)
mz-found ws c false s e = cc

pub mz-class : (ws : List TyWord) (c : Class) → class_of mz ws ≡ Some c → (same_words ws mz_words ≡ true) × (c ≡ class.Measure)
unfolding class_of
mz-class ws c e = mz-found ws c (same_words ws mz_words) refl e

-- ---- where an operation comes from

-- a function with its own name and types, or `mz` of a measurement that returns its result
pub data Source (m : Module) (n : List ℕ) (us : List Ty) : Type 0 where
  by_name : (g : ℕ) (f : Function) (c : Class) → slice_get m.funcs g ≡ Some f → class_of_function f ≡ Some c → n ≡ name_text f.name → type_words f ≡ signature ty.Void us → Source m n us
  by_result : n ≡ mz → us ≡ ty.Qubit ∷ ty.Res ∷ [] → Source m n us

source-by : (m : Module) (n : List ℕ) (us : List Ty) (g : ℕ) (f : Function) (c : Class) → slice_get m.funcs g ≡ Some f → class_of_function f ≡ Some c → Issues f c n us → Source m n us
source-by m n us g f class.Gate at d h = by_name g f class.Gate at d h.0 h.1
source-by m n us g f class.Measure at d h = by_name g f class.Measure at d h.0 h.1
source-by m n us g f class.Returning at d h = by_result h.0 h.1
source-by m n us g f c at d h = absurd h

pub source : (m : Module) (n : List ℕ) (us : List Ty) (b : Bool) → IsIssued m n us b → Source m n us
source m n us b h = source-by m n us h.number h.function h.class h.there h.classed h.issues

module _ (m : Module) (distinct : are_distinct (global_names m) ≡ true) where
  -- functions with classes and one name are one
  pub one-function : (g k : ℕ) (f h : Function) (c d : Class) → slice_get m.funcs g ≡ Some f → slice_get m.funcs k ≡ Some h → class_of_function f ≡ Some c → class_of_function h ≡ Some d
      → name_text f.name ≡ name_text h.name → f ≡ h
  one-function g k f h c d at there e q s =
      let a = named-text f.name (type_words f) c e in
      let b = named-text h.name (type_words h) d q in
      let same : a.0 ≡ b.0 = ap name_text (sym a.1) ∙ (s ∙ ap name_text b.1) in
      let z = distinct-place (map (λ (f : Function). f.name) m.funcs) g k f.name h.name (distinct-behind (map (λ (x : Constant). x.name) m.globals) (map (λ (f : Function). f.name) m.funcs) distinct)
      (get-map (λ (f : Function). f.name) m.funcs g f at) (get-map (λ (f : Function). f.name) m.funcs k h there)
      (ap (λ x. same_name x h.name) a.1 ∙ (ap (same_name (name.Text a.0)) b.1 ∙ same-text a.0 b.0 same)) in
      same-some f h (sym at ∙ (ap (slice_get m.funcs) z ∙ there))

  equal-words : (us ws : List Ty) → signature ty.Void us ≡ signature ty.Void ws → same_types us ws ≡ true
  equal-words us ws e = (same_words_decides (signature ty.Void us) (signature ty.Void ws)).1 e

  -- what issues `mz` by its own name has its types
  mz-types : (f : Function) (c : Class) (us : List Ty) → class_of_function f ≡ Some c → mz ≡ name_text f.name → type_words f ≡ signature ty.Void us → signature ty.Void us ≡ mz_words
  mz-types f c us d e words =
      let q = mz-class (type_words f) c (subst (λ n. class_of n (type_words f) ≡ Some c) (sym e) d) in
      sym words ∙ (same_words_decides (type_words f) mz_words).0 q.0

  -- operations of one name have one list of types
  pub one-list : (n : List ℕ) (us ws : List Ty) → Source m n us → Source m n ws → same_types us ws ≡ true
  one-list n us ws (by_name g f c at d e words) (by_name k h b there q s own) =
      let z = one-function g k f h c b at there d q (sym e ∙ s) in
      equal-words us ws (sym words ∙ (ap type_words z ∙ own))
  one-list n us ws (by_name g f c at d e words) (by_result s t) =
      equal-words us ws (mz-types f c us d (sym s ∙ e) words ∙ ap (signature ty.Void) (sym t))
  one-list n us ws (by_result e t) (by_name k h b there q s own) =
      equal-words us ws (ap (signature ty.Void) t ∙ sym (mz-types h b ws q (sym e ∙ s) own))
  one-list n us ws (by_result e t) (by_result s u) = equal-words us ws (ap (signature ty.Void) (t ∙ sym u))

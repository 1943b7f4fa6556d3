-- The irreversible operations of a lowered program are those that the module's functions issue.
use Rattle.std.proofs.Common.{◌≡◌, ℕ, zero, suc, Bool, true, false, Option, None, Some, List, [], ◌∷◌, flat_map, slice_get, codes, refl, sym, ap, ◌∙◌, subst}
use Rattle.std.proofs.lemmas.Bool.{or_from, true≢false}
use Rattle.std.proofs.lemmas.List.Folds.{list_any-append}
use Rattle.std.specs.Prelude.{◌||◌, if◌then◌else◌}
use Rattle.ir_module.specs.declared.tree.Function.{Function}
use Rattle.ir_module.specs.declared.tree.Module.{Module}
use Rattle.ir_module.specs.Classes.{class_of_function, type_words}
use Rattle.ir_module.specs.Entry.{has_attribute}
use Rattle.ir_module.specs.Numbered.{are_distinct, global_names}
use Rattle.ir_values.specs.declared.class.Class.{Class}
use Rattle.ir_values.specs.declared.class.Class.TheVariants as class
use Rattle.ir_values.specs.declared.ty.Ty.{Ty}
use Rattle.ir_values.specs.declared.ty.Ty.TheVariants as ty
use Rattle.ir_values.specs.Calls.{class_of, qis, same_text}
use Rattle.ir_values.specs.Names.{name_text}
use Rattle.ir_values.specs.Types.{signature}
use Rattle.residue.specs.Functions.{is_named}
use Rattle.static_steps.specs.Operations.{is_irreversible}
use Rattle.issued_steps.specs.Issues.{IsIssued, Issues}
use Rattle.lowered_program.specs.Residues.{irreversible_as, irreversible_of}
use Rattle.valid_residue.proofs.Lists.{same-some}
use Rattle.valid_calls.specs.Laws.{is_measurement}
use Rattle.valid_calls.proofs.Sources.{mz-class, one-function, same-text, text-is}

-- ---- names that the functions of a list give

either-true : (a b : Bool) → b ≡ true → (a || b) ≡ true
either-true true b e = refl
either-true false b e = e

first-true : (a b : Bool) → a ≡ true → (a || b) ≡ true
first-true true b e = refl
first-true false b e = cc

module _ {A : Type 0} (f : A → List (List ℕ)) (n : List ℕ) where
  there-named : (xs : List A) (i : ℕ) (x : A) → slice_get xs i ≡ Some x → is_named (f x) n ≡ true → is_named (flat_map f xs) n ≡ true
  there-named [] i x e h = cc
  there-named (y ∷ xs) zero x e h =
      let z : y ≡ x = cc in
      list_any-append (λ m. same_text n m) (f y) (flat_map f xs) ∙ first-true (is_named (f y) n) (is_named (flat_map f xs) n) (ap (λ w. is_named (f w) n) z ∙ h)
  there-named (y ∷ xs) (suc i) x e h =
      list_any-append (λ m. same_text n m) (f y) (flat_map f xs) ∙ either-true (is_named (f y) n) (is_named (flat_map f xs) n) (there-named xs i x e h)

  none-named : (xs : List A) → ((i : ℕ) (x : A) → slice_get xs i ≡ Some x → is_named (f x) n ≡ false) → is_named (flat_map f xs) n ≡ false
  none-named [] h = refl
  none-named (y ∷ xs) h =
      list_any-append (λ m. same_text n m) (f y) (flat_map f xs) ∙ or_from (is_named (f y) n) (is_named (flat_map f xs) n) (h 0 y refl) (none-named xs (λ i x e. h (suc i) x e))

-- ---- what one function gives

only-name : (n k : List ℕ) → n ≡ k → is_named (k ∷ []) n ≡ true
only-name n k e = first-true (same_text n k) false (same-text n k e)

other-name : (n k : List ℕ) → (n ≡ k → ⊥) → is_named (k ∷ []) n ≡ false
other-name n k h = by (same_text n k) refl
  where
    by : (b : Bool) → same_text n k ≡ b → (b || false) ≡ false
    by true e = absurd (h (text-is n k e))
    by false e = refl

attribute : (b : Bool) (n : List ℕ) → is_named (if b then (n ∷ []) else []) n ≡ b
attribute true n = only-name n n refl
attribute false n = refl

module _ (m : Module) (distinct : are_distinct (global_names m) ≡ true) (n : List ℕ) where
  abbrev gives : Function → List (List ℕ)
  gives f = irreversible_as f (class_of_function f)

  -- a gate of this name that can be undone is not named by another function
  module _ (g : ℕ) (f : Function) (at : slice_get m.funcs g ≡ Some f) (classed : class_of_function f ≡ Some class.Gate) (is : n ≡ name_text f.name) (off : has_attribute (codes "irreversible") f.attrs ≡ false) where
    same-function : (k : ℕ) (h : Function) (d : Class) → slice_get m.funcs k ≡ Some h → class_of_function h ≡ Some d → n ≡ name_text h.name → f ≡ h
    same-function k h d there q e = one-function m distinct g k f h class.Gate d at there classed q (sym is ∙ e)

    other-class : (k : ℕ) (h : Function) (d : Class) → slice_get m.funcs k ≡ Some h → class_of_function h ≡ Some d → (class.Gate ≡ d → ⊥) → n ≡ name_text h.name → ⊥
    other-class k h d there q apart e = apart (same-some class.Gate d (sym classed ∙ (ap class_of_function (same-function k h d there q e) ∙ q)))

    by-class : (k : ℕ) (h : Function) (o : Option Class) → slice_get m.funcs k ≡ Some h → class_of_function h ≡ o → is_named (irreversible_as h o) n ≡ false
    by-class k h (Some class.Measure) there q = other-name n (name_text h.name) (λ e. other-class k h class.Measure there q (λ z. cc) e)
    by-class k h (Some class.Returning) there q = other-name n (qis (codes "mz__body")) (λ e. no-gate e)
      where
        no-gate : n ≡ qis (codes "mz__body") → ⊥
        no-gate e =
            let z = (mz-class (type_words f) class.Gate (subst (λ k. class_of k (type_words f) ≡ Some class.Gate) (sym is ∙ e) classed)).1 in cc
    by-class k h (Some class.Gate) there q = by-attribute (has_attribute (codes "irreversible") h.attrs) refl
      where
        by-attribute : (b : Bool) → has_attribute (codes "irreversible") h.attrs ≡ b → is_named (if b then (name_text h.name ∷ []) else []) n ≡ false
        by-attribute true e =
            other-name n (name_text h.name) (λ z. true≢false (sym e ∙ (ap (λ (w : Function). has_attribute (codes "irreversible") w.attrs) (sym (same-function k h class.Gate there q z)) ∙ off)))
        by-attribute false e = refl
    by-class k h None there q = refl
    by-class k h (Some d) there q = refl

    not-named : is_named (irreversible_of m) n ≡ false
    not-named = none-named gives n m.funcs (λ k h there. by-class k h (class_of_function h) there refl)

  -- the function itself names it
  own-named : (g : ℕ) (f : Function) (c : Class) → slice_get m.funcs g ≡ Some f → class_of_function f ≡ Some c → is_named (irreversible_as f (Some c)) n ≡ true → is_named (irreversible_of m) n ≡ true
  own-named g f c at d h = there-named gives n m.funcs g f at (ap (λ o. is_named (irreversible_as f o) n) d ∙ h)

  by-attribute : (g : ℕ) (f : Function) → slice_get m.funcs g ≡ Some f → class_of_function f ≡ Some class.Gate → n ≡ name_text f.name → (b : Bool) → has_attribute (codes "irreversible") f.attrs ≡ b → is_named (irreversible_of m) n ≡ b
  by-attribute g f at d e true q =
      own-named g f class.Gate at d (ap (λ b. is_named (if b then (name_text f.name ∷ []) else []) n) q ∙ only-name n (name_text f.name) e)
  by-attribute g f at d e false q = not-named g f at d e q

  by-issues : (g : ℕ) (f : Function) (c : Class) (us : List Ty) → slice_get m.funcs g ≡ Some f → class_of_function f ≡ Some c → Issues f c n us → is_named (irreversible_of m) n ≡ is_irreversible f c
  by-issues g f class.Gate us at d h = by-attribute g f at d h.0 (has_attribute (codes "irreversible") f.attrs) refl
  by-issues g f class.Measure us at d h = own-named g f class.Measure at d (only-name n (name_text f.name) h.0)
  by-issues g f class.Returning us at d h = own-named g f class.Returning at d (only-name n (qis (codes "mz__body")) h.0)
  by-issues g f c us at d h = absurd h

  -- an operation is named exactly if it can't be undone
  pub named-so : (us : List Ty) (b : Bool) → IsIssued m n us b → is_named (irreversible_of m) n ≡ b
  named-so us b h = by-issues h.number h.function h.class us h.there h.classed h.issues ∙ sym h.undone

  -- a measurement can't
  measured : (f : Function) (c : Class) (us : List Ty) → class_of_function f ≡ Some c → Issues f c n us → is_measurement (class_of n (signature ty.Void us)) ≡ true → is_irreversible f c ≡ true
  measured f class.Measure us d h e = refl
  measured f class.Returning us d h e = refl
  measured f class.Gate us d h e =
      let same = ap (λ k. class_of k (signature ty.Void us)) h.0 ∙ (ap (λ ws. class_of (name_text f.name) ws) (sym h.1) ∙ d) in
      absurd (true≢false (sym e ∙ ap is_measurement same))
  measured f c us d h e = absurd h

  pub measurement-irreversible : (us : List Ty) (b : Bool) → IsIssued m n us b → is_measurement (class_of n (signature ty.Void us)) ≡ true → b ≡ true
  measurement-irreversible us b h e = h.undone ∙ measured h.function h.class us h.classed h.issues e

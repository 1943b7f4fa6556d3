-- Marks of functions by their numbers.
use Rattle.std.proofs.Common.{◌≡◌, ◌⊎◌, inl, inr, ⊎_elim, ℕ, zero, suc, ◌<◌, ◌≤◌, ◌==◌, ◌||◌, Bool, true, false, List, [], ◌∷◌, ◌++◌, Option, None, Some, length, map, flat_map, replicate, slice_get, slice_set, refl, sym, ap, ◌∙◌, subst, arith}
use Rattle.std.specs.List.{list_any}
use Rattle.std.proofs.lemmas.Bool.{cases_lt}
use Rattle.std.proofs.lemmas.Bool.Decides.{nat_tests}
use Rattle.std.proofs.lemmas.List.Folds.{list_any-append}
use Rattle.ir_module.specs.declared.tree.Block.{Block}
use Rattle.ir_module.specs.declared.tree.Callee.{Callee}
use Rattle.ir_module.specs.declared.tree.Callee.TheVariants as callee
use Rattle.ir_module.specs.declared.tree.Function.{Function}
use Rattle.ir_module.specs.declared.tree.Inst.{Inst}
use Rattle.ir_module.specs.declared.tree.Phi.{Phi}
use Rattle.ir_module.specs.Steps.{Step, PhiAt, InstAt, TermAt, steps_of_block}
use Rattle.ir_module.specs.Tree.{blocks_of}
use Rattle.profile_rules.specs.Base.{calls_number}
use Rattle.profile_rules.specs.Calls.{Call, passes, at_call, call_of_kind}
use Rattle.base_profile.specs.code.Called.{mark_callee, mark_call, mark_insts, mark_blocks, TellsCalled}
use Rattle.base_profile.proofs.Lists.{get-set, get-other, length-set, get-replicate, length-replicate}

-- the mark of an element, made of the element
pub passes_map : {A : Type 0} (h : A → Bool) (xs : List A) (i : ℕ) → passes (slice_get (map h xs) i) (λ b. b) ≡ passes (slice_get xs i) h
passes_map h [] i = refl
passes_map h (x ∷ xs) zero = refl
passes_map h (x ∷ xs) (suc i) = passes_map h xs i

or-false : (b : Bool) → b ≡ (b || false)
or-false true = refl
or-false false = refl

or-true : (b : Bool) → true ≡ (b || true)
or-true true = refl
or-true false = refl

or-assoc : (a b c : Bool) → ((a || b) || c) ≡ (a || (b || c))
or-assoc true b c = refl
or-assoc false b c = refl

module _ (g : ℕ) where
  abbrev pub calls : Step → Bool
  calls s = at_call s (λ c. calls_number g c.callee)

  abbrev pub called-by : Option Call → Bool
  called-by o = passes o (λ c. calls_number g c.callee)

  same-or-not : (h : ℕ) → (h ≡ g) ⊎ (h ≡ g → ⊥)
  same-or-not h = ⊎_elim (λ (l : h < g). inr (λ e. omega (arith, l, e))) (λ (l : g ≤ h). ⊎_elim (λ (k : g < h). inr (λ e. omega (arith, k, e))) (λ (k : h ≤ g). inl (omega (arith, l, k))) (cases_lt g h)) (cases_lt h g)

  by-callee : (on : List Bool) (b : Bool) (f : Callee) → g < length on → slice_get on g ≡ Some b → slice_get (mark_callee on f) g ≡ Some (b || calls_number g f)
  by-callee on b (callee.Local x) l e = e ∙ ap Some (or-false b)
  by-callee on b (callee.Func h) l e = ⊎_elim
      (λ (q : h.0 ≡ g). subst (λ n. slice_get (slice_set on n true) g ≡ Some true) (sym q) (get-set on g true l)
      ∙ ap Some (or-true b ∙ ap (λ t. b || t) (sym (let t : (h.0 == g) ≡ true = grind (arith, nat_tests) in t))))
      (λ (d : h.0 ≡ g → ⊥). get-other on h.0 g true d ∙ e
      ∙ ap Some (or-false b ∙ ap (λ t. b || t) (sym (let t : (h.0 == g) ≡ false = grind (arith, nat_tests, d) in t))))
      (same-or-not h.0)

  by-call : (on : List Bool) (b : Bool) (o : Option Call) → g < length on → slice_get on g ≡ Some b → slice_get (mark_call on o) g ≡ Some (b || called-by o)
  by-call on b None l e = e ∙ ap Some (or-false b)
  by-call on b (Some c) l e = by-callee on b c.callee l e

call-length : (on : List Bool) (o : Option Call) → length (mark_call on o) ≡ length on
call-length on None = refl
call-length on (Some c) = at c.callee
  where
    at : (f : Callee) → length (mark_callee on f) ≡ length on
    at (callee.Func h) = length-set on h.0 true
    at (callee.Local x) = refl

insts-length : (on : List Bool) (is : List Inst) → length (mark_insts on is) ≡ length on
insts-length on [] = refl
insts-length on (i ∷ is) = insts-length (mark_call on (call_of_kind i.what)) is ∙ call-length on (call_of_kind i.what)

blocks-length : (on : List Bool) (bs : List Block) → length (mark_blocks on bs) ≡ length on
blocks-length on [] = refl
blocks-length on (b ∷ bs) = blocks-length (mark_insts on b.insts) bs ∙ insts-length on b.insts

module _ (g : ℕ) where
  by-insts : (on : List Bool) (b : Bool) (is : List Inst) → g < length on → slice_get on g ≡ Some b → slice_get (mark_insts on is) g ≡ Some (b || list_any (calls g) (map InstAt is))
  by-insts on b [] l e = e ∙ ap Some (or-false b)
  by-insts on b (i ∷ is) l e =
      let k = call-length on (call_of_kind i.what) in
      by-insts (mark_call on (call_of_kind i.what)) (b || called-by g (call_of_kind i.what)) is (omega (arith, k, l)) (by-call g on b (call_of_kind i.what) l e)
      ∙ ap Some (or-assoc b (called-by g (call_of_kind i.what)) (list_any (calls g) (map InstAt is)))

  no-phis : (ps : List Phi) → list_any (calls g) (map PhiAt ps) ≡ false
  no-phis [] = refl
  no-phis (p ∷ ps) = no-phis ps

  in-block : (c : Block) → list_any (calls g) (steps_of_block c) ≡ list_any (calls g) (map InstAt c.insts)
  in-block c =
      list_any-append (calls g) (map PhiAt c.phis) (map InstAt c.insts ++ TermAt c.term ∷ [])
      ∙ ap (λ b. b || list_any (calls g) (map InstAt c.insts ++ TermAt c.term ∷ [])) (no-phis c.phis)
      ∙ list_any-append (calls g) (map InstAt c.insts) (TermAt c.term ∷ [])
      ∙ sym (or-false (list_any (calls g) (map InstAt c.insts)))

  by-blocks : (on : List Bool) (b : Bool) (cs : List Block) → g < length on → slice_get on g ≡ Some b → slice_get (mark_blocks on cs) g ≡ Some (b || list_any (calls g) (flat_map steps_of_block cs))
  by-blocks on b [] l e = e ∙ ap Some (or-false b)
  by-blocks on b (c ∷ cs) l e =
      let k = insts-length on c.insts in
      by-blocks (mark_insts on c.insts) (b || list_any (calls g) (map InstAt c.insts)) cs (omega (arith, k, l)) (by-insts on b c.insts l e)
      ∙ ap Some (or-assoc b (list_any (calls g) (map InstAt c.insts)) (list_any (calls g) (flat_map steps_of_block cs))
      ∙ ap (λ t. b || t) (ap (λ t. t || list_any (calls g) (flat_map steps_of_block cs)) (sym (in-block c))
      ∙ sym (list_any-append (calls g) (steps_of_block c) (flat_map steps_of_block cs))))

pub marked : (f : Function) (count : ℕ) (none on : List Bool) → none ≡ replicate count false → on ≡ mark_blocks none (blocks_of f) → TellsCalled f count on
marked f count none on n e =
    let sized : length none ≡ count = ap length n ∙ length-replicate count false in
    record {
      sized = ap length e ∙ blocks-length none (blocks_of f) ∙ sized;
      exact = λ g l. ap (λ xs. slice_get xs g) e ∙ by-blocks g none false (blocks_of f) (omega (arith, l, sized)) (ap (λ xs. slice_get xs g) n ∙ get-replicate count g false l);
    }

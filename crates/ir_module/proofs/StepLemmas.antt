-- What a test of all steps says of the step at a point: the bridge from `Numbered` and `IsPrintable` to points.
use Rattle.std.proofs.Common.{◌≡◌, refl, ℕ, zero, suc, ◌+◌, ◌-◌, ◌<◌, Bool, true, false, ◌&&◌, Option, None, Some, List, [], ◌∷◌, ◌++◌, length, map, flat_map, slice_get, sym, ◌∙◌, subst}
use Rattle.std.specs.List.{list_all}
use Rattle.std.proofs.lemmas.Bool.{and_parts}
use Rattle.std.proofs.lemmas.List.Folds.{list_all-append, list_all-map}
use Rattle.ir_module.specs.declared.places.Point.{Point}
use Rattle.ir_module.specs.declared.tree.Block.{Block}
use Rattle.ir_module.specs.declared.tree.Function.{Function}
use Rattle.ir_module.specs.declared.tree.Inst.{Inst}
use Rattle.ir_module.specs.declared.tree.Module.{Module}
use Rattle.ir_module.specs.declared.tree.Phi.{Phi}
use Rattle.ir_module.specs.declared.tree.Term.{Term}
use Rattle.ir_module.specs.Numbered.{all_steps}
use Rattle.ir_module.specs.Steps.{Step, PhiAt, InstAt, TermAt, NoStep, from_option, at_end, step_at, step_in, step_of_point, steps_of_block, steps_of}
use Rattle.ir_module.specs.Tree.{blocks_at, blocks_or_none, block_at}

-- an item of a list that passes
pub passes-at : {A : Type 0} (p : A → Bool) (xs : List A) (i : ℕ) (x : A) → list_all p xs ≡ true → slice_get xs i ≡ Some x → p x ≡ true
passes-at p [] i x h e = cc
passes-at p (y ∷ ys) zero x h e = let q = and_parts (p y) (list_all p ys) h in let k : y ≡ x = cc in subst (λ z. p z ≡ true) k q.0
passes-at p (y ∷ ys) (suc i) x h e = passes-at p ys i x (and_parts (p y) (list_all p ys) h).1 e

module _ (test : Step → Bool) (none : test NoStep ≡ true) where
  by-option : {A : Type 0} (o : Option A) (f : A → Step) (s : Step) → ((x : A) → o ≡ Some x → test (f x) ≡ true) → test s ≡ true → test (from_option o f s) ≡ true
  by-option None f s some rest = rest
  by-option (Some x) f s some rest = some x refl

  by-end : (t : Term) (n : ℕ) → test (TermAt t) ≡ true → test (at_end t n) ≡ true
  by-end t zero h = h
  by-end t (suc n) h = none

  -- each step of a block passes, whatever the index
  pub step-passes : (b : Block) (i : ℕ) → list_all test (steps_of_block b) ≡ true → test (step_at b i) ≡ true
  step-passes b i h =
      let p = and_parts (list_all test (map PhiAt b.phis)) (list_all test (map InstAt b.insts ++ (TermAt b.term ∷ []))) (sym (list_all-append test (map PhiAt b.phis) (map InstAt b.insts ++ (TermAt b.term ∷ []))) ∙ h) in
      let q = and_parts (list_all test (map InstAt b.insts)) (list_all test (TermAt b.term ∷ [])) (sym (list_all-append test (map InstAt b.insts) (TermAt b.term ∷ [])) ∙ p.1) in
      by-option (slice_get b.phis i) PhiAt _ (λ x e. passes-at (λ (y : Phi). test (PhiAt y)) b.phis i x (sym (list_all-map test PhiAt b.phis) ∙ p.0) e)
      (by-option (slice_get b.insts (i - length b.phis)) InstAt _ (λ x e. passes-at (λ (y : Inst). test (InstAt y)) b.insts (i - length b.phis) x (sym (list_all-map test InstAt b.insts) ∙ q.0) e)
      (by-end b.term (i - (length b.phis + length b.insts)) (and_parts (test (TermAt b.term)) true q.1).0))

  by-block : (o : Option Block) (i : ℕ) → ((b : Block) → o ≡ Some b → list_all test (steps_of_block b) ≡ true) → test (step_in o i) ≡ true
  by-block None i each = none
  by-block (Some b) i each = step-passes b i (each b refl)

  block-passes : (bs : List Block) (i : ℕ) (b : Block) → list_all test (flat_map steps_of_block bs) ≡ true → slice_get bs i ≡ Some b → list_all test (steps_of_block b) ≡ true
  block-passes [] i b h e = cc
  block-passes (c ∷ bs) zero b h e =
      let p = and_parts (list_all test (steps_of_block c)) (list_all test (flat_map steps_of_block bs)) (sym (list_all-append test (steps_of_block c) (flat_map steps_of_block bs)) ∙ h) in
      let k : c ≡ b = cc in
      subst (λ z. list_all test (steps_of_block z) ≡ true) k p.0
  block-passes (c ∷ bs) (suc i) b h e =
      let p = and_parts (list_all test (steps_of_block c)) (list_all test (flat_map steps_of_block bs)) (sym (list_all-append test (steps_of_block c) (flat_map steps_of_block bs)) ∙ h) in
      block-passes bs i b p.1 e

  by-blocks : (o : Option (List Block)) (p : Point) → list_all test (flat_map steps_of_block (blocks_or_none o)) ≡ true → test (step_in (blocks_at o p.block) p.index) ≡ true
  by-blocks None p h = none
  by-blocks (Some bs) p h = by-block (slice_get bs p.block.0) p.index (λ b e. block-passes bs p.block.0 b h e)

  -- each step of a function passes, at any point
  pub point-passes : (f : Function) (p : Point) → list_all test (steps_of f) ≡ true → test (step_of_point f p) ≡ true
  point-passes f p h = by-blocks f.blocks p h

-- a test of all steps of a module holds at each point of each of its functions
pub module-passes : (test : Function → Step → Bool) (m : Module) (p : Point) (f : Function) → all_steps test m ≡ true → test f NoStep ≡ true → slice_get m.funcs p.func.0 ≡ Some f → test f (step_of_point f p) ≡ true
module-passes test m p f h none e = point-passes (test f) none f p (passes-at (λ (g : Function). list_all (test g) (steps_of g)) m.funcs p.func.0 f h e)

-- Where the numbers of a module are in range, so are the results of its phis and instructions.
use Rattle.std.proofs.Common.{◌≡◌, ℕ, suc, ◌<◌, true, Option, None, Some, List, [], ◌∷◌, length, refl, sym, ◌∙◌, subst}
use Rattle.std.proofs.lemmas.Bool.{and_parts, ltb-true}
use Rattle.std.specs.List.{list_all}
use Rattle.std.specs.Option.{option_to_list}
use Rattle.std.specs.Prelude.{◌&&◌, nat_le, nat_lt, slice_get}
use Rattle.ir_module.specs.declared.places.Point.{Point}
use Rattle.ir_module.specs.declared.tree.Block.{Block}
use Rattle.ir_module.specs.declared.tree.Function.{Function}
use Rattle.ir_module.specs.declared.tree.Inst.{Inst}
use Rattle.ir_module.specs.declared.tree.Module.{Module}
use Rattle.ir_module.specs.declared.tree.Phi.{Phi}
use Rattle.ir_module.specs.Numbered.{all_steps, local_in_range, numbers_in_range, operand_in_range, step_in_range}
use Rattle.ir_module.specs.Operands.{step_blocks, step_defines, step_operands}
use Rattle.ir_module.specs.Steps.{Step, PhiAt, InstAt, step_of_point, step_in_module}
use Rattle.ir_module.specs.Tree.{blocks_of}
use Rattle.ir_module.proofs.StepLemmas.{module-passes}
use Rattle.ir_values.specs.declared.ids.BlockId.{BlockId}
use Rattle.ir_values.specs.declared.ids.FuncId.{FuncId}
use Rattle.ir_values.specs.declared.ids.LocalId.{LocalId}
use Rattle.qir_meaning.specs.Moves.{block_in}
use Rattle.runs_follow_steps.specs.Describes.{ResultInRange, locals_in, locals_in_some}
use Rattle.runs_follow_steps.proofs.Flows.{InRange}
use Rattle.runs_follow_steps.proofs.Live.{in-function, phi-at, step-is}

below : (a b : ℕ) → nat_lt a b ≡ true → a < b
below a b e = ltb-true a b e

module _ (m : Module) (h : numbers_in_range m ≡ true) where
  in-range : all_steps (step_in_range m) m ≡ true
  in-range = (and_parts (list_all (λ (f : Function). nat_le f.params (length f.locals)) m.funcs) (all_steps (step_in_range m) m) h).1

  -- what a step defines is a name of its function
  defines : (p : Point) (s : Step) (f : Function) → slice_get m.funcs p.func.0 ≡ Some f → step_of_point f p ≡ s
      → list_all (local_in_range f) (step_defines s) ≡ true
  defines p s f e is =
      let passes = subst (λ z. step_in_range m f z ≡ true) is (module-passes (step_in_range m) m p f in-range refl e) in
      let names = list_all (local_in_range f) (step_defines s) in
      let blocks = list_all (λ (b : BlockId). nat_lt b.0 (length (blocks_of f))) (step_blocks s) in
      (and_parts names blocks (and_parts (list_all (operand_in_range m f) (step_operands s)) (names && blocks) passes).1).0

  is-local : (g : FuncId) (f : Function) (x : LocalId) → slice_get m.funcs g.0 ≡ Some f → nat_lt x.0 (length f.locals) ≡ true → x.0 < locals_in m g
  is-local g f x e lt = subst (λ o. x.0 < locals_in_some o) (sym e) (below x.0 (length f.locals) lt)

  pub results-in : (p : Point) (i : Inst) → step_in_module m p ≡ InstAt i → ResultInRange m p.func i.result
  results-in p i is = by-function (slice_get m.funcs p.func.0) refl is
    where
      by-result : (f : Function) → slice_get m.funcs p.func.0 ≡ Some f → (r : Option LocalId)
          → list_all (local_in_range f) (option_to_list r) ≡ true → ResultInRange m p.func r
      by-result f e None all = tt
      by-result f e (Some x) all = is-local p.func f x e (and_parts (nat_lt x.0 (length f.locals)) true all).0

      by-function : (o : Option Function) → slice_get m.funcs p.func.0 ≡ o → in-function o p ≡ InstAt i → ResultInRange m p.func i.result
      by-function None e is = cc
      by-function (Some f) e is = by-result f e i.result (defines p (InstAt i) f e is)

  abbrev at-phi : FuncId → BlockId → ℕ → Point
  at-phi g b j = record { func = g; block = b; index = j }

  phi-in : (g : FuncId) (b : BlockId) (to : Block) → block_in m g b ≡ Some to → (j : ℕ) (phi : Phi) → slice_get to.phis j ≡ Some phi
      → phi.result.0 < locals_in m g
  phi-in g b to is j phi at = by-function (slice_get m.funcs g.0) refl (step-is m (at-phi g b j) to is ∙ phi-at to j phi at)
    where
      by-function : (o : Option Function) → slice_get m.funcs g.0 ≡ o → in-function o (at-phi g b j) ≡ PhiAt phi → phi.result.0 < locals_in m g
      by-function None e is = cc
      by-function (Some f) e is =
          is-local g f phi.result e (and_parts (nat_lt phi.result.0 (length f.locals)) true (defines (at-phi g b j) (PhiAt phi) f e is)).0

  pub phis-in : (g : FuncId) (b : BlockId) (to : Block) → block_in m g b ≡ Some to → InRange m g to.phis
  phis-in g b to is = each to.phis (λ j phi at. phi-in g b to is j phi at)
    where
      each : (ps : List Phi) → ((j : ℕ) (phi : Phi) → slice_get ps j ≡ Some phi → phi.result.0 < locals_in m g) → InRange m g ps
      each [] k = tt
      each (phi ∷ ps) k = (k 0 phi refl, each ps (λ j x at. k (suc j) x at))

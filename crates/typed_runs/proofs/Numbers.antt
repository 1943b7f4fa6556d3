-- What `Numbered` says of a function and of a step.
use Rattle.std.proofs.Common.{◌≡◌, ℕ, zero, suc, ◌<◌, ◌≤◌, true, Option, None, Some, List, [], ◌∷◌, length, map, take, slice_get, refl, subst, arith}
use Rattle.std.proofs.lemmas.Bool.{and_parts, leb-true}
use Rattle.std.proofs.lemmas.List.Elements.{All-cons, All-nil}
use Rattle.std.specs.List.{All, list_all}
use Rattle.std.specs.Prelude.{nat_le, nat_lt, ◌&&◌}
use Rattle.ir_values.specs.declared.name.Name.{Name}
use Rattle.ir_values.specs.declared.ty.Ty.{Ty}
use Rattle.ir_values.specs.Types.{is_ty, IsTy}
use Rattle.ir_module.specs.declared.places.Point.{Point}
use Rattle.ir_module.specs.declared.tree.Block.{Block}
use Rattle.ir_module.specs.declared.tree.Function.{Function}
use Rattle.ir_module.specs.declared.tree.Module.{Module}
use Rattle.ir_module.specs.Classes.{parameter_types}
use Rattle.ir_module.specs.Numbered.{Numbered, step_in_range, calls_whole, has_block, operand_in_range, is_written}
use Rattle.ir_module.specs.Edges.{edges}
use Rattle.ir_module.specs.Operands.{term_operands, step_operands}
use Rattle.ir_module.specs.Steps.{TermAt, step_of_point}
use Rattle.ir_module.specs.Tree.{blocks_of}
use Rattle.ir_module.specs.declared.tree.Term.{Term}
use Rattle.ir_values.specs.declared.ids.BlockId.{BlockId}
use Rattle.ir_module.proofs.StepLemmas.{module-passes, passes-at}

pub all-types : {A : Type 0} (type : A → Ty) (xs : List A) → list_all (λ x. is_ty (type x)) xs ≡ true → All IsTy (map type xs)
all-types type [] h = All-nil IsTy
all-types type (x ∷ xs) h = let p = and_parts (is_ty (type x)) (list_all (λ x. is_ty (type x)) xs) h in All-cons IsTy (type x) (map type xs) p.0 (all-types type xs p.1)

parameters : (n : ℕ) (ls : List (Name × Ty)) → list_all (λ (l : Name × Ty). is_ty l.1) ls ≡ true → All IsTy (map (λ (l : Name × Ty). l.1) (take n ls))
parameters zero ls h = All-nil IsTy
parameters (suc n) [] h = All-nil IsTy
parameters (suc n) (l ∷ ls) h =
    let p = and_parts (is_ty l.1) (list_all (λ (l : Name × Ty). is_ty l.1) ls) h in All-cons IsTy l.1 (map (λ (l : Name × Ty). l.1) (take n ls)) p.0 (parameters n ls p.1)

-- what a function's numbers and types are
pub record FunctionFacts (f : Function) : Type 0 where
  pub params : f.params ≤ length f.locals
  pub ret : IsTy f.ret
  pub types : All IsTy (parameter_types f)
  pub bodies : has_block f.blocks ≡ true

pub some-block : (o : Option (List Block)) (bs : List Block) → o ≡ Some bs → has_block o ≡ true → 0 < length bs
some-block None bs e h = cc
some-block (Some []) bs e h = cc
some-block (Some (b ∷ more)) bs e h = let z : (b ∷ more) ≡ bs = cc in subst (λ l. 0 < length l) z (omega arith)

module _ (m : Module) (numbered : Numbered m) where
  pub function-facts : (n : ℕ) (f : Function) → slice_get m.funcs n ≡ Some f → FunctionFacts f
  function-facts n f e =
      let range = and_parts _ _ numbered.in_range in
      let whole = and_parts _ _ numbered.whole in
      let types = and_parts (is_ty f.ret) (list_all (λ l. is_ty l.1) f.locals) (passes-at (λ (f : Function). is_ty f.ret && list_all (λ l. is_ty l.1) f.locals) m.funcs n f whole.0 e) in
      record {
        params = leb-true f.params (length f.locals) (passes-at (λ (f : Function). nat_le f.params (length f.locals)) m.funcs n f range.0 e);
        ret = types.0;
        types = parameters f.params f.locals types.1;
        bodies = passes-at (λ (f : Function). has_block f.blocks) m.funcs n f numbered.bodies e;
      }

  module _ (p : Point) (f : Function) (e : slice_get m.funcs p.func.0 ≡ Some f) where
    -- the step at a point has its numbers in range, and a call there is written with whole types
    pub range-at : step_in_range m f (step_of_point f p) ≡ true
    range-at = let range = and_parts _ _ numbered.in_range in module-passes (step_in_range m) m p f range.1 refl e

    -- no operand there is a qubit or result that only a run gives
    pub written-at : list_all is_written (step_operands (step_of_point f p)) ≡ true
    written-at = module-passes (λ f s. list_all is_written (step_operands s)) m p f numbered.written refl e

    pub whole-at : calls_whole (step_of_point f p) ≡ true
    whole-at = let whole = and_parts _ _ numbered.whole in module-passes (λ f s. calls_whole s) m p f whole.1 refl e

-- the edges of a terminator lead to blocks of the function
pub edges-in : (m : Module) (f : Function) (t : Term) → step_in_range m f (TermAt t) ≡ true → list_all (λ (b : BlockId). nat_lt b.0 (length (blocks_of f))) (edges t) ≡ true
edges-in m f t h =
    let p = and_parts (list_all (operand_in_range m f) (term_operands t)) (true && list_all (λ (b : BlockId). nat_lt b.0 (length (blocks_of f))) (edges t)) h in p.1

-- What stands at a point of a function: phis first, then instructions, then the terminator.
use Rattle.std.specs.Prelude.{ℕ, zero, suc, ◌+◌, ◌-◌, List, [], ◌∷◌, ◌++◌, length, map, flat_map, slice_get, Option, None, Some}
use Rattle.ir_module.specs.declared.places.Point.{Point}
use Rattle.ir_module.specs.declared.tree.Block.{Block}
use Rattle.ir_module.specs.declared.tree.Function.{Function}
use Rattle.ir_module.specs.declared.tree.Inst.{Inst}
use Rattle.ir_module.specs.declared.tree.Module.{Module}
use Rattle.ir_module.specs.declared.tree.Phi.{Phi}
use Rattle.ir_module.specs.declared.tree.Term.{Term}
use Rattle.ir_module.specs.Tree.{block_at, blocks_of}

pub data Step : Type 0 where
  PhiAt : Phi → Step
  InstAt : Inst → Step
  TermAt : Term → Step
  NoStep : Step

abbrev pub from_option : {A : Type 0} → Option A → (A → Step) → Step → Step
from_option None f s = s
from_option (Some x) f s = f x

abbrev pub at_end : Term → ℕ → Step
at_end t zero = TermAt t
at_end t (suc n) = NoStep

abbrev pub step_at : Block → ℕ → Step
step_at b i = from_option (slice_get b.phis i) PhiAt
    (from_option (slice_get b.insts (i - length b.phis)) InstAt (at_end b.term (i - (length b.phis + length b.insts))))

abbrev pub step_in : Option Block → ℕ → Step
step_in None i = NoStep
step_in (Some b) i = step_at b i

abbrev pub step_of_point : Function → Point → Step
step_of_point f p = step_in (block_at f p.block) p.index

abbrev step_in_function : Option Function → Point → Step
step_in_function None p = NoStep
step_in_function (Some f) p = step_of_point f p

abbrev pub step_in_module : Module → Point → Step
step_in_module m p = step_in_function (slice_get m.funcs p.func.0) p

-- the steps of a block in order
abbrev pub steps_of_block : Block → List Step
steps_of_block b = map PhiAt b.phis ++ (map InstAt b.insts ++ (TermAt b.term ∷ []))

-- the steps of a function in text order
abbrev pub steps_of : Function → List Step
steps_of f = flat_map steps_of_block (blocks_of f)

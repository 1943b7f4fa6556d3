-- The graphs of a module, and what is found of them.
use Rattle.std.specs.Prelude.{◌≡◌, ◌↔◌, ℕ, Bool, true, false, Contains, List, [], ◌∷◌, ◌++◌, length, slice_get, map, Option, None, Some}
use Rattle.ir_values.specs.declared.ids.BlockId.{BlockId}
use Rattle.ir_module.specs.declared.places.Point.{Point}
use Rattle.ir_module.specs.declared.tree.Block.{Block}
use Rattle.ir_module.specs.declared.tree.Function.{Function}
use Rattle.ir_module.specs.declared.tree.Inst.{Inst}
use Rattle.ir_module.specs.declared.tree.Module.{Module}
use Rattle.ir_module.specs.Edges.{edges}
use Rattle.adaptive_profile.specs.code.Pairs.{holds}
use Rattle.graph_cycles.specs.Cycles.{Graph, successors, Reaches, TellsCycles}
use Rattle.profile_rules.specs.Adaptive.{block_graph, call_graph, number_called_by}
use Rattle.profile_rules.specs.Calls.{passes, call_of_kind}

abbrev pub numbers : List BlockId → List ℕ
numbers bs = map (λ b. b.0) bs

abbrev pub graph_of : List Block → Graph
graph_of blocks = map (λ c. numbers (edges c.term)) blocks

-- what some instructions call by name
abbrev pub called_by : List Inst → List ℕ
called_by [] = []
called_by (i ∷ is) = number_called_by (call_of_kind i.what) ++ called_by is

abbrev pub called_in : List Block → List ℕ
called_in [] = []
called_in (b ∷ bs) = called_by b.insts ++ called_in bs

-- of each function the blocks that lie on cycles
pub record TellLoops (funcs : List Function) (rows : List (List Bool)) : Type 0 where
  pub sized : length rows ≡ length funcs
  pub row : (g : ℕ) (f : Function) (on : List Bool)
      → slice_get funcs g ≡ Some f → slice_get rows g ≡ Some on → TellsCycles (block_graph f) on

abbrev pub row_at : Option (List Bool) → ℕ → Bool
row_at None b = false
row_at (Some on) b = passes (slice_get on b) (λ c. c)

-- the block of this point lies on a cycle
abbrev pub is_cyclic : List (List Bool) → Point → Bool
is_cyclic rows p = row_at (slice_get rows p.func.0) p.block.0

-- callers and callees of exactly the calls that lead back
abbrev pub AreReturningCalls : Module → List (ℕ × ℕ) → Type 0
AreReturningCalls m pairs =
    (u g : ℕ) → (holds pairs (u, g) ≡ true) ↔ (Contains (successors (call_graph m) u) g × Reaches (call_graph m) g u)

-- How the tables of a flow are made from the blocks of a function.
use Rattle.std.specs.Prelude.{◌≡◌, List, ◌++◌, map}
use Rattle.ir_module.specs.declared.tree.Block.{Block}
use Rattle.name_flow.specs.declared.flow.Flow.{Flow}
use Rattle.name_flow.specs.code.Marks.{gather, block_used, block_defined, block_edges, block_phis_used, end_index}
use Rattle.name_flow.specs.code.Runs.{AreRuns}
use Rattle.name_flow.specs.code.Triples.{Triple, Sorts}

pub record IsBuiltFrom (blocks : List Block) (flow : Flow) : Type 0 where
  pub es : List Triple
  pub es_sorted : Sorts (gather block_edges 0 blocks) es
  pub defined_sorted : Sorts (gather block_defined 0 blocks) flow.defined
  pub used_sorted : Sorts (gather block_used 0 blocks ++ gather (block_phis_used blocks es) 0 blocks) flow.used
  pub runs_are : AreRuns flow.used flow.defined es flow.runs
  pub last_is : flow.last ≡ map end_index blocks

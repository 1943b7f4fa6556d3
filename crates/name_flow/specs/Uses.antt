-- Which local names the step at a point reads, and which it defines.
use Rattle.std.specs.Prelude.{List, [], ◌∷◌, ◌++◌, flat_map, Option, None, Some, ◌==◌, if◌then◌else◌}
use Rattle.ir_values.specs.declared.ids.BlockId.{BlockId}
use Rattle.ir_values.specs.declared.ids.LocalId.{LocalId}
use Rattle.ir_module.specs.declared.tree.Block.{Block}
use Rattle.ir_module.specs.declared.tree.Function.{Function}
use Rattle.ir_module.specs.declared.tree.InstKind.{InstKind}
use Rattle.ir_module.specs.declared.tree.Operand.{Operand}
use Rattle.ir_module.specs.declared.tree.Operand.TheVariants as operand
use Rattle.ir_module.specs.declared.tree.Term.{Term}
use Rattle.ir_module.specs.Edges.{edges}
use Rattle.ir_module.specs.Operands.{operands_of, term_operands}
use Rattle.ir_module.specs.Steps.{Step, PhiAt, InstAt, TermAt, NoStep}
use Rattle.ir_module.specs.Tree.{block_at}

-- the local name of an operand, if it is one
abbrev pub reads : Operand → List LocalId
reads (operand.Const v) = []
reads (operand.Local x) = x ∷ []

abbrev pub inst_reads : InstKind → List LocalId
inst_reads what = flat_map reads (operands_of what)

abbrev pub term_reads : Term → List LocalId
term_reads t = flat_map reads (term_operands t)

-- the names that a phi with these entries reads where the edge comes from the block p
abbrev pub entries_read : BlockId → List (Operand × BlockId) → List LocalId
entries_read p [] = []
entries_read p (e ∷ es) = (if e.1.0 == p.0 then reads e.0 else []) ++ entries_read p es

-- the names that the phis of a block read where the edge comes from the block p
abbrev pub phis_read : BlockId → Option Block → List LocalId
phis_read p None = []
phis_read p (Some b) = flat_map (λ phi. entries_read p phi.entries) b.phis

-- the names that a step of the block p reads: an operand of a phi is read at the end of the block that
-- its edge comes from (LLVM Language Reference, 'phi Instruction')
abbrev pub step_reads : Function → BlockId → Step → List LocalId
step_reads f p (PhiAt phi) = []
step_reads f p (InstAt i) = inst_reads i.what
step_reads f p (TermAt t) = term_reads t ++ flat_map (λ b. phis_read p (block_at f b)) (edges t)
step_reads f p NoStep = []

-- What instructions and terminators read, in the order of their text; phis read at the ends of other blocks.
use Rattle.std.specs.Prelude.{List, [], ◌∷◌, map}
use Rattle.std.specs.Option.{option_to_list}
use Rattle.ir_values.specs.declared.ids.BlockId.{BlockId}
use Rattle.ir_values.specs.declared.ids.LocalId.{LocalId}
use Rattle.ir_values.specs.declared.value.Value.TheVariants as value
use Rattle.ir_module.specs.declared.tree.Callee.{Callee}
use Rattle.ir_module.specs.declared.tree.Callee.TheVariants as callee
use Rattle.ir_module.specs.declared.tree.InstKind.{InstKind}
use Rattle.ir_module.specs.declared.tree.InstKind.TheVariants as kind
use Rattle.ir_module.specs.declared.tree.Operand.{Operand}
use Rattle.ir_module.specs.declared.tree.Operand.TheVariants as operand
use Rattle.ir_module.specs.declared.tree.Term.{Term}
use Rattle.ir_module.specs.declared.tree.Term.TheVariants as term
use Rattle.ir_module.specs.Edges.{edges}
use Rattle.ir_module.specs.Steps.{Step, PhiAt, InstAt, TermAt, NoStep}

abbrev pub callee_operand : Callee → Operand
callee_operand (callee.Func f) = operand.Const (value.Func f)
callee_operand (callee.Local x) = operand.Local x

-- LLVM Language Reference, 'Instruction Reference'
abbrev pub operands_of : InstKind → List Operand
operands_of (kind.Binary op flags t a b) = a ∷ b ∷ []
operands_of (kind.Icmp p t a b) = a ∷ b ∷ []
operands_of (kind.Convert c t a to) = a ∷ []
operands_of (kind.Select c t a u b) = c ∷ a ∷ b ∷ []
operands_of (kind.Call ret f args) = callee_operand f ∷ map (λ a. a.1) args

-- LLVM Language Reference, 'Terminator Instructions'
abbrev pub term_operands : Term → List Operand
term_operands term.RetVoid = []
term_operands (term.Ret t a) = a ∷ []
term_operands (term.Br b) = []
term_operands (term.CondBr c on_true on_false) = c ∷ []
term_operands (term.Switch t a default cases) = a ∷ []

-- what a step reads
abbrev pub step_operands : Step → List Operand
step_operands (PhiAt phi) = map (λ e. e.0) phi.entries
step_operands (InstAt i) = operands_of i.what
step_operands (TermAt t) = term_operands t
step_operands NoStep = []

-- the local names that a step defines: one or none
abbrev pub step_defines : Step → List LocalId
step_defines (PhiAt phi) = phi.result ∷ []
step_defines (InstAt i) = option_to_list i.result
step_defines (TermAt t) = []
step_defines NoStep = []

-- the blocks that a step names
abbrev pub step_blocks : Step → List BlockId
step_blocks (PhiAt phi) = map (λ e. e.1) phi.entries
step_blocks (InstAt i) = []
step_blocks (TermAt t) = edges t
step_blocks NoStep = []

-- The text of a name, and the names that begin the runtime's and the quantum functions'.
use Rattle.std.specs.Prelude.{ℕ, List, [], codes}
use Rattle.ir_values.specs.declared.name.Name.{Name}
use Rattle.ir_values.specs.declared.name.Name.TheVariants as name

-- the bytes of a name, and none where it is a number
abbrev pub name_text : Name → List ℕ
name_text (name.Text bytes) = bytes
name_text (name.Number n) = []

-- what the names of all these functions begin with
abbrev pub quantum_prefix : List ℕ
quantum_prefix = codes "__quantum__"

-- what the names of runtime functions begin with (QIR specification, 'Runtime Functions')
abbrev pub runtime_prefix : List ℕ
runtime_prefix = codes "__quantum__rt__"

-- what the names of quantum instructions begin with (QIR specification, 'Quantum Instruction Set')
abbrev pub instruction_prefix : List ℕ
instruction_prefix = codes "__quantum__qis__"

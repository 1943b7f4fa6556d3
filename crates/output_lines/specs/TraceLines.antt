-- The lines of traces: the events of a run.
use Rattle.std.specs.Prelude.{ℕ, ◌==◌, List, [], ◌∷◌, ◌++◌, codes, decimal, map}
use Rattle.std.specs.Fmt.{signed_decimal}
use Rattle.backend_api.specs.declared.operation.Answer.{Answer}
use Rattle.backend_api.specs.declared.operation.Answer.TheVariants as answer
use Rattle.backend_api.specs.declared.operation.Arg.{Arg}
use Rattle.backend_api.specs.declared.operation.Arg.TheVariants as arg
use Rattle.backend_api.specs.declared.operation.Event.{Event}
use Rattle.backend_api.specs.declared.operation.QubitRef.TheVariants as qubit
use Rattle.backend_api.specs.declared.operation.ResultRef.TheVariants as result
use Rattle.ir_values.specs.Bytes.{tab}
use Rattle.ir_values.specs.Int.{IntValue, signed}
use Rattle.ir_values.specs.Width.{bits_of}
use Rattle.ir_values.specs.declared.int.Width.TheVariants as width
use Rattle.ir_values.specs.declared.int.Width.{Width}
use Rattle.output_lines.specs.declared.last.Last.{Last}
use Rattle.output_lines.specs.Fields.{digit, word}
use Rattle.output_lines.specs.RecordLines.{last_lines}

-- a bit is true or false, and a wider integer is signed
abbrev pub value_text : Width → IntValue → List ℕ
value_text width.W1 i = word (i.bits == 1)
value_text width.W8 i = signed_decimal (signed i)
value_text width.W16 i = signed_decimal (signed i)
value_text width.W32 i = signed_decimal (signed i)
value_text width.W64 i = signed_decimal (signed i)

abbrev pub int_text : IntValue → List ℕ
int_text i = codes "i" ++ decimal (bits_of i.width) ++ codes ":" ++ value_text i.width i

-- handles by kind and number: fixed qubits and results, allocations, and returned results
abbrev pub argument_text : Arg → List ℕ
argument_text (arg.Qubit (qubit.Id n)) = codes "q" ++ decimal n
argument_text (arg.Qubit (qubit.Alloc n)) = codes "a" ++ decimal n
argument_text (arg.Res (result.Id n)) = codes "r" ++ decimal n
argument_text (arg.Res (result.Measured n)) = codes "m" ++ decimal n
argument_text (arg.Double spelling) = spelling
argument_text (arg.Int i) = int_text i

abbrev pub argument_fields : List Arg → List ℕ
argument_fields [] = []
argument_fields (a ∷ args) = (tab ∷ argument_text a) ++ argument_fields args

-- a gate, or a measurement with its bit
abbrev pub answer_text : Answer → List ℕ
answer_text answer.Done = codes "GATE\t"
answer_text (answer.Bit bit) = codes "BIT\t" ++ digit bit ++ codes "\t"

abbrev pub event_line : Event → List ℕ
event_line e = answer_text e.answer ++ e.op.name ++ argument_fields e.op.args ++ codes "\n"

-- the lines of a trace
abbrev pub trace_lines : List Event → Last → List (List ℕ)
trace_lines es l = map event_line es ++ last_lines l

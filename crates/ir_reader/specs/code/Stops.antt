-- What the passes below stop with, as the reader says it.
use Rattle.std.specs.Prelude.{ℕ, List}
use Rattle.ir_names.specs.declared.fault.Stop.{Stop}
use Rattle.ir_names.specs.declared.fault.Stop.TheVariants as names
use Rattle.ir_names.specs.Places.{place_at}
use Rattle.ir_syntax.specs.declared.fault.SyntaxStop.{SyntaxStop}
use Rattle.ir_syntax.specs.declared.fault.SyntaxStop.TheVariants as syntax
use Rattle.ir_reader.specs.declared.parsed.ReadStop.{ReadStop}
use Rattle.ir_reader.specs.declared.parsed.ReadStop.TheVariants as read
use Rattle.ir_reader.specs.Codes.{of_syntax, of_names}
use Rattle.ir_reader.specs.Misreading.{place_of_byte}

abbrev pub syntax_stop : List ℕ → SyntaxStop → ReadStop
syntax_stop text (syntax.Refused fault) = read.Refused (of_syntax fault.code) (place_of_byte text fault.place)
syntax_stop text syntax.Memory = read.Memory

abbrev pub names_stop : List ℕ → Stop → ReadStop
names_stop text (names.At fault) = read.Refused (of_names fault.code) (place_at text fault.at)
names_stop text names.Memory = read.Memory

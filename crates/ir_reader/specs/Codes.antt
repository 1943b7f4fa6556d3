-- The codes by which a text is refused, their numbers and names.
use Rattle.std.specs.Prelude.{ℕ, List, codes}
use Rattle.ir_names.specs.declared.fault.NameCode.{NameCode}
use Rattle.ir_names.specs.declared.fault.NameCode.TheVariants as names
use Rattle.ir_syntax.specs.declared.fault.SyntaxCode.{SyntaxCode}
use Rattle.ir_syntax.specs.declared.fault.SyntaxCode.TheVariants as syntax
use Rattle.ir_reader.specs.declared.parsed.ReadCode.{ReadCode}
use Rattle.ir_reader.specs.declared.parsed.ReadCode.TheVariants as read

abbrev pub number_of : ReadCode → ℕ
number_of read.BadByte = 1
number_of read.OpenString = 2
number_of read.BadEscape = 3
number_of read.NumberTooWide = 4
number_of read.Syntax = 5
number_of read.Duplicate = 6
number_of read.Unknown = 7
number_of read.LeftOut = 8
number_of read.LiteralRange = 9
number_of read.StringLength = 10
number_of read.BadFlag = 11
number_of read.TooDeep = 12

abbrev pub name_of : ReadCode → List ℕ
name_of read.BadByte = codes "BadByte"
name_of read.OpenString = codes "OpenString"
name_of read.BadEscape = codes "BadEscape"
name_of read.NumberTooWide = codes "NumberTooWide"
name_of read.Syntax = codes "Syntax"
name_of read.Duplicate = codes "Duplicate"
name_of read.Unknown = codes "Unknown"
name_of read.LeftOut = codes "LeftOut"
name_of read.LiteralRange = codes "LiteralRange"
name_of read.StringLength = codes "StringLength"
name_of read.BadFlag = codes "BadFlag"
name_of read.TooDeep = codes "TooDeep"

-- the code of a fault of the syntax, and of one of the names: each keeps its name

abbrev pub of_syntax : SyntaxCode → ReadCode
of_syntax syntax.BadByte = read.BadByte
of_syntax syntax.OpenString = read.OpenString
of_syntax syntax.BadEscape = read.BadEscape
of_syntax syntax.NumberTooWide = read.NumberTooWide
of_syntax syntax.Syntax = read.Syntax
of_syntax syntax.LeftOut = read.LeftOut
of_syntax syntax.LiteralRange = read.LiteralRange
of_syntax syntax.StringLength = read.StringLength
of_syntax syntax.TooDeep = read.TooDeep

abbrev pub of_names : NameCode → ReadCode
of_names names.Duplicate = read.Duplicate
of_names names.Unknown = read.Unknown
of_names names.StringLength = read.StringLength
of_names names.BadFlag = read.BadFlag

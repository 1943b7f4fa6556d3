-- What the first fault of a text is called, by the token at which it stands and the rule that it breaks.
use Rattle.std.specs.Prelude.{Bool, true, false, ◌&&◌, ◌||◌, if◌then◌else◌, Option, Some}
use Rattle.grammar.specs.declared.fault.Fault.{Fault}
use Rattle.grammar.specs.declared.fault.Fault.TheVariants.{Unexpected, Broken}
use Rattle.ir_text.specs.declared.tok.LexCode.{LexCode}
use Rattle.ir_text.specs.declared.tok.LexCode.TheVariants as lex
use Rattle.ir_text.specs.declared.tok.LexError.{LexError}
use Rattle.ir_tokens.specs.declared.kind.Kind.{Kind}
use Rattle.ir_tokens.specs.declared.kind.Kind.TheVariants as kind
use Rattle.ir_tokens.specs.declared.rule.Rule.{Rule}
use Rattle.ir_tokens.specs.declared.rule.Rule.TheVariants as rule
use Rattle.ir_syntax.specs.declared.fault.SyntaxCode.{SyntaxCode}
use Rattle.ir_syntax.specs.declared.fault.SyntaxCode.TheVariants as code

-- The text goes on with no token.
abbrev pub lexical_code : LexCode → SyntaxCode
lexical_code lex.BadByte = code.BadByte
lexical_code lex.OpenString = code.OpenString
lexical_code lex.BadEscape = code.BadEscape
lexical_code lex.NumberTooWide = code.NumberTooWide

-- A token may stand by its kind, and breaks a side rule.
abbrev pub rule_code : Rule → SyntaxCode
rule_code rule.Syntax = code.Syntax
rule_code rule.LiteralRange = code.LiteralRange
rule_code rule.StringLength = code.StringLength
rule_code rule.TooDeep = code.TooDeep

-- what LLVM's language has and QIR texts leave out: its other words and widths, '...', and two words of label and handle
-- operands that stand for instructions elsewhere
abbrev pub is_left_out : Kind → Bool
is_left_out kind.LeftOutWord = true
is_left_out kind.OddWidth = true
is_left_out kind.Ptr = true
is_left_out kind.Dots = true
is_left_out kind.IntToPtr = true
is_left_out kind.GetElementPtr = true
is_left_out k = false

-- what begins types that are left out: vectors, structures, and types with names other than %Qubit and %Result
-- (LLVM Language Reference, 'Type System')
abbrev pub begins_other_type : Kind → Bool
begins_other_type kind.Less = true
begins_other_type kind.OpenBrace = true
begins_other_type kind.Local = true
begins_other_type k = false

-- A token doesn't fit; the flag says whether a type may begin there.
abbrev pub misfit_code : Bool → Kind → SyntaxCode
misfit_code type_may_begin k =
    if is_left_out k || (type_may_begin && begins_other_type k) then code.LeftOut else code.Syntax

-- The code of the first fault of the tokens, by the kind of the token at which it stands. A token of kind Bad stands for
-- what is wrong where the text goes on with no token.
abbrev pub code_of : Option LexError → Fault Rule → Kind → SyntaxCode
code_of (Some error) fault kind.Bad = lexical_code error.code
code_of wrong (Broken r) k = rule_code r
code_of wrong (Unexpected type_may_begin) k = misfit_code type_may_begin k

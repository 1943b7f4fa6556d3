-- Instructions (LLVM Language Reference, 'Binary Operations', 'Bitwise Binary Operations', 'Conversion Operations', 'Other Operations'):
--
--   inst  = local "=" binop {flag} ity op(ity) "," op(ity)
--         | local "=" "icmp" pred ity op(ity) "," op(ity)
--         | local "=" ("zext" | "sext" | "trunc") ity op(ity) "to" ity
--         | local "=" "select" "i1" op(i1) "," type op(type) "," type op(type)
--         | [local "="] ["tail" | "notail"] "call" rtype (global | local) "(" [arg {"," arg}] ")" {group}
--   arg   = type {pword} op(type)
--   pword = "writeonly" | "readonly" | "nocapture"
--
-- What stands behind local "=" in the first three is as in the factored grammar: `binary`, `compare`, `convert`. There the flags
-- "nuw" and "nsw" stand on "add", "sub", "mul" and "shl", and "exact" on "udiv", "sdiv", "lshr" and "ashr", each at most once.
use Rattle.std.specs.Prelude.{Option, Some, None, List, [], ◌∷◌}
use Rattle.grammar.specs.Grammar.{Grammar, opt, as_tree, dep, ignored}
use Rattle.ir_tokens.specs.declared.kind.Kind.TheVariants as kind
use Rattle.ir_tokens.specs.declared.token.Token.{Token}
use Rattle.ir_grammar.specs.declared.tree.TypeSyntax.{TypeSyntax}
use Rattle.ir_grammar.specs.declared.tree.OperandSyntax.{OperandSyntax}
use Rattle.ir_grammar.specs.declared.tree.ArgSyntax.{ArgSyntax}
use Rattle.ir_grammar.specs.declared.tree.InstSyntax.{InstSyntax}
use Rattle.ir_grammar.specs.declared.tree.InstSyntax.TheVariants.{Select, Call}
use Rattle.ir_grammar.specs.declared.tree.LineSyntax.{LineSyntax}
use Rattle.ir_tokens.specs.Tokens.{tokens}
use Rattle.ir_grammar.specs.Forms.{one, one_of, first, commas, ◌▸◌, ◌◂◌, ◌&◌, ◌or◌}
use Rattle.ir_grammar.specs.Words.{local}
use Rattle.ir_grammar.specs.Instructions.{binary, compare, convert, condition, of_type, parameter_words, callee, groups}
use Rattle.published_grammar.specs.Types.{type, return_type}

-- local "="
abbrev pub name : Grammar tokens Token
name = local ◂ kind.Equals

-- local "=" and an instruction
abbrev pub line_of : Token × InstSyntax → LineSyntax
line_of p = record { first = p.0; result = Some p.0; what = p.1 }

abbrev pub named : Grammar tokens InstSyntax → Grammar tokens LineSyntax
named a = as_tree line_of (name & a)

-- type op(type)
unfoldable pub typed_operand : Grammar tokens (TypeSyntax × OperandSyntax)
typed_operand = dep type [] of_type

-- "select" "i1" op(i1) "," type op(type) "," type op(type)
unfoldable pub select : Grammar tokens InstSyntax
select = as_tree (λ (c, ((x, a), (y, b))). Select c x.ty a y.ty b)
    (kind.Select ▸ condition & typed_operand ◂ kind.Comma & typed_operand)

-- type {pword}
unfoldable pub worded_type : Grammar tokens TypeSyntax
worded_type = as_tree first (type & ignored parameter_words)

-- arg = type {pword} op(type)
unfoldable pub argument : Grammar tokens ArgSyntax
argument = as_tree (λ (x, a). record { ty = x.ty; value = a }) (dep worded_type [] of_type)

-- "(" [arg {"," arg}] ")"
unfoldable pub arguments : Grammar tokens (List ArgSyntax)
arguments = kind.Open ▸ commas argument ◂ kind.Close

-- the first token of a call
abbrev pub first_of : Option Token → Option Token → Token → Token
first_of (Some name) word call = name
first_of None (Some word) call = word
first_of None None call = call

abbrev pub call_of : Option Token → Option Token → Token → TypeSyntax → Token → List ArgSyntax → List Token → LineSyntax
call_of name word call x f args gs = record { first = first_of name word call; result = name; what = Call x.ty f args gs }

-- [local "="] ["tail" | "notail"] "call" rtype (global | local) "(" [arg {"," arg}] ")" {group}
unfoldable pub call : Grammar tokens LineSyntax
call = as_tree (λ (name, (word, (call, (x, (f, (args, gs)))))). call_of name word call x f args gs)
    (opt name & opt (one_of (kind.Tail ∷ kind.NoTail ∷ [])) & one kind.Call & return_type & callee & arguments & groups)

-- inst
unfoldable pub instruction : Grammar tokens LineSyntax
instruction = named binary or named compare or named convert or named select or call

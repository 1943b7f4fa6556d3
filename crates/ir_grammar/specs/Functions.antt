-- Declarations and definitions of functions (LLVM Language Reference, 'Functions').
use Rattle.std.specs.Prelude.{Option, Some, None, List, [], ◌∷◌}
use Rattle.grammar.specs.Grammar.{Grammar, opt, as_tree, ignored, second}
use Rattle.ir_tokens.specs.declared.kind.Kind.{Kind}
use Rattle.ir_tokens.specs.declared.kind.Kind.TheVariants as kind
use Rattle.ir_tokens.specs.declared.token.Token.{Token}
use Rattle.ir_grammar.specs.declared.tree.TypeSyntax.{TypeSyntax}
use Rattle.ir_grammar.specs.declared.tree.ParamSyntax.{ParamSyntax}
use Rattle.ir_grammar.specs.declared.tree.BlockSyntax.{BlockSyntax}
use Rattle.ir_grammar.specs.declared.tree.FunctionSyntax.{FunctionSyntax}
use Rattle.ir_tokens.specs.Tokens.{tokens}
use Rattle.ir_grammar.specs.Forms.{commas, ◌▸◌, ◌◂◌, ◌&◌}
use Rattle.ir_grammar.specs.Words.{local, global}
use Rattle.ir_grammar.specs.Types.{return_type}
use Rattle.ir_grammar.specs.Instructions.{worded_type, groups}
use Rattle.ir_grammar.specs.Blocks.{blocks}

abbrev pub linkage_words : List Kind
linkage_words = kind.Internal ∷ kind.Private ∷ kind.DsoLocal ∷ []

abbrev pub address_words : List Kind
address_words = kind.UnnamedAddr ∷ kind.LocalUnnamedAddr ∷ []

-- {fword} rtype global
unfoldable pub head : Grammar tokens (TypeSyntax × Token)
head = as_tree second (ignored linkage_words & return_type & global)

-- {aword} {group}
unfoldable pub tail : Grammar tokens (List Token)
tail = as_tree second (ignored address_words & groups)

abbrev pub param_of : TypeSyntax → Option Token → ParamSyntax
param_of x name = record { first = x.first; ty = x.ty; name = name }

-- dpar = type {pword}
unfoldable pub declared_param : Grammar tokens ParamSyntax
declared_param = as_tree (λ x. param_of x None) worded_type

-- par = type {pword} [local]
unfoldable pub param : Grammar tokens ParamSyntax
param = as_tree (λ (x, name). param_of x name) (worded_type & opt local)

-- "(" [a {"," a}] ")"
unfoldable pub params_of : Grammar tokens ParamSyntax → Grammar tokens (List ParamSyntax)
params_of a = kind.Open ▸ commas a ◂ kind.Close

abbrev pub function_of : TypeSyntax × Token → List ParamSyntax → List Token → Option (List BlockSyntax) → FunctionSyntax
function_of h params gs body = record { name = h.1; ret = h.0.ty; params = params; groups = gs; blocks = body }

-- "declare" {fword} rtype global "(" [dpar {"," dpar}] ")" {aword} {group}
unfoldable pub declaration : Grammar tokens FunctionSyntax
declaration = as_tree (λ (h, (params, gs)). function_of h params gs None) (kind.Declare ▸ head & params_of declared_param & tail)

-- "define" {fword} rtype global "(" [par {"," par}] ")" {aword} {group} "{" block {block} "}"
unfoldable pub definition : Grammar tokens FunctionSyntax
definition = as_tree (λ (h, (params, (gs, body))). function_of h params gs (Some body))
    (kind.Define ▸ head & params_of param & tail & blocks)

-- Declarations and definitions of functions (LLVM Language Reference, 'Functions'):
--
--   "declare" {fword} rtype global "(" [dpar {"," dpar}] ")" {aword} {group}
--   "define" {fword} rtype global "(" [par {"," par}] ")" {aword} {group} "{" block {block} "}"
--   fword = "internal" | "private" | "dso_local"
--   aword = "unnamed_addr" | "local_unnamed_addr"
--   dpar  = type {pword}
--   par   = type {pword} [local]
use Rattle.std.specs.Prelude.{Some, None}
use Rattle.grammar.specs.Grammar.{Grammar, opt, as_tree, ignored, second}
use Rattle.ir_tokens.specs.declared.kind.Kind.TheVariants as kind
use Rattle.ir_tokens.specs.declared.token.Token.{Token}
use Rattle.ir_grammar.specs.declared.tree.TypeSyntax.{TypeSyntax}
use Rattle.ir_grammar.specs.declared.tree.ParamSyntax.{ParamSyntax}
use Rattle.ir_grammar.specs.declared.tree.FunctionSyntax.{FunctionSyntax}
use Rattle.ir_tokens.specs.Tokens.{tokens}
use Rattle.ir_grammar.specs.Forms.{◌▸◌, ◌&◌}
use Rattle.ir_grammar.specs.Words.{local, global}
use Rattle.ir_grammar.specs.Functions.{linkage_words, tail, param_of, params_of, function_of}
use Rattle.published_grammar.specs.Types.{return_type}
use Rattle.published_grammar.specs.Instructions.{worded_type}
use Rattle.published_grammar.specs.Blocks.{blocks}

-- {fword} rtype global
unfoldable pub head : Grammar tokens (TypeSyntax × Token)
head = as_tree second (ignored linkage_words & return_type & global)

-- dpar
unfoldable pub declared_param : Grammar tokens ParamSyntax
declared_param = as_tree (λ x. param_of x None) worded_type

-- par
unfoldable pub param : Grammar tokens ParamSyntax
param = as_tree (λ (x, name). param_of x name) (worded_type & opt local)

-- "declare" {fword} rtype global "(" [dpar {"," dpar}] ")" {aword} {group}
unfoldable pub declaration : Grammar tokens FunctionSyntax
declaration = as_tree (λ (h, (params, gs)). function_of h params gs None) (kind.Declare ▸ head & params_of declared_param & tail)

-- "define" {fword} rtype global "(" [par {"," par}] ")" {aword} {group} "{" block {block} "}"
unfoldable pub definition : Grammar tokens FunctionSyntax
definition = as_tree (λ (h, (params, (gs, body))). function_of h params gs (Some body))
    (kind.Define ▸ head & params_of param & tail & blocks)

-- Phis, terminators and basic blocks (LLVM Language Reference, 'Functions', 'phi Instruction', 'Terminator Instructions'):
--
--   block = [label] {phi} {inst} term
--   phi   = local "=" "phi" type "[" op(type) "," local "]" {"," "[" op(type) "," local "]"}
--   term  = "ret" "void" | "ret" type op(type) | "br" "label" local
--         | "br" "i1" op(i1) "," "label" local "," "label" local
--         | "switch" ity op(ity) "," "label" local "[" {(ity integer | "i1" ("true" | "false")) "," "label" local} "]"
--
-- Only the first block may lack its label.
use Rattle.std.specs.Prelude.{Some, List, []}
use Rattle.grammar.specs.Grammar.{Grammar, opt, rep, as_tree, dep, cons, second}
use Rattle.ir_values.specs.Int.{IntValue}
use Rattle.ir_values.specs.declared.ty.Ty.TheVariants as ty
use Rattle.ir_tokens.specs.declared.kind.Kind.TheVariants as kind
use Rattle.ir_tokens.specs.declared.token.Token.{Token}
use Rattle.ir_grammar.specs.declared.tree.PhiSyntax.{PhiSyntax}
use Rattle.ir_grammar.specs.declared.tree.LinesSyntax.{LinesSyntax}
use Rattle.ir_grammar.specs.declared.tree.CaseSyntax.{CaseSyntax}
use Rattle.ir_grammar.specs.declared.tree.TermSyntax.{TermSyntax}
use Rattle.ir_grammar.specs.declared.tree.TermSyntax.TheVariants as term
use Rattle.ir_grammar.specs.declared.tree.BlockSyntax.{BlockSyntax}
use Rattle.ir_tokens.specs.Tokens.{tokens}
use Rattle.ir_grammar.specs.Forms.{one, ◌▸◌, ◌◂◌, ◌&◌, ◌or◌}
use Rattle.ir_grammar.specs.Words.{label, integer}
use Rattle.ir_grammar.specs.Types.{integer_type}
use Rattle.ir_grammar.specs.Operands.{truth, integer_operand}
use Rattle.ir_grammar.specs.Blocks.{entries, target, two_targets, block_of}
use Rattle.published_grammar.specs.Types.{type}
use Rattle.published_grammar.specs.Instructions.{name, typed_operand, instruction}

-- phi
unfoldable pub phi : Grammar tokens PhiSyntax
phi = as_tree (λ (t, (x, es)). record { result = t; ty = x.ty; entries = es }) (name & kind.Phi ▸ dep type [] entries)

-- {phi} {inst}
unfoldable pub lines : Grammar tokens LinesSyntax
lines = as_tree (λ (ps, is). record { phis = ps; insts = is }) (rep phi & rep instruction)

-- Terminators, with the first of their tokens.

-- "ret" "void"
unfoldable pub return_void : Grammar tokens (Token × TermSyntax)
return_void = as_tree (λ t. (t, term.RetVoid)) (one kind.Ret ◂ kind.Void)

-- "ret" type op(type)
unfoldable pub return_value : Grammar tokens (Token × TermSyntax)
return_value = as_tree (λ (t, (x, a)). (t, term.Ret x.ty a)) (one kind.Ret & typed_operand)

-- "br" "label" local
unfoldable pub jump : Grammar tokens (Token × TermSyntax)
jump = as_tree (λ (t, to). (t, term.Br to)) (one kind.Br & target)

-- "br" "i1" op(i1) "," "label" local "," "label" local
unfoldable pub branch : Grammar tokens (Token × TermSyntax)
branch = one kind.Br & two_targets

-- ity integer | "i1" ("true" | "false")
unfoldable pub case_value : Grammar tokens IntValue
case_value = as_tree second (dep integer_type [] integer) or kind.I1 ▸ truth

unfoldable pub case : Grammar tokens CaseSyntax
case = as_tree (λ (i, to). record { value = i; target = to }) (case_value ◂ kind.Comma & target)

-- "switch" ity op(ity) "," "label" local "[" {case} "]"
unfoldable pub switch : Grammar tokens (Token × TermSyntax)
switch = one kind.Switch & as_tree (λ ((w, a), (other, cases)). term.Switch (ty.Int w) a other cases)
    (dep integer_type [] integer_operand ◂ kind.Comma & target & kind.OpenSquare ▸ rep case ◂ kind.CloseSquare)

-- term
unfoldable pub terminator : Grammar tokens (Token × TermSyntax)
terminator = return_void or return_value or jump or branch or switch

-- {phi} {inst} term
unfoldable pub body : Grammar tokens (LinesSyntax × (Token × TermSyntax))
body = lines & terminator

-- a first block, which may lack its label
unfoldable pub first_block : Grammar tokens BlockSyntax
first_block = as_tree (λ (name, b). block_of name b) (opt label & body)

-- a further block
unfoldable pub block : Grammar tokens BlockSyntax
block = as_tree (λ (name, b). block_of (Some name) b) (label & body)

-- "{" block {block} "}"
unfoldable pub blocks : Grammar tokens (List BlockSyntax)
blocks = kind.OpenBrace ▸ as_tree cons (first_block & rep block) ◂ kind.CloseBrace

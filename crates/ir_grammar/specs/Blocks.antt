-- Phis, terminators and basic blocks (LLVM Language Reference, 'Functions', 'phi Instruction', 'Terminator Instructions').
use Rattle.std.specs.Prelude.{Option, Some, None, List, [], ◌∷◌, ◌++◌}
use Rattle.grammar.specs.Grammar.{Grammar, nothing, opt, rep, as_tree, dep, grow, second, cons}
use Rattle.ir_values.specs.declared.ty.Ty.{Ty}
use Rattle.ir_values.specs.declared.ty.Ty.TheVariants as ty
use Rattle.ir_tokens.specs.declared.kind.Kind.{Kind}
use Rattle.ir_tokens.specs.declared.kind.Kind.TheVariants as kind
use Rattle.ir_tokens.specs.declared.token.Token.{Token}
use Rattle.ir_grammar.specs.declared.tree.TypeSyntax.{TypeSyntax}
use Rattle.ir_grammar.specs.declared.tree.InstSyntax.{InstSyntax}
use Rattle.ir_grammar.specs.declared.tree.LineSyntax.{LineSyntax}
use Rattle.ir_grammar.specs.declared.tree.EntrySyntax.{EntrySyntax}
use Rattle.ir_grammar.specs.declared.tree.LinesSyntax.{LinesSyntax}
use Rattle.ir_grammar.specs.declared.tree.CaseSyntax.{CaseSyntax}
use Rattle.ir_grammar.specs.declared.tree.TermSyntax.{TermSyntax}
use Rattle.ir_grammar.specs.declared.tree.TermSyntax.TheVariants as term
use Rattle.ir_grammar.specs.declared.tree.BlockSyntax.{BlockSyntax}
use Rattle.ir_tokens.specs.Tokens.{tokens}
use Rattle.ir_grammar.specs.Forms.{one, ◌▸◌, ◌◂◌, ◌&◌, ◌or◌}
use Rattle.ir_grammar.specs.Words.{local, label, local_kinds}
use Rattle.ir_grammar.specs.Types.{type_kinds, integer_type, value_type, return_type}
use Rattle.ir_grammar.specs.Operands.{constant, integer_operand, operand}
use Rattle.ir_grammar.specs.Instructions.{binary, compare, convert, select, condition, call}

-- Phis.

-- "[" op(type) "," local "]"
unfoldable pub entry : Ty → Grammar tokens EntrySyntax
entry x = as_tree (λ (a, b). record { value = a; from = b }) (kind.OpenSquare ▸ operand x ◂ kind.Comma & local ◂ kind.CloseSquare)

-- "[" op(type) "," local "]" {"," "[" op(type) "," local "]"}
unfoldable pub entries : TypeSyntax → Grammar tokens (List EntrySyntax)
entries x = as_tree cons (entry x.ty & rep (kind.Comma ▸ entry x.ty))

-- "phi" type "[" op(type) "," local "]" {..}
unfoldable pub phi : Grammar tokens (TypeSyntax × List EntrySyntax)
phi = kind.Phi ▸ dep value_type (kind.Comma ∷ []) entries

-- {phi} {inst}. A phi and most instructions begin with local "=", so the lines grow one by one.

abbrev pub no_lines : LinesSyntax
no_lines = record { phis = []; insts = [] }

-- the lines and a phi
abbrev pub add_phi : LinesSyntax → Token → TypeSyntax × List EntrySyntax → LinesSyntax
add_phi lines t p = record { phis = lines.phis ++ (record { result = t; ty = p.0.ty; entries = p.1 }) ∷ []; insts = lines.insts }

-- the lines and an instruction
abbrev pub add_inst : LinesSyntax → Token → Option Token → InstSyntax → LinesSyntax
add_inst lines t result i = record { phis = lines.phis; insts = lines.insts ++ (record { first = t; result = result; what = i }) ∷ [] }

-- an instruction that may define a name
unfoldable pub valued : Grammar tokens InstSyntax
valued = binary or compare or convert or select or as_tree second call

-- what stands behind local "=": a phi only where no instruction stands before it
abbrev pub named_in : List LineSyntax → LinesSyntax → Token → Grammar tokens LinesSyntax
named_in [] lines t = as_tree (add_phi lines t) phi or as_tree (add_inst lines t (Some t)) valued
named_in (i ∷ is) lines t = as_tree (add_inst lines t (Some t)) valued

unfoldable pub named : LinesSyntax → Token → Grammar tokens LinesSyntax
named lines t = named_in lines.insts lines t

-- one more phi or instruction
unfoldable pub line : LinesSyntax → Grammar tokens LinesSyntax
line lines = as_tree second (dep (local ◂ kind.Equals) (kind.Comma ∷ kind.Group ∷ []) (named lines))
    or as_tree (λ (t, i). add_inst lines t None i) call

-- the kinds by which lines may go on
abbrev pub line_kinds : List Kind
line_kinds = kind.Local ∷ kind.QubitName ∷ kind.ResultName ∷ kind.Call ∷ kind.Tail ∷ kind.NoTail ∷ kind.Group ∷ kind.Comma ∷ []

unfoldable pub lines : Grammar tokens LinesSyntax
lines = grow no_lines line_kinds line

-- Terminators, with the first of their tokens.

abbrev pub returned : Ty → Grammar tokens TermSyntax
returned ty.Void = nothing term.RetVoid
returned x = as_tree (term.Ret x) (operand x)

abbrev pub returned_of : TypeSyntax → Grammar tokens TermSyntax
returned_of x = returned x.ty

-- "ret" "void" | "ret" type op(type)
unfoldable pub ret : Grammar tokens (Token × TermSyntax)
ret = one kind.Ret & as_tree second (dep return_type type_kinds returned_of)

-- "label" local
unfoldable pub target : Grammar tokens Token
target = kind.LabelWord ▸ local

-- "i1" op(i1) "," "label" local "," "label" local
unfoldable pub two_targets : Grammar tokens TermSyntax
two_targets = as_tree (λ (c, (a, b)). term.CondBr c a b) (condition & target ◂ kind.Comma & target)

-- "br" "label" local | "br" "i1" op(i1) "," "label" local "," "label" local
unfoldable pub branch : Grammar tokens (Token × TermSyntax)
branch = one kind.Br & (as_tree term.Br target or two_targets)

-- (ity integer | "i1" ("true" | "false")) "," "label" local
unfoldable pub case : Grammar tokens CaseSyntax
case = as_tree (λ ((w, i), to). record { value = i; target = to }) (dep integer_type [] constant ◂ kind.Comma & target)

-- "switch" ity op(ity) "," "label" local "[" {case} "]"
unfoldable pub switch : Grammar tokens (Token × TermSyntax)
switch = one kind.Switch & as_tree (λ ((w, a), (other, cases)). term.Switch (ty.Int w) a other cases)
    (dep integer_type [] integer_operand ◂ kind.Comma & target & kind.OpenSquare ▸ rep case ◂ kind.CloseSquare)

unfoldable pub terminator : Grammar tokens (Token × TermSyntax)
terminator = ret or branch or switch

-- Blocks.

abbrev pub block_of : Option Token → LinesSyntax × (Token × TermSyntax) → BlockSyntax
block_of name p = record { label = name; lines = p.0; last = p.1.0; term = p.1.1 }

-- {phi} {inst} term
unfoldable pub body : Grammar tokens (LinesSyntax × (Token × TermSyntax))
body = lines & terminator

-- a first block, which may lack its label
unfoldable pub first_block : Grammar tokens BlockSyntax
first_block = as_tree (λ (name, b). block_of name b) (opt label & body)

-- a further block
unfoldable pub block : Grammar tokens BlockSyntax
block = as_tree (λ (name, b). block_of (Some name) b) (label & body)

-- "{" block {block} "}"
unfoldable pub blocks : Grammar tokens (List BlockSyntax)
blocks = kind.OpenBrace ▸ as_tree cons (first_block & rep block) ◂ kind.CloseBrace

use Rattle.grammar.specs.Grammar.{Grammar, alt, as_tree}
use Rattle.ir_tokens.specs.declared.kind.Kind.TheVariants as kind
use Rattle.ir_tokens.specs.Tokens.{tokens}
use Rattle.ir_grammar.specs.declared.tree.ElemSyntax.{ElemSyntax}
use Rattle.ir_grammar.specs.Forms.{one}
use Rattle.ir_grammar.specs.Words.{node}
use Rattle.ir_grammar.specs.declared.tree.ElemSyntax.TheVariants as elem_tree
use Rattle.ir_grammar.specs.Metadata.{integer_part, bang_elem, elem}
use Rattle.ir_grammar.specs.code.DecidedItems.{integer_part_starts}
use Rattle.ir_syntax.proofs.Choices.{gives_first, gives_second, tree_starts}
use Rattle.ir_syntax.proofs.metadata.ElementsPart.read.Goals as goal

-- elements that are no integers
abbrev others : Grammar tokens ElemSyntax
others = alt (as_tree elem_tree.Node node) (alt (as_tree (λ t. elem_tree.Null) (one kind.Null)) bang_elem)

pub returns-then-integer_comes : goal.returns-then-integer_comes
unfolding elem
returns-then-integer_comes c = gives_first (as_tree elem_tree.Part integer_part) others (tree_starts elem_tree.Part integer_part_starts) c.args.cursor.now c.integer_elem.new.cursor c.integer_elem.result c.integer_comes.result c.integer_comes.ensures c.if-integer_comes.true c.integer_elem.ensures

pub returns-else-integer_comes : goal.returns-else-integer_comes
unfolding elem
returns-else-integer_comes c = gives_second (as_tree elem_tree.Part integer_part) others (tree_starts elem_tree.Part integer_part_starts) c.args.cursor.now c.other_elem.new.cursor c.other_elem.result c.integer_comes.result c.integer_comes.ensures c.if-integer_comes.false c.other_elem.ensures

use Rattle.grammar.specs.Grammar.{alt}
use Rattle.ir_grammar.specs.Module.{header, constant_line, function, metadata, item}
use Rattle.ir_grammar.specs.code.DecidedItems.{header_starts}
use Rattle.ir_syntax.proofs.Choices.{gives_first, gives_second}
use Rattle.ir_syntax.proofs.items.ItemsPart.read.Goals as goal

pub returns-then-header_comes : goal.returns-then-header_comes
unfolding item
returns-then-header_comes c = gives_first header (alt constant_line (alt function metadata)) header_starts c.args.cursor.now c.header.new.cursor c.header.result c.header_comes.result c.header_comes.ensures c.if-header_comes.true c.header.ensures

pub returns-else-header_comes : goal.returns-else-header_comes
unfolding item
returns-else-header_comes c = gives_second header (alt constant_line (alt function metadata)) header_starts c.args.cursor.now c.other_item.new.cursor c.other_item.result c.header_comes.result c.header_comes.ensures c.if-header_comes.false c.other_item.ensures

use Rattle.std.proofs.Common.{◌≡◌, length}
use Rattle.grammar.specs.Grammar.{grow}
use Rattle.grammar.specs.code.Reading.{read}
use Rattle.grammar.proofs.growth.grow.Given as goal

-- what is left gives the same after what is read
abbrev pub invariant-loop-alloc : goal.invariant-loop-alloc
invariant-loop-alloc g l = read (grow l.item g.G.Growth.extensions (g.G.Growth.grows l.growth)) l.cursor.marked l.cursor.rest.now ≡ read (grow l.fn.start g.G.Growth.extensions (g.G.Growth.grows l.fn.growth)) l.fn.cursor.marked l.fn.cursor.rest.now

abbrev pub decreases-loop-alloc : goal.decreases-loop-alloc
decreases-loop-alloc g l = length l.cursor.rest.now

use Rattle.std.proofs.Common.{◌≡◌, [], ◌∷◌, ◌++◌, length}
use Rattle.grammar.specs.Grammar.{as_tree, rep, preceded}
use Rattle.grammar.specs.code.Reading.{read}
use Rattle.grammar.proofs.part.separated_after.Given as goal

-- what is left gives the same after what is read
abbrev pub invariant-loop-alloc : goal.invariant-loop-alloc
invariant-loop-alloc g l =
    read (as_tree (λ more. l.all ++ more) (rep (preceded (g.P.Listed.separator ∷ []) (g.P.Part.grammar l.part)))) l.cursor.marked l.cursor.rest.now
    ≡ read (as_tree (λ more. l.fn.items ++ more) (rep (preceded (g.P.Listed.separator ∷ []) (g.P.Part.grammar l.fn.part)))) l.fn.cursor.marked l.fn.cursor.rest.now

abbrev pub decreases-loop-alloc : goal.decreases-loop-alloc
decreases-loop-alloc g l = length l.cursor.rest.now

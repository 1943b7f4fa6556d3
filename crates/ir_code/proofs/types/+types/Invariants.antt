use Rattle.std.proofs.Common.{◌≡◌, [], ◌∷◌, ◌++◌, ◌+◌, ◌*◌, length}
use Rattle.grammar.specs.Grammar.{as_tree, rep, grow, preceded}
use Rattle.grammar.specs.code.Reading.{read}
use Rattle.ir_tokens.specs.declared.kind.Kind.TheVariants as kind
use Rattle.ir_grammar.specs.Types.{type_kinds, suffix_at, value_type_at}
use Rattle.ir_code.proofs.types.+types.Given as goal

abbrev pub decreases-suffix : goal.decreases-suffix
decreases-suffix l = 8 * l.left

abbrev pub decreases-suffixes : goal.decreases-suffixes
decreases-suffixes l = 8 * l.left + 1

abbrev pub decreases-value_base : goal.decreases-value_base
decreases-value_base l = 8 * l.left + 1

abbrev pub decreases-value_type_at : goal.decreases-value_type_at
decreases-value_type_at l = 8 * l.left + 2

abbrev pub decreases-comma_type : goal.decreases-comma_type
decreases-comma_type l = 8 * l.left + 3

abbrev pub decreases-types_after : goal.decreases-types_after
decreases-types_after l = 8 * l.left + 4

abbrev pub decreases-types_at : goal.decreases-types_at
decreases-types_at l = 8 * l.left + 5

abbrev pub decreases-members : goal.decreases-members
decreases-members l = 8 * l.inner + 6

-- what is left gives the same after what is read
abbrev pub invariant-types_after-loop-alloc : goal.invariant-types_after-loop-alloc
invariant-types_after-loop-alloc l = read (as_tree (λ more. l.all ++ more) (rep (preceded (kind.Comma ∷ []) (value_type_at l.left)))) l.cursor.marked l.cursor.rest.now ≡ read (as_tree (λ more. l.fn.types ++ more) (rep (preceded (kind.Comma ∷ []) (value_type_at l.fn.left)))) l.fn.cursor.marked l.fn.cursor.rest.now

abbrev pub decreases-types_after-loop-alloc : goal.decreases-types_after-loop-alloc
decreases-types_after-loop-alloc l = length l.cursor.rest.now

abbrev pub invariant-suffixes-loop-alloc : goal.invariant-suffixes-loop-alloc
invariant-suffixes-loop-alloc l = read (grow l.ty type_kinds (suffix_at l.left)) l.cursor.marked l.cursor.rest.now ≡ read (grow l.fn.start type_kinds (suffix_at l.fn.left)) l.fn.cursor.marked l.fn.cursor.rest.now

abbrev pub decreases-suffixes-loop-alloc : goal.decreases-suffixes-loop-alloc
decreases-suffixes-loop-alloc l = length l.cursor.rest.now

-- Instructions are those of the factored grammar.
use Rattle.std.proofs.Common.{Option, Some, None, List, [], ◌∷◌}
use Rattle.grammar.specs.Grammar.{Grammar, seq, opt, as_tree, second}
use Rattle.ir_tokens.specs.declared.kind.Kind.TheVariants as kind
use Rattle.ir_tokens.specs.declared.token.Token.{Token}
use Rattle.ir_tokens.specs.Tokens.{tokens}
use Rattle.ir_grammar.specs.declared.tree.TypeSyntax.{TypeSyntax}
use Rattle.ir_grammar.specs.declared.tree.ArgSyntax.{ArgSyntax}
use Rattle.ir_grammar.specs.declared.tree.InstSyntax.{InstSyntax}
use Rattle.ir_grammar.specs.declared.tree.InstSyntax.TheVariants.{Call}
use Rattle.ir_grammar.specs.declared.tree.LineSyntax.{LineSyntax}
use Rattle.ir_grammar.specs.Forms.{one, one_of, first, ◌◂◌, ◌or◌}
use Rattle.ir_grammar.specs.Types as factored_types
use Rattle.ir_grammar.specs.Instructions as factored
use Rattle.ir_grammar.specs.Instructions.{binary, compare, convert, condition, callee, groups, call_word}
use Rattle.ir_grammar.specs.Blocks.{valued}
use Rattle.published_grammar.specs.Types as types
use Rattle.published_grammar.specs.Instructions as published
use Rattle.published_grammar.specs.Instructions.{name, line_of, named, call_of, instruction}
use Rattle.published_grammar.proofs.Algebra.{Same, within_itself, within_through, same_itself, same_through, turned, either, on_left, on_right, same_as_tree, same_seq, same_dep, same_alt}
use Rattle.published_grammar.proofs.Factoring.{trees_joined, trees_apart, tree_first, tree_second, brackets, without_first}
use Rattle.published_grammar.proofs.Forms.{same_behind, same_before, same_commas, choice_before, tree_choice_last}
use Rattle.published_grammar.proofs.Types.{type_same, return_same}

pub typed_operand_same : Same published.typed_operand factored.typed_operand
unfolding published.typed_operand factored.typed_operand
typed_operand_same = same_dep [] [] type_same (λ x. same_itself _)

pub select_same : Same published.select factored.select
unfolding published.select factored.select
select_same = same_as_tree _ (same_behind _ (same_seq (same_itself condition) (same_seq (same_before _ typed_operand_same) typed_operand_same)))

pub worded_type_same : Same published.worded_type factored.worded_type
unfolding published.worded_type factored.worded_type
worded_type_same = same_as_tree _ (same_seq type_same (same_itself _))

argument_same : Same published.argument factored.argument
unfolding published.argument factored.argument
argument_same = same_as_tree _ (same_dep [] [] worded_type_same (λ x. same_itself _))

arguments_same : Same published.arguments factored.arguments
unfolding published.arguments factored.arguments
arguments_same = same_behind _ (same_before _ (same_commas argument_same))

-- Calls.

-- what stands behind "call"
abbrev Called : Type 0
Called = TypeSyntax × (Token × (List ArgSyntax × List Token))

abbrev called : Grammar tokens Called
called = seq types.return_type (seq callee (seq published.arguments groups))

called_same : Same called (seq factored_types.return_type (seq callee (seq factored.arguments groups)))
called_same = same_seq return_same (same_seq (same_itself callee) (same_seq arguments_same (same_itself groups)))

abbrev modifier : Grammar tokens Token
modifier = one_of (kind.Tail ∷ kind.NoTail ∷ [])

-- ["tail" | "notail"] "call" ..
abbrev unnamed : Grammar tokens (Option Token × (Token × Called))
unnamed = seq (opt modifier) (seq (one kind.Call) called)

abbrev inst_of : Called → InstSyntax
inst_of (x, (f, (args, gs))) = Call x.ty f args gs

abbrev tree_of : Token × Called → Token × InstSyntax
tree_of (t, (x, (f, (args, gs)))) = (t, Call x.ty f args gs)

abbrev unnamed_of : Option Token × (Token × Called) → Token × InstSyntax
unnamed_of (word, (call, c)) = (published.first_of None word call, inst_of c)

unnamed_same : Same (as_tree unnamed_of unnamed) factored.call
unfolding factored.call call_word
unnamed_same =
    let q = without_first unnamed_of modifier (seq (one kind.Call) called) in
    let p = same_through (same_as_tree tree_of (choice_before (one kind.Call) (modifier ◂ kind.Call) called)) (trees_apart tree_of (seq (one kind.Call) called) (seq (modifier ◂ kind.Call) called)) in
    let r = same_through (tree_first tree_of first (seq modifier (one kind.Call)) called) (brackets (λ p. tree_of (p.0.0, p.1)) modifier (one kind.Call) called) in
    same_through (same_through q (record { there = either (on_right r.back) (on_left (within_itself _)); back = either (on_right (within_itself _)) (on_left r.there) }))
    (same_through (turned p) (same_as_tree tree_of (same_seq (same_itself _) called_same)))

-- a call without a name
abbrev pub plain_of : Token × InstSyntax → LineSyntax
plain_of p = record { first = p.0; result = None; what = p.1 }

abbrev call_tree : Option Token × (Option Token × (Token × Called)) → LineSyntax
call_tree (name, (word, (call, (x, (f, (args, gs)))))) = call_of name word call x f args gs

call_same : Same published.call (named (as_tree second factored.call) or as_tree plain_of factored.call)
unfolding published.call
call_same =
    let s : Same factored.call (as_tree unnamed_of unnamed) = turned unnamed_same in
    let n : Same (named (as_tree second factored.call)) (as_tree (λ p. call_tree (Some p.0, p.1)) (seq name unnamed)) =
    same_through (tree_second line_of second name factored.call)
    (same_through (same_as_tree (λ p. line_of (p.0, second p.1)) (same_seq (same_itself name) s)) (tree_second (λ p. line_of (p.0, second p.1)) unnamed_of name unnamed)) in
    let u : Same (as_tree plain_of factored.call) (as_tree (λ y. call_tree (None, y)) unnamed) =
    same_through (same_as_tree plain_of s) (trees_joined plain_of unnamed_of unnamed) in
    same_through (without_first call_tree name unnamed) (same_alt (turned n) (turned u))

-- Instructions.

named_apart : (a b : Grammar tokens InstSyntax) → Same (named (a or b)) (named a or named b)
named_apart a b = tree_choice_last line_of name a b

valued_apart : Same (named valued) (named binary or named compare or named convert or named factored.select or named (as_tree second factored.call))
unfolding valued
valued_apart =
    same_through (named_apart binary (compare or convert or factored.select or as_tree second factored.call))
    (same_alt (same_itself (named binary)) (same_through (named_apart compare (convert or factored.select or as_tree second factored.call))
    (same_alt (same_itself (named compare)) (same_through (named_apart convert (factored.select or as_tree second factored.call))
    (same_alt (same_itself (named convert)) (named_apart factored.select (as_tree second factored.call)))))))

select_line : Same (named published.select) (named factored.select)
select_line = same_as_tree line_of (same_seq (same_itself name) select_same)

pub instruction_same : Same instruction (named valued or as_tree plain_of factored.call)
unfolding instruction
instruction_same = same_through whole (same_alt (turned valued_apart) (same_itself (as_tree plain_of factored.call)))
  where
    whole : Same (named binary or named compare or named convert or named published.select or published.call)
        ((named binary or named compare or named convert or named factored.select or named (as_tree second factored.call)) or as_tree plain_of factored.call)
    whole = record {
      there = either (on_left (on_left (within_itself (named binary)))) (either (on_left (on_right (on_left (within_itself (named compare)))))
          (either (on_left (on_right (on_right (on_left (within_itself (named convert)))))) (either (on_left (on_right (on_right (on_right (on_left select_line.there)))))
          (within_through call_same.there (either (on_left (on_right (on_right (on_right (on_right (within_itself _)))))) (on_right (within_itself _)))))));
      back = either (either (on_left (within_itself (named binary))) (either (on_right (on_left (within_itself (named compare))))
          (either (on_right (on_right (on_left (within_itself (named convert))))) (either (on_right (on_right (on_right (on_left select_line.back))))
          (on_right (on_right (on_right (on_right (within_through (on_left (within_itself _)) call_same.back)))))))))
          (on_right (on_right (on_right (on_right (within_through (on_right (within_itself _)) call_same.back)))));
    }

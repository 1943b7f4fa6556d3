-- Nodes are those of the factored grammar.
use Rattle.std.proofs.Common.{◌≡◌, ℕ, true, [], ◌∷◌, refl, ap, subst}
use Rattle.grammar.specs.Grammar.{Grammar, as_tree, dep, second, any, has}
use Rattle.ir_tokens.specs.declared.kind.Kind.{Kind}
use Rattle.ir_tokens.specs.declared.kind.Kind.TheVariants as kind
use Rattle.ir_tokens.specs.declared.token.Token.{Token}
use Rattle.ir_tokens.specs.Tokens.{tokens}
use Rattle.ir_grammar.specs.declared.tree.PartSyntax.{PartSyntax}
use Rattle.ir_grammar.specs.declared.tree.PartSyntax.TheVariants as part_tree
use Rattle.ir_grammar.specs.declared.tree.ElemSyntax.{ElemSyntax}
use Rattle.ir_grammar.specs.declared.tree.ElemSyntax.TheVariants as elem_tree
use Rattle.ir_grammar.specs.Forms.{one, one_of, ◌▸◌, ◌or◌}
use Rattle.ir_grammar.specs.SideRules.{number}
use Rattle.ir_grammar.specs.Metadata as factored
use Rattle.ir_grammar.specs.Metadata.{in_width, bit_of, width_kinds, bit_part, width_part, integer_part, bang_elem}
use Rattle.published_grammar.specs.Metadata as published
use Rattle.published_grammar.specs.Metadata.{width_by, any_width}
use Rattle.published_grammar.proofs.Algebra.{Same, same_asked, within_itself, within_through, same_itself, same_through, turned, either, on_left, on_right, same_as_tree, same_seq, same_dep, same_alt}
use Rattle.published_grammar.proofs.Factoring.{trees_joined, trees_apart, within_kinds, kinds_apart, choice_first, asked_always}
use Rattle.published_grammar.proofs.Forms.{same_behind, same_before, same_commas, choice_behind, tree_behind, tree_asks}
use Rattle.published_grammar.proofs.TypesBothWays.{kind_is}

-- An integer with its width.

bit_width : (k : Kind) → has tokens (kind.I1 ∷ []) k ≡ true → has tokens (kind.I1 ∷ width_kinds) k ≡ true
bit_width kind.I8 e = refl
bit_width kind.I16 e = refl
bit_width kind.I32 e = refl
bit_width kind.I64 e = refl
bit_width kind.SameWidth e = refl
bit_width kind.OddWidth e = refl
bit_width k e = e

other_width : (k : Kind) → has tokens width_kinds k ≡ true → has tokens (kind.I1 ∷ width_kinds) k ≡ true
other_width kind.I1 e = refl
other_width k e = e

width_kept : (k : Kind) (n : ℕ) → has tokens width_kinds k ≡ true → width_by k n ≡ n
width_kept kind.I1 n e = absurd (cc)
width_kept k n e = refl

abbrev asked : Token → Grammar tokens PartSyntax
asked t = in_width (width_by t.kind (number t))

words_apart : Same (one_of (kind.I1 ∷ width_kinds)) (one kind.I1 or one_of width_kinds)
words_apart = record { there = kinds_apart (kind.I1 ∷ []) width_kinds any; back = either (within_kinds (kind.I1 ∷ []) (kind.I1 ∷ width_kinds) any bit_width) (within_kinds width_kinds (kind.I1 ∷ width_kinds) any other_width) }

abbrev bits : Grammar tokens PartSyntax
bits = as_tree second (dep (one kind.I1) [] asked)

abbrev others : Grammar tokens PartSyntax
others = as_tree second (dep (one_of width_kinds) [] asked)

integers_apart : Same (as_tree second (dep any_width [] in_width)) (bits or others)
unfolding any_width
integers_apart =
    same_through (tree_asks [] second (λ t. width_by t.kind (number t)) (one_of (kind.I1 ∷ width_kinds)) in_width)
    (same_through (same_as_tree second (same_dep [] [] words_apart (λ t. same_itself (asked t))))
    (same_through (same_as_tree second (choice_first [] (one kind.I1) (one_of width_kinds) asked)) (trees_apart second (dep (one kind.I1) [] asked) (dep (one_of width_kinds) [] asked))))

same_width : (m n : ℕ) → m ≡ n → Same (in_width m) (in_width n)
same_width m n e = subst (λ z. Same (in_width m) (in_width z)) e (same_itself (in_width m))

bits_same : Same bits (kind.I1 ▸ in_width 1)
bits_same = same_as_tree second (same_through (same_asked [] [] (one kind.I1) (λ us t w. same_width (width_by t.kind (number t)) 1 (ap (λ k. width_by k (number t)) (kind_is kind.I1 t w.1)))) (asked_always [] (one kind.I1) (in_width 1)))

others_same : Same others width_part
unfolding width_part
others_same =
    same_through (same_as_tree second (same_asked [] [] (one_of width_kinds) (λ us t w. same_width (width_by t.kind (number t)) (number t) (width_kept t.kind (number t) w.1))))
    (turned (tree_asks [] second number (one_of width_kinds) in_width))

abbrev truths : Grammar tokens PartSyntax
truths = as_tree (λ t. bit_of t.kind) (one_of (kind.True ∷ kind.False ∷ []))

bit_apart : Same bit_part ((kind.I1 ▸ in_width 1) or (kind.I1 ▸ truths))
unfolding bit_part
bit_apart = choice_behind kind.I1 (in_width 1) truths

part_same : Same published.part factored.part
unfolding published.part factored.part integer_part
part_same =
    let i = same_through integers_apart (same_alt bits_same others_same) in
    record {
      there = either (within_through i.there (either (on_left (on_left (within_through (on_left (within_itself _)) bit_apart.back))) (on_left (on_right (within_itself width_part)))))
          (either (on_left (on_left (within_through (on_right (within_itself _)) bit_apart.back))) (on_right (within_itself _)));
      back = either (either (within_through bit_apart.there (either (on_left (within_through (on_left (within_itself _)) i.back)) (on_right (on_left (within_itself _))))) (on_left (within_through (on_right (within_itself width_part)) i.back)))
          (on_right (on_right (within_itself _)));
    }

parts_same : Same published.parts factored.parts
unfolding published.parts factored.parts
parts_same = same_behind _ (same_before _ (same_commas part_same))

-- Elements.

abbrev strings : Grammar tokens PartSyntax
strings = as_tree part_tree.Text (kind.Bang ▸ one kind.Str)

string_of : Token → ElemSyntax
string_of t = elem_tree.Part (part_tree.Text t)

bang_apart : Same bang_elem (as_tree elem_tree.Part strings or as_tree elem_tree.Parts (kind.Bang ▸ factored.parts))
unfolding bang_elem
bang_apart =
    same_through (choice_behind kind.Bang (as_tree (λ t. elem_tree.Part (part_tree.Text t)) (one kind.Str)) (as_tree elem_tree.Parts factored.parts))
    (same_alt (same_through (tree_behind kind.Bang (λ t. elem_tree.Part (part_tree.Text t)) (one kind.Str)) (turned (trees_joined elem_tree.Part part_tree.Text (kind.Bang ▸ one kind.Str))))
    (tree_behind kind.Bang elem_tree.Parts factored.parts))

part_apart : Same (as_tree elem_tree.Part published.part) (as_tree elem_tree.Part integer_part or as_tree elem_tree.Part strings)
unfolding factored.part
part_apart = same_through (same_as_tree elem_tree.Part part_same) (trees_apart elem_tree.Part integer_part strings)

elem_same : Same published.elem factored.elem
unfolding published.elem factored.elem
elem_same =
    let p = same_as_tree elem_tree.Parts (same_behind kind.Bang parts_same) in
    record {
      there = either (within_through part_apart.there (either (on_left (within_itself _)) (on_right (on_right (on_right (within_through (on_left (within_itself _)) bang_apart.back))))))
          (either (on_right (on_left (within_itself _))) (either (on_right (on_right (on_left (within_itself _)))) (on_right (on_right (on_right (within_through (on_right p.there) bang_apart.back))))));
      back = either (on_left (within_through (on_left (within_itself _)) part_apart.back)) (either (on_right (on_left (within_itself _))) (either (on_right (on_right (on_left (within_itself _))))
          (within_through bang_apart.there (either (on_left (within_through (on_right (within_itself _)) part_apart.back)) (on_right (on_right (on_right p.back)))))));
    }

elems_same : Same published.elems factored.elems
unfolding published.elems factored.elems
elems_same = same_behind _ (same_behind _ (same_before _ (same_commas elem_same)))

pub node_line_same : Same published.node_line factored.node_line
unfolding published.node_line factored.node_line
node_line_same = same_as_tree _ (same_seq (same_itself _) elems_same)

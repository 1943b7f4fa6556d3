-- Phis, terminators and blocks are those of the factored grammar.
use Rattle.std.proofs.Common.{◌≡◌, true, Some, None, List, [], ◌∷◌, ◌++◌, inl, inr, refl, sym, ap, ◌∙◌, subst}
use Rattle.std.proofs.lemmas.List.{append-nil}
use Rattle.grammar.specs.Grammar.{Grammar, seq, alt, opt, as_tree, dep, second, has}
use Rattle.grammar.specs.Language.{Derives, Ending, Fine, Marked, Breaks, Front, empty_front}
use Rattle.ir_values.specs.declared.ty.Ty.{Ty}
use Rattle.ir_values.specs.declared.ty.Ty.TheVariants as ty
use Rattle.ir_values.specs.declared.int.Width.{Width}
use Rattle.ir_values.specs.declared.int.Width.TheVariants as width
use Rattle.ir_values.specs.Int.{IntValue}
use Rattle.ir_tokens.specs.declared.kind.Kind.{Kind}
use Rattle.ir_tokens.specs.declared.kind.Kind.TheVariants as kind
use Rattle.ir_tokens.specs.declared.token.Token.{Token}
use Rattle.ir_tokens.specs.Tokens.{tokens}
use Rattle.ir_grammar.specs.declared.tree.TypeSyntax.{TypeSyntax}
use Rattle.ir_grammar.specs.declared.tree.CaseSyntax.{CaseSyntax}
use Rattle.ir_grammar.specs.declared.tree.EntrySyntax.{EntrySyntax}
use Rattle.ir_grammar.specs.declared.tree.LineSyntax.{LineSyntax}
use Rattle.ir_grammar.specs.declared.tree.LinesSyntax.{LinesSyntax}
use Rattle.ir_grammar.specs.declared.tree.OperandSyntax.{OperandSyntax}
use Rattle.ir_grammar.specs.declared.tree.PhiSyntax.{PhiSyntax}
use Rattle.ir_grammar.specs.declared.tree.TermSyntax.{TermSyntax}
use Rattle.ir_grammar.specs.declared.tree.TermSyntax.TheVariants as term
use Rattle.ir_grammar.specs.Forms.{one, one_of, first, ◌▸◌, ◌◂◌, ◌or◌}
use Rattle.ir_grammar.specs.Words.{label, integer}
use Rattle.ir_grammar.specs.Types as factored_types
use Rattle.ir_grammar.specs.Types.{integer_types, integer_type, width_of, type_kinds, typed, void_type}
use Rattle.ir_grammar.specs.Operands.{truth, constant, operand}
use Rattle.ir_grammar.specs.Instructions as factored_instructions
use Rattle.ir_grammar.specs.Instructions.{of_type}
use Rattle.ir_grammar.specs.Blocks as factored
use Rattle.ir_grammar.specs.Blocks.{entries, no_lines, line_kinds, add_phi, add_inst, named_in, valued, returned, returned_of, target, two_targets}
use Rattle.published_grammar.specs.Types.{type}
use Rattle.published_grammar.specs.Instructions.{name, line_of, named, instruction, typed_operand}
use Rattle.published_grammar.specs.Blocks as published
use Rattle.published_grammar.specs.Blocks.{phi, case_value}
use Rattle.published_grammar.proofs.Algebra.{Within, Same, same_asked, within_itself, within_through, within_as_tree, same_itself, same_through, turned, either, on_left, on_right, same_as_tree, same_seq, same_dep, same_alt, same_rep, same_grow}
use Rattle.published_grammar.proofs.Factoring.{trees_joined, trees_apart, tree_first, tree_asked, choice_first, choice_asked}
use Rattle.published_grammar.proofs.Forms.{same_behind, same_before, choice_last, named_part, tree_inside}
use Rattle.published_grammar.proofs.TypesBothWays.{kind_is}
use Rattle.published_grammar.proofs.Types.{type_same, return_same, return_cases, type_is_value}
use Rattle.published_grammar.proofs.Growing.{push_phi, push_inst, next_in, next, one_growing}
use Rattle.published_grammar.proofs.Instructions.{plain_of, instruction_same}

-- Phis and instructions.

abbrev named_kinds : List Kind
named_kinds = kind.Comma ∷ kind.Group ∷ []

abbrev phi_of : Token × (TypeSyntax × List EntrySyntax) → PhiSyntax
phi_of (t, (x, es)) = record { result = t; ty = x.ty; entries = es }

phi_rest_same : Same (kind.Phi ▸ dep type [] entries) factored.phi
unfolding factored.phi
phi_rest_same = same_behind kind.Phi (same_dep _ _ type_same (λ x. same_itself _))

phi_part : (lines : LinesSyntax) → Same (as_tree (push_phi lines) phi) (as_tree second (dep name named_kinds (λ t. as_tree (add_phi lines t) factored.phi)))
unfolding phi
phi_part lines =
    same_through (trees_joined (push_phi lines) phi_of (seq name (kind.Phi ▸ dep type [] entries)))
    (same_through (same_as_tree (λ p. push_phi lines (phi_of p)) (same_seq (same_itself name) phi_rest_same)) (turned (named_part named_kinds (add_phi lines) name factored.phi)))

abbrev inst_lines : LinesSyntax → Grammar tokens LinesSyntax
inst_lines lines = as_tree second (dep name named_kinds (λ t. as_tree (add_inst lines t (Some t)) valued))

abbrev call_lines : LinesSyntax → Grammar tokens LinesSyntax
call_lines lines = as_tree (λ (t, i). add_inst lines t None i) factored_instructions.call

inst_part : (lines : LinesSyntax) → Same (as_tree (push_inst lines) instruction) (inst_lines lines or call_lines lines)
inst_part lines =
    same_through (same_as_tree (push_inst lines) instruction_same)
    (same_through (trees_apart (push_inst lines) (named valued) (as_tree plain_of factored_instructions.call))
    (same_alt (same_through (trees_joined (push_inst lines) line_of (seq name valued)) (turned (named_part named_kinds (λ t. add_inst lines t (Some t)) name valued)))
    (trees_joined (push_inst lines) plain_of factored_instructions.call)))

line_at : (is : List LineSyntax) (lines : LinesSyntax) → Same (next_in phi instruction is lines) (as_tree second (dep name named_kinds (λ t. named_in is lines t)) or call_lines lines)
line_at [] lines =
    let f : Token → Grammar tokens LinesSyntax = λ t. as_tree (add_phi lines t) factored.phi in
    let g : Token → Grammar tokens LinesSyntax = λ t. as_tree (add_inst lines t (Some t)) valued in
    let a : Same (as_tree second (dep name named_kinds (λ t. alt (f t) (g t)))) (as_tree second (dep name named_kinds f) or inst_lines lines) =
    same_through (same_as_tree second (choice_asked named_kinds name f g)) (trees_apart second (dep name named_kinds f) (dep name named_kinds g)) in
    let p = phi_part lines in
    let q = inst_part lines in
    record {
      there = either (on_left (within_through p.there (within_through (on_left (within_itself _)) a.back))) (within_through q.there (either (on_left (within_through (on_right (within_itself _)) a.back)) (on_right (within_itself _))));
      back = either (within_through a.there (either (on_left p.back) (on_right (within_through (on_left (within_itself _)) q.back)))) (on_right (within_through (on_right (within_itself _)) q.back));
    }
line_at (i ∷ is) lines = inst_part lines

line_same : (lines : LinesSyntax) → Same (next phi instruction lines) (factored.line lines)
unfolding factored.line factored.named
line_same lines = line_at lines.insts lines

lines_same : Same published.lines factored.lines
unfolding published.lines factored.lines
lines_same = same_through (one_growing phi instruction) (same_grow no_lines line_kinds line_kinds line_same)

-- Returns.

value_returned : (x : Ty) → (x ≡ ty.Void → ⊥) → Same (returned x) (as_tree (term.Ret x) (operand x))
value_returned ty.Void f = absurd (f refl)
value_returned x f = same_itself _

abbrev value_tree : TypeSyntax × OperandSyntax → TermSyntax
value_tree p = term.Ret p.0.ty p.1

values_returned : Same (as_tree second (dep type [] returned_of)) (as_tree value_tree (dep type [] of_type))
values_returned =
    same_through (same_as_tree second (same_asked [] [] type (λ us x w. value_returned x.ty (type_is_value us x w))))
    (same_through (same_as_tree second (tree_asked [] (λ x. term.Ret x.ty) type of_type)) (trees_joined second (λ p. (p.0, term.Ret p.0.ty p.1)) (dep type [] of_type)))

abbrev nothing_returned : Token → TermSyntax
nothing_returned t = term.RetVoid

void_returned : Same (as_tree second (dep void_type [] returned_of)) (as_tree nothing_returned (one kind.Void))
unfolding void_type
void_returned = record { there = record { sentences = there; fronts = fronts_there }; back = record { sentences = back; fronts = λ m ts w. inl w } }
  where
    there : (ts : List Token) (y : TermSyntax) → Derives (as_tree second (dep void_type [] returned_of)) ts y → Derives (as_tree nothing_returned (one kind.Void)) ts y
    there ts y (p, (us, vs, e, (t, d, i), v), j) =
        let w = subst (λ z. Derives (returned z.ty) vs p.1) i v in
        (t, (e ∙ ap (λ l. us ++ l) w.0 ∙ append-nil us ∙ d.0, d.1, d.2), j ∙ w.1)

    fronts_there : (m : Ending tokens) (ts : List Token) → Front (dep void_type [] returned_of) m ts → Front (one kind.Void) m ts
    fronts_there m ts (inl w) = w
    fronts_there m ts (inr (x, us, vs, e, (t, d, i), v)) = go m (subst (λ z. Front (returned z.ty) m vs) i v)
      where
        go : (m : Ending tokens) → empty_front m vs → Front (one kind.Void) m ts
        go Fine w = subst (Front (one kind.Void) Fine) (sym (e ∙ ap (λ l. us ++ l) w ∙ append-nil us ∙ d.0)) (d.1, d.2)
        go Marked w = absurd w
        go (Breaks r) w = absurd w

    back : (ts : List Token) (y : TermSyntax) → Derives (as_tree nothing_returned (one kind.Void)) ts y → Derives (as_tree second (dep void_type [] returned_of)) ts y
    back ts y (t, d, j) = ((typed ty.Void t, y), (ts, [], sym (append-nil ts), (t, d, refl), (refl, j)), refl)

returns_apart : Same (as_tree second (dep factored_types.return_type type_kinds returned_of)) (as_tree value_tree (dep type [] of_type) or as_tree nothing_returned (one kind.Void))
returns_apart =
    same_through (same_as_tree second (same_dep type_kinds [] (same_through (turned return_same) return_cases) (λ x. same_itself (returned_of x))))
    (same_through (same_through (same_as_tree second (choice_first [] type void_type returned_of)) (trees_apart second (dep type [] returned_of) (dep void_type [] returned_of)))
    (same_alt values_returned void_returned))

returns_same : Same (published.return_void or published.return_value) factored.ret
unfolding published.return_void published.return_value factored.ret typed_operand
returns_same =
    let r = one kind.Ret in
    let values = dep type [] of_type in
    let void = as_tree nothing_returned (one kind.Void) in
    let whole = same_through (same_seq (same_itself r) returns_apart) (choice_last r (as_tree value_tree values) void) in
    let a : Same (seq r (as_tree value_tree values)) published.return_value = tree_inside value_tree r values in
    let b : Same (seq r void) published.return_void = same_through (tree_inside nothing_returned r (one kind.Void)) (turned (trees_joined (λ t. (t, term.RetVoid)) first (seq r (one kind.Void)))) in
    record {
      there = within_through (either (on_right b.back) (on_left a.back)) whole.back;
      back = within_through whole.there (either (on_right a.there) (on_left b.there));
    }

-- Branches.

branches_same : Same (published.jump or published.branch) factored.branch
unfolding published.jump published.branch factored.branch
branches_same = turned (same_through (choice_last (one kind.Br) (as_tree term.Br target) two_targets) (same_alt (tree_inside term.Br (one kind.Br) target) (same_itself (seq (one kind.Br) two_targets))))

-- Switches.

bit_is_integer : (k : Kind) → has tokens (kind.I1 ∷ []) k ≡ true → has tokens integer_types k ≡ true
bit_is_integer kind.I8 e = refl
bit_is_integer kind.I16 e = refl
bit_is_integer kind.I32 e = refl
bit_is_integer kind.I64 e = refl
bit_is_integer k e = e

is_bit : (k : Kind) → has tokens integer_types k ≡ true → width.W1 ≡ width_of k → has tokens (kind.I1 ∷ []) k ≡ true
is_bit kind.I1 e f = refl
is_bit kind.I8 e f = absurd (cc)
is_bit kind.I16 e f = absurd (cc)
is_bit kind.I32 e f = absurd (cc)
is_bit kind.I64 e f = absurd (cc)
is_bit k e f = absurd (cc)

-- of width 1 also "true" and "false"
constant_there : (w : Width) → Within (integer w) (constant w)
unfolding constant
constant_there width.W1 = on_right (within_itself (integer width.W1))
constant_there w = within_itself (integer w)

abbrev constants : Grammar tokens IntValue
constants = as_tree second (dep integer_type [] constant)

bit_there : Within (kind.I1 ▸ truth) constants
unfolding integer_type constant
bit_there = record { sentences = sentence; fronts = front }
  where
    typed_bit : (us : List Token) (t : Token) → Derives (one kind.I1) us t → Derives integer_type us width.W1
    typed_bit us t d = (t, (d.0, bit_is_integer t.kind d.1, d.2), ap width_of (sym (kind_is kind.I1 t d.1)))

    sentence : (ts : List Token) (y : IntValue) → Derives (kind.I1 ▸ truth) ts y → Derives constants ts y
    sentence ts y (p, (us, vs, e, d, v), j) = ((width.W1, p.1), (us, vs, e, typed_bit us p.0 d, inl v), j)

    first_front : (m : Ending tokens) (ts : List Token) → Front (one kind.I1) m ts → Front (one_of integer_types) m ts
    first_front Fine [] w = tt
    first_front Fine (t ∷ []) w = (bit_is_integer t.kind w.0, w.1)
    first_front Fine (t ∷ u ∷ ts) w = w
    first_front Marked ts w = w
    first_front (Breaks r) [] w = w
    first_front (Breaks r) (t ∷ []) w = (bit_is_integer t.kind w.0, w.1)
    first_front (Breaks r) (t ∷ u ∷ ts) w = w

    front : (m : Ending tokens) (ts : List Token) → Front (seq (one kind.I1) truth) m ts → Front (dep integer_type [] constant) m ts
    front m ts (inl w) = inl (inr (first_front m ts w))
    front m ts (inr (t, us, vs, e, d, v)) = inr (width.W1, us, vs, e, typed_bit us t d, inl v)

case_there : Within case_value constants
unfolding case_value
case_there = either (within_as_tree second (record { sentences = λ ts x w. (w.0, w.1, w.2, w.3, (constant_there x.0).sentences w.1 x.1 w.4); fronts = front })) bit_there
  where
    front : (m : Ending tokens) (ts : List Token) → Front (dep integer_type [] integer) m ts → Front (dep integer_type [] constant) m ts
    front m ts (inl w) = inl w
    front m ts (inr w) = inr (w.0, w.1, w.2, w.3, w.4, (constant_there w.0).fronts m w.2 w.5)

bit_back : (us : List Token) (t : Token) → Derives (one_of integer_types) us t → width.W1 ≡ width_of t.kind → Derives (one kind.I1) us t
bit_back us t d i = (d.0, is_bit t.kind d.1 i, d.2)

case_back : Within constants case_value
unfolding case_value integer_type constant
case_back = record { sentences = λ ts y w. sentence ts y w.0.0 w.0.1 w.1.0 w.1.1 w.1.2 w.1.3 w.1.4 w.2; fronts = front }
  where
    plain : (ts : List Token) (y : IntValue) (w : Width) (i : IntValue) (us vs : List Token) → ts ≡ us ++ vs → Derives integer_type us w → Derives (integer w) vs i → y ≡ i → Derives case_value ts y
    plain ts y w i us vs e d v j = inl ((w, i), (us, vs, e, d, v), j)

    sentence : (ts : List Token) (y : IntValue) (w : Width) (i : IntValue) (us vs : List Token) → ts ≡ us ++ vs → Derives integer_type us w → Derives (constant w) vs i → y ≡ i → Derives case_value ts y
    sentence ts y width.W1 i us vs e d (inl v) j = inr ((d.0, i), (us, vs, e, bit_back us d.0 d.1 d.2, v), j)
    sentence ts y width.W1 i us vs e d (inr v) j = plain ts y width.W1 i us vs e d v j
    sentence ts y w i us vs e d v j = plain ts y w i us vs e d v j

    more : (m : Ending tokens) (ts : List Token) (w : Width) (us vs : List Token) → ts ≡ us ++ vs → Derives integer_type us w → Front (constant w) m vs → Front case_value m ts
    more m ts width.W1 us vs e d (inl v) = inr (inr (d.0, us, vs, e, bit_back us d.0 d.1 d.2, v))
    more m ts width.W1 us vs e d (inr v) = inl (inr (width.W1, us, vs, e, d, v))
    more m ts w us vs e d v = inl (inr (w, us, vs, e, d, v))

    front : (m : Ending tokens) (ts : List Token) → Front (dep integer_type [] constant) m ts → Front case_value m ts
    front m ts (inl w) = inl (inl w)
    front m ts (inr (w, us, vs, e, d, v)) = more m ts w us vs e d v

abbrev case_of : IntValue × Token → CaseSyntax
case_of (i, to) = record { value = i; target = to }

case_same : Same published.case factored.case
unfolding published.case factored.case
case_same =
    let d = dep integer_type [] constant in
    let comma = one kind.Comma in
    let v : Same case_value constants = record { there = case_there; back = case_back } in
    let a : Same (constants ◂ kind.Comma) (as_tree second (d ◂ kind.Comma)) = same_through (tree_first first second d comma) (turned (trees_joined second first (seq d comma))) in
    same_through (same_as_tree case_of (same_seq (same_through (same_before kind.Comma v) a) (same_itself target))) (tree_first case_of second (d ◂ kind.Comma) target)

switch_same : Same published.switch factored.switch
unfolding published.switch factored.switch
switch_same = same_seq (same_itself _) (same_as_tree _ (same_seq (same_itself _) (same_seq (same_itself target) (same_behind _ (same_before _ (same_rep case_same))))))

terminator_same : Same published.terminator factored.terminator
unfolding published.terminator factored.terminator
terminator_same = record {
  there = either (on_left (within_through (on_left (within_itself _)) returns_same.there)) (either (on_left (within_through (on_right (within_itself _)) returns_same.there))
      (either (on_right (on_left (within_through (on_left (within_itself _)) branches_same.there))) (either (on_right (on_left (within_through (on_right (within_itself _)) branches_same.there))) (on_right (on_right switch_same.there)))));
  back = either (within_through returns_same.back (either (on_left (within_itself _)) (on_right (on_left (within_itself _)))))
      (either (within_through branches_same.back (either (on_right (on_right (on_left (within_itself _)))) (on_right (on_right (on_right (on_left (within_itself _))))))) (on_right (on_right (on_right (on_right switch_same.back)))));
}

-- Blocks.

body_same : Same published.body factored.body
unfolding published.body factored.body
body_same = same_seq lines_same terminator_same

first_block_same : Same published.first_block factored.first_block
unfolding published.first_block factored.first_block
first_block_same = same_as_tree _ (same_seq (same_itself (opt label)) body_same)

block_same : Same published.block factored.block
unfolding published.block factored.block
block_same = same_as_tree _ (same_seq (same_itself label) body_same)

pub blocks_same : Same published.blocks factored.blocks
unfolding published.blocks factored.blocks
blocks_same = same_behind _ (same_before _ (same_as_tree _ (same_seq first_block_same (same_rep block_same))))

-- What phis, terminators and blocks keep.
use Rattle.std.specs.Prelude.{nat_lt, ◌==◌}
use Rattle.std.proofs.Common.{◌≡◌, ℕ, ◌^◌, true, Option, None, Some, List, [], ◌∷◌, ◌++◌, length, map, refl, sym, subst}
use Rattle.std.specs.List.{list_all}
use Rattle.std.proofs.lemmas.Bool.{and_from, and_parts, eqb-true, eq-eqb}
use Rattle.grammar.specs.Grammar.{as_tree}
use Rattle.ir_values.specs.Int.{IntValue}
use Rattle.ir_values.specs.Width.{bits_of}
use Rattle.ir_values.specs.declared.int.Width.{Width}
use Rattle.ir_values.specs.declared.ids.BlockId.{BlockId}
use Rattle.ir_values.specs.declared.ty.Ty.{Ty}
use Rattle.ir_values.specs.declared.ty.Ty.TheVariants as ty
use Rattle.ir_module.specs.declared.tree.Function.{Function}
use Rattle.ir_module.specs.declared.tree.Module.{Module}
use Rattle.ir_module.specs.declared.tree.Operand.{Operand}
use Rattle.ir_module.specs.declared.tree.Term.{Term}
use Rattle.ir_module.specs.Numbered.{is_written, operand_in_range, term_on_integers, is_call}
use Rattle.ir_module.specs.Edges.{edges}
use Rattle.ir_module.specs.Operands.{term_operands}
use Rattle.ir_module.specs.Printable.{int_fits, term_fits, type_fits}
use Rattle.ir_module.specs.Tree.{blocks_of}
use Rattle.ir_tokens.specs.declared.token.Token.{Token}
use Rattle.ir_grammar.specs.declared.tree.TypeSyntax.{TypeSyntax}
use Rattle.ir_grammar.specs.declared.tree.OperandSyntax.{OperandSyntax}
use Rattle.ir_grammar.specs.declared.tree.InstSyntax.{InstSyntax}
use Rattle.ir_grammar.specs.declared.tree.LineSyntax.{LineSyntax}
use Rattle.ir_grammar.specs.declared.tree.EntrySyntax.{EntrySyntax}
use Rattle.ir_grammar.specs.declared.tree.PhiSyntax.{PhiSyntax}
use Rattle.ir_grammar.specs.declared.tree.LinesSyntax.{LinesSyntax}
use Rattle.ir_grammar.specs.declared.tree.CaseSyntax.{CaseSyntax}
use Rattle.ir_grammar.specs.declared.tree.TermSyntax.{TermSyntax}
use Rattle.ir_grammar.specs.declared.tree.TermSyntax.TheVariants as syntax
use Rattle.ir_grammar.specs.declared.tree.BlockSyntax.{BlockSyntax}
use Rattle.ir_grammar.specs.Operands.{operand}
use Rattle.ir_grammar.specs.Blocks.{entry, entries, phi, no_lines, add_inst, valued, named_in, named, line, lines, returned, ret, two_targets, branch, case, switch, terminator, body, first_block, block, blocks}
use Rattle.ir_names.specs.Blocks.{target_faults, case_faults, term_faults, term_of, target_of, case_of}
use Rattle.ir_names.specs.Instructions.{what_of}
use Rattle.ir_names.specs.Operands.{operand_faults}
use Rattle.ir_names.specs.Sense.{Sense}
use Rattle.read_modules.proofs.Each.{Each, Each-append, Each-map, Each-weaker, list_all-each, each_of, none_left, none_right, none_each}
use Rattle.read_modules.proofs.Keeping.{Keeps, keeps_nothing, keeps_seq, keeps_alt, keeps_rep, keeps_tree, keeps_dep, keeps_grow, keeps_any, keeps_weaker}
use Rattle.read_modules.proofs.KeptTypes.{value_kept, return_kept, whole_fits}
use Rattle.read_modules.proofs.Scene.{Told, Fair, known_below, Right}
use Rattle.read_modules.proofs.KeptOperands.{keeps_behind, keeps_before, OperandKept, constant_kept, operand_kept}
use Rattle.read_modules.proofs.KeptInstructions.{TypeKept, solid_kept, typed_right, typed_integer_kept, WhatKept, condition_kept, call_kept, valued_kept}

-- Phis and instructions.

pub record EntryKept (spelling : Token → List ℕ) (t : Ty) (e : EntrySyntax) : Type 0 where
  pub operand : OperandKept spelling t e.value

abbrev pub IsEntered : List EntrySyntax → Type 0
IsEntered [] = ⊥
IsEntered (e ∷ es) = Unit

pub record PhiKept (spelling : Token → List ℕ) (p : PhiSyntax) : Type 0 where
  pub type : TypeKept p.ty
  pub entered : IsEntered p.entries
  pub entries : Each (EntryKept spelling p.ty) p.entries

-- an instruction without a name is a call
abbrev pub NamedOrCall : Option Token → InstSyntax → Type 0
NamedOrCall None i = (s : Sense) → is_call (what_of s i) ≡ true
NamedOrCall (Some t) i = Unit

pub record LineKept (spelling : Token → List ℕ) (l : LineSyntax) : Type 0 where
  pub what : WhatKept spelling l.what
  pub named : NamedOrCall l.result l.what

pub record LinesKept (spelling : Token → List ℕ) (ls : LinesSyntax) : Type 0 where
  pub phis : Each (PhiKept spelling) ls.phis
  pub insts : Each (LineKept spelling) ls.insts

-- Terminators.

pub record RightTerm (m : Module) (f : Function) (t : Term) : Type 0 where
  pub fits : term_fits t ≡ true
  pub integers : term_on_integers t ≡ true
  pub in_range : list_all (operand_in_range m f) (term_operands t) ≡ true
  pub written : list_all is_written (term_operands t) ≡ true
  pub targets : list_all (λ b. nat_lt b.0 (length (blocks_of f))) (edges t) ≡ true

pub record TermKept (spelling : Token → List ℕ) (t : TermSyntax) : Type 0 where
  pub right : (m : Module) (f : Function) (s : Sense) → Fair spelling m f s → term_faults s t ≡ [] → RightTerm m f (term_of s t)

pub record BlockKept (spelling : Token → List ℕ) (k : BlockSyntax) : Type 0 where
  pub lines : LinesKept spelling k.lines
  pub term : TermKept spelling k.term

-- a block at least
abbrev pub IsBody : List BlockSyntax → Type 0
IsBody [] = ⊥
IsBody (k ∷ ks) = Unit

one_right : (m : Module) (f : Function) (t : Ty) (o : Operand) → Right m f t o → (list_all (operand_in_range m f) (o ∷ []) ≡ true) × (list_all is_written (o ∷ []) ≡ true)
one_right m f t o h = (and_from _ _ h.in_range refl, and_from _ _ h.written refl)

target_right : (spelling : Token → List ℕ) (m : Module) (f : Function) (s : Sense) (t : Token) → Fair spelling m f s → target_faults s t ≡ [] → nat_lt (target_of s t).0 (length (blocks_of f)) ≡ true
target_right spelling m f s t fair e = known_below t (s.label (s.name t)) _ (fair.labels (s.name t)) e

last_too : (f : Function) (bs : List BlockId) (b : BlockId) → list_all (λ b. nat_lt b.0 (length (blocks_of f))) bs ≡ true → nat_lt b.0 (length (blocks_of f)) ≡ true → list_all (λ b. nat_lt b.0 (length (blocks_of f))) (bs ++ b ∷ []) ≡ true
last_too f bs b h k = list_all-each _ _ (Each-append _ bs (b ∷ []) (each_of _ bs h) (k, tt))

-- an integer of a width is one of its own
own_width : (w : Width) (i : IntValue) → int_fits w i ≡ true → int_fits i.width i ≡ true
own_width w i h =
    let p = and_parts (bits_of i.width == bits_of w) _ h in
    let e = eqb-true _ _ p.0 in
    and_from _ _ (eq-eqb (bits_of i.width) (bits_of i.width) refl) (subst (λ n. nat_lt i.bits (2 ^ n) ≡ true) (sym e) p.1)

module _ {spelling : Token → List ℕ} where
  entry_kept : (t : Ty) → Keeps (Told spelling) (entry t) (EntryKept spelling t)
  unfolding entry
  entry_kept t = keeps_tree {R = EntryKept spelling t} _ _ (keeps_behind _ _ (keeps_seq {R = λ b. Unit {0}} _ _ (keeps_before _ _ (operand_kept t)) (keeps_any _))) (λ p q. record { operand = q.0 })

  entries_kept : (x : TypeSyntax) → Keeps (Told spelling) (entries x) (λ es. IsEntered es × Each (EntryKept spelling x.ty) es)
  unfolding entries
  entries_kept x = keeps_tree _ _ (keeps_seq _ _ (entry_kept x.ty) (keeps_rep _ (keeps_behind _ _ (entry_kept x.ty)))) (λ p q. (tt, (q.0, q.1)))

  phi_kept : Keeps (Told spelling) phi (λ p. TypeKept p.0.ty × IsEntered p.1 × Each (EntryKept spelling p.0.ty) p.1)
  unfolding phi
  phi_kept = keeps_behind _ _ (keeps_weaker _ (keeps_dep {R = λ x es. IsEntered es × Each (EntryKept spelling x.ty) es} _ _ _ value_kept (λ x s. entries_kept x)) (λ p q. (solid_kept p.0 q.0, q.1.0, q.1.1)))

  added_inst : (ls : LinesSyntax) (t : Token) (r : Option Token) (i : InstSyntax) → LinesKept spelling ls → WhatKept spelling i → NamedOrCall r i → LinesKept spelling (add_inst ls t r i)
  added_inst ls t r i h w n = record { phis = h.phis; insts = Each-append _ ls.insts _ h.insts (record { what = w; named = n }, tt) }

  valued_added : (ls : LinesSyntax) (t : Token) → LinesKept spelling ls → Keeps (Told spelling) (as_tree (add_inst ls t (Some t)) valued) (LinesKept spelling)
  valued_added ls t h = keeps_tree _ _ valued_kept (λ i w. added_inst ls t (Some t) i h w tt)

  named_in_kept : (is : List LineSyntax) (ls : LinesSyntax) (t : Token) → LinesKept spelling ls → Keeps (Told spelling) (named_in is ls t) (LinesKept spelling)
  named_in_kept [] ls t h = keeps_alt _ _
      (keeps_tree _ _ phi_kept (λ p q. record { phis = Each-append _ ls.phis _ h.phis (record { type = q.0; entered = q.1; entries = q.2 }, tt); insts = h.insts }))
      (valued_added ls t h)
  named_in_kept (i ∷ is) ls t h = valued_added ls t h

  line_kept : (ls : LinesSyntax) → LinesKept spelling ls → Keeps (Told spelling) (line ls) (LinesKept spelling)
  unfolding line named
  line_kept ls h = keeps_alt _ _
      (keeps_tree _ _ (keeps_dep {Q = λ t. Unit {0}} {R = λ t. LinesKept spelling} _ _ _ (keeps_any _) (λ t _. named_in_kept ls.insts ls t h)) (λ p q. q.1))
      (keeps_tree _ _ call_kept (λ p q. added_inst ls p.0 None p.1 h q.0 q.1))

  lines_kept : Keeps (Told spelling) lines (LinesKept spelling)
  unfolding lines
  lines_kept = keeps_grow no_lines _ line (record { phis = tt; insts = tt }) line_kept

  -- Terminators.

  value_returned : (t : Ty) → TypeKept t → Keeps (Told spelling) (as_tree (syntax.Ret t) (operand t)) (TermKept spelling)
  value_returned t k = keeps_tree _ _ (operand_kept t) (λ a q. record {
    right = λ m f s fair e.
        let r = q.right m f s fair e in let both = one_right m f t _ r in
        record { fits = typed_right m f t _ k r; integers = refl; in_range = both.0; written = both.1; targets = refl };
  })

  returned_kept : (t : Ty) → type_fits t ≡ true → Keeps (Told spelling) (returned t) (TermKept spelling)
  returned_kept ty.Void h = keeps_nothing syntax.RetVoid (record { right = λ m f s fair e. record { fits = refl; integers = refl; in_range = refl; written = refl; targets = refl } })
  returned_kept (ty.Int w) h = value_returned (ty.Int w) (record { fits = h; solid = refl })
  returned_kept ty.Double h = value_returned ty.Double (record { fits = h; solid = refl })
  returned_kept ty.Qubit h = value_returned ty.Qubit (record { fits = h; solid = refl })
  returned_kept ty.Res h = value_returned ty.Res (record { fits = h; solid = refl })
  returned_kept ty.Text h = value_returned ty.Text (record { fits = h; solid = refl })
  returned_kept (ty.Func ws) h = value_returned (ty.Func ws) (record { fits = h; solid = refl })

  ret_kept : Keeps (Told spelling) ret (λ p. TermKept spelling p.1)
  unfolding ret
  ret_kept = keeps_weaker _ (keeps_seq {Q = λ t. Unit {0}} _ _ (keeps_any _) (keeps_tree {R = TermKept spelling} _ _ (keeps_dep {R = λ x. TermKept spelling} _ _ _ return_kept (λ x w. returned_kept x.ty (whole_fits x w))) (λ p q. q.1))) (λ p q. q.1)

  branch_kept : Keeps (Told spelling) branch (λ p. TermKept spelling p.1)
  unfolding branch two_targets
  branch_kept = keeps_weaker _ (keeps_seq {Q = λ t. Unit {0}} {R = TermKept spelling} _ _ (keeps_any _) (keeps_alt _ _
      (keeps_tree _ _ (keeps_any _) (λ to _. record {
        right = λ m f s fair e.
            record { fits = refl; integers = refl; in_range = refl; written = refl; targets = and_from _ _ (target_right spelling m f s to fair e) refl };
      }))
      (keeps_tree _ _ (keeps_seq {R = λ p. Unit {0}} _ _ condition_kept (keeps_any _)) (λ p q. record {
        right = λ m f s fair e.
            let r = q.0.right m f s fair (none_left _ _ e) in
            let both = one_right m f _ _ r in
            let e' = none_right (operand_faults s p.0) _ e in
            record { fits = r.fits; integers = refl; in_range = both.0; written = both.1; targets = and_from _ _ (target_right spelling m f s p.1.0 fair (none_left _ _ e')) (and_from _ _ (target_right spelling m f s p.1.1 fair (none_right (target_faults s p.1.0) _ e')) refl) };
      })))) (λ p q. q.1)

  case_kept : Keeps (Told spelling) case (λ c. int_fits c.value.width c.value ≡ true)
  unfolding case
  case_kept = keeps_tree _ _ (keeps_seq {R = λ t. Unit {0}} _ _ (keeps_before _ _ (keeps_dep {Q = λ w. Unit {0}} {R = λ w i. int_fits w i ≡ true} _ _ _ (keeps_any _) (λ w _. constant_kept w))) (keeps_any _)) (λ p q. own_width p.0.0 p.0.1 q.0.1)

  switch_right : (w : Width) (a : OperandSyntax) (to : Token) (cases : List CaseSyntax) → OperandKept spelling (ty.Int w) a → Each (λ c. int_fits c.value.width c.value ≡ true) cases → TermKept spelling (syntax.Switch (ty.Int w) a to cases)
  switch_right w a to cases h hs = record {
    right = λ m f s fair e.
        let r = h.right m f s fair (none_left _ _ e) in
        let e' = none_right (operand_faults s a) _ e in
        let both = one_right m f _ _ r in
        let targets = none_each (case_faults s) cases (none_right (target_faults s to) _ e') in
        record {
          fits = and_from _ _ r.fits (list_all-each _ _ (Each-map _ (case_of s) cases hs));
          integers = refl;
          in_range = both.0;
          written = both.1;
          targets = last_too f _ _ (list_all-each _ _ (Each-map _ (λ c. c.1) (map (case_of s) cases) (Each-map _ (case_of s) cases (Each-weaker _ _ (λ c n. target_right spelling m f s c.target fair n) cases targets)))) (target_right spelling m f s to fair (none_left _ _ e'));
        };
  }

  switch_kept : Keeps (Told spelling) switch (λ p. TermKept spelling p.1)
  unfolding switch
  switch_kept = keeps_weaker _ (keeps_seq {Q = λ t. Unit {0}} {R = TermKept spelling} _ _ (keeps_any _) (keeps_tree _ _ (keeps_seq _ _ (keeps_before _ _ typed_integer_kept) (keeps_seq {Q = λ t. Unit {0}} _ _ (keeps_any _) (keeps_behind _ _ (keeps_before _ _ (keeps_rep _ case_kept))))) (λ p q. switch_right p.0.0 p.0.1 p.1.0 p.1.1 q.0 q.1.1))) (λ p q. q.1)

  terminator_kept : Keeps (Told spelling) terminator (λ p. TermKept spelling p.1)
  unfolding terminator
  terminator_kept = keeps_alt _ _ ret_kept (keeps_alt _ _ branch_kept switch_kept)

  -- Blocks.

  body_kept : Keeps (Told spelling) body (λ p. LinesKept spelling p.0 × TermKept spelling p.1.1)
  unfolding body
  body_kept = keeps_seq _ _ lines_kept terminator_kept

  first_block_kept : Keeps (Told spelling) first_block (BlockKept spelling)
  unfolding first_block
  first_block_kept = keeps_tree _ _ (keeps_seq {Q = λ t. Unit {0}} _ _ (keeps_any _) body_kept) (λ p q. record { lines = q.1.0; term = q.1.1 })

  block_kept : Keeps (Told spelling) block (BlockKept spelling)
  unfolding block
  block_kept = keeps_tree _ _ (keeps_seq {Q = λ t. Unit {0}} _ _ (keeps_any _) body_kept) (λ p q. record { lines = q.1.0; term = q.1.1 })

  pub blocks_kept : Keeps (Told spelling) blocks (λ ks. IsBody ks × Each (BlockKept spelling) ks)
  unfolding blocks
  blocks_kept = keeps_behind _ _ (keeps_before _ _ (keeps_tree _ _ (keeps_seq _ _ first_block_kept (keeps_rep _ block_kept)) (λ p q. (tt, (q.0, q.1)))))

-- The parts of phis, instructions and terminators are sentences of the grammar, and their trees stand for them.
use Rattle.std.specs.Prelude.{◌&&◌, ◌||◌, is_some, nat_lt, codes, slice_get}
use Rattle.std.specs.List.{list_all, flat_map}
use Rattle.std.specs.Option.{option_to_list}
use Rattle.std.proofs.Common.{◌≡◌, ℕ, Bool, true, false, not, Option, None, Some, List, [], ◌∷◌, ◌++◌, map, length, refl, sym, ap, ◌∙◌, subst, append_assoc}
use Rattle.std.proofs.lemmas.Bool.{and_parts, and_from, ltb-true, not-true, false≢true}
use Rattle.grammar.specs.Grammar.{seq, rep, as_tree, cons}
use Rattle.ir_values.specs.Int.{IntValue}
use Rattle.ir_values.specs.declared.ids.BlockId.{BlockId}
use Rattle.ir_values.specs.declared.ids.LocalId.{LocalId}
use Rattle.ir_values.specs.declared.int.Width.{Width}
use Rattle.ir_values.specs.declared.name.Name.{Name}
use Rattle.ir_values.specs.declared.ty.Ty.{Ty}
use Rattle.ir_values.specs.declared.ty.Ty.TheVariants as ty
use Rattle.ir_text.specs.declared.tok.Tok.TheVariants as sort
use Rattle.ir_module.specs.Edges.{edges}
use Rattle.ir_module.specs.Numbered.{operand_in_range, local_in_range, step_in_range, flags_allowed, on_integers, has_result, is_call, is_void, local_type_passes, type_passes}
use Rattle.ir_module.specs.Operands.{operands_of}
use Rattle.ir_module.specs.Printable.{operand_fits, type_fits, value_type_fits, typed_fits, boolean, int_fits, kind_fits, result_fits, has_entry, step_fits}
use Rattle.ir_module.specs.Steps.{Step, PhiAt, InstAt, TermAt}
use Rattle.ir_module.specs.Tree.{blocks_of}
use Rattle.ir_module.specs.declared.tree.Function.{Function}
use Rattle.ir_module.specs.declared.tree.Inst.{Inst}
use Rattle.ir_module.specs.declared.tree.InstKind.{InstKind}
use Rattle.ir_module.specs.declared.tree.InstKind.TheVariants as what
use Rattle.ir_module.specs.declared.tree.Module.{Module}
use Rattle.ir_module.specs.declared.tree.Operand.{Operand}
use Rattle.ir_module.specs.declared.tree.Phi.{Phi}
use Rattle.ir_module.specs.declared.tree.Term.{Term}
use Rattle.ir_module.specs.declared.tree.Term.TheVariants as term_is
use Rattle.ir_tokens.specs.declared.kind.Kind.TheVariants as kind
use Rattle.ir_tokens.specs.declared.token.Token.{Token}
use Rattle.ir_grammar.specs.Forms.{◌▸◌}
use Rattle.ir_grammar.specs.Operands.{constant, integer_operand, operand}
use Rattle.ir_grammar.specs.Blocks.{entry, entries, phi, add_inst, valued, named_in, named, line, returned, ret, target, two_targets, branch, case, switch, terminator}
use Rattle.ir_grammar.specs.declared.tree.CaseSyntax.{CaseSyntax}
use Rattle.ir_grammar.specs.declared.tree.EntrySyntax.{EntrySyntax}
use Rattle.ir_grammar.specs.declared.tree.InstSyntax.{InstSyntax}
use Rattle.ir_grammar.specs.declared.tree.LineSyntax.{LineSyntax}
use Rattle.ir_grammar.specs.declared.tree.LinesSyntax.{LinesSyntax}
use Rattle.ir_grammar.specs.declared.tree.PhiSyntax.{PhiSyntax}
use Rattle.ir_grammar.specs.declared.tree.TermSyntax.{TermSyntax}
use Rattle.ir_grammar.specs.declared.tree.TermSyntax.TheVariants as term_syntax
use Rattle.ir_names.specs.Blocks.{target_faults, target_of, case_faults, case_of}
use Rattle.ir_names.specs.Faults.{unknown}
use Rattle.ir_names.specs.Instructions.{entry_faults, entry_of}
use Rattle.ir_names.specs.Sense.{Sense, block_id}
use Rattle.ir_parts.specs.Parts.{Part}
use Rattle.ir_printer.specs.Pieces.{blank, sign, word, comma, equals, listed as listed_parts}
use Rattle.ir_printer.specs.Operands.{local_part, int_part, operand_parts, typed_parts}
use Rattle.ir_printer.specs.Instructions.{boolean_parts, kind_parts, result_parts, type_of_local, local_type, entry_parts, entries_parts, target_parts, targets_parts, case_parts, cases_parts, table_parts, term_parts}
use Rattle.ir_printer.specs.Functions.{phi_line, inst_line}
use Rattle.canonical_text.proofs.OperandsGood.{Known}
use Rattle.read_modules.proofs.Each.{Each}
use Rattle.canonical_syntax.specs.Builds.{Builds}
use Rattle.canonical_syntax.specs.Tells.{name_by, Tells, MeansOperand, MeansTerm}
use Rattle.canonical_syntax.proofs.Builds.{Stand, builds_one, builds_gap, builds_trail, builds_nothing, builds_dep, builds_seq, builds_as, builds_weaker, builds_same, builds_left, builds_right, builds_rep, builds_list, behind, before, between}
use Rattle.canonical_syntax.proofs.Instructions.{IsInst, FitKind, none_both, stand_means, integer_use, condition_builds, call_builds, kind_builds}
use Rattle.canonical_syntax.proofs.Operands.{IsLocal, found, block_use, local_named, constant_builds, operand_builds}
use Rattle.canonical_syntax.proofs.Types.{width_builds, value_builds, return_builds}
use Rattle.canonical_syntax.proofs.Words.{phi_word, label_word, br_word, ret_word, switch_word}

-- what is known of a step
pub record FitStep (m : Module) (f : Function) (s : Step) : Type 0 where
  pub fits : step_fits f s ≡ true
  pub in_range : step_in_range m f s ≡ true
  pub flags : flags_allowed s ≡ true
  pub integers : on_integers s ≡ true
  pub named : has_result s ≡ true

-- of what an instruction does
pub kind_of_fit : (m : Module) (f : Function) (i : Inst) → FitStep m f (InstAt i) → FitKind m f i.what
kind_of_fit m f i h =
    let p = and_parts (kind_fits i.what) (result_fits f i.what i.result) h.fits in
    let q = and_parts (list_all (operand_in_range m f) (operands_of i.what)) (list_all (local_in_range f) (option_to_list i.result) && true) h.in_range in
    record { fits = p.0; in_range = q.0; flags = h.flags; integers = h.integers }

-- the syntax of a result has its name
abbrev pub IsResult : (Token → List ℕ) → Function → Option LocalId → Option Token → Type 0
IsResult spelling f None None = Unit {0}
IsResult spelling f None (Some t) = ⊥
IsResult spelling f (Some r) None = ⊥
IsResult spelling f (Some r) (Some t) = IsLocal spelling f r t

pub record IsLine (spelling : Token → List ℕ) (m : Module) (f : Function) (i : Inst) (x : LineSyntax) : Type 0 where
  pub result : IsResult spelling f i.result x.result
  pub does : IsInst spelling m f i.what x.what

abbrev pub IsEntry : (Token → List ℕ) → Module → Function → Operand × BlockId → EntrySyntax → Type 0
IsEntry spelling m f e x = (s : Sense) → Tells spelling m f s → (entry_faults s x ≡ []) × (entry_of s x ≡ e)

pub record IsPhi (spelling : Token → List ℕ) (m : Module) (f : Function) (p : Phi) (x : PhiSyntax) : Type 0 where
  pub name : IsLocal spelling f p.result x.result
  pub type : x.ty ≡ local_type f p.result
  pub entries : Stand (IsEntry spelling m f) p.entries x.entries

module _ (spelling : Token → List ℕ) (m : Module) (f : Function) (k : Known m f) where
  -- ---- instructions

  named_inst : (l : LinesSyntax) (t : Token) (ps : List Part) (P : InstSyntax → Type 0) → Builds spelling valued ps P → Builds spelling (named l t) ps (λ n. (x : InstSyntax) × (n ≡ add_inst l t (Some t) x) × P x)
  unfolding named
  named_inst l t ps P h = either l.insts
    where
      either : (is : List LineSyntax) → Builds spelling (named_in is l t) ps (λ n. (x : InstSyntax) × (n ≡ add_inst l t (Some t) x) × P x)
      either [] = builds_right (builds_as h (λ x w. (x, refl, w)))
      either (i ∷ is) = builds_as h (λ x w. (x, refl, w))

  -- one instruction more
  abbrev OneMore : LinesSyntax → Option LocalId → InstKind → LinesSyntax → Type 0
  OneMore l r i n = (x : LineSyntax) × (n.phis ≡ l.phis) × (n.insts ≡ l.insts ++ x ∷ []) × IsResult spelling f r x.result × IsInst spelling m f i x.what

  one_more : (l : LinesSyntax) (t : Token) (o : Option Token) (r : Option LocalId) (i : InstKind) (x : InstSyntax) (n : LinesSyntax) → n ≡ add_inst l t o x → IsResult spelling f r o → IsInst spelling m f i x → OneMore l r i n
  one_more l t o r i x n e h j = (record { first = t; result = o; what = x }, ap (λ n. n.phis) e, ap (λ n. n.insts) e, h, j)

  inst_by : (l : LinesSyntax) (r : Option LocalId) (i : InstKind) → FitKind m f i → list_all (local_in_range f) (option_to_list r) ≡ true → (is_some r || is_call i) ≡ true → Builds spelling (line l) (result_parts f r ++ kind_parts m f i) (OneMore l r i)
  unfolding line
  inst_by l (Some r) i h d c =
      builds_left (builds_as (builds_dep (before kind.Equals sort.Sign (codes "=") refl (builds_trail (codes " ") (local_named spelling m f k r (and_parts (local_in_range f r) true d).0)))
      (λ t e. builds_gap (codes " ") (builds_weaker (named_inst l t (kind_parts m f i) (IsInst spelling m f i) (kind_builds spelling m f k i h)) (λ n w. one_more l t (Some t) (Some r) i w.0 n w.1 e w.2)))) (λ p w. w.1))
  inst_by l None (what.Call t g args) h d c = builds_right (builds_as (call_builds spelling m f k t g args h) (λ p w. one_more l p.0 None None (what.Call t g args) p.1 _ refl tt w))
  inst_by l None (what.Binary o g t a b) h d c = absurd (false≢true c)
  inst_by l None (what.Icmp o t a b) h d c = absurd (false≢true c)
  inst_by l None (what.Convert o t a u) h d c = absurd (false≢true c)
  inst_by l None (what.Select c' t a u b) h d c = absurd (false≢true c)

  pub inst_builds : (l : LinesSyntax) (i : Inst) → FitStep m f (InstAt i) → Builds spelling (line l) (inst_line m f i) (λ n. (x : LineSyntax) × (n.phis ≡ l.phis) × (n.insts ≡ l.insts ++ x ∷ []) × IsLine spelling m f i x)
  inst_builds l i h =
      let q = and_parts (list_all (operand_in_range m f) (operands_of i.what)) (list_all (local_in_range f) (option_to_list i.result) && true) h.in_range in
      let r = and_parts (list_all (local_in_range f) (option_to_list i.result)) true q.1 in
      builds_gap (codes "  ") (builds_trail (codes "\n") (builds_weaker (inst_by l i.result i.what (kind_of_fit m f i h) r.0 h.named) (λ n w. (w.0, w.1, w.2, record { result = w.3; does = w.4 }))))

  -- ---- phis

  entry_builds : (t : Ty) (e : Operand × BlockId) → operand_fits t e.0 ≡ true → operand_in_range m f e.0 ≡ true → nat_lt e.1.0 (length (blocks_of f)) ≡ true → Builds spelling (entry t) (entry_parts m f t e) (IsEntry spelling m f e)
  unfolding entry
  entry_builds t e h d b = builds_as (behind kind.OpenSquare sort.Sign (codes "[") refl (builds_gap (codes " ")
      (between kind.Comma sort.Sign (codes ",") refl (operand_builds spelling m f k t e.0 h d) (builds_gap (codes " ") (before kind.CloseSquare sort.Sign (codes "]") refl (builds_trail (codes " ") (block_use spelling m f k e.1 b)))))))
      (λ p w s r. let o = w.0 s r in let l = w.1 s r in (none_both o.0 (ap (unknown p.1) l), same_pair o.1 (ap block_id l)))
    where
      same_pair : {a a' : Operand} {b b' : BlockId} → a ≡ a' → b ≡ b' → ◌≡◌ {A = Operand × BlockId} (a, b) (a', b')
      same_pair e d = cc

  each_entry : (t : Ty) (es : List (Operand × BlockId)) → list_all (λ e. operand_fits t e.0) es ≡ true → list_all (operand_in_range m f) (map (λ e. e.0) es) ≡ true → list_all (λ b. nat_lt b.0 (length (blocks_of f))) (map (λ e. e.1) es) ≡ true
      → Each (λ e. Builds spelling (entry t) (entry_parts m f t e) (IsEntry spelling m f e)) es
  each_entry t [] h d b = tt
  each_entry t (e ∷ es) h d b =
      let p = and_parts (operand_fits t e.0) (list_all (λ e. operand_fits t e.0) es) h in
      let q = and_parts (operand_in_range m f e.0) (list_all (operand_in_range m f) (map (λ e. e.0) es)) d in
      let r = and_parts (nat_lt e.1.0 (length (blocks_of f))) (list_all (λ b. nat_lt b.0 (length (blocks_of f))) (map (λ e. e.1) es)) b in
      (entry_builds t e p.0 q.0 r.0, each_entry t es p.1 q.1 r.1)

  entries_build : (t : Ty) (es : List (Operand × BlockId)) → has_entry es ≡ true → Each (λ e. Builds spelling (entry t) (entry_parts m f t e) (IsEntry spelling m f e)) es
      → Builds spelling (as_tree cons (seq (entry t) (rep (kind.Comma ▸ entry t)))) (listed_parts (map (entry_parts m f t) es)) (Stand (IsEntry spelling m f) es)
  entries_build t [] h b = absurd (false≢true h)
  entries_build t (e ∷ es) h b = builds_list (entry t) (entry_parts m f t) (IsEntry spelling m f) e es b

  phi_of_builds : (t : Ty) (es : List (Operand × BlockId)) → value_type_fits t ≡ true → Builds spelling (as_tree cons (seq (entry t) (rep (kind.Comma ▸ entry t)))) (listed_parts (map (entry_parts m f t) es)) (Stand (IsEntry spelling m f) es)
      → Builds spelling phi (word (codes "phi") ∷ blank ∷ entries_parts m f t es) (λ p. (p.0.ty ≡ t) × Stand (IsEntry spelling m f) es p.1)
  unfolding phi entries
  phi_of_builds t es h b = behind kind.Phi sort.Word (codes "phi") phi_word (builds_gap (codes " ") (builds_dep (value_builds t h)
      (λ x e. subst (λ u. Builds spelling (as_tree cons (seq (entry u) (rep (kind.Comma ▸ entry u)))) (blank ∷ listed_parts (map (entry_parts m f t) es)) (Stand (IsEntry spelling m f) es)) (sym e) (builds_gap (codes " ") b))))

  named_phi : (l : LinesSyntax) (t : Token) (ps : List Part) (u : Ty) (es : List (Operand × BlockId)) → l.insts ≡ [] → Builds spelling phi ps (λ p. (p.0.ty ≡ u) × Stand (IsEntry spelling m f) es p.1)
      → Builds spelling (named l t) ps (λ n. (x : PhiSyntax) × (n.phis ≡ l.phis ++ x ∷ []) × (n.insts ≡ []) × (x.result ≡ t) × (x.ty ≡ u) × Stand (IsEntry spelling m f) es x.entries)
  unfolding named
  named_phi l t ps u es e h = either l.insts e
    where
      either : (is : List LineSyntax) → is ≡ [] → Builds spelling (named_in is l t) ps (λ n. (x : PhiSyntax) × (n.phis ≡ l.phis ++ x ∷ []) × (n.insts ≡ []) × (x.result ≡ t) × (x.ty ≡ u) × Stand (IsEntry spelling m f) es x.entries)
      either [] i = builds_left (builds_as h (λ p w. (record { result = t; ty = p.0.ty; entries = p.1 }, refl, e, refl, w.0, w.1)))
      either (i ∷ is) j = absurd (cc)

  -- one phi more
  abbrev PhiMore : LinesSyntax → Phi → Ty → LinesSyntax → Type 0
  PhiMore l p u n = (y : PhiSyntax) × (n.phis ≡ l.phis ++ y ∷ []) × (n.insts ≡ []) × IsLocal spelling f p.result y.result × (y.ty ≡ u) × Stand (IsEntry spelling m f) p.entries y.entries

  phi_by : (l : LinesSyntax) (p : Phi) (o : Option (Name × Ty)) → slice_get f.locals p.result.0 ≡ o → l.insts ≡ [] → local_in_range f p.result ≡ true → has_entry p.entries ≡ true
      → type_passes (λ t. value_type_fits t && list_all (λ e. operand_fits t e.0) p.entries) o ≡ true → list_all (operand_in_range m f) (map (λ e. e.0) p.entries) ≡ true → list_all (λ b. nat_lt b.0 (length (blocks_of f))) (map (λ e. e.1) p.entries) ≡ true
      → (x : Name × Ty) → o ≡ Some x → Builds spelling (line l) (local_part f p.result ∷ (equals ++ word (codes "phi") ∷ blank ∷ entries_parts m f x.1 p.entries)) (PhiMore l p x.1)
  unfolding line
  phi_by l p o g e r c t d b x i =
      let v = and_parts (value_type_fits x.1) (list_all (λ e. operand_fits x.1 e.0) p.entries) (subst (λ o. type_passes (λ t. value_type_fits t && list_all (λ e. operand_fits t e.0) p.entries) o ≡ true) i t) in
      let inner = phi_of_builds x.1 p.entries v.0 (entries_build x.1 p.entries c (each_entry x.1 p.entries v.1 d b)) in
      builds_left (builds_as {Q = PhiMore l p x.1} (builds_dep {Q = λ t q. PhiMore l p x.1 q} (before kind.Equals sort.Sign (codes "=") refl (builds_trail (codes " ") (local_named spelling m f k p.result r)))
      (λ t n. builds_gap (codes " ") (builds_weaker (named_phi l t (word (codes "phi") ∷ blank ∷ entries_parts m f x.1 p.entries) x.1 p.entries e inner)
      (λ q w. (w.0, w.1, w.2, (n.0, n.1, ap (name_by spelling) w.3 ∙ n.2), w.4, w.5))))) (λ q w. w.1))

  pub phi_builds : (l : LinesSyntax) (p : Phi) → l.insts ≡ [] → FitStep m f (PhiAt p) → Builds spelling (line l) (phi_line m f p) (λ n. (x : PhiSyntax) × (n.phis ≡ l.phis ++ x ∷ []) × (n.insts ≡ []) × IsPhi spelling m f p x)
  phi_builds l p e h =
      let blocks = list_all (λ b. nat_lt b.0 (length (blocks_of f))) (map (λ e. e.1) p.entries) in
      let a = and_parts (has_entry p.entries) (local_type_passes (λ t. value_type_fits t && list_all (λ e. operand_fits t e.0) p.entries) f p.result) h.fits in
      let q = and_parts (list_all (operand_in_range m f) (map (λ e. e.0) p.entries)) ((local_in_range f p.result && true) && blocks) h.in_range in
      let r = and_parts (local_in_range f p.result && true) blocks q.1 in
      let own = (and_parts (local_in_range f p.result) true r.0).0 in
      let x = found f.locals p.result.0 (ltb-true p.result.0 (length f.locals) own) in
      let t : x.0.1 ≡ local_type f p.result = ap type_of_local (sym x.1) in
      builds_gap (codes "  ") (builds_trail (codes "\n")
      (builds_same (ap (λ t. local_part f p.result ∷ (equals ++ word (codes "phi") ∷ blank ∷ entries_parts m f t p.entries)) t)
      (builds_weaker (phi_by l p (slice_get f.locals p.result.0) refl e own a.0 a.1 q.0 r.1 x.0 x.1) (λ n w. (w.0, w.1, w.2, record { name = w.3; type = w.4 ∙ t; entries = w.5 })))))

  -- ---- terminators

  target_builds : (b : BlockId) → nat_lt b.0 (length (blocks_of f)) ≡ true → Builds spelling target (target_parts f b) (λ t. (s : Sense) → Tells spelling m f s → (target_faults s t ≡ []) × (target_of s t ≡ b))
  unfolding target
  target_builds b h = behind kind.LabelWord sort.Word (codes "label") label_word (builds_gap (codes " ") (builds_weaker (block_use spelling m f k b h) (λ t w s r. (ap (unknown t) (w s r), ap block_id (w s r)))))

  abbrev IsTerm : Term → Token × TermSyntax → Type 0
  IsTerm t p = MeansTerm spelling m f t p.1

  returned_builds : (t : Ty) (a : Operand) (ps : List Part) → is_void t ≡ false → Builds spelling (operand t) ps (MeansOperand spelling m f a) → Builds spelling (returned t) ps (MeansTerm spelling m f (term_is.Ret t a))
  returned_builds ty.Void a ps v h = absurd (false≢true (sym v))
  returned_builds (ty.Int w) a ps v h = builds_as h (λ x w' s r. let l = w' s r in (l.0, ap (term_is.Ret (ty.Int w)) l.1))
  returned_builds ty.Double a ps v h = builds_as h (λ x w s r. let l = w s r in (l.0, ap (term_is.Ret ty.Double) l.1))
  returned_builds ty.Qubit a ps v h = builds_as h (λ x w s r. let l = w s r in (l.0, ap (term_is.Ret ty.Qubit) l.1))
  returned_builds ty.Res a ps v h = builds_as h (λ x w s r. let l = w s r in (l.0, ap (term_is.Ret ty.Res) l.1))
  returned_builds ty.Text a ps v h = builds_as h (λ x w s r. let l = w s r in (l.0, ap (term_is.Ret ty.Text) l.1))
  returned_builds (ty.Func ws) a ps v h = builds_as h (λ x w s r. let l = w s r in (l.0, ap (term_is.Ret (ty.Func ws)) l.1))

  ret_void_builds : Builds spelling ret (term_parts m f term_is.RetVoid) (IsTerm term_is.RetVoid)
  unfolding ret
  ret_void_builds = builds_weaker (builds_seq (builds_one kind.Ret sort.Word (codes "ret") ret_word) (builds_gap (codes " ") (builds_as {Q = MeansTerm spelling m f term_is.RetVoid} (builds_dep (return_builds ty.Void refl)
      (λ x e. subst (λ u. Builds spelling (returned u) [] (MeansTerm spelling m f term_is.RetVoid)) (sym e) (builds_nothing term_syntax.RetVoid (λ s r. (refl, refl))))) (λ p w. w.1)))) (λ p w. w.1)

  ret_builds : (t : Ty) (a : Operand) → typed_fits (t, a) ≡ true → operand_in_range m f a ≡ true → Builds spelling ret (term_parts m f (term_is.Ret t a)) (IsTerm (term_is.Ret t a))
  unfolding ret
  ret_builds t a h d =
      let p = and_parts (value_type_fits t) (operand_fits t a) h in
      let q = and_parts (not (is_void t)) (type_fits t) p.0 in
      builds_weaker (builds_seq (builds_one kind.Ret sort.Word (codes "ret") ret_word) (builds_gap (codes " ") (builds_as {Q = MeansTerm spelling m f (term_is.Ret t a)} (builds_dep (return_builds t q.1)
      (λ x e. subst (λ u. Builds spelling (returned u) (blank ∷ operand_parts m f t a) (MeansTerm spelling m f (term_is.Ret t a))) (sym e) (builds_gap (codes " ") (returned_builds t a (operand_parts m f t a) (not-true (is_void t) q.0) (operand_builds spelling m f k t a p.1 d))))) (λ p w. w.1)))) (λ p w. w.1)

  br_builds : (b : BlockId) → nat_lt b.0 (length (blocks_of f)) ≡ true → Builds spelling branch (term_parts m f (term_is.Br b)) (IsTerm (term_is.Br b))
  unfolding branch
  br_builds b h = builds_weaker (builds_seq (builds_one kind.Br sort.Word (codes "br") br_word) (builds_gap (codes " ") (builds_left (builds_as {Q = MeansTerm spelling m f (term_is.Br b)} (target_builds b h) (λ t w s r. let l = w s r in (l.0, ap term_is.Br l.1)))))) (λ p w. w.1)

  same_cond : {c c' : Operand} {a a' b b' : BlockId} → c ≡ c' → a ≡ a' → b ≡ b' → term_is.CondBr c a b ≡ term_is.CondBr c' a' b'
  same_cond e d g = cc

  cond_builds : (c : Operand) (a b : BlockId) → operand_fits boolean c ≡ true → operand_in_range m f c ≡ true → nat_lt a.0 (length (blocks_of f)) ≡ true → nat_lt b.0 (length (blocks_of f)) ≡ true → Builds spelling branch (term_parts m f (term_is.CondBr c a b)) (IsTerm (term_is.CondBr c a b))
  unfolding branch two_targets
  cond_builds c a b h d i j = builds_weaker (builds_seq (builds_one kind.Br sort.Word (codes "br") br_word) (builds_gap (codes " ") (builds_right
      (builds_as {Q = MeansTerm spelling m f (term_is.CondBr c a b)} (builds_same (append_assoc (boolean_parts m f c) (sign (codes ",") ∷ []) (blank ∷ targets_parts f a b))
      (builds_seq (condition_builds spelling m f k c h d) (builds_gap (codes " ") (builds_seq (before kind.Comma sort.Sign (codes ",") refl (target_builds a i)) (builds_gap (codes " ") (target_builds b j))))))
      (λ p w s r. let o = w.0 s r in let x = w.1.0 s r in let y = w.1.1 s r in (none_both o.0 (none_both x.0 y.0), same_cond o.1 x.1 y.1)))))) (λ p w. w.1)

  -- ---- switches

  abbrev IsCase : IntValue × BlockId → CaseSyntax → Type 0
  IsCase c x = (s : Sense) → Tells spelling m f s → (case_faults s x ≡ []) × (case_of s x ≡ c)

  same_case : {i i' : IntValue} {b b' : BlockId} → i ≡ i' → b ≡ b' → ◌≡◌ {A = IntValue × BlockId} (i, b) (i', b')
  same_case e d = cc

  case_builds : (c : IntValue × BlockId) → int_fits c.0.width c.0 ≡ true → nat_lt c.1.0 (length (blocks_of f)) ≡ true → Builds spelling case (case_parts f c) (IsCase c)
  unfolding case
  case_builds c h d = builds_as (builds_seq
      (before kind.Comma sort.Sign (codes ",") refl (builds_dep {Q = λ w i. i ≡ c.0} (width_builds c.0.width) (λ w e. subst (λ w. Builds spelling (constant w) (blank ∷ int_part c.0 ∷ []) (λ i. i ≡ c.0)) (sym e) (builds_gap (codes " ") (constant_builds c.0.width c.0 h)))))
      (builds_gap (codes " ") (target_builds c.1 d)))
      (λ p w s r. let t = w.1 s r in (t.0, same_case w.0.1 t.1))

  abbrev spaced_case : IntValue × BlockId → List Part
  spaced_case c = case_parts f c ++ blank ∷ []

  cases_are : (cs : List (IntValue × BlockId)) → flat_map spaced_case cs ≡ cases_parts f cs
  cases_are [] = refl
  cases_are (c ∷ cs) = append_assoc (case_parts f c) (blank ∷ []) (flat_map spaced_case cs) ∙ ap (λ l. case_parts f c ++ blank ∷ l) (cases_are cs)

  each_case : (cs : List (IntValue × BlockId)) → list_all (λ c. int_fits c.0.width c.0) cs ≡ true → list_all (λ b. nat_lt b.0 (length (blocks_of f))) (map (λ c. c.1) cs) ≡ true → Each (λ c. Builds spelling case (spaced_case c) (IsCase c)) cs
  each_case [] h d = tt
  each_case (c ∷ cs) h d =
      let p = and_parts (int_fits c.0.width c.0) (list_all (λ c. int_fits c.0.width c.0) cs) h in
      let q = and_parts (nat_lt c.1.0 (length (blocks_of f))) (list_all (λ b. nat_lt b.0 (length (blocks_of f))) (map (λ c. c.1) cs)) d in
      (builds_trail (codes " ") (case_builds c p.0 q.0), each_case cs p.1 q.1)

  same_switch : {t t' : Ty} {a a' : Operand} {b b' : BlockId} {cs cs' : List (IntValue × BlockId)} → t ≡ t' → a ≡ a' → b ≡ b' → cs ≡ cs' → term_is.Switch t a b cs ≡ term_is.Switch t' a' b' cs'
  same_switch e d g h = cc

  switch_builds : (w : Width) (a : Operand) (b : BlockId) (cs : List (IntValue × BlockId)) → operand_fits (ty.Int w) a ≡ true → operand_in_range m f a ≡ true → nat_lt b.0 (length (blocks_of f)) ≡ true → Each (λ c. Builds spelling case (spaced_case c) (IsCase c)) cs
      → Builds spelling switch (term_parts m f (term_is.Switch (ty.Int w) a b cs)) (IsTerm (term_is.Switch (ty.Int w) a b cs))
  unfolding switch
  switch_builds w a b cs h d i e =
      let typed = builds_dep {Q = λ u x. MeansOperand spelling m f a x} (width_builds w) (λ u e. subst (λ u. Builds spelling (integer_operand u) (blank ∷ operand_parts m f (ty.Int w) a) (MeansOperand spelling m f a)) (sym e) (builds_gap (codes " ") (integer_use spelling m f k w a h d))) in
      let table = behind kind.OpenSquare sort.Sign (codes "[") refl (builds_gap (codes " ") (before kind.CloseSquare sort.Sign (codes "]") refl (builds_same (cases_are cs) (builds_rep spaced_case IsCase cs e)))) in
      builds_weaker (builds_seq (builds_one kind.Switch sort.Word (codes "switch") switch_word) (builds_gap (codes " ")
      (builds_as {Q = MeansTerm spelling m f (term_is.Switch (ty.Int w) a b cs)} (builds_same (sym (append_assoc (typed_parts m f (ty.Int w) a) (comma ++ target_parts f b) (blank ∷ table_parts f cs)))
      (between kind.Comma sort.Sign (codes ",") refl typed (builds_gap (codes " ") (builds_seq (target_builds b i) (builds_gap (codes " ") table)))))
      (λ p v s r. let o = v.0.1 s r in let x = v.1.0 s r in let y = stand_means IsCase (case_faults s) (case_of s) (λ c x u. u s r) cs p.1.1 v.1.1 in (none_both o.0 (none_both x.0 y.0), same_switch (ap ty.Int v.0.0) o.1 x.1 y.1))))) (λ p w. w.1)

  cases_then : (p : BlockId → Bool) (cs : List (IntValue × BlockId)) (b : BlockId) → list_all p (map (λ c. c.1) cs ++ b ∷ []) ≡ true → (list_all p (map (λ c. c.1) cs) ≡ true) × (p b ≡ true)
  cases_then p [] b h = (refl, (and_parts (p b) true h).0)
  cases_then p (c ∷ cs) b h =
      let w = and_parts (p c.1) (list_all p (map (λ c. c.1) cs ++ b ∷ [])) h in
      let v = cases_then p cs b w.1 in
      (and_from (p c.1) (list_all p (map (λ c. c.1) cs)) w.0 v.0, v.1)

  pub term_builds : (t : Term) → FitStep m f (TermAt t) → Builds spelling terminator (term_parts m f t) (IsTerm t)
  unfolding terminator
  term_builds term_is.RetVoid h = builds_left ret_void_builds
  term_builds (term_is.Ret t a) h =
      let q = and_parts (operand_in_range m f a && true) (true && true) h.in_range in
      builds_left (ret_builds t a h.fits (and_parts (operand_in_range m f a) true q.0).0)
  term_builds (term_is.Br b) h = builds_right (builds_left (br_builds b (and_parts (nat_lt b.0 (length (blocks_of f))) true h.in_range).0))
  term_builds (term_is.CondBr c a b) h =
      let q = and_parts (operand_in_range m f c && true) (nat_lt a.0 (length (blocks_of f)) && (nat_lt b.0 (length (blocks_of f)) && true)) h.in_range in
      let r = and_parts (nat_lt a.0 (length (blocks_of f))) (nat_lt b.0 (length (blocks_of f)) && true) q.1 in
      builds_right (builds_left (cond_builds c a b h.fits (and_parts (operand_in_range m f c) true q.0).0 r.0 (and_parts (nat_lt b.0 (length (blocks_of f))) true r.1).0))
  term_builds (term_is.Switch (ty.Int w) a b cs) h =
      let p = and_parts (operand_fits (ty.Int w) a) (list_all (λ c. int_fits c.0.width c.0) cs) h.fits in
      let q = and_parts (operand_in_range m f a && true) (list_all (λ b. nat_lt b.0 (length (blocks_of f))) (edges (term_is.Switch (ty.Int w) a b cs))) h.in_range in
      let r = cases_then (λ b. nat_lt b.0 (length (blocks_of f))) cs b q.1 in
      builds_right (builds_right (switch_builds w a b cs p.0 (and_parts (operand_in_range m f a) true q.0).0 r.1 (each_case cs p.1 r.0)))
  term_builds (term_is.Switch t a b cs) h = absurd (false≢true h.integers)

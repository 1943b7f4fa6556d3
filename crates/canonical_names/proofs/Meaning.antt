-- What the trees of blocks stand for, and the locals that they define.
use Rattle.std.specs.Prelude.{nat_lt, slice_get}
use Rattle.std.specs.List.{list_all, flat_map}
use Rattle.std.specs.Option.{option_to_list}
use Rattle.std.proofs.Common.{◌≡◌, ℕ, ◌+◌, ◌≤◌, true, false, Option, None, Some, List, [], ◌∷◌, ◌++◌, length, map, refl, sym, ap, ◌∙◌, subst, arith}
use Rattle.std.proofs.lemmas.Bool.{and_parts, or_from, le-ltb, false≢true}
use Rattle.std.proofs.lemmas.List.{length-append}
use Rattle.ir_values.proofs.WordLemmas.{same_words_decides}
use Rattle.ir_values.specs.Types.{is_ty, words_of}
use Rattle.ir_values.specs.Words.{is_sig}
use Rattle.ir_values.specs.declared.ids.BlockId.{BlockId}
use Rattle.ir_values.specs.declared.ids.LocalId.{LocalId}
use Rattle.ir_values.specs.declared.name.Name.{Name}
use Rattle.ir_values.specs.declared.sig.TyWord.{TyWord}
use Rattle.ir_values.specs.declared.sig.TyWord.TheVariants as word
use Rattle.ir_values.specs.declared.ty.Ty.{Ty}
use Rattle.ir_values.specs.declared.ty.Ty.TheVariants as ty
use Rattle.ir_module.specs.Numbered.{type_passes}
use Rattle.ir_module.specs.Printable.{type_fits, value_type_fits, typed_fits, operand_fits, boolean, same_type, kind_fits, result_type, result_fits}
use Rattle.ir_module.specs.Steps.{PhiAt, InstAt, TermAt}
use Rattle.ir_module.specs.Tree.{blocks_of}
use Rattle.ir_module.specs.declared.tree.Block.{Block}
use Rattle.ir_module.specs.declared.tree.Function.{Function}
use Rattle.ir_module.specs.declared.tree.Inst.{Inst}
use Rattle.ir_module.specs.declared.tree.InstKind.{InstKind}
use Rattle.ir_module.specs.declared.tree.InstKind.TheVariants as what
use Rattle.ir_module.specs.declared.tree.Module.{Module}
use Rattle.ir_module.specs.declared.tree.Operand.{Operand}
use Rattle.ir_module.specs.declared.tree.Phi.{Phi}
use Rattle.ir_module.specs.declared.tree.Term.{Term}
use Rattle.ir_tokens.specs.declared.token.Token.{Token}
use Rattle.ir_grammar.specs.declared.tree.BlockSyntax.{BlockSyntax}
use Rattle.ir_grammar.specs.declared.tree.InstSyntax.{InstSyntax}
use Rattle.ir_grammar.specs.declared.tree.LineSyntax.{LineSyntax}
use Rattle.ir_grammar.specs.declared.tree.PhiSyntax.{PhiSyntax}
use Rattle.ir_names.specs.Blocks.{name_or, first_token, behind_block, blocks_faults, blocks_of as blocks_named}
use Rattle.ir_names.specs.Faults.{fault_if}
use Rattle.ir_names.specs.Functions.{type_of, result_locals, line_locals, phi_local, block_locals}
use Rattle.ir_names.specs.Instructions.{duplicate, result_faults, result_of, behind, lines_faults, insts_of, behind_lines, entry_faults, entry_of, phis_faults, phis_of, behind_phis}
use Rattle.ir_names.specs.Sense.{Sense, is_before}
use Rattle.ir_names.specs.declared.fault.NameCode.TheVariants.{Duplicate}
use Rattle.ir_printer.specs.Instructions.{type_of_local}
use Rattle.read_modules.proofs.Each.{Each, Each-left, Each-right, Each-unmap}
use Rattle.canonical_syntax.specs.Tells.{name_by, Tells}
use Rattle.canonical_syntax.proofs.Builds.{Stand, IsSomeOf}
use Rattle.canonical_syntax.proofs.Instructions.{IsInst, none_both, stand_means}
use Rattle.canonical_syntax.proofs.Operands.{IsLocal, found_all}
use Rattle.canonical_syntax.proofs.Steps.{FitStep, IsResult, IsLine, IsEntry, IsPhi}
use Rattle.canonical_names.proofs.Bodies.{IsBlock, FitBlock}
use Rattle.canonical_names.proofs.Places.{From, From-append}
use Rattle.canonical_names.proofs.Results.{Ascends, Ascends-parts, phi_results, inst_results, block_results}

-- ---- one type by its words

abbrev type_from : List TyWord → Ty
type_from [] = ty.Void
type_from (word.Void ∷ ws) = ty.Void
type_from (word.Int w ∷ ws) = ty.Int w
type_from (word.Double ∷ ws) = ty.Double
type_from (word.Qubit ∷ ws) = ty.Qubit
type_from (word.Res ∷ ws) = ty.Res
type_from (word.Text ∷ ws) = ty.Text
type_from (word.Func n ∷ ws) = ty.Func (word.Func n ∷ ws)

pointer_again : (ws : List TyWord) → is_sig ws ≡ true → type_from ws ≡ ty.Func ws
pointer_again [] h = absurd (false≢true h)
pointer_again (word.Void ∷ ws) h = absurd (false≢true h)
pointer_again (word.Int w ∷ ws) h = absurd (false≢true h)
pointer_again (word.Double ∷ ws) h = absurd (false≢true h)
pointer_again (word.Qubit ∷ ws) h = absurd (false≢true h)
pointer_again (word.Res ∷ ws) h = absurd (false≢true h)
pointer_again (word.Text ∷ ws) h = absurd (false≢true h)
pointer_again (word.Func n ∷ ws) h = refl

type_again : (t : Ty) → is_ty t ≡ true → type_from (words_of t) ≡ t
type_again ty.Void h = refl
type_again (ty.Int w) h = refl
type_again ty.Double h = refl
type_again ty.Qubit h = refl
type_again ty.Res h = refl
type_again ty.Text h = refl
type_again (ty.Func ws) h = pointer_again ws h

same_type_is : (t u : Ty) → is_ty t ≡ true → is_ty u ≡ true → same_type t u ≡ true → t ≡ u
same_type_is t u h i e = sym (type_again t h) ∙ (ap type_from ((same_words_decides (words_of t) (words_of u)).0 e) ∙ type_again u i)

fits_whole : (t : Ty) → type_fits t ≡ true → is_ty t ≡ true
fits_whole t h = (and_parts (is_ty t) _ h).0

value_whole : (t : Ty) → value_type_fits t ≡ true → is_ty t ≡ true
value_whole t h = fits_whole t (and_parts _ (type_fits t) h).1

result_whole : (i : InstKind) → kind_fits i ≡ true → is_ty (result_type i) ≡ true
result_whole (what.Binary o g t a b) h = value_whole t (and_parts (value_type_fits t) (operand_fits t a) (and_parts (typed_fits (t, a)) (operand_fits t b) h).0).0
result_whole (what.Icmp o t a b) h = refl
result_whole (what.Convert c t a u) h = value_whole u (and_parts (typed_fits (t, a)) (value_type_fits u) h).1
result_whole (what.Select c t a u b) h = value_whole t (and_parts (value_type_fits t) (operand_fits t a) (and_parts (typed_fits (t, a)) (typed_fits (u, b)) (and_parts (operand_fits boolean c) _ h).1).0).0
result_whole (what.Call ret g args) h = fits_whole ret (and_parts (type_fits ret) _ h).0

-- ---- the locals that blocks define

same_pair : {n n' : Name} {t t' : Ty} → n ≡ n' → t ≡ t' → ◌≡◌ {A = Name × Ty} (n, t) (n', t')
same_pair e d = cc

module _ (spelling : Token → List ℕ) (m : Module) (f : Function) (locals : list_all (λ l. type_fits l.1) f.locals ≡ true) where
  placed_local : (x : LocalId) (t : Token) (u : Ty) (v : ℕ) → (w : IsLocal spelling f x t) → x.0 ≡ v → u ≡ w.0.1 → slice_get f.locals v ≡ Some (name_by spelling t, u)
  placed_local x t u v w e i = ap (slice_get f.locals) (sym e) ∙ (w.1 ∙ ap Some (same_pair (sym w.2) (sym i)))

  phis_local : (ps : List Phi) (xs : List PhiSyntax) (v w : ℕ) → Stand (IsPhi spelling m f) ps xs → Ascends v (phi_results ps) w → From f.locals v (map (phi_local (name_by spelling)) xs) × (w ≡ v + length (map (phi_local (name_by spelling)) xs))
  phis_local [] [] v w h a = (tt, omega arith)
  phis_local [] (x ∷ xs) v w h a = absurd h
  phis_local (p ∷ ps) [] v w h a = absurd h
  phis_local (p ∷ ps) (x ∷ xs) v w h a =
      let more = phis_local ps xs (v + 1) w h.1 a.1 in
      let n = h.0.name in
      let e = more.1 in
      ((placed_local p.result x.result x.ty v n a.0 (h.0.type ∙ ap type_of_local n.1), more.0), omega arith)

  result_local : (r : Option LocalId) (o : Option Token) (i : InstKind) (x : InstSyntax) (v u : ℕ) → IsResult spelling f r o → IsInst spelling m f i x → kind_fits i ≡ true → result_fits f i r ≡ true → Ascends v (option_to_list r) u
      → From f.locals v (result_locals (name_by spelling) x o) × (u ≡ v + length (result_locals (name_by spelling) x o))
  result_local None None i x v u h j k g a = (tt, omega arith)
  result_local None (Some t) i x v u h j k g a = absurd h
  result_local (Some r) None i x v u h j k g a = absurd h
  result_local (Some r) (Some t) i x v u h j k g a =
      let same = subst (λ o. type_passes (same_type (result_type i)) o ≡ true) h.1 g in
      let whole = fits_whole h.0.1 (found_all (λ l. type_fits l.1) f.locals r.0 h.0 locals h.1) in
      let e = a.1 in
      ((placed_local r t (type_of x) v h a.0 (j.type ∙ same_type_is (result_type i) h.0.1 (result_whole i k) whole same), tt), omega arith)

  insts_local : (is : List Inst) (xs : List LineSyntax) (v w : ℕ) → Stand (IsLine spelling m f) is xs → Each (λ i. FitStep m f (InstAt i)) is → Ascends v (inst_results is) w
      → From f.locals v (flat_map (line_locals (name_by spelling)) xs) × (w ≡ v + length (flat_map (line_locals (name_by spelling)) xs))
  insts_local [] [] v w h k a = (tt, omega arith)
  insts_local [] (x ∷ xs) v w h k a = absurd h
  insts_local (i ∷ is) [] v w h k a = absurd h
  insts_local (i ∷ is) (x ∷ xs) v w h k a =
      let p = Ascends-parts v (option_to_list i.result) (inst_results is) w a in
      let q = and_parts (kind_fits i.what) (result_fits f i.what i.result) k.0.fits in
      let own = result_local i.result x.result i.what x.what v p.0 h.0.result h.0.does q.0 q.1 p.1 in
      let more = insts_local is xs p.0 w h.1 k.1 p.2 in
      let e = own.1 in
      let d = more.1 in
      let l = length-append (line_locals (name_by spelling) x) (flat_map (line_locals (name_by spelling)) xs) in
      (From-append f.locals v p.0 (line_locals (name_by spelling) x) (flat_map (line_locals (name_by spelling)) xs) e own.0 more.0, omega arith)

  insts_fit : (b : Block) → FitBlock m f b → Each (λ i. FitStep m f (InstAt i)) b.insts
  insts_fit b h = Each-unmap (FitStep m f) InstAt b.insts (Each-left (FitStep m f) (map InstAt b.insts) (TermAt b.term ∷ []) (Each-right (FitStep m f) (map PhiAt b.phis) (map InstAt b.insts ++ (TermAt b.term ∷ [])) h.steps))

  pub blocks_local : (bs : List Block) (xs : List BlockSyntax) (v w : ℕ) → Stand (IsBlock spelling m f) bs xs → Each (FitBlock m f) bs → Ascends v (flat_map block_results bs) w
      → From f.locals v (flat_map (block_locals (name_by spelling)) xs) × (w ≡ v + length (flat_map (block_locals (name_by spelling)) xs))
  blocks_local [] [] v w h k a = (tt, omega arith)
  blocks_local [] (x ∷ xs) v w h k a = absurd h
  blocks_local (b ∷ bs) [] v w h k a = absurd h
  blocks_local (b ∷ bs) (x ∷ xs) v w h k a =
      let ps = map (phi_local (name_by spelling)) x.lines.phis in
      let is = flat_map (line_locals (name_by spelling)) x.lines.insts in
      let p = Ascends-parts v (block_results b) (flat_map block_results bs) w a in
      let q = Ascends-parts v (phi_results b.phis) (inst_results b.insts) p.0 p.1 in
      let phis = phis_local b.phis x.lines.phis v q.0 h.0.phis q.1 in
      let insts = insts_local b.insts x.lines.insts q.0 p.0 h.0.insts (insts_fit b k.0) q.2 in
      let more = blocks_local bs xs p.0 w h.1 k.1 p.2 in
      let e = phis.1 in
      let d = insts.1 in
      let c = more.1 in
      let l = length-append ps is in
      let n = length-append (ps ++ is) (flat_map (block_locals (name_by spelling)) xs) in
      (From-append f.locals v p.0 (ps ++ is) (flat_map (block_locals (name_by spelling)) xs) (omega arith) (From-append f.locals v q.0 ps is e phis.0 insts.0) more.0, omega arith)

-- ---- what blocks stand for

same_phi : {v : ℕ} {r : LocalId} {es es' : List (Operand × BlockId)} → r.0 ≡ v → es' ≡ es → ◌≡◌ {A = Phi} (record { result = record { 0 = v }; entries = es' }) (record { result = r; entries = es })
same_phi {v = v} {r = r} {es = es} {es' = es'} e d = ap (λ n. record { result = record { 0 = n }; entries = es' }) (sym e) ∙ ap (λ es. record { result = r; entries = es }) d

same_inst : {r r' : Option LocalId} {w w' : InstKind} → r ≡ r' → w ≡ w' → ◌≡◌ {A = Inst} (record { result = r; what = w }) (record { result = r'; what = w' })
same_inst e d = cc

same_block : {n n' : Name} {ps ps' : List Phi} {is is' : List Inst} {t t' : Term} → n ≡ n' → ps ≡ ps' → is ≡ is' → t ≡ t' → ◌≡◌ {A = Block} (record { name = n; phis = ps; insts = is; term = t }) (record { name = n'; phis = ps'; insts = is'; term = t' })
same_block e d g h = cc

pub same_cons : {A : Type 0} {x y : A} {xs ys : List A} → x ≡ y → xs ≡ ys → x ∷ xs ≡ y ∷ ys
same_cons e d = cc

module _ (spelling : Token → List ℕ) (m : Module) (f : Function) (s : Sense) (r : Tells spelling m f s) where
  named_so : (t : Token) (n : Name) → name_by spelling t ≡ n → s.name t ≡ n
  named_so t n e = ap (λ g. g t) r.name ∙ e

  new_local : (x : LocalId) (t : Token) (v b : ℕ) → IsLocal spelling f x t → x.0 ≡ v → duplicate s t (s.name t) v b ≡ []
  new_local x t v b h e =
      let n = named_so t h.0.0 h.2 in
      let k = r.values x.0 h.0 h.1 in
      let z : nat_lt x.0 v ≡ false = le-ltb x.0 v (omega arith) in
      let first : is_before (s.value (s.name t)) v ≡ false = ap (λ o. is_before o v) (ap s.value n ∙ k.0) ∙ z in
      let second : is_before (s.label (s.name t)) b ≡ false = ap (λ o. is_before o b) (ap s.label n ∙ k.1) in
      ap (λ c. fault_if c Duplicate t) (or_from (is_before (s.value (s.name t)) v) (is_before (s.label (s.name t)) b) first second)

  new_label : (j : ℕ) (b : Block) (t : Token) (n : Name) (v i : ℕ) → slice_get (blocks_of f) j ≡ Some b → n ≡ b.name → i ≤ j → duplicate s t n v i ≡ []
  new_label j b t n v i h e l =
      let k = r.labels j b h in
      let first : is_before (s.value n) v ≡ false = ap (λ o. is_before o v) (ap s.value e ∙ k.1) in
      let second : is_before (s.label n) i ≡ false = ap (λ o. is_before o i) (ap s.label e ∙ k.0) ∙ le-ltb j i l in
      ap (λ c. fault_if c Duplicate t) (or_from (is_before (s.value n) v) (is_before (s.label n) i) first second)

  phis_mean : (ps : List Phi) (xs : List PhiSyntax) (v w b : ℕ) → Stand (IsPhi spelling m f) ps xs → Ascends v (phi_results ps) w → (phis_faults s v b xs ≡ []) × (phis_of s v xs ≡ ps) × (behind_phis v xs ≡ w)
  phis_mean [] [] v w b h a = (refl, refl, a)
  phis_mean [] (x ∷ xs) v w b h a = absurd h
  phis_mean (p ∷ ps) [] v w b h a = absurd h
  phis_mean (p ∷ ps) (x ∷ xs) v w b h a =
      let more = phis_mean ps xs (v + 1) w b h.1 a.1 in
      let es = stand_means (IsEntry spelling m f) (entry_faults s) (entry_of s) (λ e y u. u s r) p.entries x.entries h.0.entries in
      (none_both (none_both (new_local p.result x.result v b h.0.name a.0) es.0) more.0, same_cons (same_phi a.0 es.1) more.1, more.2)

  result_means : (o : Option LocalId) (t : Option Token) (v u b : ℕ) → IsResult spelling f o t → Ascends v (option_to_list o) u → (result_faults s v b t ≡ []) × (result_of v t ≡ o) × (behind v t ≡ u)
  result_means None None v u b h a = (refl, refl, a)
  result_means None (Some t) v u b h a = absurd h
  result_means (Some x) None v u b h a = absurd h
  result_means (Some x) (Some t) v u b h a = (new_local x t v b h a.0, ap (λ n. Some (record { 0 = n })) (sym a.0), a.1)

  insts_mean : (is : List Inst) (xs : List LineSyntax) (v w b : ℕ) → Stand (IsLine spelling m f) is xs → Ascends v (inst_results is) w → (lines_faults s v b xs ≡ []) × (insts_of s v xs ≡ is) × (behind_lines v xs ≡ w)
  insts_mean [] [] v w b h a = (refl, refl, a)
  insts_mean [] (x ∷ xs) v w b h a = absurd h
  insts_mean (i ∷ is) [] v w b h a = absurd h
  insts_mean (i ∷ is) (x ∷ xs) v w b h a =
      let p = Ascends-parts v (option_to_list i.result) (inst_results is) w a in
      let own = result_means i.result x.result v p.0 b h.0.result p.1 in
      let does = h.0.does.means s r in
      let more = insts_mean is xs (behind v x.result) w b h.1 (subst (λ u. Ascends u (inst_results is) w) (sym own.2) p.2) in
      (none_both (none_both own.0 does.0) more.0, same_cons (same_inst own.1 does.1) more.1, more.2)

  label_means : (unnamed : ℕ) (o : Option Token) (n : Name) → IsSomeOf (λ t. name_by spelling t ≡ n) o → name_or s.name unnamed o ≡ n
  label_means unnamed None n h = absurd h
  label_means unnamed (Some t) n h = named_so t n h

  pub blocks_mean : (bs : List Block) (xs : List BlockSyntax) (unnamed v w n : ℕ) → Stand (IsBlock spelling m f) bs xs → From (blocks_of f) n bs → Ascends v (flat_map block_results bs) w
      → (blocks_faults s unnamed v n xs ≡ []) × (blocks_named s unnamed v xs ≡ bs)
  blocks_mean [] [] unnamed v w n h g a = (refl, refl)
  blocks_mean [] (x ∷ xs) unnamed v w n h g a = absurd h
  blocks_mean (b ∷ bs) [] unnamed v w n h g a = absurd h
  blocks_mean (b ∷ bs) (x ∷ xs) unnamed v w n h g a =
      let p = Ascends-parts v (block_results b) (flat_map block_results bs) w a in
      let q = Ascends-parts v (phi_results b.phis) (inst_results b.insts) p.0 p.1 in
      let name = label_means unnamed x.label b.name h.0.label in
      let at = first_token x.label x.lines.phis x.lines.insts x.last in
      let phis = phis_mean b.phis x.lines.phis v q.0 (n + 1) h.0.phis q.1 in
      let insts = insts_mean b.insts x.lines.insts (behind_phis v x.lines.phis) p.0 (n + 1) h.0.insts (subst (λ u. Ascends u (inst_results b.insts) p.0) (sym phis.2) q.2) in
      let term = h.0.term s r in
      let more = blocks_mean bs xs unnamed (behind_block v x) w (n + 1) h.1 g.1 (subst (λ u. Ascends u (flat_map block_results bs) w) (sym insts.2) p.2) in (
        none_both (none_both (new_label n b at (name_or s.name unnamed x.label) v n g.0 name (omega arith)) (none_both phis.0 (none_both insts.0 term.0))) more.0,
        same_cons (same_block name phis.1 insts.1 term.1) more.1,
      )

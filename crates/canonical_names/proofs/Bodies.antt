-- The parts of a block, and of the blocks of a function, are sentences of the grammar, with the trees of their lines.
use Rattle.std.specs.Prelude.{codes}
use Rattle.std.specs.List.{flat_map}
use Rattle.std.proofs.Common.{◌≡◌, ℕ, true, List, [], ◌∷◌, ◌++◌, map, refl, sym, ap, ◌∙◌, subst, append_assoc, append-nil}
use Rattle.ir_text.specs.declared.tok.Tok.TheVariants as sort
use Rattle.ir_module.specs.Printable.{name_fits}
use Rattle.ir_module.specs.Steps.{PhiAt, InstAt, TermAt, steps_of_block}
use Rattle.ir_module.specs.declared.tree.Block.{Block}
use Rattle.ir_module.specs.declared.tree.Function.{Function}
use Rattle.ir_module.specs.declared.tree.Inst.{Inst}
use Rattle.ir_module.specs.declared.tree.Module.{Module}
use Rattle.ir_module.specs.declared.tree.Phi.{Phi}
use Rattle.ir_tokens.specs.declared.kind.Kind.TheVariants as kind
use Rattle.ir_tokens.specs.declared.token.Token.{Token}
use Rattle.ir_grammar.specs.Blocks.{no_lines, line, lines, body, first_block, block, blocks}
use Rattle.ir_grammar.specs.declared.tree.BlockSyntax.{BlockSyntax}
use Rattle.ir_grammar.specs.declared.tree.LineSyntax.{LineSyntax}
use Rattle.ir_grammar.specs.declared.tree.LinesSyntax.{LinesSyntax}
use Rattle.ir_grammar.specs.declared.tree.PhiSyntax.{PhiSyntax}
use Rattle.ir_grammar.specs.declared.tree.TermSyntax.{TermSyntax}
use Rattle.ir_printer.specs.Functions.{indented, phi_line, inst_line, steps_parts, block_parts, further_block, blocks_parts}
use Rattle.ir_printer.specs.Instructions.{term_parts}
use Rattle.ir_printer.specs.Pieces.{line_end, sign}
use Rattle.canonical_text.proofs.OperandsGood.{Known}
use Rattle.read_modules.proofs.Each.{Each, Each-left, Each-right, Each-unmap}
use Rattle.canonical_syntax.specs.Builds.{Builds}
use Rattle.canonical_syntax.specs.Tells.{name_by, MeansTerm}
use Rattle.canonical_syntax.proofs.Builds.{Stand, IsSomeOf, Grows, builds_gap, builds_trail, builds_seq, builds_as, builds_weaker, builds_same, builds_some, builds_rep, behind, before, grows_none, grows_more, grows_weaker, grows_same, builds_grow}
use Rattle.canonical_syntax.proofs.Steps.{FitStep, IsLine, IsPhi, inst_builds, phi_builds, term_builds}
use Rattle.canonical_syntax.proofs.Tokens.{label_builds}

-- the tree of a block
pub record IsBlock (spelling : Token → List ℕ) (m : Module) (f : Function) (b : Block) (x : BlockSyntax) : Type 0 where
  pub label : IsSomeOf (λ t. name_by spelling t ≡ b.name) x.label
  pub phis : Stand (IsPhi spelling m f) b.phis x.lines.phis
  pub insts : Stand (IsLine spelling m f) b.insts x.lines.insts
  pub term : MeansTerm spelling m f b.term x.term

-- what is known of a block
pub record FitBlock (m : Module) (f : Function) (b : Block) : Type 0 where
  pub name : name_fits b.name ≡ true
  pub steps : Each (FitStep m f) (steps_of_block b)

module _ (spelling : Token → List ℕ) (m : Module) (f : Function) (k : Known m f) where
  insts_grow : (is : List Inst) → Each (λ i. FitStep m f (InstAt i)) is → (l : LinesSyntax)
      → Grows spelling line l (flat_map (inst_line m f) is) (λ n. (ys : List LineSyntax) × (n.phis ≡ l.phis) × (n.insts ≡ l.insts ++ ys) × Stand (IsLine spelling m f) is ys)
  insts_grow [] h l = grows_none ([], refl, sym (append-nil l.insts), tt)
  insts_grow (i ∷ is) h l = grows_more (inst_builds spelling m f k l i h.0) (λ y w. grows_weaker (insts_grow is h.1 y)
      (λ n v. (w.0 ∷ v.0, v.1 ∙ w.1, v.2 ∙ (ap (λ a. a ++ v.0) w.2 ∙ append_assoc l.insts (w.0 ∷ []) v.0), (w.3, v.3))))

  -- the phis and the instructions of some lines
  abbrev AreLines : List PhiSyntax → List Phi → List Inst → LinesSyntax → Type 0
  AreLines before ps is n = (xs : List PhiSyntax) × (ys : List LineSyntax) × (n.phis ≡ before ++ xs) × (n.insts ≡ ys) × Stand (IsPhi spelling m f) ps xs × Stand (IsLine spelling m f) is ys

  lines_grow : (ps : List Phi) (is : List Inst) → Each (λ p. FitStep m f (PhiAt p)) ps → Each (λ i. FitStep m f (InstAt i)) is → (l : LinesSyntax) → l.insts ≡ []
      → Grows spelling line l (flat_map (phi_line m f) ps ++ flat_map (inst_line m f) is) (AreLines l.phis ps is)
  lines_grow [] is h i l e = grows_weaker (insts_grow is i l) (λ n v. ([], v.0, v.1 ∙ sym (append-nil l.phis), v.2 ∙ ap (λ a. a ++ v.0) e, tt, v.3))
  lines_grow (p ∷ ps) is h i l e = grows_same (sym (append_assoc (phi_line m f p) (flat_map (phi_line m f) ps) (flat_map (inst_line m f) is)))
      (grows_more (phi_builds spelling m f k l p e h.0) (λ y w. grows_weaker (lines_grow ps is h.1 i y w.2)
      (λ n v. (w.0 ∷ v.0, v.1, v.2 ∙ (ap (λ a. a ++ v.0) w.1 ∙ append_assoc l.phis (w.0 ∷ []) v.0), v.3, (w.3, v.4), v.5))))

  abbrev IsBody : Block → LinesSyntax × (Token × TermSyntax) → Type 0
  IsBody b p = (Stand (IsPhi spelling m f) b.phis p.0.phis × Stand (IsLine spelling m f) b.insts p.0.insts) × MeansTerm spelling m f b.term p.1.1

  body_builds : (b : Block) → FitBlock m f b → Builds spelling body (flat_map (phi_line m f) b.phis ++ steps_parts m f b) (IsBody b)
  unfolding body lines
  body_builds b h =
      let others = map InstAt b.insts ++ (TermAt b.term ∷ []) in
      let ps = Each-unmap (FitStep m f) PhiAt b.phis (Each-left (FitStep m f) (map PhiAt b.phis) others h.steps) in
      let rest = Each-right (FitStep m f) (map PhiAt b.phis) others h.steps in
      let is = Each-unmap (FitStep m f) InstAt b.insts (Each-left (FitStep m f) (map InstAt b.insts) (TermAt b.term ∷ []) rest) in
      let last = (Each-right (FitStep m f) (map InstAt b.insts) (TermAt b.term ∷ []) rest).0 in
      builds_same (append_assoc (flat_map (phi_line m f) b.phis) (flat_map (inst_line m f) b.insts) (indented (term_parts m f b.term)))
      (builds_seq (builds_weaker {Q = λ n. Stand (IsPhi spelling m f) b.phis n.phis × Stand (IsLine spelling m f) b.insts n.insts} (builds_grow (lines_grow b.phis b.insts ps is no_lines refl))
      (λ n v. (subst (Stand (IsPhi spelling m f) b.phis) (sym v.2) v.4, subst (Stand (IsLine spelling m f) b.insts) (sym v.3) v.5)))
      (builds_gap (codes "  ") (builds_trail (codes "\n") (term_builds spelling m f k b.term last))))

  block_builds : (b : Block) → FitBlock m f b → Builds spelling block (block_parts m f b) (IsBlock spelling m f b)
  unfolding block
  block_builds b h = builds_as (builds_seq (label_builds b.name h.name) (builds_gap (codes "\n") (body_builds b h)))
      (λ p w. record { label = w.0; phis = w.1.0.0; insts = w.1.0.1; term = w.1.1 })

  first_builds : (b : Block) → FitBlock m f b → Builds spelling first_block (block_parts m f b) (IsBlock spelling m f b)
  unfolding first_block
  first_builds b h = builds_as (builds_seq (builds_some (label_builds b.name h.name)) (builds_gap (codes "\n") (body_builds b h)))
      (λ p w. record { label = w.0; phis = w.1.0.0; insts = w.1.0.1; term = w.1.1 })

  further_build : (bs : List Block) → Each (FitBlock m f) bs → Each (λ b. Builds spelling block (further_block m f b) (IsBlock spelling m f b)) bs
  further_build [] h = tt
  further_build (b ∷ bs) h = (builds_gap (codes "\n") (block_builds b h.0), further_build bs h.1)

  -- '{' and the blocks, and '}'
  pub blocks_build : (b : Block) (bs : List Block) → Each (FitBlock m f) (b ∷ bs)
      → Builds spelling blocks (sign (codes "{") ∷ line_end ∷ (blocks_parts m f (b ∷ bs) ++ sign (codes "}") ∷ line_end ∷ [])) (Stand (IsBlock spelling m f) (b ∷ bs))
  unfolding blocks
  blocks_build b bs h = behind kind.OpenBrace sort.Sign (codes "{") refl (builds_gap (codes "\n")
      (builds_same (append_assoc (blocks_parts m f (b ∷ bs)) (sign (codes "}") ∷ []) (line_end ∷ []))
      (builds_trail (codes "\n") (before kind.CloseBrace sort.Sign (codes "}") refl
      (builds_as {Q = Stand (IsBlock spelling m f) (b ∷ bs)} (builds_seq (first_builds b h.0) (builds_rep (further_block m f) (IsBlock spelling m f) bs (further_build bs h.1))) (λ p w. w))))))

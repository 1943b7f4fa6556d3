-- Branches, switches and returns issue nothing.
use Rattle.std.proofs.Common.{◌≡◌, ℕ, zero, suc, Option, None, Some, List, [], ◌∷◌, slice_get, refl, subst}
use Rattle.std.specs.Prelude.{⊤, ◌==◌, ◌&&◌, ◌||◌, if◌then◌else◌}
use Rattle.ir_module.specs.declared.tree.Block.{Block}
use Rattle.ir_module.specs.declared.tree.Term.{Term}
use Rattle.ir_module.specs.declared.tree.Term.TheVariants as term
use Rattle.ir_values.specs.declared.ids.BlockId.{BlockId}
use Rattle.ir_values.specs.declared.ids.LocalId.{LocalId}
use Rattle.ir_values.specs.declared.int.Width.{Width}
use Rattle.ir_values.specs.declared.ty.Ty.TheVariants as ty
use Rattle.ir_values.specs.declared.value.Value.TheVariants as value
use Rattle.ir_values.specs.Int.{IntValue, signed}
use Rattle.ir_values.specs.Values.{is_bit}
use Rattle.kept_items.specs.declared.item.Choice.{Choice}
use Rattle.kept_items.specs.declared.item.Choice.TheVariants.{One, Branch, Switch}
use Rattle.kept_items.specs.declared.item.Code.TheVariants as code
use Rattle.kept_items.specs.declared.target.Kind.TheVariants as kind
use Rattle.kept_items.specs.declared.val.Val.{Val}
use Rattle.kept_items.specs.declared.val.Val.TheVariants.{Known, Dynamic}
use Rattle.kept_items.specs.Targets.{has_ints, has_returns, has_switch}
use Rattle.qir_meaning.specs.Effects.{is_one}
use Rattle.qir_meaning.specs.Moves.{block_in, given, target_of}
use Rattle.static_steps.specs.declared.turn.Move.{Move}
use Rattle.static_steps.specs.declared.turn.Turn.{Turn}
use Rattle.static_steps.specs.declared.turn.Turn.TheVariants.{Bad, Exits}
use Rattle.static_steps.specs.declared.work.WorkFrame.{WorkFrame}
use Rattle.static_steps.specs.Edges.{all_along, along, along_to, arrived, branch_turn, case_values, edges_to, edges_turn, phis_bring, switch_turn, targets}
use Rattle.static_steps.specs.Returns.{back_turn, call_result, exits, resumes}
use Rattle.static_steps.specs.Settings.{Setting, here}
use Rattle.static_steps.specs.Steps.{term_turn, with_val}
use Rattle.static_steps.specs.Values.{Names, put_result, val_of}
use Rattle.issued_steps.proofs.Turns.{Does, either-does, goes-does}

module _ (s : Setting) where
  -- ---- edges

  abbrev OnEdge : Option Move → Type 0
  OnEdge None = ⊤
  OnEdge (Some mv) = mv.to.phase ≡ s.w.phase

  abbrev OnEdges : Option (List Move) → Type 0
  OnEdges None = ⊤
  OnEdges (Some mvs) = (i : ℕ) (mv : Move) → slice_get mvs i ≡ Some mv → mv.to.phase ≡ s.w.phase

  arrives : (b : BlockId) (to : Block) (o : Option (Names Val)) → OnEdge (arrived s b to o)
  arrives b to None = tt
  arrives b to (Some ns) = refl

  along-block : (b : BlockId) (o : Option Block) → OnEdge (along_to s b o)
  along-block b None = tt
  along-block b (Some to) = arrives b to (phis_bring to.phis (here s).block s.w.top.names s.w.top.names)

  more-edges : (o : Option Move) (os : Option (List Move)) → OnEdge o → OnEdges os → OnEdges (given o (λ mv. given os (λ mvs. Some (mv ∷ mvs))))
  more-edges None os h k = tt
  more-edges (Some mv) None h k = tt
  more-edges (Some mv) (Some mvs) h k = at-index
    where
      at-index : (i : ℕ) (a : Move) → slice_get (mv ∷ mvs) i ≡ Some a → a.to.phase ≡ s.w.phase
      at-index zero a e = let z : mv ≡ a = cc in subst (λ (w : Move). w.to.phase ≡ s.w.phase) z h
      at-index (suc i) a e = k i a e

  on-edges : (bs : List BlockId) → OnEdges (all_along s bs)
  on-edges [] = λ i a e. none i a e
    where
      none : (i : ℕ) (a : Move) → slice_get [] i ≡ Some a → a.to.phase ≡ s.w.phase
      none i a e = cc
  on-edges (b ∷ bs) = more-edges (along s b) (all_along s bs) (along-block b (block_in s.m (here s).func b)) (on-edges bs)

  edges-by : (o : Option (List Move)) (c : Choice) → OnEdges o → Does s (edges_turn s o c)
  edges-by None c h = tt
  edges-by (Some mvs) c h = h

  edges-does : (bs : List BlockId) (c : Choice) → Does s (edges_to s bs c)
  edges-does bs c = edges-by (all_along s bs) c (on-edges bs)

  branch-does : (a : Val) (b c : BlockId) → Does s (branch_turn s a b c)
  branch-does (Known (value.Int i)) b c = edges-does ((if is_one i then b else c) ∷ []) One
  branch-does (Known v) b c = tt
  branch-does (Dynamic d) b c = edges-does (b ∷ c ∷ []) (Branch d)

  switch-does : (w : Width) (a : Val) (b : BlockId) (cases : List (IntValue × BlockId)) → Does s (switch_turn s w a b cases)
  switch-does w (Known (value.Int i)) b cases = edges-does (target_of i cases b ∷ []) One
  switch-does w (Known v) b cases = tt
  switch-does w (Dynamic d) b cases =
      either-does s (has_switch s.t && (is_bit w || has_ints s.t)) (edges_to s (targets cases b) (Switch d w (case_values cases))) (Bad kind.Capability)
      (edges-does (targets cases b) (Switch d w (case_values cases))) tt

  -- ---- returns

  exits-does : (o : Option Val) → Does s (exits s o)
  exits-does None = tt
  exits-does (Some (Known (value.Int i))) = either-does s (has_returns s.t || (i.bits == 0)) (Exits (code.Known (signed i))) (Bad kind.Capability) tt tt
  exits-does (Some (Known v)) = tt
  exits-does (Some (Dynamic d)) = either-does s (has_returns s.t) (Exits (code.Dynamic d)) (Bad kind.Capability) tt tt

  resumes-does : (f : WorkFrame) (fs : List WorkFrame) (x : Option (Option LocalId)) (o : Option Val) → Does s (resumes s f fs x o)
  resumes-does f fs None o = tt
  resumes-does f fs (Some x) (Some a) = goes-does s (record s.w { top = record { at = f.at; names = put_result x a f.names }; below = fs }) refl
  resumes-does f fs (Some None) None = goes-does s (record s.w { top = f; below = fs }) refl
  resumes-does f fs (Some (Some x)) None = tt

  back-does : (below : List WorkFrame) (o : Option Val) → Does s (back_turn s below o)
  back-does [] o = exits-does o
  back-does (f ∷ fs) o = resumes-does f fs (call_result s.m f.at) o

  -- ---- terminators

  with-val : (o : Option Val) (go : Val → Turn) → ((v : Val) → Does s (go v)) → Does s (with_val o go)
  with-val None go h = tt
  with-val (Some v) go h = h v

  pub term-does : (t : Term) → Does s (term_turn s t)
  term-does term.RetVoid = back-does s.w.below None
  term-does (term.Ret u a) = with-val (val_of s.w.top.names a) (λ v. back_turn s s.w.below (Some v)) (λ v. back-does s.w.below (Some v))
  term-does (term.Br b) = edges-does (b ∷ []) One
  term-does (term.CondBr c b d) = with-val (val_of s.w.top.names c) (λ v. branch_turn s v b d) (λ v. branch-does v b d)
  term-does (term.Switch (ty.Int w) a b cases) = with-val (val_of s.w.top.names a) (λ v. switch_turn s w v b cases) (λ v. switch-does w v b cases)
  term-does (term.Switch u a b cases) = tt

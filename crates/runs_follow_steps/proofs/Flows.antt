-- The live names, as far as proofs go by them.
use Rattle.std.proofs.Common.{◌≡◌, ℕ, ◌<◌, Bool, true, false, Option, None, Some, List, [], ◌∷◌, length}
use Rattle.std.specs.Prelude.{◌==◌, ⊤, slice_get}
use Rattle.ir_module.specs.declared.places.Point.{Point}
use Rattle.ir_module.specs.declared.tree.Block.{Block}
use Rattle.ir_module.specs.declared.tree.Inst.{Inst}
use Rattle.ir_module.specs.declared.tree.Module.{Module}
use Rattle.ir_module.specs.declared.tree.Operand.{Operand}
use Rattle.ir_module.specs.declared.tree.Operand.TheVariants as operand
use Rattle.ir_module.specs.declared.tree.Phi.{Phi}
use Rattle.ir_module.specs.declared.tree.Term.{Term}
use Rattle.ir_module.specs.Edges.{edges}
use Rattle.ir_module.specs.Operands.{operands_of, term_operands}
use Rattle.ir_module.specs.Steps.{InstAt, TermAt, step_in_module}
use Rattle.ir_values.specs.declared.ids.BlockId.{BlockId}
use Rattle.ir_values.specs.declared.ids.FuncId.{FuncId}
use Rattle.ir_values.specs.declared.ids.LocalId.{LocalId}
use Rattle.qir_meaning.specs.Moves.{block_in, entry_for}
use Rattle.qir_meaning.specs.State.{next}
use Rattle.runs_follow_steps.specs.Describes.{IsNot, ResultInRange, locals_in}

abbrev pub LiveOperand : (Point → LocalId → Bool) → Point → Operand → Type 0
LiveOperand live p (operand.Const v) = ⊤
LiveOperand live p (operand.Local x) = live p x ≡ true

abbrev pub LiveOperands : (Point → LocalId → Bool) → Point → List Operand → Type 0
LiveOperands live p [] = ⊤
LiveOperands live p (a ∷ rest) = LiveOperand live p a × LiveOperands live p rest

abbrev pub LiveEntry : (Point → LocalId → Bool) → Point → Option Operand → Type 0
LiveEntry live p None = ⊤
LiveEntry live p (Some a) = LiveOperand live p a

abbrev pub LiveEntries : (Point → LocalId → Bool) → Point → List Phi → BlockId → Type 0
LiveEntries live p [] from = ⊤
LiveEntries live p (phi ∷ phis) from = LiveEntry live p (entry_for phi.entries from) × LiveEntries live p phis from

-- none of the phis has this result
abbrev pub IsNone : List Phi → LocalId → Type 0
IsNone [] y = ⊤
IsNone (phi ∷ phis) y = ((phi.result.0 == y.0) ≡ false) × IsNone phis y

abbrev pub InRange : Module → FuncId → List Phi → Type 0
InRange m f [] = ⊤
InRange m f (phi ∷ phis) = (phi.result.0 < locals_in m f) × InRange m f phis

module _ (m : Module) (live : Point → LocalId → Bool) where
  -- what is read along an edge is live before it, and what is live behind it and isn't defined by its phis
  pub record EdgeFlows (p : Point) (b : BlockId) : Type 0 where
    pub reads : (to : Block) → block_in m p.func b ≡ Some to → LiveEntries live p to.phis p.block
    pub range : (to : Block) → block_in m p.func b ≡ Some to → InRange m p.func to.phis
    pub passes : (to : Block) (y : LocalId) → block_in m p.func b ≡ Some to
        → live (record { func = p.func; block = b; index = length to.phis }) y ≡ true → IsNone to.phis y → live p y ≡ true

  pub record Flows : Type 0 where
    pub inst_reads : (p : Point) (i : Inst) → step_in_module m p ≡ InstAt i → LiveOperands live p (operands_of i.what)
    pub inst_passes : (p : Point) (i : Inst) (y : LocalId) → step_in_module m p ≡ InstAt i
        → live (next p) y ≡ true → IsNot i.result y → live p y ≡ true
    pub inst_result : (p : Point) (i : Inst) → step_in_module m p ≡ InstAt i → ResultInRange m p.func i.result
    pub term_reads : (p : Point) (t : Term) → step_in_module m p ≡ TermAt t → LiveOperands live p (term_operands t)
    pub along : (p : Point) (t : Term) (k : ℕ) (b : BlockId) → step_in_module m p ≡ TermAt t
        → slice_get (edges t) k ≡ Some b → EdgeFlows p b

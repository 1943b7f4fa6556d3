-- What stands at a point, by its block and its index.
use Rattle.std.proofs.Common.{◌≡◌, ◌∙◌, ℕ, zero, suc, ◌+◌, ◌-◌, ◌<◌, ◌≤◌, List, [], ◌∷◌, length, Option, None, Some, refl, sym, ap, subst, arith, ⊎_elim}
use Rattle.std.proofs.lemmas.Option.{slice_get_cases, slice_get_past}
use Rattle.std.specs.Prelude.{slice_get}
use Rattle.ir_module.specs.declared.places.Point.{Point}
use Rattle.ir_module.specs.declared.tree.Block.{Block}
use Rattle.ir_module.specs.declared.tree.Function.{Function}
use Rattle.ir_module.specs.declared.tree.Inst.{Inst}
use Rattle.ir_module.specs.declared.tree.Module.{Module}
use Rattle.ir_module.specs.declared.tree.Term.{Term}
use Rattle.ir_module.specs.Steps.{Step, InstAt, NoStep, PhiAt, TermAt, at_end, step_at, step_in, step_in_module, step_of_point}
use Rattle.ir_module.specs.Tree.{block_at}
use Rattle.ir_values.specs.declared.ids.BlockId.{BlockId}
use Rattle.machine_frames.specs.code.Apt.{does_apt, move_apt, step_apt}
use Rattle.qir_meaning.specs.Moves.{block_in, ends, given}
use Rattle.qir_meaning.specs.State.{Env, State, Move, Stuck}
use Rattle.type_check.proofs.Facts.{inst-at, phi-at, step-here, step-in, term-at}

func-of : (b : BlockId) (block : Block) (o : Option Function) → given o (λ f. block_at f b) ≡ Some block → (f : Function) × (o ≡ Some f) × (block_at f b ≡ Some block)
func-of b block None e = cc
func-of b block (Some f) e = (f, refl, e)

no-func : (m : Module) (p : Point) → slice_get m.funcs p.func.0 ≡ None → step_in_module m p ≡ NoStep
no-func m p e = rw e refl

no-block-by : (m : Module) (p : Point) (o : Option Function) → slice_get m.funcs p.func.0 ≡ o → given o (λ f. block_at f p.block) ≡ None → step_in_module m p ≡ NoStep
no-block-by m p None e h = no-func m p e
no-block-by m p (Some f) e h = step-in m p f e ∙ ap (λ b. step_in b p.index) h

end-past : (t : Term) (n : ℕ) → 0 < n → at_end t n ≡ NoStep
end-past t zero h = absurd (omega arith)
end-past t (suc n) h = refl

past-end : (b : Block) (i : ℕ) → length b.phis ≤ i → length b.insts < i - length b.phis → step_at b i ≡ NoStep
past-end b i from past =
    let none : slice_get b.insts (i - length b.phis) ≡ None = slice_get_past b.insts (i - length b.phis) (omega arith) in
    rw (slice_get_past b.phis i from, none) (end-past b.term (i - (length b.phis + length b.insts)) (omega arith))

module _ (m : Module) (p : Point) (env : Env) (st : State) where
  by-step-is : (s : Step) → step_in_module m p ≡ s → move_apt m p env st ≡ step_apt m p env st s
  unfolding move_apt
  by-step-is s e = ap (step_apt m p env st) e

  pub no-block : block_in m p.func p.block ≡ None → move_apt m p env st ≡ Stuck
  no-block e = by-step-is NoStep (no-block-by m p (slice_get m.funcs p.func.0) refl e)

  module _ (block : Block) (is : block_in m p.func p.block ≡ Some block) where
    in-block : step_in_module m p ≡ step_at block p.index
    in-block =
        let f = func-of p.block block (slice_get m.funcs p.func.0) is in
        step-in m p f.0 f.1 ∙ step-here f.0 p block f.2

    pub at-phi : p.index < length block.phis → move_apt m p env st ≡ Stuck
    at-phi lt = ⊎_elim
        (λ q. by-step-is (PhiAt q.0) (in-block ∙ phi-at block p.index q.0 q.2))
        (λ q. absurd (let h = q.0 in omega arith))
        (slice_get_cases block.phis p.index).1

    pub at-inst : length block.phis ≤ p.index → (i : Inst) → slice_get block.insts (p.index - length block.phis) ≡ Some i → move_apt m p env st ≡ does_apt m p env st i.result i.what
    at-inst from i e = by-step-is (InstAt i) (in-block ∙ inst-at block p.index from i e)

    pub at-term : length block.phis ≤ p.index → p.index - length block.phis ≡ length block.insts → move_apt m p env st ≡ ends m p env st block.term
    at-term from e = by-step-is (TermAt block.term) (in-block ∙ term-at block p.index from (omega arith))

    pub at-none : length block.phis ≤ p.index → length block.insts < p.index - length block.phis → move_apt m p env st ≡ Stuck
    at-none from past = by-step-is NoStep (in-block ∙ past-end block p.index from past)

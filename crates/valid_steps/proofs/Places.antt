-- Where an instruction or a terminator stands, and the point after a call.
use Rattle.std.proofs.Common.{◌≡◌, ⊎_elim, ℕ, suc, zero, ◌+◌, ◌-◌, ◌<◌, ◌≤◌, Option, None, Some, length, slice_get, refl, sym, ap, ◌∙◌, subst, arith}
use Rattle.std.proofs.lemmas.Option.{slice_get_cases}
use Rattle.ir_module.specs.declared.places.Point.{Point}
use Rattle.ir_module.specs.declared.tree.Block.{Block}
use Rattle.ir_module.specs.declared.tree.Function.{Function}
use Rattle.ir_module.specs.declared.tree.Inst.{Inst}
use Rattle.ir_module.specs.declared.tree.Module.{Module}
use Rattle.ir_module.specs.declared.tree.Phi.{Phi}
use Rattle.ir_module.specs.Steps.{PhiAt, InstAt, at_end, from_option, step_at, step_in, step_in_module}
use Rattle.ir_module.specs.Tree.{block_at}
use Rattle.ir_values.specs.declared.ids.FuncId.{FuncId}
use Rattle.qir_meaning.specs.Moves.{first_point}
use Rattle.qir_meaning.specs.State.{next}
use Rattle.static_steps.specs.Configurations.{Stands}
use Rattle.static_steps.specs.Returns.{call_result, result_at}
use Rattle.type_check.proofs.Facts.{by-step, step-here, step-in as in-module}

-- an instruction or a terminator stands at a point of a function's block
pub record Here (f : Function) (p : Point) : Type 0 where
  pub block : Block
  pub is : block_at f p.block ≡ Some block
  pub from : length block.phis ≤ p.index
  pub to : p.index ≤ length block.phis + length block.insts

none-some : {A : Type 0} (x : A) (o : Option A) → o ≡ None → o ≡ Some x → ⊥
none-some x None d q = cc
none-some x (Some y) d q = cc

module _ (m : Module) (p : Point) (f : Function) (at : slice_get m.funcs p.func.0 ≡ Some f) where
  pub line : (b : Block) → block_at f p.block ≡ Some b → step_in_module m p ≡ step_at b p.index
  line b e = in-module m p f at ∙ step-here f p b e

  -- so it does where it is in range
  pub stands-at : Here f p → Stands (step_in_module m p)
  stands-at h =
      by-step h.block p.index h.from h.to (Stands (step_in_module m p))
      (λ i a s less. subst Stands (sym (line h.block h.is ∙ s)) tt)
      (λ s. subst Stands (sym (line h.block h.is ∙ s)) tt)

  ends-at : (b : Block) (n : ℕ) → p.index - (length b.phis + length b.insts) ≡ n → Stands (at_end b.term n) → p.index ≤ length b.phis + length b.insts
  ends-at b zero e h = omega (arith, e)
  ends-at b (suc n) e h = absurd h

  behind : (b : Block) → block_at f p.block ≡ Some b → length b.phis ≤ p.index → (o : Option Inst) → slice_get b.insts (p.index - length b.phis) ≡ o
      → Stands (from_option o InstAt (at_end b.term (p.index - (length b.phis + length b.insts)))) → Here f p
  behind b e le None s h = record { block = b; is = e; from = le; to = ends-at b (p.index - (length b.phis + length b.insts)) refl h }
  behind b e le (Some i) s h = record { block = b; is = e; from = le; to = within }
    where
      within : p.index ≤ length b.phis + length b.insts
      within = ⊎_elim (λ a. let lt = a.1 in omega (arith, lt, le)) (λ a. absurd (none-some i (slice_get b.insts (p.index - length b.phis)) a.1 s)) (slice_get_cases b.insts (p.index - length b.phis)).1

  in-block : (b : Block) → block_at f p.block ≡ Some b → (o : Option Phi) → slice_get b.phis p.index ≡ o
      → Stands (from_option o PhiAt (from_option (slice_get b.insts (p.index - length b.phis)) InstAt (at_end b.term (p.index - (length b.phis + length b.insts))))) → Here f p
  in-block b e (Some phi) s h = absurd h
  in-block b e None s h = behind b e past (slice_get b.insts (p.index - length b.phis)) refl h
    where
      past : length b.phis ≤ p.index
      past = ⊎_elim (λ a. absurd (none-some a.0 (slice_get b.phis p.index) s a.2)) (λ a. a.0) (slice_get_cases b.phis p.index).1

  by-block : (o : Option Block) → block_at f p.block ≡ o → Stands (step_in o p.index) → Here f p
  by-block None e h = absurd h
  by-block (Some b) e h = in-block b e (slice_get b.phis p.index) refl h

  -- and it is in range where it stands
  pub here : Stands (step_in_module m p) → Here f p
  here h = by-block (block_at f p.block) refl (subst Stands (in-module m p f at) h)

  -- behind an instruction something stands again
  pub next-stands : (h : Here f p) → p.index < length h.block.phis + length h.block.insts → Stands (step_in_module m (next p))
  next-stands h less = after
    where
      there : Here f (next p)
      there = record { block = h.block; is = h.is; from = (let le = h.from in omega (arith, le)); to = omega (arith, less) }

      after : Stands (step_in_module m (next p))
      after =
          by-step h.block (p.index + 1) there.from there.to (Stands (step_in_module m (next p)))
          (λ i a s l. subst Stands (sym (in-module m (next p) f at ∙ (step-here f (next p) h.block h.is ∙ s))) tt)
          (λ s. subst Stands (sym (in-module m (next p) f at ∙ (step-here f (next p) h.block h.is ∙ s))) tt)

-- a body begins behind no phi
pub first-stands : (m : Module) (g : FuncId) (f : Function) → slice_get m.funcs g.0 ≡ Some f → (b : Block) → block_at f (record { 0 = 0 }) ≡ Some b → length b.phis ≡ 0 → Stands (step_in_module m (first_point g))
first-stands m g f at b e none = stands-at m (first_point g) f at (record { block = b; is = e; from = omega (arith, none); to = omega arith })

-- the name of the call before the point after it
pub result-before : (m : Module) (p : Point) (i : Inst) → step_in_module m p ≡ InstAt i → call_result m (next p) ≡ Some i.result
result-before m p i e =
    let z : p.index + 1 - 1 ≡ p.index = omega arith in
    ap (λ n. result_at (step_in_module m (record p { index = n }))) z ∙ ap result_at e

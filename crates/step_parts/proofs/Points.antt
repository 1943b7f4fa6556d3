-- What stands at a point.
use Rattle.std.proofs.Common.{◌≡◌, ℕ, suc, ◌+◌, ◌-◌, ◌<◌, ◌≤◌, Option, None, Some, length, slice_get, get_or, refl, arith, ⊎_elim}
use Rattle.std.proofs.lemmas.Option.{slice_get_cases, slice_get_past}
use Rattle.ir_module.specs.declared.places.Point.{Point}
use Rattle.ir_module.specs.declared.tree.Block.{Block}
use Rattle.ir_module.specs.declared.tree.Function.{Function}
use Rattle.ir_module.specs.declared.tree.Inst.{Inst}
use Rattle.ir_module.specs.declared.tree.Module.{Module}
use Rattle.ir_module.specs.declared.tree.Phi.{Phi}
use Rattle.ir_module.specs.Steps.{PhiAt, InstAt, TermAt, NoStep, step_at, step_in_module}
use Rattle.ir_module.specs.Tree.{block_at}
use Rattle.qir_meaning.specs.Moves.{block_in, given}
use Rattle.step_parts.specs.code.Standing.{IsNeither}

module _ (m : Module) (p : Point) where
  here-in : (b : Block) (o : Option Function) → slice_get m.funcs p.func.0 ≡ o → given o (λ g. block_at g p.block) ≡ Some b → step_in_module m p ≡ step_at b p.index
  here-in b None e h = absurd (none-some h) where
    none-some : {A : Type 0} {x : A} → None ≡ Some x → ⊥
    none-some q = cc
  here-in b (Some f) e h = rw e (rw h refl)

  pub step_here : (b : Block) → block_in m p.func p.block ≡ Some b → step_in_module m p ≡ step_at b p.index
  step_here b h = here-in b (slice_get m.funcs p.func.0) refl h

  nothing-in : (o : Option Function) → slice_get m.funcs p.func.0 ≡ o → given o (λ g. block_at g p.block) ≡ None → step_in_module m p ≡ NoStep
  nothing-in None e h = rw e refl
  nothing-in (Some f) e h = rw e (rw h refl)

  pub no_step_here : block_in m p.func p.block ≡ None → step_in_module m p ≡ NoStep
  no_step_here h = nothing-in (slice_get m.funcs p.func.0) refl h

phi-at : (b : Block) (i : ℕ) → i < length b.phis → (phi : Phi) × (step_at b i ≡ PhiAt phi)
phi-at b i h =
    ⊎_elim (λ (q : (phi : Phi) × (i < length b.phis) × (slice_get b.phis i ≡ Some phi) × (get_or b.phis i phi ≡ phi)). (q.0, rw q.2 refl)) (λ q. absurd (omega (arith, h, q.0)))
    (slice_get_cases b.phis i).1

pub neither_phi : (b : Block) (i : ℕ) → i < length b.phis → IsNeither (step_at b i)
neither_phi b i h = rw (phi-at b i h).1 tt

module _ (b : Block) (i : ℕ) (from : length b.phis ≤ i) where
  pub inst_at : (x : Inst) → slice_get b.insts (i - length b.phis) ≡ Some x → step_at b i ≡ InstAt x
  inst_at x e = rw (slice_get_past b.phis i from, e) refl

  pub term_at : slice_get b.insts (i - length b.phis) ≡ None → i - length b.phis ≡ length b.insts → step_at b i ≡ TermAt b.term
  term_at past e =
      let z : i - (length b.phis + length b.insts) ≡ 0 = omega (arith, e, from) in
      rw (slice_get_past b.phis i from, past, z) refl

  nothing-at : (n : ℕ) → slice_get b.insts (i - length b.phis) ≡ None → i - (length b.phis + length b.insts) ≡ suc n → IsNeither (step_at b i)
  nothing-at n past z = rw (slice_get_past b.phis i from, past, z) tt

  pub neither_behind : slice_get b.insts (i - length b.phis) ≡ None → length b.insts < i - length b.phis → IsNeither (step_at b i)
  neither_behind past lt = nothing-at (i - (length b.phis + length b.insts) - 1) past (omega (arith, lt, from))

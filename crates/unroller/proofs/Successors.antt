-- Successors are reached by one move more.
use Rattle.std.proofs.Common.{◌≡◌, ℕ, suc, zero, ◌+◌, Some, List, [], ◌∷◌, map, refl, subst, arith}
use Rattle.std.specs.Prelude.{slice_get}
use Rattle.static_steps.specs.declared.config.Config.{Config}
use Rattle.static_steps.specs.declared.turn.Move.{Move}
use Rattle.unroller.specs.Programs.{IsReachedBy, LeadsOn, Program}

of-move : (moves : List Move) (i : ℕ) (x : Config) → slice_get (map (λ mv. mv.to) moves) i ≡ Some x
    → (mv : Move) × (slice_get moves i ≡ Some mv) × (mv.to ≡ x)
of-move [] i x h = cc
of-move (mv ∷ moves) zero x h = let s : mv.to ≡ x = cc in (mv, refl, s)
of-move (mv ∷ moves) (suc i) x h = of-move moves i x h

pub one-more : (p : Program) (g : Config) (moves : List Move) → ((i : ℕ) (mv : Move) → slice_get moves i ≡ Some mv → LeadsOn p g mv)
    → (depth : ℕ) → IsReachedBy p depth g → (i : ℕ) (x : Config) → slice_get (map (λ mv. mv.to) moves) i ≡ Some x → IsReachedBy p (depth + 1) x
one-more p g moves leads depth by i x h =
    let (mv, is, to) = of-move moves i x h in
    let on = leads i mv is in
    let a = by.allocated in
    let b = by.returned in
    let c = on.allocated in
    let d = on.returned in
    subst (IsReachedBy p (depth + 1)) to (record {
      reached = on.reached;
      allocated = omega (arith, a, c);
      returned = omega (arith, b, d);
    })

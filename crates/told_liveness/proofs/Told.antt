-- A module has one test of its live names.
use Rattle.std.proofs.Common.{◌≡◌, ◌∙◌, ◌↔◌, Bool, true, false, Option, None, Some, refl, sym, ap, subst, slice_get, true≢false}
use Rattle.ir_values.specs.declared.ids.LocalId.{LocalId}
use Rattle.ir_module.specs.declared.places.Point.{Point}
use Rattle.ir_module.specs.declared.tree.Function.{Function}
use Rattle.ir_module.specs.declared.tree.Module.{Module}
use Rattle.name_flow.specs.Walks.{IsLive}
use Rattle.told_liveness.specs.Laws.{HasTest, IsToldOnce}
use Rattle.told_liveness.specs.Tests.{IsLiveTest}
use Rattle.told_liveness.proofs.Walks.{live-exactly, live_at}

-- the test of a function, or none where there is no function
abbrev live_of : Option Function → Point → LocalId → Bool
live_of None p x = false
live_of (Some f) p x = live_at f p x

-- each module has a test
pub has-test : HasTest
has-test m =
    let live : Point → LocalId → Bool = λ p x. live_of (slice_get m.funcs p.func.0) p x in (
      live,
      record {
        tells = λ f p x e. subst (λ o. (live_of o p x ≡ true) ↔ IsLive f p x) (sym e) (live-exactly f p x);
        quiet = λ p x e. ap (λ o. live_of o p x) e;
      },
    )

-- two tests of one fact are equal
same-test : {P : Type 0} (a b : Bool) → (a ≡ true) ↔ P → (b ≡ true) ↔ P → a ≡ b
same-test true b h k = sym (k.1 (h.0 refl))
same-test false true h k = absurd (true≢false (sym (h.1 (k.0 refl))))
same-test false false h k = refl

module _ (m : Module) (a b : Point → LocalId → Bool) (is_a : IsLiveTest m a) (is_b : IsLiveTest m b) where
  -- two tests answer alike at each point, for each name
  same-at : (p : Point) (x : LocalId) → a p x ≡ b p x
  same-at p x = by (slice_get m.funcs p.func.0) refl
    where
      by : (o : Option Function) → slice_get m.funcs p.func.0 ≡ o → a p x ≡ b p x
      by None e = is_a.quiet p x e ∙ sym (is_b.quiet p x e)
      by (Some f) e = same-test (a p x) (b p x) (is_a.tells f p x e) (is_b.tells f p x e)

-- so they are one
pub told-once : IsToldOnce
told-once m a b is_a is_b = λ i p x. same-at m a b is_a is_b p x i

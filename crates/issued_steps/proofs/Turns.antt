-- Where a step leads: one configuration, in order.
use Rattle.std.proofs.Common.{◌≡◌, ℕ, zero, suc, Bool, true, false, Option, None, Some, [], ◌∷◌, slice_get, subst}
use Rattle.std.specs.Prelude.{if◌then◌else◌}
use Rattle.ir_values.specs.declared.ids.LocalId.{LocalId}
use Rattle.kept_items.specs.declared.item.Item.{Item}
use Rattle.static_steps.specs.declared.turn.Move.{Move}
use Rattle.static_steps.specs.declared.turn.Turn.{Turn}
use Rattle.static_steps.specs.declared.work.Work.{Work}
use Rattle.static_steps.specs.Settings.{Setting, gives_dynamic, goes, kept, kept_if, move_to, silent}
use Rattle.issued_steps.specs.Issues.{IsBetween, IsInOrder}

module _ (s : Setting) where
  abbrev pub Does : Turn → Type 0
  Does = IsInOrder s.m s.t s.w.phase

  abbrev pub Between : Option Item → Work → Type 0
  Between item u = IsBetween s.m s.t s.w.phase item u.phase

  only : (item : Option Item) (u : Work) → Between item u → (i : ℕ) (mv : Move) → slice_get (move_to s.live u ∷ []) i ≡ Some mv → IsBetween s.m s.t s.w.phase item mv.to.phase
  only item u h zero mv e = let z : move_to s.live u ≡ mv = cc in subst (λ (w : Move). IsBetween s.m s.t s.w.phase item w.to.phase) z h
  only item u h (suc i) mv e = cc

  pub goes-does : (u : Work) → u.phase ≡ s.w.phase → Does (goes s u)
  goes-does u h = only None u h

  pub kept-does : (i : Item) (u : Work) → Between (Some i) u → Does (kept s i u)
  kept-does i u h = only (Some i) u h

  pub either-does : (b : Bool) (x y : Turn) → Does x → Does y → Does (if b then x else y)
  either-does true x y h k = h
  either-does false x y h k = k

  pub kept-if-does : (x : Option LocalId) (b : Bool) (i : Item) → Does (gives_dynamic s x i) → Does (kept_if s x b i)
  kept-if-does x true i h = h
  kept-if-does x false i h = tt

  pub silent-does : (x : Option LocalId) (go : Turn) → Does go → Does (silent x go)
  silent-does None go h = h
  silent-does (Some y) go h = tt

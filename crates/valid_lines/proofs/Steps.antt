-- The item of a step is one that fits.
use Rattle.std.proofs.Common.{◌≡◌, ℕ, Option, None, Some, List, [], ◌∷◌, sym, ap, ◌∙◌, subst, arith}
use Rattle.std.proofs.lemmas.List.Elements.{All-head}
use Rattle.kept_items.specs.declared.item.Choice.{Choice}
use Rattle.kept_items.specs.declared.item.Choice.TheVariants.{One, Branch, Switch}
use Rattle.kept_items.specs.declared.item.Item.{Item}
use Rattle.kept_items.specs.declared.target.Target.{Target}
use Rattle.kept_items.specs.declared.val.Dyn.{Dyn}
use Rattle.ir_values.specs.declared.ty.Ty.{Ty}
use Rattle.static_steps.specs.declared.turn.Move.{Move}
use Rattle.static_steps.specs.declared.turn.Turn.{Turn}
use Rattle.static_steps.specs.declared.turn.Turn.TheVariants.{Goes, Exits, Bad, Lost}
use Rattle.static_steps.specs.Configurations.{Bounds, bounds}
use Rattle.fused_parts.specs.Nodes.{Node, item_of}
use Rattle.unroller.specs.declared.node.Outcome.{Outcome}
use Rattle.unroller.specs.Programs.{IsOutcome, Program, step_of}
use Rattle.valid_steps.specs.Items.{IsChoice, IsItem, IsSomeItem}
use Rattle.valid_steps.specs.Turns.{GoesOn, IsMove, IsTurn}
use Rattle.valid_steps.specs.Types.{dynamic_types}
use Rattle.valid_lines.specs.Laws.{IsStepOf}

-- the item fits under some bounds
pub record ItemFits (p : Program) (i : Item) : Type 0 where
  pub below : Bounds
  pub held : List ℕ
  pub types : List (Option Ty)
  pub fits : IsItem p.m p.target below types held i

pub no-choice : (t : Target) (ts : List (Option Ty)) (c : Choice) → IsChoice t ts 0 c → ⊥
no-choice t ts One h = omega (arith, h)
no-choice t ts (Branch d) h = let e = h.0 in omega (arith, e)
no-choice t ts (Switch d w cases) h = let e = h.0 in omega (arith, e)

module _ (p : Program) (ts : List (Option Ty)) (a q : ℕ) where
  of-moves : (moves : List Move) (o : Option Item) (c : Choice) (i : Item) → GoesOn p.m p.target p.live p.entry p.qubits p.results ts a q moves o c → o ≡ Some i → ItemFits p i
  of-moves [] o c i h e = absurd (no-choice p.target ts c h.choice_fits)
  of-moves (mv ∷ moves) o c i h e =
      let first = All-head (IsMove p.m p.target p.live p.entry p.qubits p.results ts a q o) mv moves h.moves_fit in record {
        below = bounds p.qubits p.results mv.to;
        held = mv.to.held;
        types = ts;
        fits = subst (IsSomeItem p.m p.target (bounds p.qubits p.results mv.to) ts mv.to.held) e first.item_fits;
      }

  of-turn : (go : Turn) (x : Outcome) (args : List (List Dyn)) (i : Item) → IsTurn p.m p.target p.live p.entry p.qubits p.results ts a q go → IsOutcome go x args → item_of x ≡ Some i → ItemFits p i
  of-turn (Goes moves o c) x args i h k e = of-moves moves o c i h (sym (ap item_of k.0) ∙ e)
  of-turn (Exits c) x args i h k e = absurd (none i (sym (ap item_of k.0) ∙ e))
    where
      none : (i : Item) → ◌≡◌ {A = Option Item} None (Some i) → ⊥
      none i e = cc
  of-turn (Bad why) x args i h k e = absurd k
  of-turn Lost x args i h k e = absurd k

pub item-fits : (p : Program) (x : Node) (i : Item) → IsStepOf p x → item_of x.item ≡ Some i → ItemFits p i
item-fits p x i h e = of-turn p (dynamic_types p.m x.node) x.node.allocated x.node.returned (step_of p x.node) x.item _ i h.turn h.outcome e

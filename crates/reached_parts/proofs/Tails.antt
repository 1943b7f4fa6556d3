-- Each link of a configuration is a jump of its tail.
use Rattle.std.proofs.Common.{◌≡◌, ℕ, zero, suc, Option, Some, List, [], ◌∷◌, length, map, slice_get, refl, sym, ap, subst, arith}
use Rattle.ir_values.specs.Int.{IntValue}
use Rattle.ir_values.specs.declared.ty.Ty.{Ty}
use Rattle.kept_items.specs.declared.item.Choice.{Choice}
use Rattle.kept_items.specs.declared.item.Choice.TheVariants as choice
use Rattle.kept_items.specs.declared.target.Target.{Target}
use Rattle.kept_items.specs.declared.val.Dyn.{Dyn}
use Rattle.path_search.specs.declared.visit.Link.{Link}
use Rattle.path_search.specs.Explored.{labels}
use Rattle.residue.specs.declared.parts.Jump.{Jump}
use Rattle.residue.specs.Scopes.{jumps}
use Rattle.static_steps.specs.declared.turn.Move.{Move}
use Rattle.static_steps.specs.declared.turn.Turn.{Turn}
use Rattle.static_steps.specs.declared.turn.Turn.TheVariants.{Goes, Exits, Bad, Lost}
use Rattle.fused_parts.specs.Nodes.{Links, Node}
use Rattle.fused_parts.specs.Parts.{case_jumps, choice_tail, jump_to, last_jump, outcome_tail}
use Rattle.unroller.specs.Programs.{IsOutcome, Program, step_of}
use Rattle.valid_steps.specs.Items.{IsChoice}
use Rattle.valid_steps.specs.Turns.{IsTurn}
use Rattle.valid_steps.specs.Types.{dynamic_types}
use Rattle.valid_lines.specs.Laws.{IsStepOf}
use Rattle.lowered_runs.proofs.Lookups.{length-map}
use Rattle.lowered_runs.proofs.Onward.{AsMany}

-- a jump of these leads to part n
pub record LeadsTo (js : List Jump) (n : ℕ) : Type 0 where
  pub place : ℕ
  pub jump : Jump
  pub stands : slice_get js place ≡ Some jump
  pub leads : jump.to ≡ n

module _ (part_of : ℕ → ℕ) (mine : List Dyn) where
  here : (l k : Link (List Dyn)) (links : Links) (place : ℕ) (js : List Jump) → slice_get (l ∷ links) zero ≡ Some k → slice_get js place ≡ Some (jump_to part_of mine l) → LeadsTo js (part_of k.to)
  here l k links place js e h = let z : l ≡ k = cc in record { place = place; jump = jump_to part_of mine l; stands = h; leads = ap (λ (x : Link (List Dyn)). part_of x.to) z }

  -- one place further
  past : (j : Jump) (js : List Jump) (n : ℕ) → LeadsTo js n → LeadsTo (j ∷ js) n
  past j js n h = record { place = suc h.place; jump = h.jump; stands = h.stands; leads = h.leads }

  abbrev case_list : List IntValue → Links → List Jump
  case_list is links = map (λ (c : IntValue × Jump). c.1) (case_jumps part_of mine is links)

  -- the jump of no case stands first, those of cases behind it
  swapped : (first j : Jump) (js : List Jump) (n : ℕ) → LeadsTo (first ∷ js) n → LeadsTo (first ∷ j ∷ js) n
  swapped first j js n h = by h.place h.stands
    where
      by : (i : ℕ) → slice_get (first ∷ js) i ≡ Some h.jump → LeadsTo (first ∷ j ∷ js) n
      by zero e = record { place = 0; jump = h.jump; stands = e; leads = h.leads }
      by (suc i) e = record { place = suc (suc i); jump = h.jump; stands = e; leads = h.leads }

  case-leads : (is : List IntValue) (links : Links) (q : ℕ) (k : Link (List Dyn)) → length links ≡ suc (length is) → slice_get links q ≡ Some k → LeadsTo (last_jump part_of mine links ∷ case_list is links) (part_of k.to)
  case-leads is [] q k e h = cc
  case-leads [] (l ∷ []) zero k e h = here l k [] 0 (jump_to part_of mine l ∷ []) h refl
  case-leads [] (l ∷ []) (suc q) k e h = cc
  case-leads (i ∷ is) (l ∷ []) q k e h = absurd (omega (arith, e))
  case-leads [] (l ∷ j ∷ links) q k e h = absurd (omega (arith, e))
  case-leads (i ∷ is) (l ∷ j ∷ links) zero k e h = here l k (j ∷ links) 1 (last_jump part_of mine (j ∷ links) ∷ case_list (i ∷ is) (l ∷ j ∷ links)) h refl
  case-leads (i ∷ is) (l ∷ j ∷ links) (suc q) k e h =
      swapped (last_jump part_of mine (j ∷ links)) (jump_to part_of mine l) (case_list is (j ∷ links)) (part_of k.to) (case-leads is (j ∷ links) q k (omega (arith, e)) h)

  choice-leads : (c : Choice) (links : Links) (q : ℕ) (k : Link (List Dyn)) → AsMany c (length links) → slice_get links q ≡ Some k → LeadsTo (jumps (choice_tail part_of mine c links)) (part_of k.to)
  choice-leads c [] q k e h = cc
  choice-leads choice.One (l ∷ []) zero k e h = here l k [] 0 (jump_to part_of mine l ∷ []) h refl
  choice-leads choice.One (l ∷ []) (suc q) k e h = cc
  choice-leads choice.One (l ∷ j ∷ links) q k e h = absurd (omega (arith, e))
  choice-leads (choice.Branch d) (l ∷ []) q k e h = absurd (omega (arith, e))
  choice-leads (choice.Branch d) (l ∷ j ∷ []) zero k e h = here l k (j ∷ []) 0 (jump_to part_of mine l ∷ jump_to part_of mine j ∷ []) h refl
  choice-leads (choice.Branch d) (l ∷ j ∷ []) (suc zero) k e h = here j k [] 1 (jump_to part_of mine l ∷ jump_to part_of mine j ∷ []) h refl
  choice-leads (choice.Branch d) (l ∷ j ∷ []) (suc (suc q)) k e h = cc
  choice-leads (choice.Branch d) (l ∷ j ∷ i ∷ links) q k e h = absurd (omega (arith, e))
  choice-leads (choice.Switch d w is) (l ∷ links) q k e h = case-leads is (l ∷ links) q k e h

-- ---- of a node

module _ (p : Program) (x : Node) (step : IsStepOf p x) where
  many : (t : Target) (ts : List (Option Ty)) (n : ℕ) (c : Choice) → IsChoice t ts n c → AsMany c n
  many t ts n choice.One h = h
  many t ts n (choice.Branch d) h = h.0
  many t ts n (choice.Switch d w is) h = h.0

  abbrev Is : Turn → Type 0
  Is go = IsTurn p.m p.target p.live p.entry p.qubits p.results (dynamic_types p.m x.node) x.node.allocated x.node.returned go

  pub link-leads : (part_of : ℕ → ℕ) (shared : Option ℕ) (mine : List Dyn) (q : ℕ) (k : Link (List Dyn)) → slice_get x.links q ≡ Some k → LeadsTo (jumps (outcome_tail part_of shared mine x.item x.links)) (part_of k.to)
  link-leads part_of shared mine q k h = by (step_of p x.node) step.turn step.outcome
    where
      none : (links : Links) → labels links ≡ [] → slice_get links q ≡ Some k → ⊥
      none [] e h = cc
      none (l ∷ links) e h = cc

      by : (go : Turn) → Is go → IsOutcome go x.item (labels x.links) → LeadsTo (jumps (outcome_tail part_of shared mine x.item x.links)) (part_of k.to)
      by (Goes moves i c) turn e =
          let a = length-map (λ (l : Link (List Dyn)). l.label) x.links in
          let b = length-map (λ (mv : Move). mv.args) moves in
          let z : length moves ≡ length x.links = let d = ap length e.1 in omega (arith, a, b, d) in
          subst (λ o. LeadsTo (jumps (outcome_tail part_of shared mine o x.links)) (part_of k.to)) (sym e.0)
          (choice-leads part_of mine c x.links q k (subst (AsMany c) z (many p.target (dynamic_types p.m x.node) (length moves) c turn.choice_fits)) h)
      by (Exits c) turn e = absurd (none x.links e.1 h)
      by (Bad why) turn e = absurd e
      by Lost turn e = absurd e

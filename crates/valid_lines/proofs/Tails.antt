-- Tails that the target permits.
use Rattle.std.proofs.Common.{◌≡◌, ◌⊎◌, ⊎_elim, ℕ, suc, Bool, true, false, Option, None, Some, List, [], ◌∷◌, length, slice_get, refl, sym, ap, ◌∙◌, subst}
use Rattle.std.proofs.lemmas.Bool.{and_from}
use Rattle.std.specs.List.{list_all}
use Rattle.std.specs.Prelude.{◌&&◌, ◌||◌, ◌==◌, ℤ, pos}
use Rattle.ir_module.specs.declared.tree.Module.{Module}
use Rattle.ir_values.specs.declared.int.Width.{Width}
use Rattle.ir_values.specs.declared.int.Width.TheVariants.{W64}
use Rattle.ir_values.specs.declared.ty.Ty.{Ty}
use Rattle.ir_values.specs.Arithmetic.{modulo}
use Rattle.ir_values.specs.Values.{is_bit}
use Rattle.kept_items.specs.declared.item.Choice.{Choice}
use Rattle.kept_items.specs.declared.item.Choice.TheVariants.{One, Branch, Switch}
use Rattle.kept_items.specs.declared.item.Code.{Code}
use Rattle.kept_items.specs.declared.item.Code.TheVariants as code
use Rattle.kept_items.specs.declared.target.Caps.{Caps}
use Rattle.kept_items.specs.declared.target.Target.{Target}
use Rattle.kept_items.specs.declared.target.Target.TheVariants.{Adaptive}
use Rattle.kept_items.specs.declared.val.Dyn.{Dyn}
use Rattle.residue.specs.declared.parts.Line.{Line}
use Rattle.residue.specs.declared.parts.Part.{Part}
use Rattle.residue.specs.declared.parts.Tail.{Tail}
use Rattle.residue.specs.Valid.{caps_permit_tail}
use Rattle.static_steps.specs.declared.turn.Turn.{Turn}
use Rattle.static_steps.specs.declared.turn.Turn.TheVariants.{Goes, Exits, Bad, Lost}
use Rattle.fused_parts.specs.declared.numbers.Numbers.{Numbers}
use Rattle.fused_parts.specs.Nodes.{Links, Node, widths_of}
use Rattle.fused_parts.specs.Parts.{Rest, choice_tail, exit_tail, joined, lines_of, next_numbers, no_numbers, nowhere, outcome_tail, parts_of, rest_from, shared_part, tail_of, whole, with_widths}
use Rattle.unroller.specs.declared.node.Outcome.{Outcome}
use Rattle.unroller.specs.declared.node.Outcome.TheVariants as outcome
use Rattle.unroller.specs.Programs.{IsOutcome, Program, step_of}
use Rattle.valid_steps.specs.Items.{IsChoice, IsCode}
use Rattle.valid_steps.specs.Turns.{IsTurn}
use Rattle.valid_steps.specs.Types.{dynamic_types}
use Rattle.valid_lines.specs.Laws.{IsStepOf}
use Rattle.valid_lines.proofs.Items.{or-true, true-or}
use Rattle.valid_lines.proofs.Parts.{both-pass}

-- ---- a test that the tails of all nodes pass

module _ (test : Tail → Bool) (stops : test nowhere ≡ true) where
  abbrev TailsPass : List Part → Type 0
  TailsPass ps = list_all (λ (p : Part). test p.tail) ps ≡ true

  record RestTails (r : Rest) : Type 0 where
    own : test r.tail ≡ true
    parts : TailsPass r.parts

  joined-tails : (b : Bool) (ls : List Line) (t : Tail) (params : List (Dyn × Width)) (r : Rest) → test t ≡ true → RestTails r → RestTails (joined b ls t params r)
  joined-tails true ls t params r h k = record { own = k.own; parts = k.parts }
  joined-tails false ls t params r h k = record { own = h; parts = and_from (test r.tail) (list_all (λ (p : Part). test p.tail) r.parts) k.own k.parts }

  module _ (m : Module) (nodes : List Node) (part_of : ℕ → ℕ) (shared : Option ℕ) where
    abbrev pub TailPasses : Node → Type 0
    TailPasses x = (n : Numbers) → test (tail_of part_of shared x n) ≡ true

    rest-tails : (xs : List Node) (bs : List Bool) (n : Numbers) → ((i : ℕ) (x : Node) → slice_get xs i ≡ Some x → TailPasses x) → RestTails (rest_from m nodes part_of shared xs bs n)
    rest-tails [] bs n h = record { own = stops; parts = refl }
    rest-tails (x ∷ []) bs n h = record { own = h 0 x refl n; parts = refl }
    rest-tails (x ∷ y ∷ xs) [] n h = record { own = h 0 x refl n; parts = refl }
    rest-tails (x ∷ y ∷ xs) (b ∷ bs) n h =
        let n' : Numbers = next_numbers x b y n in
        joined-tails b (lines_of nodes x n) (tail_of part_of shared x n) (with_widths n'.mine (widths_of m y.node)) (rest_from m nodes part_of shared (y ∷ xs) bs n') (h 0 x refl n)
        (rest-tails (y ∷ xs) bs n' (λ i z e. h (suc i) z e))

    shared-tails : (o : Option ℕ) → TailsPass (shared_part o)
    shared-tails None = refl
    shared-tails (Some n) = and_from (test nowhere) true stops refl

    pub tails-pass : (bs : List Bool) → ((i : ℕ) (x : Node) → slice_get nodes i ≡ Some x → TailPasses x) → list_all (λ (p : Part). test p.tail) (parts_of m part_of shared nodes bs) ≡ true
    tails-pass bs h =
        let q = rest-tails nodes bs no_numbers h in
        let r : Rest = rest_from m nodes part_of shared nodes bs no_numbers in
        both-pass (λ (p : Part). test p.tail) (whole r) (shared_part shared)
        (and_from (test r.tail) (list_all (λ (p : Part). test p.tail) r.parts) q.own q.parts) (shared-tails shared)

-- ---- what the steps say of a tail

abbrev OutcomeFits : Target → List (Option Ty) → Outcome → Type 0
OutcomeFits t ts (outcome.Goes i c) = (n : ℕ) × IsChoice t ts n c
OutcomeFits t ts (outcome.Exits c) = IsCode t ts c

module _ (p : Program) (ts : List (Option Ty)) (a q : ℕ) where
  of-turn : (go : Turn) (x : Outcome) (args : List (List Dyn)) → IsTurn p.m p.target p.live p.entry p.qubits p.results ts a q go → IsOutcome go x args → OutcomeFits p.target ts x
  of-turn (Goes moves o c) x args h k = subst (OutcomeFits p.target ts) (sym k.0) (length moves, h.choice_fits)
  of-turn (Exits c) x args h k = subst (OutcomeFits p.target ts) (sym k.0) h
  of-turn (Bad why) x args h k = absurd k
  of-turn Lost x args h k = absurd k

both-ways : (s a b : Bool) → (s && (a || b)) ≡ true → (s && (b || a)) ≡ true
both-ways true true true e = refl
both-ways true true false e = refl
both-ways true false true e = refl
both-ways true false false e = cc
both-ways false a b e = cc

module _ (caps : Caps) (ts : List (Option Ty)) (part_of : ℕ → ℕ) (shared : Option ℕ) (mine : List Dyn) where
  stops-here : caps_permit_tail caps nowhere ≡ true
  stops-here = true-or caps.returns true refl

  choice-permitted : (c : Choice) (links : Links) (n : ℕ) → IsChoice (Adaptive caps) ts n c → caps_permit_tail caps (choice_tail part_of mine c links) ≡ true
  choice-permitted One [] n h = stops-here
  choice-permitted One (l ∷ links) n h = refl
  choice-permitted (Branch d) [] n h = stops-here
  choice-permitted (Branch d) (l ∷ []) n h = stops-here
  choice-permitted (Branch d) (l ∷ k ∷ links) n h = refl
  choice-permitted (Switch d w is) links n h = both-ways caps.switch (is_bit w) caps.ints h.3

  known-code : (z : ℤ) → (caps.returns ≡ true) ⊎ (z ≡ pos 0) → (caps.returns || ((modulo W64 z).bits == 0)) ≡ true
  known-code z h = ⊎_elim (λ e. or-true caps.returns ((modulo W64 z).bits == 0) e) (λ e. ap (λ y. caps.returns || ((modulo W64 y).bits == 0)) e ∙ true-or caps.returns true refl) h

  exit-permitted : (o : Option ℕ) (c : Code) → IsCode (Adaptive caps) ts c → caps_permit_tail caps (exit_tail o mine c) ≡ true
  exit-permitted (Some n) c h = refl
  exit-permitted None (code.Known z) h = known-code z h
  exit-permitted None (code.Dynamic d) h = or-true caps.returns false h.0

  outcome-permitted : (x : Outcome) (links : Links) → OutcomeFits (Adaptive caps) ts x → caps_permit_tail caps (outcome_tail part_of shared mine x links) ≡ true
  outcome-permitted (outcome.Goes i c) links h = choice-permitted c links h.0 h.1
  outcome-permitted (outcome.Exits c) links h = exit-permitted shared c h

pub tails-permitted : (p : Program) (caps : Caps) (nodes : List Node) (flags : List Bool) (part_of : ℕ → ℕ) (shared : Option ℕ) → p.target ≡ Adaptive caps
    → ((i : ℕ) (x : Node) → slice_get nodes i ≡ Some x → IsStepOf p x)
    → list_all (λ (y : Part). caps_permit_tail caps y.tail) (parts_of p.m part_of shared nodes flags) ≡ true
tails-permitted p caps nodes flags part_of shared e steps =
    tails-pass (caps_permit_tail caps) (true-or caps.returns true refl) p.m nodes part_of shared flags (λ i x at n.
    let h = steps i x at in
    outcome-permitted caps (dynamic_types p.m x.node) part_of shared _ x.item x.links
    (subst (λ t. OutcomeFits t (dynamic_types p.m x.node) x.item) e (of-turn p (dynamic_types p.m x.node) x.node.allocated x.node.returned (step_of p x.node) x.item _ h.turn h.outcome)))

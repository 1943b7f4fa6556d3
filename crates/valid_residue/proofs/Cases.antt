-- The cases of switches are distinct.
use Rattle.std.proofs.Common.{◌≡◌, ℕ, Bool, true, false, Option, None, Some, List, [], ◌∷◌, length, slice_get, refl, ap}
use Rattle.std.proofs.lemmas.Bool.{and_from, and_parts, or_from, or_parts}
use Rattle.std.specs.List.{list_all, list_any}
use Rattle.std.specs.Prelude.{not}
use Rattle.ir_values.specs.declared.ty.Ty.{Ty}
use Rattle.ir_values.specs.Int.{IntValue}
use Rattle.ir_values.specs.Values.{same_int}
use Rattle.kept_items.specs.declared.item.Choice.{Choice}
use Rattle.kept_items.specs.declared.item.Choice.TheVariants.{One, Branch, Switch}
use Rattle.kept_items.specs.declared.item.Code.{Code}
use Rattle.kept_items.specs.declared.target.Target.{Target}
use Rattle.kept_items.specs.declared.val.Dyn.{Dyn}
use Rattle.residue.specs.declared.parts.Jump.{Jump}
use Rattle.residue.specs.declared.parts.Part.{Part}
use Rattle.residue.specs.Valid.{all_differ, cases_differ}
use Rattle.fused_parts.specs.declared.numbers.Numbers.{Numbers}
use Rattle.fused_parts.specs.Nodes.{Links, Node}
use Rattle.fused_parts.specs.Parts.{after, case_jumps, choice_tail, exit_tail, outcome_tail, parts_of}
use Rattle.unroller.specs.declared.node.Outcome.{Outcome}
use Rattle.unroller.specs.declared.node.Outcome.TheVariants as outcome
use Rattle.unroller.specs.Programs.{Program}
use Rattle.valid_steps.specs.Items as steps
use Rattle.valid_steps.specs.Types.{dynamic_types}
use Rattle.valid_lines.proofs.Tails.{tails-pass}
use Rattle.valid_residue.proofs.Lists.{not-true}
use Rattle.valid_residue.proofs.Nodes.{IsKnown, goes-from}

module _ (part_of : ℕ → ℕ) (mine : List Dyn) where
  -- jumps stand for a part of the cases
  none-equal : (i : IntValue) (is : List IntValue) (links : Links) → list_any (λ j. same_int j i) is ≡ false → list_any (λ (c : IntValue × Jump). same_int c.0 i) (case_jumps part_of mine is links) ≡ false
  none-equal i [] links e = refl
  none-equal i (j ∷ is) [] e = refl
  none-equal i (j ∷ is) (l ∷ links) e =
      let p = or_parts (same_int j i) (list_any (λ j. same_int j i) is) e in
      or_from (same_int j i) (list_any (λ (c : IntValue × Jump). same_int c.0 i) (case_jumps part_of mine is links)) p.0 (none-equal i is links p.1)

  jumps-differ : (is : List IntValue) (links : Links) → steps.all_differ is ≡ true → all_differ (λ (c : IntValue × Jump) (d : IntValue × Jump). same_int c.0 d.0) (case_jumps part_of mine is links) ≡ true
  jumps-differ [] links e = refl
  jumps-differ (i ∷ is) [] e = refl
  jumps-differ (i ∷ is) (l ∷ links) e =
      let p = and_parts (not (list_any (λ j. same_int j i) is)) (steps.all_differ is) e in
      and_from (not (list_any (λ (c : IntValue × Jump). same_int c.0 i) (case_jumps part_of mine is links)))
      (all_differ (λ (c : IntValue × Jump) (d : IntValue × Jump). same_int c.0 d.0) (case_jumps part_of mine is links))
      (ap not (none-equal i is links (not-true (list_any (λ j. same_int j i) is) p.0))) (jumps-differ is links p.1)

  choice-differs : (t : Target) (ts : List (Option Ty)) (n : ℕ) (c : Choice) (links : Links) → steps.IsChoice t ts n c → cases_differ (choice_tail part_of mine c links) ≡ true
  choice-differs t ts n One [] h = refl
  choice-differs t ts n One (l ∷ links) h = refl
  choice-differs t ts n (Branch d) [] h = refl
  choice-differs t ts n (Branch d) (l ∷ []) h = refl
  choice-differs t ts n (Branch d) (l ∷ k ∷ links) h = refl
  choice-differs t ts n (Switch d w is) links h = jumps-differ is links h.4

  exit-differs : (shared : Option ℕ) (c : Code) → cases_differ (exit_tail shared mine c) ≡ true
  exit-differs None c = refl
  exit-differs (Some n) c = refl

module _ (p : Program) (nodes : List Node) (part_of : ℕ → ℕ) (shared : Option ℕ) where
  by-outcome : (x : Node) (n : Numbers) (o : Outcome) → x.item ≡ o → IsKnown p nodes x → cases_differ (outcome_tail part_of shared (after x n).mine o x.links) ≡ true
  by-outcome x n (outcome.Goes i c) e h =
      let g = goes-from p nodes x i c h e in choice-differs part_of (after x n).mine p.target (dynamic_types p.m x.node) (length g.moves) c x.links g.turn.choice_fits
  by-outcome x n (outcome.Exits c) e h = exit-differs part_of (after x n).mine shared c

  pub cases-differ : (flags : List Bool) → ((i : ℕ) (x : Node) → slice_get nodes i ≡ Some x → IsKnown p nodes x) → list_all (λ (q : Part). cases_differ q.tail) (parts_of p.m part_of shared nodes flags) ≡ true
  cases-differ flags known = tails-pass cases_differ refl p.m nodes part_of shared flags (λ i x at n. by-outcome x n x.item refl (known i x at))

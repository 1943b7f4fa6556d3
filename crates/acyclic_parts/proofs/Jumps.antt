-- Each jump of a tail follows a link of its configuration, or leads to the part that exits share.
use Rattle.std.proofs.Common.{◌≡◌, ◌⊎◌, inl, inr, ⊎_elim, ℕ, suc, ◌<◌, Option, None, Some, List, [], ◌∷◌, length, map, refl, ap, ◌∙◌, arith, Contains}
use Rattle.std.specs.Prelude.{⊤, slice_get}
use Rattle.graph_cycles.proofs.Lists.{cases, none}
use Rattle.ir_values.specs.Int.{IntValue}
use Rattle.kept_items.specs.declared.item.Choice.{Choice}
use Rattle.kept_items.specs.declared.item.Choice.TheVariants as choice
use Rattle.kept_items.specs.declared.item.Code.{Code}
use Rattle.kept_items.specs.declared.val.Dyn.{Dyn}
use Rattle.path_search.specs.declared.visit.Link.{Link}
use Rattle.residue.specs.declared.parts.Jump.{Jump}
use Rattle.residue.specs.Scopes.{jumps}
use Rattle.unroller.specs.declared.node.Outcome.{Outcome}
use Rattle.unroller.specs.declared.node.Outcome.TheVariants as outcome
use Rattle.fused_parts.specs.Nodes.{Links}
use Rattle.fused_parts.specs.Parts.{case_jumps, choice_tail, exit_tail, last_jump, outcome_tail}

-- where jumps lead
abbrev pub numbers_to : List Jump → List ℕ
numbers_to js = map (λ j. j.to) js

-- a switch has a link
abbrev pub HasLink : Choice → ℕ → Type 0
HasLink choice.One n = ⊤
HasLink (choice.Branch d) n = ⊤
HasLink (choice.Switch d w is) n = 0 < n

abbrev pub GoesByLink : Outcome → ℕ → Type 0
GoesByLink (outcome.Goes i c) n = HasLink c n
GoesByLink (outcome.Exits c) n = ⊤

only : (x w : ℕ) → Contains (x ∷ []) w → x ≡ w
only x w h = ⊎_elim (λ e. e) (λ k. absurd (none w k)) (cases x w [] h)

module _ (part_of : ℕ → ℕ) where
  -- a link leads to this part
  pub record Follows (links : Links) (to : ℕ) : Type 0 where
    pub place : ℕ
    pub link : Link (List Dyn)
    pub is : slice_get links place ≡ Some link
    pub there : part_of link.to ≡ to

  later : (l : Link (List Dyn)) (links : Links) (w : ℕ) → Follows links w → Follows (l ∷ links) w
  later l links w f = record { place = suc f.place; link = f.link; is = f.is; there = f.there }

  first : (l : Link (List Dyn)) (links : Links) (w : ℕ) → part_of l.to ≡ w → Follows (l ∷ links) w
  first l links w e = record { place = 0; link = l; is = refl; there = e }

  module _ (mine : List Dyn) where
    last-follows : (links : Links) → 0 < length links → Follows links (last_jump part_of mine links).to
    last-follows [] lt = absurd (omega (arith, lt))
    last-follows (l ∷ []) lt = first l [] (part_of l.to) refl
    last-follows (l ∷ k ∷ links) lt = later l (k ∷ links) (last_jump part_of mine (k ∷ links)).to (last-follows (k ∷ links) (omega arith))

    cases-follow : (is : List IntValue) (links : Links) (w : ℕ) → Contains (numbers_to (map (λ c. c.1) (case_jumps part_of mine is links))) w → Follows links w
    cases-follow [] [] w h = absurd (none w h)
    cases-follow [] (l ∷ links) w h = absurd (none w h)
    cases-follow (i ∷ is) [] w h = absurd (none w h)
    cases-follow (i ∷ is) (l ∷ links) w h =
        ⊎_elim (λ e. first l links w e) (λ k. later l links w (cases-follow is links w k))
        (cases (part_of l.to) w (numbers_to (map (λ c. c.1) (case_jumps part_of mine is links))) h)

    switch-follows : (d : Dyn) (is : List IntValue) (links : Links) (w : ℕ) → 0 < length links → Contains ((last_jump part_of mine links).to ∷ numbers_to (map (λ c. c.1) (case_jumps part_of mine is links))) w → Follows links w
    switch-follows d is links w lt h =
        ⊎_elim (λ e. moved e (last-follows links lt)) (λ k. cases-follow is links w k)
        (cases (last_jump part_of mine links).to w (numbers_to (map (λ c. c.1) (case_jumps part_of mine is links))) h)
      where
        moved : (last_jump part_of mine links).to ≡ w → Follows links (last_jump part_of mine links).to → Follows links w
        moved e f = record { place = f.place; link = f.link; is = f.is; there = f.there ∙ e }

    choice-follows : (c : Choice) (links : Links) (w : ℕ) → HasLink c (length links) → Contains (numbers_to (jumps (choice_tail part_of mine c links))) w → Follows links w
    choice-follows choice.One [] w b h = absurd (none w h)
    choice-follows choice.One (l ∷ links) w b h = first l links w (only (part_of l.to) w h)
    choice-follows (choice.Branch d) [] w b h = absurd (none w h)
    choice-follows (choice.Branch d) (l ∷ []) w b h = absurd (none w h)
    choice-follows (choice.Branch d) (l ∷ k ∷ links) w b h =
        ⊎_elim (λ e. first l (k ∷ links) w e) (λ g. later l (k ∷ links) w (first k links w (only (part_of k.to) w g))) (cases (part_of l.to) w (part_of k.to ∷ []) h)
    choice-follows (choice.Switch d width is) links w b h = switch-follows d is links w b h

    exit-leads : (shared : Option ℕ) (c : Code) (w : ℕ) → Contains (numbers_to (jumps (exit_tail shared mine c))) w → shared ≡ Some w
    exit-leads None c w h = absurd (none w h)
    exit-leads (Some n) c w h = ap Some (only n w h)

    pub tail-follows : (shared : Option ℕ) (o : Outcome) (links : Links) (w : ℕ) → GoesByLink o (length links) → Contains (numbers_to (jumps (outcome_tail part_of shared mine o links))) w → Follows links w ⊎ (shared ≡ Some w)
    tail-follows shared (outcome.Goes i c) links w b h = inl (choice-follows c links w b h)
    tail-follows shared (outcome.Exits c) links w b h = inr (exit-leads shared c w h)

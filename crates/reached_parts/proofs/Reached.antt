-- A jump leads to each part with parameters.
use Rattle.std.proofs.Common.{◌≡◌, ℕ, zero, suc, ◌≤◌, Bool, true, false, Option, Some, List, [], ◌∷◌, length, slice_get, refl, sym, ap, ◌∙◌, arith}
use Rattle.kept_items.specs.declared.val.Dyn.{Dyn}
use Rattle.path_search.specs.declared.visit.Link.{Link}
use Rattle.path_search.specs.Explored.{Explored}
use Rattle.path_search.specs.Paths.{onward}
use Rattle.residue.specs.declared.parts.Part.{Part}
use Rattle.residue.specs.Scopes.{jumps}
use Rattle.static_steps.specs.declared.config.Config.{Config}
use Rattle.static_steps.specs.declared.turn.Turn.{Turn}
use Rattle.static_steps.specs.declared.turn.Turn.TheVariants.{Goes, Exits, Bad, Lost}
use Rattle.static_steps.specs.Steps.{start_of}
use Rattle.fused_parts.specs.Nodes.{Node, joins}
use Rattle.fused_parts.specs.Parts.{Spot, after, first_spot, next_spot, parts_of, spots_from}
use Rattle.fused_parts.specs.Ranks.{goes_on, part_number}
use Rattle.fused_parts.proofs.Fusing.{NoneToFirst, flags-fuse}
use Rattle.fused_parts.proofs.Standing.{all-stand}
use Rattle.lowered_runs.proofs.First.{first-visited}
use Rattle.lowered_runs.proofs.Joined.{all-at, length-joins}
use Rattle.lowered_runs.proofs.Lookups.{get-map, is-there, same-some}
use Rattle.unroller.specs.Programs.{Carries, Program, search_of, step_of, turn_of}
use Rattle.valid_steps.specs.Turns.{IsMove, IsTurn}
use Rattle.valid_steps.specs.Types.{dynamic_types}
use Rattle.valid_lines.specs.Laws.{IsStepOf}
use Rattle.printable_residue.specs.Pieces.{PartsAreReached}
use Rattle.reached_parts.proofs.Begun.{IsBegun, begun}
use Rattle.reached_parts.proofs.Led.{IsLedTo, led}
use Rattle.reached_parts.proofs.Tails.{link-leads}

clash : true ≡ false → ⊥
clash e = cc

-- each configuration has a spot
has-spot : (nodes xs : List Node) (flags : List Bool) (s : Spot) (i : ℕ) (x : Node) → length xs ≤ suc (length flags) → slice_get xs i ≡ Some x → (t : Spot) × (slice_get (spots_from nodes xs flags s) i ≡ Some t)
has-spot nodes [] flags s i x le e = cc
has-spot nodes (y ∷ []) flags s zero x le e = (s, refl)
has-spot nodes (y ∷ []) flags s (suc i) x le e = cc
has-spot nodes (y ∷ z ∷ xs) [] s i x le e = absurd (omega (arith, le))
has-spot nodes (y ∷ z ∷ xs) (b ∷ flags) s zero x le e = (s, refl)
has-spot nodes (y ∷ z ∷ xs) (b ∷ flags) s (suc i) x le e = has-spot nodes (z ∷ xs) flags (next_spot nodes y b z s) i x (omega (arith, le)) e

module _ (p : Program) (budget : ℕ) (nodes : List Node) (shared : Option ℕ) (explored : Explored (search_of p budget) (Carries p) nodes) (steps : (i : ℕ) (x : Node) → slice_get nodes i ≡ Some x → IsStepOf p x) where
  -- no edge leads to the start
  none-to-first : NoneToFirst nodes
  none-to-first i x q k is link zero-to =
      let first = first-visited (search_of p budget) (Carries p) nodes explored in
      let t = (explored.links i x is).to q k link in
      let w-is : t.0 ≡ first.0 = same-some t.0 first.0 (sym t.1 ∙ ap (slice_get nodes) zero-to ∙ first.1) in
      by-turn (step_of p x.node) (steps i x is).turn t.0.node t.2 (ap (λ (z : Node). z.node) w-is ∙ first.2)
    where
      by-turn : (turn : Turn) → IsTurn p.m p.target p.live p.entry p.qubits p.results (dynamic_types p.m x.node) x.node.allocated x.node.returned turn
          → (g : Config) → slice_get (onward (turn_of turn)) q ≡ Some g → g ≡ start_of p.entry → ⊥
      by-turn (Goes moves what c) fit g at e =
          let mv = get-map (λ z. z.to) moves q g at in
          (all-at (IsMove p.m p.target p.live p.entry p.qubits p.results (dynamic_types p.m x.node) x.node.allocated x.node.returned what) moves q mv.0 fit.moves_fit mv.1).no_start (mv.2 ∙ e)
      by-turn (Exits c) fit g at e = cc
      by-turn (Bad why) fit g at e = cc
      by-turn Lost fit g at e = absurd fit

  abbrev flags : List Bool
  flags = joins nodes

  abbrev numbers : ℕ → ℕ
  numbers = part_number flags

  abbrev parts : List Part
  parts = parts_of p.m numbers shared nodes flags

  -- a configuration whose edge leads to one that begins a part ends its own
  ends-part : (n : ℕ) (b : IsBegun nodes flags n) (l : IsLedTo (search_of p budget) (Carries p) nodes explored (suc b.at)) → goes_on nodes flags l.from ≡ false
  ends-part n b l = by (goes_on nodes flags l.from) refl
    where
      by : (o : Bool) → goes_on nodes flags l.from ≡ o → o ≡ false
      by false e = refl
      by true e =
          let a = (flags-fuse nodes none-to-first).onward l.from l.source l.is e in
          let to : l.link.to ≡ suc l.from = only (record { to = suc l.from; label = a.0 }) l.place (sym (ap (λ ls. slice_get ls l.place) a.1) ∙ l.stands) in
          let there = l.leads in
          let z : l.from ≡ b.at = omega (arith, to, there) in
          absurd (clash (sym e ∙ ap (goes_on nodes flags) z ∙ b.ends))
        where
          only : (k : Link (List Dyn)) (q : ℕ) → slice_get (k ∷ []) q ≡ Some l.link → l.link.to ≡ k.to
          only k zero h = let z = same-some k l.link h in ap (λ (x : Link (List Dyn)). x.to) (sym z)
          only k (suc q) h = cc

  pub parts-are-reached : PartsAreReached parts
  parts-are-reached n q e lt =
      let b = begun p.m nodes numbers shared flags n q e lt in
      let k = is-there nodes (suc b.at) b.inside in
      let l = led (search_of p budget) (Carries p) nodes explored b.at k.0 k.1 in
      let many = length-joins nodes 0 nodes in
      let s = has-spot nodes nodes flags first_spot l.from l.source (omega (arith, many)) l.is in
      let at = all-stand p.m nodes numbers shared flags l.from l.source s.0 l.is s.1 in
      let tail = (at.ends (ends-part n b l)).1 in
      let j = link-leads p l.source (steps l.from l.source l.is) numbers shared (after l.source s.0.numbers).mine l.place l.link l.stands in
      record {
        from = s.0.part;
        part = at.part;
        is = at.is;
        place = j.place;
        jump = j.jump;
        stands = ap (λ t. slice_get (jumps t) j.place) tail ∙ j.stands;
        leads = j.leads ∙ ap numbers l.leads ∙ b.number;
      }

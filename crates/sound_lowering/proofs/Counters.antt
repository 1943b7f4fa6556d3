-- The printed module's required numbers are within its limit: no configuration has more allocations or returned results than there are
-- configurations.
use Rattle.std.proofs.Common.{◌≡◌, ◌∙◌, ℕ, zero, suc, ◌+◌, ◌<◌, ◌≤◌, Bool, true, false, Option, None, Some, List, [], ◌∷◌, length, map, refl, sym, ap, subst, arith}
use Rattle.std.specs.Prelude.{◌&&◌, if◌then◌else◌, nat_le, option_and_then, slice_get, unwrap_or}
use Rattle.std.proofs.lemmas.Option.{none-some, same_Some}
use Rattle.ir_module.specs.declared.tree.Attr.{Attr}
use Rattle.ir_module.specs.declared.tree.Module.{Module}
use Rattle.ir_module.specs.Entry.{Entry, attribute_of, entry_of}
use Rattle.path_search.specs.Explored.{Explored, node}
use Rattle.path_search.specs.Paths.{onward}
use Rattle.path_search.proofs.Frontier.{get_within}
use Rattle.search_verdicts.proofs.Parents.{parent-of}
use Rattle.search_verdicts.proofs.Returning.{get-map, map-get}
use Rattle.static_steps.specs.declared.config.Config.{Config}
use Rattle.static_steps.specs.declared.turn.Move.{Move}
use Rattle.static_steps.specs.declared.turn.Turn.{Turn}
use Rattle.static_steps.specs.declared.turn.Turn.TheVariants.{Goes, Exits, Bad, Lost}
use Rattle.static_steps.specs.Steps.{start_of}
use Rattle.std.specs.Str.Parse.{digits_value}
use Rattle.type_check.specs.Required.{is_plain, plain_number, required_qubits, required_results, stated, stated_by}
use Rattle.fused_parts.specs.Nodes.{Node}
use Rattle.lowered_program.specs.Residues.{greatest}
use Rattle.lowered_runs.proofs.First.{first-visited}
use Rattle.lowered_sizes.proofs.Sizes.{greater-below}
use Rattle.unroller.specs.Programs.{Carries, IsReached, LeadOn, Program, search_of, step_of, turn_of}

-- the greatest of a number is no greater than each of it
pub greatest-below : (count : Config → ℕ) (xs : List Node) (n : ℕ) → ((i : ℕ) (x : Node) → slice_get xs i ≡ Some x → count x.node ≤ n) → greatest count xs ≤ n
greatest-below count [] n all = omega arith
greatest-below count (x ∷ xs) n all =
    greater-below (count x.node) (greatest count xs) n (all 0 x refl) (greatest-below count xs n (λ i y e. all (suc i) y e))

module _ (p : Program) (leads : (g : Config) → IsReached p g → LeadOn p g (step_of p g)) (budget : ℕ) (nodes : List Node)
    (explored : Explored (search_of p budget) (Carries p) nodes) where
  -- what a move adds
  record Adds (g h : Config) : Type 0 where
    allocated : h.allocated ≤ g.allocated + 1
    returned : h.returned ≤ g.returned + 1

  adds : (g : Config) (t : Turn) → LeadOn p g t → (j : ℕ) (h : Config) → slice_get (onward (turn_of t)) j ≡ Some h → Adds g h
  adds g (Goes moves item choice) lead j h e =
      let mv = get-map (λ (mv : Move). mv.to) moves j h e in
      let l = lead j mv.0 mv.1 in
      subst (Adds g) mv.2 (record { allocated = l.allocated; returned = l.returned })
  adds g (Exits code) lead j h e = absurd (none-some h e)
  adds g (Bad kind) lead j h e = absurd (none-some h e)
  adds g Lost lead j h e = absurd lead

  -- configuration i has at most i of each
  record AreFew (i : ℕ) (g : Config) : Type 0 where
    allocated : g.allocated ≤ i
    returned : g.returned ≤ i

  few-at : (n i : ℕ) → i < n → (x : Node) → slice_get nodes i ≡ Some x → AreFew i x.node
  few-at zero i lt x e = absurd (omega (arith, lt))
  few-at (suc n) zero lt x e =
      let first = first-visited (search_of p budget) (Carries p) nodes explored in
      let start : x.node ≡ start_of p.entry = ap (λ (x : Node). x.node) (same_Some x first.0 (sym e ∙ first.1)) ∙ first.2 in
      record { allocated = omega (arith, ap (λ (g : Config). g.allocated) start); returned = omega (arith, ap (λ (g : Config). g.returned) start) }
  few-at (suc n) (suc i) lt x e =
      let t = parent-of (search_of p budget) (map node nodes) explored.lists i x.node (map-get node nodes (suc i) x e) in
      let y = get-map node nodes t.at t.parent t.is in
      let few = few-at n t.at (omega (arith, t.before, lt)) y.0 y.1 in
      let more = adds t.parent (step_of p t.parent) (leads t.parent (subst (IsReached p) y.2 (explored.carries t.at y.0 y.1).reached)) t.choice x.node t.leads in
      record {
        allocated = omega (arith, more.allocated, few.allocated, t.before, ap (λ (g : Config). g.allocated) y.2);
        returned = omega (arith, more.returned, few.returned, t.before, ap (λ (g : Config). g.returned) y.2);
      }

  pub allocated-below : greatest (λ g. g.allocated) nodes ≤ length nodes
  allocated-below =
      greatest-below (λ g. g.allocated) nodes (length nodes) (λ i x e. let f = few-at (suc i) i (omega arith) x e in omega (arith, f.allocated, get_within nodes i x e))

  pub returned-below : greatest (λ g. g.returned) nodes ≤ length nodes
  returned-below =
      greatest-below (λ g. g.returned) nodes (length nodes) (λ i x e. let f = few-at (suc i) i (omega arith) x e in omega (arith, f.returned, get_within nodes i x e))

-- ---- required numbers are within the limit

within-limit : (n limit : ℕ) → nat_le n limit ≡ true → n ≤ limit
within-limit n limit e = grind (arith, e)

plain-below : (limit : ℕ) (text : List ℕ) (n : ℕ) → plain_number limit text ≡ Some n → n ≤ limit
plain-below limit text n e = by (is_plain text) (nat_le (digits_value 10 text) limit) refl e
  where
    by : (plain within : Bool) → nat_le (digits_value 10 text) limit ≡ within → (if plain && within then Some (digits_value 10 text) else None) ≡ Some n → n ≤ limit
    by true true f h = subst (λ k. k ≤ limit) (same_Some (digits_value 10 text) n h) (within-limit (digits_value 10 text) limit f)
    by true false f h = absurd (none-some n h)
    by false w f h = absurd (none-some n h)

stated-below : (key : List ℕ) (limit : ℕ) (o : Option Entry) (d : ℕ) → d ≤ limit → unwrap_or (stated key limit o) d ≤ limit
stated-below key limit None d h = h
stated-below key limit (Some e) d h = by-attr (attribute_of key e.function.attrs)
  where
    by-number : (o : Option ℕ) → ((n : ℕ) → o ≡ Some n → n ≤ limit) → unwrap_or o d ≤ limit
    by-number None all = h
    by-number (Some n) all = all n refl

    by-value : (v : Option (List ℕ)) → unwrap_or (option_and_then (plain_number limit) v) d ≤ limit
    by-value None = h
    by-value (Some text) = by-number (plain_number limit text) (λ n f. plain-below limit text n f)

    by-attr : (a : Option Attr) → unwrap_or (option_and_then (stated_by limit) a) d ≤ limit
    by-attr None = h
    by-attr (Some a) = by-value a.value

pub qubits-below : (m : Module) (limit : ℕ) → required_qubits m limit ≤ limit
unfolding required_qubits
qubits-below m limit = stated-below _ limit (entry_of m) _ (grind arith)

pub results-below : (m : Module) (limit : ℕ) → required_results m limit ≤ limit
unfolding required_results
results-below m limit = stated-below _ limit (entry_of m) _ (grind arith)

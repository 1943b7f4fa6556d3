-- The whole program of a Base target: one part, in order, which returns a known value.
use Rattle.std.proofs.Common.{◌≡◌, ℕ, suc, ◌+◌, ◌≤◌, Bool, true, false, Option, None, Some, List, [], ◌∷◌, ◌++◌, flat_map, length, slice_get, refl, sym, ap, ◌∙◌, subst, arith}
use Rattle.std.proofs.lemmas.Bool.{and_from, eq-eqb}
use Rattle.std.proofs.lemmas.List.{length-map}
use Rattle.std.proofs.lemmas.Option.{slice_get_within}
use Rattle.std.specs.List.{list_all}
use Rattle.std.specs.Prelude.{◌==◌, if◌then◌else◌}
use Rattle.ir_module.specs.Numbered.{are_distinct, global_names}
use Rattle.ir_values.specs.declared.int.Width.TheVariants.{W64}
use Rattle.ir_values.specs.declared.ty.Ty.{Ty}
use Rattle.ir_values.specs.declared.ty.Ty.TheVariants as ty
use Rattle.kept_items.specs.declared.item.Choice.{Choice}
use Rattle.kept_items.specs.declared.item.Code.{Code}
use Rattle.kept_items.specs.declared.item.Code.TheVariants as code
use Rattle.kept_items.specs.declared.item.Item.{Item}
use Rattle.kept_items.specs.declared.item.Item.TheVariants as item
use Rattle.kept_items.specs.declared.target.Target.TheVariants.{Base}
use Rattle.kept_items.specs.declared.val.Dyn.{Dyn}
use Rattle.path_search.specs.Paths.{onward}
use Rattle.path_search.proofs.Frontier.{get_some}
use Rattle.path_search.proofs.Walks.{app_nil}
use Rattle.residue.specs.declared.parts.Part.{Part}
use Rattle.residue.specs.declared.parts.Residue.{Residue}
use Rattle.residue.specs.Functions.{all_items, is_named}
use Rattle.residue.specs.Phases.{phase_of, phases_rise}
use Rattle.residue.specs.Scopes.{items_of}
use Rattle.residue.specs.Valid.{all_tails, base_permits, base_permits_tail, phases_in_order, target_permits}
use Rattle.static_steps.specs.declared.config.Config.{Config}
use Rattle.static_steps.specs.declared.phase.Phase.{Phase}
use Rattle.static_steps.specs.declared.phase.Phase.TheVariants as phase
use Rattle.static_steps.specs.declared.turn.Move.{Move}
use Rattle.static_steps.specs.Configurations.{Bounds, bounds}
use Rattle.static_steps.specs.Operations.{after_irreversible, after_reversible}
use Rattle.fused_parts.specs.declared.numbers.Numbers.{Numbers}
use Rattle.fused_parts.specs.Nodes.{Node, item_of, joins}
use Rattle.fused_parts.specs.Parts.{Rest, after, exit_tail, no_numbers, outcome_tail, rest_from, shared_part, tail_of, whole}
use Rattle.fused_parts.specs.Ranks.{part_number}
use Rattle.issued_steps.specs.Issues.{IsBetween, IsInOrder, phase_behind}
use Rattle.issued_steps.specs.Laws.{StepsIssueCalls}
use Rattle.lowered_program.specs.Residues.{irreversible_of, residue_of, shared_exit}
use Rattle.unroller.specs.declared.node.Outcome.{Outcome}
use Rattle.unroller.specs.declared.node.Outcome.TheVariants as outcome
use Rattle.unroller.specs.Programs.{Program, step_of, turn_of}
use Rattle.valid_lines.specs.Laws.{ItemsAreValid, items_permitted}
use Rattle.valid_steps.specs.Items.{IsCode, IsSomeItem, types_of}
use Rattle.valid_steps.specs.Laws.{AdmittedModulesStart, StepsKeepConfigurations}
use Rattle.valid_steps.specs.Types.{dynamic_types}
use Rattle.valid_residue.specs.Programs.{IsLowered}
use Rattle.valid_residue.proofs.Lists.{get-map, same-some}
use Rattle.valid_residue.proofs.Names.{distinct-names}
use Rattle.valid_residue.proofs.Nodes.{IsKnown, exits-from, first-move, goes-from}
use Rattle.valid_residue.proofs.Permits.{lines-valid}
use Rattle.valid_residue.proofs.Program.{known-of}
use Rattle.valid_calls.proofs.Issued.{orders-of}
use Rattle.valid_calls.proofs.Named.{named-so}
use Rattle.base_order.proofs.Joined.{Joined, all-joined, last-tail, no-parts}
use Rattle.base_order.proofs.Phases.{AreInOrder, all-rise, behind, level}
use Rattle.base_order.proofs.Row.{link-to, next-of, no-types, single}

-- ---- phases of operations

-- the phase behind an operation that may stand in one
irreversible-level : (before later : Phase) → after_irreversible before ≡ Some later → (level before ≤ 2) × (level later ≡ 2)
irreversible-level phase.Begin later e = let z : phase.Irreversible ≡ later = cc in (omega arith, ap level (sym z))
irreversible-level phase.Reversible later e = let z : phase.Irreversible ≡ later = cc in (omega arith, ap level (sym z))
irreversible-level phase.Irreversible later e = let z : phase.Irreversible ≡ later = cc in (omega arith, ap level (sym z))
irreversible-level phase.Output later e = cc

reversible-level : (before later : Phase) → after_reversible before ≡ Some later → (level before ≤ 1) × (level later ≡ 1)
reversible-level phase.Begin later e = let z : phase.Reversible ≡ later = cc in (omega arith, ap level (sym z))
reversible-level phase.Reversible later e = let z : phase.Reversible ≡ later = cc in (omega arith, ap level (sym z))
reversible-level phase.Irreversible later e = cc
reversible-level phase.Output later e = cc

at-most-output : (ph : Phase) → level ph ≤ 3
at-most-output phase.Begin = omega arith
at-most-output phase.Reversible = omega arith
at-most-output phase.Irreversible = omega arith
at-most-output phase.Output = omega arith

operation-level : (b : Bool) (before later : Phase) → phase_behind Base before b ≡ Some later → (level before ≤ (if b then 2 else 1)) × (level later ≡ (if b then 2 else 1))
operation-level true before later e = irreversible-level before later e
operation-level false before later e = reversible-level before later e

module _ (p : Program) (nodes : List Node) (r : Residue) (h : IsLowered p nodes r) (base : p.target ≡ Base) (start : AdmittedModulesStart) (steps : StepsKeepConfigurations) where
  abbrev made : Residue
  made = residue_of p h.found_entry.function nodes

  abbrev names : List (List ℕ)
  names = irreversible_of p.m

  abbrev rest : Rest
  rest = rest_from p.m nodes (part_number (joins nodes)) (shared_exit p.target nodes) nodes (joins nodes) no_numbers

  all-in-part : Joined nodes (joins nodes)
  all-in-part =
      all-joined nodes (λ i x e q l f. let z = link-to p nodes r h base start steps i q x l e f in omega (arith, z)) (λ i x e lt. single p nodes r h base start steps i x e lt)

  -- exits share no part
  not-shared : shared_exit p.target nodes ≡ None
  not-shared = ap (λ t. shared_exit t nodes) base

  one-part : made.parts ≡ (record { params = []; lines = rest.lines; tail = rest.tail }) ∷ []
  one-part =
      ap (λ (o : Option ℕ). whole rest ++ shared_part o) not-shared
      ∙ (app_nil (whole rest)
      ∙ ap (λ (ps : List Part). (record { params = []; lines = rest.lines; tail = rest.tail }) ∷ ps) (no-parts p.m nodes (part_number (joins nodes)) (shared_exit p.target nodes) nodes (joins nodes) no_numbers all-in-part))

  known : (i : ℕ) (x : Node) → slice_get nodes i ≡ Some x → IsKnown p nodes x
  known i x e = known-of p nodes r steps h i x e

  -- ---- the order

  module _ (issues : StepsIssueCalls) where
    distinct : are_distinct (global_names p.m) ≡ true
    distinct = distinct-names p.m h.faultless.numbered

    -- what the item of a configuration says of its phase and of the one behind it
    record Levels (o : Option Item) (before later : ℕ) : Type 0 where
      own : (i : Item) → o ≡ Some i → before ≤ phase_of names i
      next : later ≡ behind names o before

    item-levels : (i : Item) (before later : ℕ) → before ≤ phase_of names i → later ≡ phase_of names i → Levels (Some i) before later
    item-levels i before later le e = record { own = λ j z. subst (λ q. before ≤ phase_of names q) (same-some i j z) le; next = e }

    by-name : (b c : Bool) (before later : Phase) → c ≡ b → phase_behind Base before b ≡ Some later → (level before ≤ (if c then 2 else 1)) × (level later ≡ (if c then 2 else 1))
    by-name b c before later z e = subst (λ q. (level before ≤ (if q then 2 else 1)) × (level later ≡ (if q then 2 else 1))) (sym z) (operation-level b before later e)

    levels-of : (b : Bounds) (ts : List (Option Ty)) (held : List ℕ) (before later : Phase) (o : Option Item) → IsBetween p.m Base before o later → IsSomeItem p.m Base b ts held o → Levels o (level before) (level later)
    levels-of b ts held before later None between fits = record { own = λ i e. none i e; next = ap level between }
      where
        none : (i : Item) → ◌≡◌ {A = Option Item} None (Some i) → level before ≤ phase_of names i
        none i e = cc
    levels-of b ts held before later (Some (item.Operation name args)) between fits =
        let q = by-name between.0 (is_named names name) before later (named-so p.m distinct name (types_of args) between.0 between.1) between.2 in
        item-levels (item.Operation name args) (level before) (level later) q.0 q.1
    levels-of b ts held before later (Some (item.Output c args)) between fits = item-levels (item.Output c args) (level before) (level later) (at-most-output before) (ap level between)
    levels-of b ts held before later (Some (item.Binary d o flags w x y)) between fits = let e = fits.1 in cc
    levels-of b ts held before later (Some (item.Icmp d o w x y)) between fits = let e = fits.1 in cc
    levels-of b ts held before later (Some (item.Convert d o w x to)) between fits = let e = fits.2 in cc
    levels-of b ts held before later (Some (item.Select d w c x y)) between fits = let e = fits.1 in cc
    levels-of b ts held before later (Some (item.Read d v)) between fits = let e = fits.1 in cc
    levels-of b ts held before later (Some (item.Equal d v u)) between fits = let e = fits.1 in cc

    -- of a configuration that goes on
    record GoesInOrder (x : Node) (o : Option Item) : Type 0 where
      to : Config
      first : slice_get (onward (turn_of (step_of p x.node))) 0 ≡ Some to
      levels : Levels o (level x.node.phase) (level to.phase)

    goes-in-order : (i : ℕ) (x : Node) (o : Option Item) (c : Choice) → slice_get nodes i ≡ Some x → x.item ≡ outcome.Goes o c → GoesInOrder x o
    goes-in-order i x o c at e =
        let g = goes-from p nodes x o c (known i x at) e in
        let f = first-move p nodes x o c g.moves g.turn g.links in
        let order = subst (IsInOrder p.m p.target x.node.phase) g.step (orders-of p nodes r issues h i x at) in
        let between = order 0 f.move f.first in
        record {
          to = f.move.to;
          first = ap (λ t. slice_get (onward (turn_of t)) 0) g.step ∙ get-map (λ (mv : Move). mv.to) g.moves 0 f.move f.first;
          levels =
              levels-of (bounds p.qubits p.results f.move.to) (dynamic_types p.m x.node) f.move.to.held x.node.phase f.move.to.phase o
              (subst (λ t. IsBetween p.m t x.node.phase o f.move.to.phase) base between)
              (subst (λ t. IsSomeItem p.m t (bounds p.qubits p.results f.move.to) (dynamic_types p.m x.node) f.move.to.held o) base f.fits.item_fits);
        }

    own-order : (i : ℕ) (x : Node) (o : Outcome) → slice_get nodes i ≡ Some x → x.item ≡ o → (q : Item) → item_of o ≡ Some q → level x.node.phase ≤ phase_of names q
    own-order i x (outcome.Goes a c) at e q z = (goes-in-order i x a c at e).levels.own q z
    own-order i x (outcome.Exits c) at e q z = cc

    next-order : (i : ℕ) (x y : Node) (o : Outcome) → slice_get nodes i ≡ Some x → slice_get nodes (suc i) ≡ Some y → x.item ≡ o → level y.node.phase ≡ behind names (item_of o) (level x.node.phase)
    next-order i x y (outcome.Goes a c) at there e =
        let g = goes-in-order i x a c at e in
        let same = same-some g.to y.node (sym g.first ∙ next-of p nodes r h base start steps i x y at there) in
        ap (λ (g : Config). level g.phase) (sym same) ∙ g.levels.next
    next-order i x y (outcome.Exits c) at there e = absurd (clash (sym (exits-from p nodes x c (known i x at) e).links ∙ (single p nodes r h base start steps i x at (slice_get_within nodes (suc i) y there)).1))
      where
        clash : {A : Type 0} {a : A} {as_ : List A} → [] ≡ a ∷ as_ → ⊥
        clash e = cc

    order-from : (n : ℕ) (xs : List Node) → ((j : ℕ) (x : Node) → slice_get xs j ≡ Some x → slice_get nodes (n + j) ≡ Some x) → AreInOrder names xs
    order-from n [] at = tt
    order-from n (x ∷ []) at = own-order n x x.item (let z : n ≡ n + 0 = omega arith in ap (slice_get nodes) z ∙ at 0 x refl) refl
    order-from n (x ∷ y ∷ xs) at =
        let here : slice_get nodes n ≡ Some x = (let z : n ≡ n + 0 = omega arith in ap (slice_get nodes) z ∙ at 0 x refl) in
        let there : slice_get nodes (suc n) ≡ Some y = (let z : suc n ≡ n + 1 = omega arith in ap (slice_get nodes) z ∙ at 1 y refl) in (
          own-order n x x.item here refl,
          next-order n x y x.item here there refl,
          order-from (suc n) (y ∷ xs) (λ j z e. let w : suc n + j ≡ n + suc j = omega arith in ap (slice_get nodes) w ∙ at (suc j) z e),
        )

    rises : phases_rise names 0 (items_of rest.lines) ≡ true
    rises =
        all-rise names p.m nodes (part_number (joins nodes)) (shared_exit p.target nodes) nodes (joins nodes) no_numbers all-in-part
        (order-from 0 nodes (λ j x e. let w : 0 + j ≡ j = omega arith in ap (slice_get nodes) w ∙ e))

    in-order : phases_in_order made Base ≡ true
    in-order =
        and_from (length made.parts == 1) (phases_rise names 0 (all_items made)) (eq-eqb (length made.parts) 1 (ap length one-part))
        (subst (λ (ps : List Part). phases_rise names 0 (flat_map (λ (q : Part). items_of q.lines) ps) ≡ true) (sym one-part)
        (subst (λ l. phases_rise names 0 l ≡ true) (sym (app_nil (items_of rest.lines))) rises))

    pub keeps-order : phases_in_order r p.target ≡ true
    keeps-order = subst (λ t. phases_in_order r t ≡ true) (sym base) (subst (λ r. phases_in_order r Base ≡ true) (sym h.made) in-order)

  -- ---- the end

  -- a configuration that goes on isn't the last
  not-last : (i : ℕ) (x : Node) (o : Option Item) (c : Choice) → slice_get nodes i ≡ Some x → x.item ≡ outcome.Goes o c → suc i ≡ length nodes → ⊥
  not-last i x o c at e last =
      let g = goes-from p nodes x o c (known i x at) e in
      let f = first-move p nodes x o c g.moves g.turn g.links in
      let some = slice_get_within g.moves 0 f.move f.first in
      let many = g.links.number in
      let count = length-map g.moves (λ (mv : Move). mv.to) in
      let l = get_some x.links 0 (omega (arith, some, many, count)) in
      let t = g.links.to 0 l.0 l.1 in
      let inside = slice_get_within nodes l.0.to t.0 t.1 in
      let next = link-to p nodes r h base start steps i 0 x l.0 at l.1 in
      omega (arith, inside, next, last)

  no-dynamic : (ts : List (Option Ty)) (d : Dyn) → ts ≡ [] → IsCode p.target ts (code.Dynamic d) → ⊥
  no-dynamic ts d e k = let z = subst (λ us. IsCode p.target us (code.Dynamic d)) e k in none z.1
    where
      none : slice_get [] d.0 ≡ Some (Some (ty.Int W64)) → ⊥
      none z = cc

  code-known : (x : Node) (mine : List Dyn) (c : Code) → dynamic_types p.m x.node ≡ [] → IsCode p.target (dynamic_types p.m x.node) c → base_permits_tail (exit_tail None mine c) ≡ true
  code-known x mine (code.Known z) none k = refl
  code-known x mine (code.Dynamic d) none k = absurd (no-dynamic (dynamic_types p.m x.node) d none k)

  ends-known : (i : ℕ) (x : Node) (o : Outcome) (n : Numbers) → slice_get nodes i ≡ Some x → suc i ≡ length nodes → x.item ≡ o → base_permits_tail (outcome_tail (part_number (joins nodes)) (shared_exit p.target nodes) (after x n).mine o x.links) ≡ true
  ends-known i x (outcome.Goes a c) n at last e = absurd (not-last i x a c at e last)
  ends-known i x (outcome.Exits c) n at last e =
      ap (λ s. base_permits_tail (exit_tail s (after x n).mine c)) not-shared
      ∙ code-known x (after x n).mine c (no-types p nodes r h base start steps i x at) (exits-from p nodes x c (known i x at) e).code

  tail-known : (xs : List Node) (bs : List Bool) (n : Numbers) → Joined xs bs
      → ((j : ℕ) (z : Node) → slice_get xs j ≡ Some z → suc j ≡ length xs → (k : Numbers) → base_permits_tail (tail_of (part_number (joins nodes)) (shared_exit p.target nodes) z k) ≡ true)
      → base_permits_tail (rest_from p.m nodes (part_number (joins nodes)) (shared_exit p.target nodes) xs bs n).tail ≡ true
  tail-known [] bs n j ends = refl
  tail-known (x ∷ xs) bs n j ends = last-tail p.m nodes (part_number (joins nodes)) (shared_exit p.target nodes) base_permits_tail x xs bs n j ends

  returns-known : base_permits_tail rest.tail ≡ true
  returns-known = tail-known nodes (joins nodes) no_numbers all-in-part (λ j z e last k. ends-known j z z.item k e last refl)

  tails : all_tails base_permits_tail made ≡ true
  tails = subst (λ (ps : List Part). list_all (λ (q : Part). base_permits_tail q.tail) ps ≡ true) (sym one-part) (and_from (base_permits_tail rest.tail) true returns-known refl)

  pub permits : ItemsAreValid → target_permits r p.target ≡ true
  permits law =
      let valid = lines-valid p nodes r h steps law in
      subst (λ t. target_permits r t ≡ true) (sym base)
      (and_from (list_all base_permits (all_items r)) (all_tails base_permits_tail r) (subst (λ t. items_permitted r t ≡ true) base valid.permitted)
      (subst (λ r. all_tails base_permits_tail r ≡ true) (sym h.made) tails))

-- The parts that are made of all configurations are good.
use Rattle.std.proofs.Common.{◌≡◌, ℕ, zero, suc, true, false, Option, None, Some, List, [], ◌∷◌, ◌++◌, flat_map, length, map, refl, sym, ap, ◌∙◌, subst, arith}
use Rattle.std.proofs.lemmas.List.{map-append}
use Rattle.std.specs.Prelude.{slice_get}
use Rattle.ir_values.specs.declared.int.Width.{Width}
use Rattle.kept_items.specs.declared.val.Dyn.{Dyn}
use Rattle.kept_items.specs.declared.val.Val.TheVariants.{Dynamic}
use Rattle.path_search.specs.declared.visit.Link.{Link}
use Rattle.residue.specs.declared.parts.Part.{Part}
use Rattle.residue.specs.declared.parts.Residue.{Residue}
use Rattle.residue.specs.Scopes.{gives_of, part_gives}
use Rattle.residue.specs.Valid.{args_fit}
use Rattle.static_steps.specs.Steps.{start_of}
use Rattle.static_steps.specs.Works.{dynamics_of}
use Rattle.fused_parts.specs.declared.numbers.Numbers.{Numbers}
use Rattle.fused_parts.specs.Nodes.{Node, item_of, joins, widths_of}
use Rattle.fused_parts.specs.Parts.{after, first_label, in_row, jump_to, no_numbers, nowhere, number_at, outcome_tail, parts_of, shared_part}
use Rattle.fused_parts.specs.Ranks.{goes_on, part_number}
use Rattle.lowered_runs.specs.Made.{own_parts}
use Rattle.lowered_runs.proofs.First.{first-visited}
use Rattle.lowered_runs.proofs.Lookups.{length-map, row-length, same-some}
use Rattle.unroller.specs.Programs.{Carries, Program, search_of}
use Rattle.valid_steps.specs.Items.{IsChoice, IsCode, IsItem, gives_some}
use Rattle.valid_steps.specs.Types.{Fill, dynamic_types}
use Rattle.valid_parts.specs.Laws.{IsMadeFrom}
use Rattle.valid_parts.proofs.Begins.{LeadsOn, begun, fuses, leads-on, one-target}
use Rattle.valid_parts.proofs.Ends.{IsIn, SharedStands, choice-good, exit-good, stops}
use Rattle.scoped_parts.proofs.Fits.{Fit, args-fit, int_type}
use Rattle.scoped_parts.proofs.Good.{JumpGood, PartsGood, TailGood}
use Rattle.scoped_parts.proofs.Rows.{IsRow}
use Rattle.valid_parts.proofs.Steps.{Stepped, exits, goes, item-says, link-says, links-agree, stepped}
use Rattle.scoped_parts.proofs.Typed.{item-has}
use Rattle.scoped_parts.proofs.Walk.{AllHold, At, FirstAt, Hands, ItemHolds, parts-give, parts-good, types-given, widths_given}
use Rattle.scoped_parts.proofs.Widths.{as-many-widths, typed-widths}

get-last : (ps : List Part) (one : Part) (k : ℕ) → k ≡ length ps → slice_get (ps ++ one ∷ []) k ≡ Some one
get-last [] one zero e = refl
get-last [] one (suc k) e = absurd (omega (arith, e))
get-last (p ∷ ps) one zero e = absurd (omega (arith, e))
get-last (p ∷ ps) one (suc k) e = get-last ps one k (omega (arith, e))

module _ (p : Program) (budget : ℕ) (nodes : List Node) (shared : Option ℕ) (r : Residue) (made : IsMadeFrom p budget nodes shared r) where
  abbrev part_of : ℕ → ℕ
  part_of = part_number (joins nodes)

  abbrev all : List Part
  all = parts_of p.m (part_number (joins nodes)) shared nodes (joins nodes)

  abbrev widths : Node → List Width
  widths x = widths_of p.m x.node

  abbrev widths_after : Node → List Width
  widths_after x = widths_of p.m x.node ++ widths_given (item_of x.item)

  steps : (i : ℕ) (x : Node) → slice_get nodes i ≡ Some x → Stepped p nodes x
  steps i x at = stepped p nodes x (made.steps i x at) (made.explored.links i x at)

  typed : (i : ℕ) (x : Node) → slice_get nodes i ≡ Some x → dynamic_types p.m x.node ≡ map int_type (widths x)
  typed i x at = typed-widths p.m p.target p.live p.entry p.qubits p.results x.node (made.explored.carries i x at).reached

  count : (i : ℕ) (x : Node) → slice_get nodes i ≡ Some x → dynamics_of x.node ≡ length (widths x)
  count i x at = as-many-widths p.m x.node (typed i x at)

  typed-after : (i : ℕ) (x : Node) → slice_get nodes i ≡ Some x → dynamic_types p.m x.node ++ gives_some (item_of x.item) ≡ map int_type (widths_after x)
  typed-after i x at =
      ap (λ ts. ts ++ gives_some (item_of x.item)) (typed i x at) ∙ ap (λ ts. map int_type (widths x) ++ ts) (types-given (item_of x.item))
      ∙ sym (map-append int_type (widths x) (widths_given (item_of x.item)))

  -- ---- items

  item-holds : (i : ℕ) (x : Node) → slice_get nodes i ≡ Some x → ItemHolds p.m nodes part_of shared all x
  item-holds i x at scope n it fit is =
      let says = item-says p nodes x (steps i x at) it is in
      item-has p.m p.target says.below scope n.mine (widths x) fit says.held it n.free (subst (λ ts. IsItem p.m p.target says.below ts says.held it) (typed i x at) says.fits)

  -- ---- edges

  -- an edge brings values of the widths of the names that take them
  link-fills : (i : ℕ) (x : Node) (q : ℕ) (l : Link (List Dyn)) (j : ℕ) (y : Node) → slice_get nodes i ≡ Some x → slice_get x.links q ≡ Some l → l.to ≡ j → slice_get nodes j ≡ Some y
      → Fill (map int_type (widths_after x)) l.label (map int_type (widths y))
  link-fills i x q l j y at link e at' =
      let says = link-says p nodes x (steps i x at) q l link in
      let same : says.node ≡ y = same-some says.node y (sym says.is ∙ ap (slice_get nodes) e ∙ at') in
      subst (λ ts. Fill ts l.label (map int_type (widths y))) (typed-after i x at)
      (subst (λ us. Fill (dynamic_types p.m x.node ++ gives_some (item_of x.item)) l.label us) (ap (λ (z : Node). dynamic_types p.m z.node) same ∙ typed j y at') says.fills)

  hands : (i : ℕ) (x y : Node) → slice_get nodes i ≡ Some x → slice_get nodes (suc i) ≡ Some y → goes_on nodes (joins nodes) i ≡ true → Hands p.m nodes part_of shared all x y
  hands i x y at at' on =
      let o = (fuses p budget nodes shared made.explored steps).onward i x at on in
      subst (λ ds. Fill (map int_type (widths_after x)) ds (map int_type (widths y))) (ap first_label (sym o.1))
      (link-fills i x 0 (record { to = suc i; label = o.0 }) (suc i) y at (ap (λ ls. slice_get ls 0) o.1) refl at')

  module _ (i : ℕ) (x : Node) (at : slice_get nodes i ≡ Some x) (off : goes_on nodes (joins nodes) i ≡ false) (scope : List (ℕ × Width)) (n : Numbers)
      (fit : Fit scope (after x n).mine (widths_after x)) where
    abbrev mine : List Dyn
    mine = (after x n).mine

    leads : (l : Link (List Dyn)) → IsIn x.links l → LeadsOn p budget nodes shared made.explored steps l
    leads l h = leads-on p budget nodes shared made.explored steps i x h.0 l at off h.1

    jump-good : (l : Link (List Dyn)) → IsIn x.links l → JumpGood all scope (jump_to part_of mine l)
    jump-good l h =
        let on = leads l h in
        let says = link-says p nodes x (steps i x at) h.0 l h.1 in
        let there : slice_get nodes (suc on.before) ≡ Some says.node = ap (slice_get nodes) (sym on.to) ∙ says.is in
        let b = begun p budget nodes shared made.explored steps on.before says.node on.ends there in
        let number = ap part_of on.to ∙ b.next in
        record {
          to = b.part;
          is = ap (λ k. slice_get all (part_of k)) on.to ∙ b.is;
          later = omega (arith, number);
          fit =
              ap (λ ps. args_fit scope ps (map (λ d. Dynamic (number_at mine d)) l.label)) b.params
              ∙ args-fit scope mine (in_row b.first (dynamics_of says.node.node)) (widths_after x) fit l.label (widths says.node)
              (row-length b.first (dynamics_of says.node.node) ∙ count (suc on.before) says.node there)
              (link-fills i x h.0 l (suc on.before) says.node at h.1 on.to there);
        }

    same-labels : (l k : Link (List Dyn)) → IsIn x.links l → IsIn x.links k → part_of l.to ≡ part_of k.to → l.label ≡ k.label
    same-labels l k a b e =
        let y = link-says p nodes x (steps i x at) a.0 l a.1 in
        let z = link-says p nodes x (steps i x at) b.0 k b.1 in
        links-agree p nodes x (steps i x at) a.0 b.0 l k a.1 b.1
        (one-target p budget nodes shared made.explored steps l k y.node z.node (leads l a) (leads k b) y.is z.is e)

    -- exits may share the last part
    shared-stands : (o : Option ℕ) → shared ≡ o → SharedStands all o
    shared-stands None e = tt
    shared-stands (Some k) e =
        let last = (made.made.shared_last k e).0 in (
          record { params = []; lines = []; tail = nowhere },
          ap (λ o. slice_get (own_parts p nodes shared ++ shared_part o) k) e ∙ get-last (own_parts p nodes shared) (record { params = []; lines = []; tail = nowhere }) k last,
          refl,
          omega (arith, last),
        )

    tail-by : Stepped p nodes x → TailGood all scope (outcome_tail part_of shared mine x.item x.links)
    tail-by (goes moves it c is args leads fits) =
        subst (λ o. TailGood all scope (outcome_tail part_of shared mine o x.links)) (sym is)
        (choice-good all part_of scope mine (widths x) (widths_given (item_of x.item)) fit x.links jump-good same-labels p.target c
        (subst (λ ts. IsChoice p.target ts (length x.links) c) (typed i x at)
        (subst (λ k. IsChoice p.target (dynamic_types p.m x.node) k c) (sym (leads.number ∙ length-map (λ mv. mv.to) moves)) fits.choice_fits)))
    tail-by (exits c is none fits) =
        subst (λ o. TailGood all scope (outcome_tail part_of shared mine o x.links)) (sym is)
        (exit-good all part_of scope mine (widths x) (widths_given (item_of x.item)) fit p.target shared c (subst (λ ts. IsCode p.target ts c) (typed i x at) fits) (shared-stands shared refl))

  -- ---- all of them

  all-hold : AllHold p.m nodes part_of shared all nodes (joins nodes)
  all-hold = record {
    items = item-holds;
    counts = count;
    tails = λ i x at off scope n fit. tail-by i x at off scope n fit (steps i x at);
    hands = hands;
  }

  at-start : FirstAt p.m [] no_numbers nodes
  at-start = by-nodes nodes refl
    where
      by-nodes : (xs : List Node) → nodes ≡ xs → FirstAt p.m [] no_numbers xs
      by-nodes [] e = tt
      by-nodes (x ∷ xs) e =
          let first = first-visited (search_of p budget) (Carries p) nodes made.explored in
          let same : first.0 ≡ x = same-some first.0 x (sym first.1 ∙ ap (λ ys. slice_get ys 0) e) in
          let start : x.node ≡ start_of p.entry = ap (λ (z : Node). z.node) (sym same) ∙ first.2 in
          subst (λ g. At [] no_numbers (widths_of p.m g)) (sym start) (record { from = 0; row = tt; free = refl; fit = tt })

  pub good : PartsGood r.parts r.parts
  good = subst (λ ps. PartsGood ps ps) (sym made.made.parts) (parts-good p.m nodes part_of shared all (stops all) (joins nodes) all-hold at-start)

  pub row : IsRow 0 (gives_of r)
  row = subst (λ ps. IsRow 0 (flat_map part_gives ps)) (sym made.made.parts) (parts-give p.m nodes part_of shared all (stops all) (joins nodes) all-hold at-start)

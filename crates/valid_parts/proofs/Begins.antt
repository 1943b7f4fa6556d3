-- The parts that are begun: each edge of a node that ends a part leads to one.
use Rattle.std.proofs.Common.{◌≡◌, ⊎_elim, ℕ, zero, suc, ◌+◌, ◌≤◌, Bool, true, false, Option, Some, List, [], ◌∷◌, length, refl, sym, ap, ◌∙◌, arith}
use Rattle.std.proofs.lemmas.Bool.{cases_order}
use Rattle.std.specs.Prelude.{slice_get}
use Rattle.kept_items.specs.declared.val.Dyn.{Dyn}
use Rattle.path_search.specs.declared.visit.Link.{Link}
use Rattle.path_search.specs.Explored.{Explored}
use Rattle.residue.specs.declared.parts.Part.{Part}
use Rattle.static_steps.specs.Works.{dynamics_of}
use Rattle.fused_parts.specs.Nodes.{Node, joins, widths_of}
use Rattle.fused_parts.specs.Parts.{after, first_spot, in_row, next_spot, parts_of, with_widths}
use Rattle.fused_parts.specs.Ranks.{Fuses, goes_on, part_number}
use Rattle.fused_parts.proofs.Fusing.{NoneToFirst, flags-fuse}
use Rattle.fused_parts.proofs.Ranks.{spot-next, spot-there}
use Rattle.fused_parts.proofs.Standing.{all-begin}
use Rattle.lowered_runs.proofs.First.{first-visited}
use Rattle.lowered_runs.proofs.Joined.{length-joins}
use Rattle.lowered_runs.proofs.Lookups.{is-there, same-some, within}
use Rattle.lowered_runs.proofs.Spots.{spot-part}
use Rattle.unroller.specs.Programs.{Carries, Program, search_of}
use Rattle.valid_parts.proofs.Steps.{Stepped, link-says}

-- ---- numbers of parts

-- behind a configuration that ends a part comes the next one
part-up : (xs : List Node) (bs : List Bool) (j : ℕ) (y : Node) → length xs ≤ suc (length bs) → goes_on xs bs j ≡ false → slice_get xs (suc j) ≡ Some y
    → part_number bs (suc j) ≡ suc (part_number bs j)
part-up [] bs j y le off at = cc
part-up (x ∷ []) bs j y le off at = cc
part-up (x ∷ z ∷ xs) [] j y le off at = absurd (omega (arith, le))
part-up (x ∷ z ∷ xs) (true ∷ bs) zero y le off at = cc
part-up (x ∷ z ∷ xs) (false ∷ bs) zero y le off at = refl
part-up (x ∷ z ∷ xs) (true ∷ bs) (suc j) y le off at = part-up (z ∷ xs) bs j y (omega (arith, le)) off at
part-up (x ∷ z ∷ xs) (false ∷ bs) (suc j) y le off at = ap suc (part-up (z ∷ xs) bs j y (omega (arith, le)) off at)

part-later : (bs : List Bool) (i j : ℕ) → i ≤ j → part_number bs i ≤ part_number bs j
part-later bs zero j le = omega arith
part-later bs (suc i) zero le = absurd (omega (arith, le))
part-later [] (suc i) (suc j) le = omega arith
part-later (true ∷ bs) (suc i) (suc j) le = part-later bs i j (omega (arith, le))
part-later (false ∷ bs) (suc i) (suc j) le = let h = part-later bs i j (omega (arith, le)) in omega (arith, h)

-- one part is begun by one configuration
one-begins : (bs : List Bool) (j k : ℕ) → part_number bs (suc j) ≡ suc (part_number bs j) → part_number bs (suc k) ≡ suc (part_number bs k)
    → part_number bs (suc j) ≡ part_number bs (suc k) → j ≡ k
one-begins bs j k a b e =
    ⊎_elim (λ s. s)
    (λ o. ⊎_elim
    (λ lt. absurd (let h = part-later bs (suc j) k (omega (arith, lt)) in omega (arith, h, a, b, e)))
    (λ lt. absurd (let h = part-later bs (suc k) j (omega (arith, lt)) in omega (arith, h, a, b, e))) o)
    (cases_order j k)

module _ (p : Program) (budget : ℕ) (nodes : List Node) (shared : Option ℕ) (explored : Explored (search_of p budget) (Carries p) nodes)
    (steps : (i : ℕ) (x : Node) → slice_get nodes i ≡ Some x → Stepped p nodes x) where
  abbrev pub flags : List Bool
  flags = joins nodes

  abbrev pub part_of : ℕ → ℕ
  part_of = part_number (joins nodes)

  abbrev pub all : List Part
  all = parts_of p.m (part_number (joins nodes)) shared nodes (joins nodes)

  -- no edge leads to the start
  none-to-first : NoneToFirst nodes
  none-to-first i x q l at link zero-to =
      let first = first-visited (search_of p budget) (Carries p) nodes explored in
      let says = link-says p nodes x (steps i x at) q l link in
      let same : says.node ≡ first.0 = same-some says.node first.0 (sym says.is ∙ ap (slice_get nodes) zero-to ∙ first.1) in
      says.no_start (ap (λ (z : Node). z.node) same ∙ first.2)

  pub fuses : Fuses nodes (joins nodes)
  fuses = flags-fuse nodes none-to-first

  pub enough : length nodes ≤ suc (length (joins nodes))
  enough = let e = length-joins nodes 0 nodes in omega (arith, e)

  -- the configuration behind j begins a part, whose parameters stand for its Dynamic names
  pub record Begun (j : ℕ) (y : Node) : Type 0 where
    pub next : part_number (joins nodes) (suc j) ≡ suc (part_number (joins nodes) j)
    pub part : Part
    pub is : slice_get all (part_number (joins nodes) (suc j)) ≡ Some part
    pub first : ℕ
    pub params : part.params ≡ with_widths (in_row first (dynamics_of y.node)) (widths_of p.m y.node)

  pub begun : (j : ℕ) (y : Node) → goes_on nodes (joins nodes) j ≡ false → slice_get nodes (suc j) ≡ Some y → Begun j y
  begun j y off at =
      let lt = within nodes (suc j) y at in
      let x = is-there nodes j (omega (arith, lt)) in
      let s = spot-there nodes nodes (joins nodes) first_spot j x.0 enough x.1 in
      let s' = spot-there nodes nodes (joins nodes) first_spot (suc j) y enough at in
      let next = spot-next nodes nodes (joins nodes) first_spot j x.0 y s.0 s'.0 enough x.1 at s.1 s'.1 in
      let b = all-begin p.m nodes (part_number (joins nodes)) shared (joins nodes) j y s'.0 (let e = enough in omega (arith, lt, e)) off at s'.1 in
      record {
        next = part-up nodes (joins nodes) j y enough off at;
        part = b.part;
        is = ap (slice_get all) (sym (spot-part nodes nodes (joins nodes) first_spot (suc j) s'.0 enough s'.1 ∙ (let e : 0 + part_number (joins nodes) (suc j) ≡ part_number (joins nodes) (suc j) = omega arith in e))) ∙ b.is;
        first = (after x.0 s.0.numbers).free;
        params =
            b.params
            ∙ ap (λ (z : List Dyn). with_widths z (widths_of p.m y.node))
            (ap (λ z. z.numbers.mine) next ∙ ap (λ o. (next_spot nodes x.0 o y s.0).numbers.mine) off);
      }

  -- an edge of a configuration that ends a part leads to one that begins a part
  pub record LeadsOn (l : Link (List Dyn)) : Type 0 where
    pub before : ℕ
    pub to : l.to ≡ suc before
    pub ends : goes_on nodes (joins nodes) before ≡ false

  pub leads-on : (i : ℕ) (x : Node) (q : ℕ) (l : Link (List Dyn)) → slice_get nodes i ≡ Some x → goes_on nodes (joins nodes) i ≡ false → slice_get x.links q ≡ Some l → LeadsOn l
  leads-on i x q l at off link = let b = fuses.begins i x q l at off link in record { before = b.0; to = b.1; ends = b.2 }

  -- edges to one part lead to one configuration
  pub one-target : (l k : Link (List Dyn)) (y z : Node) → LeadsOn l → LeadsOn k → slice_get nodes l.to ≡ Some y → slice_get nodes k.to ≡ Some z
      → part_number (joins nodes) l.to ≡ part_number (joins nodes) k.to → l.to ≡ k.to
  one-target l k y z a b at at' e =
      let u = begun a.before y a.ends (ap (slice_get nodes) (sym a.to) ∙ at) in
      let v = begun b.before z b.ends (ap (slice_get nodes) (sym b.to) ∙ at') in
      let same = one-begins (joins nodes) a.before b.before u.next v.next (ap (part_number (joins nodes)) (sym a.to) ∙ e ∙ ap (part_number (joins nodes)) b.to) in
      a.to ∙ ap suc same ∙ sym b.to

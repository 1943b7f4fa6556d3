-- Names that are live at a point of a printed Adaptive residue are defined before it in its own block.
use mathlib.Core.Logic.{◌⊎◌, inl, inr}
use Rattle.std.proofs.Common.{◌≡◌, ℕ, suc, ◌+◌, ◌<◌, ◌≤◌, Bool, true, false, not, ◌&&◌, None, Some, List, [], ◌∷◌, ◌++◌, length, map, take, refl, sym, ap, ◌∙◌, subst, arith}
use Rattle.std.proofs.lemmas.Bool.{and_parts}
use Rattle.std.proofs.lemmas.List.Elements.{Contains-append_cases}
use Rattle.std.specs.List.{list_all}
use Rattle.std.specs.Prelude.{◌||◌, ◌==◌, Contains, flat_map, if◌then◌else◌, nat_le, nat_lt, slice_get}
use Rattle.graph_cycles.proofs.Lists.{cases, none}
use Rattle.ir_module.specs.declared.tree.Block.{Block}
use Rattle.ir_module.specs.declared.tree.Operand.{Operand}
use Rattle.ir_module.specs.declared.tree.Operand.TheVariants as operand
use Rattle.ir_module.specs.declared.tree.Phi.{Phi}
use Rattle.ir_module.specs.Operands.{term_operands}
use Rattle.ir_values.specs.declared.ids.BlockId.{BlockId}
use Rattle.ir_values.specs.declared.ids.LocalId.{LocalId}
use Rattle.ir_values.specs.declared.int.Width.{Width}
use Rattle.ir_values.specs.declared.ty.Ty.{Ty}
use Rattle.ir_values.specs.declared.ty.Ty.TheVariants as ty
use Rattle.ir_values.specs.declared.value.Value.TheVariants as value
use Rattle.kept_items.specs.declared.target.Target.{Target}
use Rattle.kept_items.specs.declared.val.Dyn.{Dyn}
use Rattle.kept_items.specs.declared.val.Val.{Val}
use Rattle.kept_items.specs.declared.val.Val.TheVariants.{Known}
use Rattle.name_flow.specs.Uses.{entries_read, reads}
use Rattle.residue.specs.declared.parts.Jump.{Jump}
use Rattle.residue.specs.declared.parts.Part.{Part}
use Rattle.residue.specs.declared.parts.Residue.{Residue}
use Rattle.residue.specs.declared.parts.Tail.{Tail}
use Rattle.residue.specs.declared.parts.Tail.TheVariants as tail
use Rattle.residue.specs.Instructions.{Words, block_number, operand_of, print_items, print_tail}
use Rattle.residue.specs.Printed.{argument, edges_to as jumps_to, entries, initialize_call, names_of_items, print_part, print_phis, words}
use Rattle.residue.specs.Scopes.{items_of, jump_args, jumps, part_gives, tail_uses}
use Rattle.residue.specs.Valid.{Valid, is_within}
use Rattle.printed_residue.specs.Places.{names_before, scope_at}
use Rattle.printed_residue.proofs.Declared.{Among}
use Rattle.printed_residue.proofs.Facts.{take-all}
use Rattle.printed_residue.proofs.Lines.{scoped}
use Rattle.printed_residue.proofs.Looks.{same-numbers}
use Rattle.printed_residue.proofs.Naming.{before-length}
use Rattle.printed_residue.proofs.Scoped.{ValIn, val-in}
use Rattle.numbered_residue.proofs.Forms.{entries-pass, index-passes, jump-args-pass}
use Rattle.numbered_residue.proofs.Shared.{some-same}
use Rattle.live_names.proofs.PartRows.{free, rows, val-fits}
use Rattle.live_names.proofs.Rows.{AllIn, NameIn, OperandIn, RowFits, ValFits, free_behind, operand-fits}

-- a name among those that operands read
pub contains-in : (ws : Words) (base k : ℕ) (os : List Operand) (y : LocalId) → AllIn ws base k os → Contains (flat_map reads os) y → NameIn ws base k y.0
contains-in ws base k [] y h c = absurd (none y c)
contains-in ws base k (operand.Const v ∷ os) y h c = contains-in ws base k os y h.1 c
contains-in ws base k (operand.Local x ∷ os) y h c = by (cases x y (flat_map reads os) c) (λ d. contains-in ws base k os y h.1 d)
  where
    by : (x ≡ y) ⊎ Contains (flat_map reads os) y → (Contains (flat_map reads os) y → NameIn ws base k y.0) → NameIn ws base k y.0
    by (inl e) ih = subst (λ (z : LocalId). NameIn ws base k z.0) e h.0
    by (inr d) ih = ih d

module _ (r : Residue) (t : Target) (ok : Valid r t) (n : ℕ) (p : Part) (is_part : slice_get r.parts n ≡ Some p) where
  abbrev ws : Words
  ws = words r

  abbrev base : ℕ
  base = names_before r n

  abbrev b : Block
  b = print_part r n base p

  abbrev first : ℕ
  first = base + length p.params

  abbrev last : ℕ
  last = first + length (names_of_items (items_of p.lines))

  none-taken : {A : Type 0} (xs : List A) → take 0 xs ≡ []
  none-taken [] = refl
  none-taken (x ∷ xs) = refl

  free-first : free r t ok n p is_part 0 ≡ first
  free-first = let e = before-length r n p is_part 0 in let z = ap (λ ls. length (names_of_items (items_of ls))) (none-taken p.lines) in omega (arith, e, z)

  free-last : free r t ok n p is_part (length p.lines) ≡ last
  free-last = let e = before-length r n p is_part (length p.lines) in let z = ap (λ ls. length (names_of_items (items_of ls))) (take-all p.lines) in omega (arith, e, z)

  -- the instructions of the block are a row
  pub insts-row : RowFits ws base first b.insts × (free_behind ws base first b.insts ≡ last)
  insts-row = by (n == 0)
    where
      items : RowFits ws base first (print_items ws first (items_of p.lines)) × (free_behind ws base first (print_items ws first (items_of p.lines)) ≡ last)
      items = subst (λ k. RowFits ws base k (print_items ws k (items_of p.lines)) × (free_behind ws base k (print_items ws k (items_of p.lines)) ≡ k + length (names_of_items (items_of p.lines)))) free-first (rows r t ok n p is_part p.lines 0 (λ k. ap (slice_get p.lines) (let z : k ≡ 0 + k = omega arith in z)))

      same : first ≡ first + 0
      same = omega arith

      nothing : (y : LocalId) → None ≡ Some y → y.0 ≡ first
      nothing y e = cc

      by : (z : Bool) → RowFits ws base first ((if z then (initialize_call ∷ []) else []) ++ print_items ws first (items_of p.lines)) × (free_behind ws base first ((if z then (initialize_call ∷ []) else []) ++ print_items ws first (items_of p.lines)) ≡ last)
      by false = items
      by true = (
        (record { reads_in = (tt, (tt, tt)); result = nothing }, subst (λ k. RowFits ws base k (print_items ws first (items_of p.lines))) same items.0),
        ap (λ k. free_behind ws base k (print_items ws first (items_of p.lines))) (sym same) ∙ items.1,
      )

  -- ---- what is read at the end of the block

  scope-all : scope_at p (length p.lines) ≡ part_gives p
  scope-all = ap (λ ls. part_gives (record p { lines = ls })) (take-all p.lines)

  within : (list_all (λ a. is_within (part_gives p) a.1) (tail_uses p.tail) ≡ true) × (list_all (is_within (part_gives p)) (jump_args p.tail) ≡ true)
  within = and_parts (list_all (λ a. is_within (part_gives p) a.1) (tail_uses p.tail)) (list_all (is_within (part_gives p)) (jump_args p.tail)) (scoped r t ok n p is_part).1

  val-last : (a : Val) → is_within (part_gives p) a ≡ true → OperandIn ws base last (operand_of ws a)
  val-last a h =
      operand-fits ws base last a
      (subst (λ k. ValFits ws base k a) free-last
      (val-fits r t ok n p is_part (length p.lines) a (subst (λ s. ValIn s a) (sym scope-all) (val-in (part_gives p) a h))))

  tail-in : (x : Tail) → list_all (λ a. is_within (part_gives p) a.1) (tail_uses x) ≡ true → AllIn ws base last (term_operands (print_tail ws x))
  tail-in (tail.Jump j) h = tt
  tail-in (tail.Branch a j i) h = (val-last a (and_parts (is_within (part_gives p) a) true h).0, tt)
  tail-in (tail.Switch w a j cs) h = (val-last a (and_parts (is_within (part_gives p) a) (list_all (λ (a : Ty × Val). is_within (part_gives p) a.1) (map (λ c. (ty.Int w, Known (value.Int c.0))) cs)) h).0, tt)
  tail-in (tail.Return a) h = (val-last a (and_parts (is_within (part_gives p) a) true h).0, tt)

  -- an operand is constant or a name of the part
  in_range : Operand → Bool
  in_range (operand.Const v) = true
  in_range (operand.Local x) = nat_le base x.0 && nat_lt x.0 last

  range-of : (a : Operand) → OperandIn ws base last a → in_range a ≡ true
  unfolding in_range
  range-of (operand.Const v) h = refl
  range-of (operand.Local x) h = both (nat_le base x.0) (nat_lt x.0 last) (low base x.0 h.0) (high x.0 last h.1)
    where
      both : (a b : Bool) → a ≡ true → b ≡ true → (a && b) ≡ true
      both true b e f = f
      both false b e f = cc

      low : (a b : ℕ) → a ≤ b → nat_le a b ≡ true
      low a b h = grind arith

      high : (a b : ℕ) → a < b → nat_lt a b ≡ true
      high a b h = grind arith

  read-range : (a : Operand) (y : LocalId) → in_range a ≡ true → Contains (reads a) y → NameIn ws base last y.0
  unfolding in_range
  read-range (operand.Const v) y h c = absurd (none y c)
  read-range (operand.Local x) y h c = by (cases x y [] c)
    where
      low : (a b : ℕ) → nat_le a b ≡ true → a ≤ b
      low a b h = grind arith

      high : (a b : ℕ) → nat_lt a b ≡ true → a < b
      high a b h = grind arith

      by : (x ≡ y) ⊎ Contains [] y → NameIn ws base last y.0
      by (inl e) = let q = and_parts (nat_le base x.0) (nat_lt x.0 last) h in subst (λ (z : LocalId). NameIn ws base last z.0) e (low base x.0 q.0, high x.0 last q.1)
      by (inr d) = absurd (none y d)

  -- what an entry of this block brings
  abbrev fine : Operand × BlockId → Bool
  fine e = not (e.1.0 == n) || in_range e.0

  entries-fine : (k to : ℕ) → list_all fine (entries ws k (jumps_to to r.parts)) ≡ true
  entries-fine k to = entries-pass fine ws r k to (λ m q i j a. by m q i j a (m == n) refl)
    where
      or-true : (b : Bool) → (b || true) ≡ true
      or-true true = refl
      or-true false = refl

      by : (m : ℕ) (q : Part) → slice_get r.parts m ≡ Some q → (j : Jump) → Among (jumps q.tail) j → (c : Bool) → (m == n) ≡ c → (not c || in_range (operand_of ws (argument k j))) ≡ true
      by m q i j a false e = refl
      by m q i j a true e =
          let same : q ≡ p = some-same (sym i ∙ ap (slice_get r.parts) (same-numbers m n e) ∙ is_part) in
          let mine : Among (jumps p.tail) j = subst (λ (q : Part). Among (jumps q.tail) j) same a in
          range-of (operand_of ws (argument k j)) (val-last (argument k j) (index-passes (is_within (part_gives p)) j.args k (jump-args-pass (is_within (part_gives p)) p.tail j within.1 mine) refl))

  entries-in : (es : List (Operand × BlockId)) (y : LocalId) → list_all fine es ≡ true → Contains (entries_read (block_number n) es) y → NameIn ws base last y.0
  entries-in [] y h c = absurd (none y c)
  entries-in (e ∷ es) y h c =
      let q = and_parts (fine e) (list_all fine es) h in
      by (e.1.0 == n) q.0 c (λ d. entries-in es y q.1 d)
    where
      split : (a : List LocalId) → Contains (a ++ entries_read (block_number n) es) y → (Contains a y → NameIn ws base last y.0) → (Contains (entries_read (block_number n) es) y → NameIn ws base last y.0) → NameIn ws base last y.0
      split a c f g = at (Contains-append_cases a (entries_read (block_number n) es) y c)
        where
          at : Contains a y ⊎ Contains (entries_read (block_number n) es) y → NameIn ws base last y.0
          at (inl d) = f d
          at (inr d) = g d

      by : (z : Bool) → (not z || in_range e.0) ≡ true → Contains ((if z then reads e.0 else []) ++ entries_read (block_number n) es) y → (Contains (entries_read (block_number n) es) y → NameIn ws base last y.0) → NameIn ws base last y.0
      by true h c ih = split (reads e.0) c (λ d. read-range e.0 y h d) ih
      by false h c ih = ih c

  pub phis-in : (to q i : ℕ) (params : List (Dyn × Width)) (y : LocalId) → Contains (flat_map (λ (x : Phi). entries_read (block_number n) x.entries) (print_phis ws (jumps_to to r.parts) q i params)) y → NameIn ws base last y.0
  phis-in to q i [] y c = absurd (none y c)
  phis-in to q i (x ∷ params) y c = at (Contains-append_cases (entries_read (block_number n) (entries ws i (jumps_to to r.parts))) _ y c) (λ d. phis-in to (suc q) (suc i) params y d)
    where
      at : Contains (entries_read (block_number n) (entries ws i (jumps_to to r.parts))) y ⊎ Contains (flat_map (λ (x : Phi). entries_read (block_number n) x.entries) (print_phis ws (jumps_to to r.parts) (suc q) (suc i) params)) y → (Contains (flat_map (λ (x : Phi). entries_read (block_number n) x.entries) (print_phis ws (jumps_to to r.parts) (suc q) (suc i) params)) y → NameIn ws base last y.0) → NameIn ws base last y.0
      at (inl d) ih = entries-in (entries ws i (jumps_to to r.parts)) y (entries-fine i to) d
      at (inr d) ih = ih d

  -- the tail reads names of the part
  pub tail-reads : (y : LocalId) → Contains (flat_map reads (term_operands (print_tail ws p.tail))) y → NameIn ws base last y.0
  tail-reads y c = contains-in ws base last (term_operands (print_tail ws p.tail)) y (tail-in p.tail within.0) c

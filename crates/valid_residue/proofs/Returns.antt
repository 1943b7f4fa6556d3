-- Without `returns` a lowered program has one return at most.
use Rattle.std.proofs.Common.{◌≡◌, ℕ, suc, ◌+◌, ◌<◌, ◌≤◌, Bool, true, false, Option, None, Some, List, [], ◌∷◌, ◌++◌, length, slice_get, refl, sym, ap, ◌∙◌, subst, arith}
use Rattle.std.proofs.lemmas.Bool.{ltb-false, ltb-true}
use Rattle.std.proofs.lemmas.List.{length-map}
use Rattle.std.specs.Prelude.{if◌then◌else◌, nat_lt, ◌||◌}
use Rattle.ir_values.specs.declared.int.Width.{Width}
use Rattle.ir_values.specs.declared.ty.Ty.{Ty}
use Rattle.kept_items.specs.declared.item.Choice.{Choice}
use Rattle.kept_items.specs.declared.item.Choice.TheVariants.{One, Branch, Switch}
use Rattle.kept_items.specs.declared.item.Code.{Code}
use Rattle.kept_items.specs.declared.target.Target.{Target}
use Rattle.kept_items.specs.declared.val.Dyn.{Dyn}
use Rattle.kept_items.specs.Targets.{has_returns}
use Rattle.residue.specs.declared.parts.Line.{Line}
use Rattle.residue.specs.declared.parts.Part.{Part}
use Rattle.residue.specs.declared.parts.Tail.{Tail}
use Rattle.residue.specs.Valid.{count_returns, returns}
use Rattle.static_steps.specs.declared.turn.Move.{Move}
use Rattle.fused_parts.specs.declared.numbers.Numbers.{Numbers}
use Rattle.fused_parts.specs.Nodes.{Links, Node, joins, widths_of}
use Rattle.fused_parts.specs.Parts.{Rest, after, choice_tail, exit_tail, joined, lines_of, next_numbers, no_numbers, outcome_tail, parts_of, rest_from, shared_part, tail_of, whole, with_widths}
use Rattle.fused_parts.specs.Ranks.{part_number}
use Rattle.lowered_program.specs.Residues.{count_exits, exits, shared_exit}
use Rattle.unroller.specs.declared.node.Outcome.{Outcome}
use Rattle.unroller.specs.declared.node.Outcome.TheVariants as outcome
use Rattle.unroller.specs.Programs.{Program}
use Rattle.valid_steps.specs.Items.{IsChoice}
use Rattle.valid_steps.specs.Types.{dynamic_types}
use Rattle.valid_residue.proofs.Nodes.{IsKnown, goes-from}

returns-apart : (ps qs : List Part) → count_returns (ps ++ qs) ≡ count_returns ps + count_returns qs
returns-apart [] qs = omega arith
returns-apart (p ∷ ps) qs = let ih = returns-apart ps qs in omega (arith, ih)

-- so much over a list
abbrev total : (Node → ℕ) → List Node → ℕ
total f [] = 0
total f (x ∷ xs) = f x + total f xs

module _ (part_of : ℕ → ℕ) (mine : List Dyn) (t : Target) (ts : List (Option Ty)) where
  -- one that goes on doesn't return
  choice-returns : (c : Choice) (links : Links) → IsChoice t ts (length links) c → returns (choice_tail part_of mine c links) ≡ 0
  choice-returns One [] h = absurd (omega (arith, h))
  choice-returns One (l ∷ links) h = refl
  choice-returns (Branch d) [] h = let e = h.0 in absurd (omega (arith, e))
  choice-returns (Branch d) (l ∷ []) h = let e = h.0 in absurd (omega (arith, e))
  choice-returns (Branch d) (l ∷ k ∷ links) h = refl
  choice-returns (Switch d w is) links h = refl

module _ (p : Program) (nodes : List Node) (part_of : ℕ → ℕ) (shared : Option ℕ) where
  -- how many returns an outcome may have
  abbrev allowed : Option ℕ → Node → ℕ
  allowed None x = exits x.item
  allowed (Some n) x = 0

  exit-returns : (o : Option ℕ) (x : Node) (mine : List Dyn) (c : Code) → x.item ≡ outcome.Exits c → returns (exit_tail o mine c) ≤ allowed o x
  exit-returns None x mine c e = let n = ap exits e in omega (arith, n)
  exit-returns (Some k) x mine c e = omega arith

  by-outcome : (x : Node) (n : Numbers) (o : Outcome) → x.item ≡ o → IsKnown p nodes x → returns (outcome_tail part_of shared (after x n).mine o x.links) ≤ allowed shared x
  by-outcome x n (outcome.Goes i c) e h =
      let g = goes-from p nodes x i c h e in
      let many : length g.moves ≡ length x.links = sym (g.links.number ∙ length-map g.moves (λ (mv : Move). mv.to)) in
      let z = choice-returns part_of (after x n).mine p.target (dynamic_types p.m x.node) c x.links (subst (λ k. IsChoice p.target (dynamic_types p.m x.node) k c) many g.turn.choice_fits) in
      omega (arith, z)
  by-outcome x n (outcome.Exits c) e h = exit-returns shared x (after x n).mine c e

  tail-returns : (x : Node) (n : Numbers) → IsKnown p nodes x → returns (tail_of part_of shared x n) ≤ allowed shared x
  tail-returns x n h = by-outcome x n x.item refl h

  abbrev many : Rest → ℕ
  many r = returns r.tail + count_returns r.parts

  joined-returns : (b : Bool) (ls : List Line) (t : Tail) (params : List (Dyn × Width)) (r : Rest) → many (joined b ls t params r) ≤ returns t + many r
  joined-returns true ls t params r = omega arith
  joined-returns false ls t params r = omega arith

  abbrev AllKnown : List Node → Type 0
  AllKnown xs = (i : ℕ) (x : Node) → slice_get xs i ≡ Some x → IsKnown p nodes x

  rest-returns : (x : Node) (xs : List Node) (bs : List Bool) (n : Numbers) → AllKnown (x ∷ xs) → many (rest_from p.m nodes part_of shared (x ∷ xs) bs n) ≤ total (allowed shared) (x ∷ xs)
  rest-returns x [] bs n h = let a = tail-returns x n (h 0 x refl) in omega (arith, a)
  rest-returns x (y ∷ xs) [] n h = let a = tail-returns x n (h 0 x refl) in omega (arith, a)
  rest-returns x (y ∷ xs) (b ∷ bs) n h =
      let k : Numbers = next_numbers x b y n in
      let a = tail-returns x n (h 0 x refl) in
      let c = joined-returns b (lines_of nodes x n) (tail_of part_of shared x n) (with_widths k.mine (widths_of p.m y.node)) (rest_from p.m nodes part_of shared (y ∷ xs) bs k) in
      let ih = rest-returns y xs bs k (λ i z e. h (suc i) z e) in
      omega (arith, a, c, ih)

  few-returns : (xs : List Node) (bs : List Bool) → AllKnown xs → total (allowed shared) xs < 2 → many (rest_from p.m nodes part_of shared xs bs no_numbers) < 2
  few-returns [] bs h lt = omega arith
  few-returns (x ∷ xs) bs h lt = let a = rest-returns x xs bs no_numbers h in omega (arith, a, lt)

  some-returns : (xs : List Node) (bs : List Bool) → AllKnown xs → 0 < length xs → many (rest_from p.m nodes part_of shared xs bs no_numbers) ≤ total (allowed shared) xs
  some-returns [] bs h lt = absurd (omega (arith, lt))
  some-returns (x ∷ xs) bs h lt = rest-returns x xs bs no_numbers h

  total-alone : (xs : List Node) → total (allowed None) xs ≡ count_exits xs
  total-alone [] = refl
  total-alone (x ∷ xs) = ap (λ n. exits x.item + n) (total-alone xs)

  total-shared : (k : ℕ) (xs : List Node) → total (allowed (Some k)) xs ≡ 0
  total-shared k [] = refl
  total-shared k (x ∷ xs) = let ih = total-shared k xs in omega (arith, ih)

  pub one-return : (bs : List Bool) → AllKnown nodes → (shared ≡ None → count_exits nodes < 2) → ((k : ℕ) → shared ≡ Some k → 0 < length nodes) → count_returns (parts_of p.m part_of shared nodes bs) < 2
  one-return bs h alone some = by-shared shared refl
    where
      r : Rest
      r = rest_from p.m nodes part_of shared nodes bs no_numbers

      by-shared : (o : Option ℕ) → shared ≡ o → count_returns (parts_of p.m part_of shared nodes bs) < 2
      by-shared None e =
          let a = few-returns nodes bs h (let b = ap (λ o. total (allowed o) nodes) e in let c = total-alone nodes in let lt = alone e in omega (arith, b, c, lt)) in
          let d = returns-apart (whole r) (shared_part shared) in
          let f = ap (λ o. count_returns (shared_part o)) e in
          omega (arith, a, d, f)
      by-shared (Some k) e =
          let a = some-returns nodes bs h (some k e) in
          let b = ap (λ o. total (allowed o) nodes) e in
          let c = total-shared k nodes in
          let d = returns-apart (whole r) (shared_part shared) in
          let f = ap (λ o. count_returns (shared_part o)) e in
          omega (arith, a, b, c, d, f)

-- ---- the part that exits share

abbrev Shares : Bool → Bool → ℕ → Option ℕ
Shares returns few n = if returns || few then None else Some n

none-shared : (few : Bool) (n : ℕ) → Shares false few n ≡ None → few ≡ true
none-shared true n e = refl
none-shared false n e = cc

some-shared : (few : Bool) (n k : ℕ) → Shares false few n ≡ Some k → few ≡ false
some-shared true n k e = cc
some-shared false n k e = refl

exits-few : (xs : List Node) → count_exits xs ≤ length xs
exits-few [] = omega arith
exits-few (x ∷ xs) = let ih = exits-few xs in let a = by x.item in omega (arith, ih, a)
  where
    by : (o : Outcome) → exits o ≤ 1
    by (outcome.Goes i c) = omega arith
    by (outcome.Exits c) = omega arith

module _ (t : Target) (nodes : List Node) (off : has_returns t ≡ false) where
  shares : shared_exit t nodes ≡ Shares false (nat_lt (count_exits nodes) 2) (part_number (joins nodes) (length nodes))
  shares = ap (λ b. Shares b (nat_lt (count_exits nodes) 2) (part_number (joins nodes) (length nodes))) off

  pub alone-few : shared_exit t nodes ≡ None → count_exits nodes < 2
  alone-few e = ltb-true (count_exits nodes) 2 (none-shared (nat_lt (count_exits nodes) 2) (part_number (joins nodes) (length nodes)) (sym shares ∙ e))

  pub shared-some : (k : ℕ) → shared_exit t nodes ≡ Some k → 0 < length nodes
  shared-some k e =
      let le = ltb-false (count_exits nodes) 2 (some-shared (nat_lt (count_exits nodes) 2) (part_number (joins nodes) (length nodes)) k (sym shares ∙ e)) in
      let a = exits-few nodes in
      omega (arith, le, a)

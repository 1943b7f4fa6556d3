-- Each step of the printed module fits the types that it is written with.
use Rattle.std.proofs.Common.{◌≡◌, ℕ, ◌+◌, ◌<◌, Bool, true, false, ◌&&◌, not, Option, None, Some, List, [], ◌∷◌, ◌++◌, length, map, refl, sym, ap, ◌∙◌, arith, option_map}
use Rattle.std.proofs.lemmas.Bool.{and_from, and_parts}
use Rattle.std.proofs.lemmas.Option.{slice_get_within}
use Rattle.std.specs.List.{list_all, list_any}
use Rattle.std.specs.Prelude.{◌||◌, slice_get}
use Rattle.ir_module.specs.declared.tree.Function.{Function}
use Rattle.ir_module.specs.declared.tree.Operand.{Operand}
use Rattle.ir_module.specs.Numbered.{all_steps, type_passes}
use Rattle.ir_module.specs.Printable.{has_entry, int_fits, operand_fits, same_type, step_fits, typed_fits, value_type_fits}
use Rattle.ir_module.specs.Steps.{Step, PhiAt, InstAt, TermAt}
use Rattle.ir_values.specs.declared.ids.BlockId.{BlockId}
use Rattle.ir_values.specs.declared.int.Width.{Width}
use Rattle.ir_values.specs.declared.int.Width.TheVariants.{W1, W8, W16, W32, W64}
use Rattle.ir_values.specs.declared.name.Name.{Name}
use Rattle.ir_values.specs.declared.ty.Ty.{Ty}
use Rattle.ir_values.specs.declared.ty.Ty.TheVariants as ty
use Rattle.ir_values.specs.declared.value.Value.{Value}
use Rattle.ir_values.specs.declared.value.Value.TheVariants as value
use Rattle.ir_values.specs.Int.{IntValue}
use Rattle.ir_values.specs.Width.{bits_of}
use Rattle.kept_items.specs.declared.item.Item.{Item}
use Rattle.kept_items.specs.declared.item.Item.TheVariants as item
use Rattle.kept_items.specs.declared.target.Target.{Target}
use Rattle.kept_items.specs.declared.val.Dyn.{Dyn}
use Rattle.kept_items.specs.declared.val.Val.{Val}
use Rattle.kept_items.specs.declared.val.Val.TheVariants.{Known}
use Rattle.qir_meaning.specs.Moves.{entry_for}
use Rattle.residue.specs.declared.parts.Jump.{Jump}
use Rattle.residue.specs.declared.parts.Part.{Part}
use Rattle.residue.specs.declared.parts.Residue.{Residue}
use Rattle.residue.specs.declared.parts.Tail.{Tail}
use Rattle.residue.specs.declared.parts.Tail.TheVariants as tail
use Rattle.residue.specs.Functions.{all_items, is_constant}
use Rattle.residue.specs.Instructions.{Words, block_number, call_void, instructions, local, names_of_item, operand_of, print_tail, read_into, reads, side_operand, typed_operand}
use Rattle.residue.specs.Printed.{argument, edges_to, entries, names_of, printed, printed_entry, words}
use Rattle.residue.specs.Scopes.{gives_of, item_uses, jump_args, jumps, tail_uses}
use Rattle.residue.specs.Valid.{Valid, all_agree, all_tails, fits_part, is_constant_result, item_compares, tail_compares}
use Rattle.printed_residue.specs.Places.{names_before}
use Rattle.printed_residue.proofs.Declared.{Among}
use Rattle.printed_residue.proofs.Edges.{edge-entry}
use Rattle.printed_residue.proofs.Facts.{passes-here, passes-piece}
use Rattle.printed_residue.proofs.Looks.{same-itself}
use Rattle.printed_residue.proofs.Naming.{equal-names}
use Rattle.numbered_residue.proofs.Forms.{args-of-written, equal-passes, first-passes, index-passes, item-uses-pass, jump-args-pass, second-passes, tail-uses-pass, third-passes}
use Rattle.numbered_residue.proofs.Passing.{all-steps, entry-passes}
use Rattle.typed_residue.proofs.Edges.{entries-there-pass}
use Rattle.typed_residue.proofs.Placed.{equal-are, placed, placed-among, type_at}
use Rattle.typed_residue.proofs.Types.{arg-typed, fits-there, param-type}
use Rattle.printable_residue.specs.Pieces.{HasPrintablePieces}
use Rattle.printable_values.specs.Values.{val_prints}
use Rattle.printable_residue.proofs.Values.{all-good, good, good-integer, good-prints, good-typed, integer-fits, ints-are-values, within}

-- the type of a local name passes a test that its type passes
type-by : (test : Ty → Bool) (o : Option (Name × Ty)) (u : Ty) → option_map (λ l. l.1) o ≡ Some u → test u ≡ true → type_passes test o ≡ true
type-by test None u e h = refl
type-by test (Some l) u e h = let z : l.1 ≡ u = cc in ap test z ∙ h

one-type : (w : Width) → same_type (ty.Int w) (ty.Int w) ≡ true
one-type W1 = refl
one-type W8 = refl
one-type W16 = refl
one-type W32 = refl
one-type W64 = refl

some-entry : (es : List (Operand × BlockId)) (b : BlockId) (o : Operand) → entry_for es b ≡ Some o → has_entry es ≡ true
some-entry [] b o e = cc
some-entry (x ∷ es) b o e = refl

not-true : (b : Bool) → not b ≡ true → b ≡ false
not-true true h = cc
not-true false h = refl

neither : (a b : Bool) → (a || b) ≡ false → (a ≡ false) × (b ≡ false)
neither true b h = cc
neither false b h = (refl, h)

-- what isn't one or zero
constant-is : (v : Value) → is_constant_result (Known v) ≡ is_constant v
constant-is value.One = refl
constant-is value.Zero = refl
constant-is v = refl

module _ (r : Residue) (t : Target) (ok : Valid r t) (pieces : HasPrintablePieces r) where
  abbrev f : Function
  f = printed_entry r t

  abbrev ws : Words
  ws = words r

  abbrev fits : Step → Bool
  fits s = step_fits f s

  abbrev fine : Ty × Val → Bool
  fine a = good r t ok pieces a

  integer : (w : Width) (a : Val) → fine (ty.Int w, a) ≡ true → operand_fits (ty.Int w) (operand_of ws a) ≡ true
  integer w a h = good-integer r t ok pieces w a h

  -- ---- results

  abbrev IsAt : ℕ → Width → Type 0
  IsAt i w = type_at f.locals i ≡ Some (ty.Int w)

  result-fits : (i : ℕ) (w : Width) → IsAt i w → type_passes (same_type (ty.Int w)) (slice_get f.locals i) ≡ true
  result-fits i w e = type-by (same_type (ty.Int w)) (slice_get f.locals i) (ty.Int w) e (one-type w)

  own-fits : (pre : List (Option ℕ × Ty)) (d : Option ℕ) (w : Width) (post : List (Option ℕ × Ty)) → names_of r.parts ≡ pre ++ ((d, ty.Int w) ∷ post) → type_passes (same_type (ty.Int w)) (slice_get f.locals (length pre)) ≡ true
  own-fits pre d w post e = result-fits (length pre) w (placed (names_of r.parts) pre (d, ty.Int w) post e)

  -- ---- instructions

  args-fit : (args : List (Ty × Val)) → list_all fine args ≡ true → list_any (λ a. is_constant_result a.1) args ≡ false → list_all typed_fits (map (typed_operand ws) args) ≡ true
  args-fit [] h c = refl
  args-fit (a ∷ args) h c =
      let p = and_parts (fine a) (list_all fine args) h in
      let q = neither (is_constant_result a.1) (list_any (λ a. is_constant_result a.1) args) c in
      and_from (typed_fits (typed_operand ws a)) (list_all typed_fits (map (typed_operand ws) args)) (good-typed r t ok pieces a.0 a.1 p.0 q.0) (args-fit args p.1 q.1)

  void-fits : (name : List ℕ) (args : List (Ty × Val)) → list_all fine args ≡ true → list_any (λ a. is_constant_result a.1) args ≡ false → fits (InstAt (call_void ws name args)) ≡ true
  void-fits name args h c = ap (λ b. b && true) (args-fit args h c)

  read-fits : (i : ℕ) (v : Value) → fine (ty.Res, Known v) ≡ true → is_constant v ≡ false → IsAt i W1 → fits (InstAt (read_into ws i v)) ≡ true
  read-fits i v h c e =
      and_from (typed_fits (ty.Res, operand_of ws (Known v)) && true) (type_passes (same_type (ty.Int W1)) (slice_get f.locals i))
      (ap (λ b. b && true) (good-typed r t ok pieces ty.Res (Known v) h (constant-is v ∙ c))) (result-fits i W1 e)

  side-fits : (n : ℕ) (v : Value) → operand_fits (ty.Int W1) (side_operand n v) ≡ true
  side-fits n value.One = refl
  side-fits n value.Zero = refl
  side-fits n v = refl

  -- a binary instruction or a comparison: two integers of one width, and a result
  two-fit : (w : Width) (a b : Val) (result : Bool) → fine (ty.Int w, a) ≡ true → fine (ty.Int w, b) ≡ true → result ≡ true
      → (((operand_fits (ty.Int w) (operand_of ws a) && operand_fits (ty.Int w) (operand_of ws b)) && result) && true) ≡ true
  two-fit w a b result h g e =
      ap (λ s. s && true) (and_from (operand_fits (ty.Int w) (operand_of ws a) && operand_fits (ty.Int w) (operand_of ws b)) result (and_from (operand_fits (ty.Int w) (operand_of ws a)) (operand_fits (ty.Int w) (operand_of ws b)) (integer w a h) (integer w b g)) e)

  item-fits : (x : Item) → list_all fine (item_uses x) ≡ true → item_compares x ≡ true → (pre post : List (Option ℕ × Ty)) → names_of r.parts ≡ pre ++ (names_of_item x ++ post) → list_all (λ i. fits (InstAt i)) (instructions ws (length pre) x) ≡ true
  item-fits (item.Binary d o g w a b) h c pre post e =
      two-fit w a b (type_passes (same_type (ty.Int w)) (slice_get f.locals (length pre))) (first-passes fine (ty.Int w, a) ((ty.Int w, b) ∷ []) h) (second-passes fine (ty.Int w, a) (ty.Int w, b) [] h) (own-fits pre (Some d.0) w post e)
  item-fits (item.Icmp d o w a b) h c pre post e =
      two-fit w a b (type_passes (same_type (ty.Int W1)) (slice_get f.locals (length pre))) (first-passes fine (ty.Int w, a) ((ty.Int w, b) ∷ []) h) (second-passes fine (ty.Int w, a) (ty.Int w, b) [] h) (own-fits pre (Some d.0) W1 post e)
  item-fits (item.Convert d o w a to) h c pre post e =
      ap (λ s. s && true) (and_from (operand_fits (ty.Int w) (operand_of ws a) && true) (type_passes (same_type (ty.Int to)) (slice_get f.locals (length pre)))
      (ap (λ s. s && true) (integer w a (first-passes fine (ty.Int w, a) [] h))) (own-fits pre (Some d.0) to post e))
  item-fits (item.Select d w k a b) h c pre post e =
      ap (λ s. s && true) (and_from (operand_fits (ty.Int W1) (operand_of ws k) && (operand_fits (ty.Int w) (operand_of ws a) && operand_fits (ty.Int w) (operand_of ws b))) (type_passes (same_type (ty.Int w)) (slice_get f.locals (length pre)))
      (and_from (operand_fits (ty.Int W1) (operand_of ws k)) (operand_fits (ty.Int w) (operand_of ws a) && operand_fits (ty.Int w) (operand_of ws b))
      (integer W1 k (first-passes fine (ty.Int W1, k) ((ty.Int w, a) ∷ (ty.Int w, b) ∷ []) h))
      (and_from (operand_fits (ty.Int w) (operand_of ws a)) (operand_fits (ty.Int w) (operand_of ws b))
      (integer w a (second-passes fine (ty.Int W1, k) (ty.Int w, a) ((ty.Int w, b) ∷ []) h))
      (integer w b (third-passes fine (ty.Int W1, k) (ty.Int w, a) (ty.Int w, b) [] h))))
      (own-fits pre (Some d.0) w post e))
  item-fits (item.Read d v) h c pre post e =
      let n = neither (is_constant_result (Known v)) false (not-true (is_constant_result (Known v) || false) c) in
      ap (λ s. s && true) (read-fits (length pre) v (first-passes fine (ty.Res, Known v) [] h) (sym (constant-is v) ∙ n.0) (placed (names_of r.parts) pre (Some d.0, ty.Int W1) post e))
  item-fits (item.Equal d v u) h c pre post e =
      equal-passes (λ i. fits (InstAt i)) ws (length pre) d v u
      (λ z. read-fits (length pre) v (first-passes fine (ty.Res, Known v) ((ty.Res, Known u) ∷ []) h) z first)
      (λ z. read-fits (length pre + reads v) u (second-passes fine (ty.Res, Known v) (ty.Res, Known u) [] h) z second)
      (and_from (operand_fits (ty.Int W1) (side_operand (length pre) v) && operand_fits (ty.Int W1) (side_operand (length pre + reads v) u)) (type_passes (same_type (ty.Int W1)) (slice_get f.locals (length pre + reads v + reads u)))
      (and_from (operand_fits (ty.Int W1) (side_operand (length pre) v)) (operand_fits (ty.Int W1) (side_operand (length pre + reads v) u)) (side-fits (length pre) v) (side-fits (length pre + reads v) u))
      (result-fits (length pre + reads v + reads u) W1 third))
    where
      at : (i : ℕ) → i < length (names_of_item (item.Equal d v u)) → IsAt (length pre + i) W1
      at i lt = placed-among (names_of r.parts) pre (names_of_item (item.Equal d v u)) post (ty.Int W1) i e (equal-are d v u) lt

      first : IsAt (length pre) W1
      first = ap (type_at f.locals) (let z : length pre ≡ length pre + 0 = omega arith in z) ∙ at 0 (let n = equal-names d v u in omega (arith, n))

      second : IsAt (length pre + reads v) W1
      second = at (reads v) (let n = equal-names d v u in omega (arith, n))

      third : IsAt (length pre + reads v + reads u) W1
      third = ap (type_at f.locals) (let z : length pre + reads v + reads u ≡ length pre + (reads v + reads u) = omega arith in z) ∙ at (reads v + reads u) (let n = equal-names d v u in omega (arith, n))
  item-fits (item.Operation name args) h c pre post e = ap (λ s. s && true) (void-fits name args h (not-true (list_any (λ a. is_constant_result a.1) args) c))
  item-fits (item.Output k args) h c pre post e = ap (λ s. s && true) (ap (λ b. b && true) (args-fit args h (not-true (list_any (λ a. is_constant_result a.1) args) c)))

  -- ---- terminators

  cases-fit : (w : Width) (cases : List (IntValue × Jump)) → list_all fine (map (λ (c : IntValue × Jump). (ty.Int w, Known (value.Int c.0))) cases) ≡ true
      → list_all (λ (c : IntValue × BlockId). int_fits c.0.width c.0) (map (λ (c : IntValue × Jump). (c.0, block_number c.1.to)) cases) ≡ true
  cases-fit w [] h = refl
  cases-fit w (c ∷ cases) h =
      let p = and_parts (fine (ty.Int w, Known (value.Int c.0))) (list_all fine (map (λ (c : IntValue × Jump). (ty.Int w, Known (value.Int c.0))) cases)) h in
      and_from (int_fits c.0.width c.0) (list_all (λ (c : IntValue × BlockId). int_fits c.0.width c.0) (map (λ (c : IntValue × Jump). (c.0, block_number c.1.to)) cases))
      (within c.0 c.0.width (same-itself (bits_of c.0.width)) (good-prints r t ok pieces (ty.Int w) (Known (value.Int c.0)) p.0)) (cases-fit w cases p.1)

  tail-fits : (x : Tail) → list_all fine (tail_uses x) ≡ true → fits (TermAt (print_tail ws x)) ≡ true
  tail-fits (tail.Jump j) h = refl
  tail-fits (tail.Branch a j i) h = integer W1 a (first-passes fine (ty.Int W1, a) [] h)
  tail-fits (tail.Switch w a j cases) h =
      let p = and_parts (fine (ty.Int w, a)) (list_all fine (map (λ (c : IntValue × Jump). (ty.Int w, Known (value.Int c.0))) cases)) h in
      and_from (operand_fits (ty.Int w) (operand_of ws a)) (list_all (λ (c : IntValue × BlockId). int_fits c.0.width c.0) (map (λ (c : IntValue × Jump). (c.0, block_number c.1.to)) cases)) (integer w a p.0) (cases-fit w cases p.1)
  tail-fits (tail.Return a) h = integer W64 a (first-passes fine (ty.Int W64, a) [] h)

  -- ---- phis

  -- the arguments of the jumps of a part can be printed
  argument-prints : (n : ℕ) (p : Part) (j : Jump) (k : ℕ) → slice_get r.parts n ≡ Some p → Among (jumps p.tail) j → val_prints (argument k j) ≡ true
  argument-prints n p j k s a =
      index-passes val_prints j.args k (jump-args-pass val_prints p.tail j (passes-piece val_prints (λ p. jump_args p.tail) r.parts n p (args-of-written val_prints r pieces.values) s) a) refl

  phi-entry : (n : ℕ) (p : Part) (k : ℕ) → slice_get r.parts n ≡ Some p → k < length p.params → has_entry (entries ws k (edges_to n r.parts)) ≡ true
  phi-entry n p k s lt =
      let j = pieces.reached n p s (omega (arith, lt)) in
      let agree = passes-here (λ p. all_agree (jumps p.tail)) r.parts j.from j.part (and_parts (all_tails (λ t. list_all (λ j. fits_part (gives_of r) (slice_get r.parts j.to) j.args) (jumps t)) r) (all_tails (λ t. all_agree (jumps t)) r) ok.jumps).1 j.is in
      ap (λ m. has_entry (entries ws k (edges_to m r.parts))) (sym j.leads)
      ∙ some-entry (entries ws k (edges_to j.jump.to r.parts)) (block_number j.from) (operand_of ws (argument k j.jump)) (edge-entry ws k r.parts j.from j.part j.place j.jump j.is j.stands agree)

  phi-fits : (n : ℕ) (p : Part) → slice_get r.parts n ≡ Some p → (k : ℕ) (x : Dyn × Width) → slice_get p.params k ≡ Some x → fits (PhiAt (record { result = local (names_before r n + k); entries = entries ws k (edges_to n r.parts) })) ≡ true
  phi-fits n p s k x g =
      and_from (has_entry (entries ws k (edges_to n r.parts))) (type_passes (λ u. value_type_fits u && list_all (λ e. operand_fits u e.0) (entries ws k (edges_to n r.parts))) (slice_get f.locals (names_before r n + k)))
      (phi-entry n p k s (slice_get_within p.params k x g))
      (type-by (λ u. value_type_fits u && list_all (λ e. operand_fits u e.0) (entries ws k (edges_to n r.parts))) (slice_get f.locals (names_before r n + k)) (ty.Int x.1) (param-type r t ok n p s k x g)
      (and_from (value_type_fits (ty.Int x.1)) (list_all (λ e. operand_fits (ty.Int x.1) e.0) (entries ws k (edges_to n r.parts))) (ints-are-values x.1)
      (entries-there-pass (λ e. operand_fits (ty.Int x.1) e.0) ws r k n (λ q i j u a z.
      integer-fits r t ok pieces x.1 (argument k j) (arg-typed r t ok p.params j.args k x (fits-there r t ok n p s q i j u a z) g) (argument-prints q i j k u a)))))

  -- ---- all

  pub steps-fit : all_steps step_fits (printed r t) ≡ true
  steps-fit = all-steps step_fits r t (entry-passes r t fits ok (record {
    start = refl;
    item = λ x a pre post e. item-fits x (item-uses-pass fine r x (all-good r t ok pieces) a) (passes-here item_compares (all_items r) a.0 x (and_parts (list_all item_compares (all_items r)) (all_tails tail_compares r) ok.constants).0 a.1) pre post e;
    tail = λ n p s. tail-fits p.tail (tail-uses-pass fine r n p (all-good r t ok pieces) s);
    phi = λ z n p s k x g. phi-fits n p s k x g;
    leads = λ e n lt. refl;
  }))

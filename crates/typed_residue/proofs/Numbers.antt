-- The required numbers of the printed module, and the numbers below them.
use Rattle.std.proofs.Common.{◌≡◌, ℕ, zero, suc, ◌+◌, ◌%◌, ◌^◌, ◌<◌, ◌≤◌, Bool, true, false, ◌&&◌, not, None, Some, List, [], ◌∷◌, length, map, get_or, refl, sym, ap, ◌∙◌, arith}
use Rattle.std.proofs.lemmas.Bool.{and_parts}
use Rattle.std.proofs.lemmas.Fmt.{decimal_by_steps, decimal_digit, decimal_is_IsNumeral, decimal_nonempty, first_decimal}
use Rattle.std.proofs.lemmas.List.Folds.{list_all-append}
use Rattle.std.specs.Char.{is_ascii_digit}
use Rattle.std.specs.List.{list_all}
use Rattle.std.specs.Prelude.{◌||◌, ◌==◌, if◌then◌else◌, decimal, is_some, min, nat_le, slice_get, unwrap_or}
use Rattle.ir_module.specs.declared.places.Point.{Point}
use Rattle.ir_module.specs.declared.places.Spot.{Spot}
use Rattle.ir_module.specs.declared.places.Spot.TheVariants as spot
use Rattle.ir_module.specs.declared.tree.Function.{Function}
use Rattle.ir_module.specs.declared.tree.Module.{Module}
use Rattle.ir_module.specs.declared.tree.Operand.{Operand}
use Rattle.ir_module.specs.Entry.{entry_of}
use Rattle.ir_module.specs.Numbered.{all_steps}
use Rattle.ir_module.specs.Steps.{Step, PhiAt, InstAt, TermAt}
use Rattle.ir_values.specs.declared.ids.BlockId.{BlockId}
use Rattle.ir_values.specs.declared.int.Width.{Width}
use Rattle.ir_values.specs.declared.ty.Ty.{Ty}
use Rattle.ir_values.specs.declared.ty.Ty.TheVariants as ty
use Rattle.ir_values.specs.declared.value.Value.{Value}
use Rattle.ir_values.specs.declared.value.Value.TheVariants as value
use Rattle.kept_items.specs.declared.item.Item.{Item}
use Rattle.kept_items.specs.declared.item.Item.TheVariants as item
use Rattle.kept_items.specs.declared.target.Target.{Target}
use Rattle.kept_items.specs.declared.val.Dyn.{Dyn}
use Rattle.kept_items.specs.declared.val.Val.{Val}
use Rattle.kept_items.specs.declared.val.Val.TheVariants.{Known}
use Rattle.residue.specs.declared.parts.Part.{Part}
use Rattle.residue.specs.declared.parts.Residue.{Residue}
use Rattle.residue.specs.declared.parts.Tail.{Tail}
use Rattle.residue.specs.declared.parts.Tail.TheVariants as tail
use Rattle.residue.specs.Functions.{Called, declaration}
use Rattle.residue.specs.Instructions.{Words, instructions, local, operand_of, print_tail, read_into, reads, typed_operand}
use Rattle.residue.specs.Printed.{edges_to, entries, printed, printed_entry, words}
use Rattle.residue.specs.Scopes.{gives_of, item_uses, uses_of}
use Rattle.residue.specs.Valid.{Valid, handle_below, val_has}
use Rattle.type_check.specs.declared.code.TypeCode.TheVariants as code
use Rattle.type_check.specs.Faults.{at_function, at_step, keeps_rule, where_entry}
use Rattle.type_check.specs.Required.{is_plain, numbers_are_plain, one_above, plain_number, qubit_numbers, qubits_key, required_qubits, required_results, result_numbers, results_key, stated, written}
use Rattle.type_check.specs.Rules.{number_below, numbers_below}
use Rattle.type_check.specs.Typing.{phi_wants, wants}
use Rattle.printed_residue.specs.Places.{names_before}
use Rattle.printed_residue.proofs.Ends.{entry-is}
use Rattle.printed_residue.proofs.Looks.{differ}
use Rattle.numbered_residue.proofs.Forms.{equal-passes, first-passes, item-uses-pass, second-passes}
use Rattle.numbered_residue.proofs.Passing.{all-map, all-steps, entry-passes}
use Rattle.typed_residue.specs.Laws.{FitsLimit}
use Rattle.typed_residue.proofs.Edges.{entries-there-pass}
use Rattle.typed_residue.proofs.Rules.{at-spot, functions-pass}
use Rattle.typed_residue.proofs.Types.{param-type}
use Rattle.numbered_residue.proofs.Shared.{below, both, less}

-- ---- what `decimal` writes is plain

digit-is : (n : ℕ) → n < 10 → is_ascii_digit (48 + n) ≡ true
digit-is n lt = grind arith

all-digits : (n : ℕ) → n < 2 ^ 64 → list_all is_ascii_digit (decimal n) ≡ true
all-digits n lt = decimal_by_steps (λ n ds. list_all is_ascii_digit ds ≡ true) (λ n l. ap (λ b. b && true) (digit-is n l)) (λ n ds l h. list_all-append is_ascii_digit ds ((48 + n % 10) ∷ []) ∙ both (list_all is_ascii_digit ds) (is_ascii_digit (48 + n % 10) && true) h (ap (λ b. b && true) (digit-is (n % 10) (small n)))) n lt
  where
    small : (n : ℕ) → n % 10 < 10
    small n = grind arith

plain-by : (ds : List ℕ) → 0 < length ds → 48 < get_or ds 0 0 → list_all is_ascii_digit ds ≡ true → is_plain ds ≡ true
plain-by [] h g a = absurd (omega (arith, h))
plain-by (c ∷ []) h g a = (and_parts (is_ascii_digit c) true a).0
plain-by (c ∷ d ∷ cs) h g a = both (not (c == 48)) (list_all is_ascii_digit (c ∷ d ∷ cs)) (ap not (differ c 48 (λ e. absurd (omega (arith, g, e))))) a

plain : (n : ℕ) → n < 2 ^ 64 → is_plain (decimal n) ≡ true
plain zero lt = ap is_plain (decimal_digit 0 (omega arith))
plain (suc n) lt = plain-by (decimal (suc n)) (decimal_nonempty (suc n) lt) (first_decimal (suc n) (omega arith) lt) (all-digits (suc n) lt)

at-most : (a b : ℕ) → a ≤ b → nat_le a b ≡ true
at-most a b h = grind arith

pub stated-number : (limit n : ℕ) → n < 2 ^ 64 → n ≤ limit → plain_number limit (decimal n) ≡ Some n
stated-number limit n lt le =
    let v = (decimal_is_IsNumeral n lt).1 in
    ap (λ k. if is_plain (decimal n) && nat_le k limit then Some k else None) v
    ∙ ap (λ b. if b && nat_le n limit then Some n else None) (plain n lt)
    ∙ ap (λ b. if true && b then Some n else None) (at-most n limit le)

module _ (r : Residue) (t : Target) (ok : Valid r t) (limit : ℕ) (fits : FitsLimit r limit) where
  abbrev m : Module
  m = printed r t

  abbrev f : Function
  f = printed_entry r t

  abbrev ws : Words
  ws = words r

  stated-qubits : stated qubits_key limit (entry_of m) ≡ Some r.all_qubits
  stated-qubits = ap (stated qubits_key limit) (entry-is r t) ∙ stated-number limit r.all_qubits fits.small_qubits fits.qubits

  stated-results : stated results_key limit (entry_of m) ≡ Some r.all_results
  stated-results = ap (stated results_key limit) (entry-is r t) ∙ stated-number limit r.all_results fits.small_results fits.results

  qubits-are : required_qubits m limit ≡ r.all_qubits
  unfolding required_qubits
  qubits-are = ap (λ o. unwrap_or o (min limit (one_above (written qubit_numbers m)))) stated-qubits

  results-are : required_results m limit ≡ r.all_results
  unfolding required_results
  results-are = ap (λ o. unwrap_or o (min limit (one_above (written result_numbers m)))) stated-results

  -- ---- the attributes state numbers

  states : where_entry (Some (record { number = 0; function = f })) (numbers_are_plain limit) 0 f ≡ true
  states = two-and (ap is_some (stated-number limit r.all_qubits fits.small_qubits fits.qubits)) (ap is_some (stated-number limit r.all_results fits.small_results fits.results))
    where
      two-and : {a b : Bool} → a ≡ true → b ≡ true → (false || (a && b)) ≡ true
      two-and {a} {b} h g = ap (λ x. false || (x && b)) h ∙ ap (λ x. false || (true && x)) g

  later : (n : ℕ) (c : Called) → where_entry (Some (record { number = 0; function = f })) (numbers_are_plain limit) (suc n) (declaration r.irreversible c) ≡ true
  later n c = ap (λ b. not b || numbers_are_plain limit (declaration r.irreversible c)) (differ (suc n) 0 (λ e. absurd (omega (arith, e))))

  pub stated-plain : (s : Spot) → keeps_rule m limit s code.BadNumberAttr ≡ true
  unfolding keeps_rule
  stated-plain s = ap (λ o. at_function m s (where_entry o (numbers_are_plain limit))) (entry-is r t) ∙ functions-pass r t ok (where_entry (Some (record { number = 0; function = f })) (numbers_are_plain limit)) states later s

  -- ---- numbers are below them

  abbrev under : Ty × Operand → Bool
  under w = number_below r.all_qubits r.all_results w

  value-under : (u : Ty) (a : Val) → val_has (gives_of r) u a ≡ true → handle_below r (u, a) ≡ true → under (u, operand_of ws a) ≡ true
  value-under ty.Qubit (Known (value.Id n)) k h = below n r.all_qubits (let a = less n r.own_qubits h in let b = fits.own_qubits in omega (arith, a, b))
  value-under ty.Qubit (Known (value.Alloc j)) k h = h
  value-under ty.Res (Known (value.Id n)) k h = below n r.all_results (let a = less n r.own_results h in let b = fits.own_results in omega (arith, a, b))
  value-under ty.Res (Known (value.Measured j)) k h = h
  value-under ty.Qubit (Known (value.Measured j)) k h = cc
  value-under ty.Res (Known (value.Alloc j)) k h = cc
  value-under u a k h = refl

  -- a value fits its type and is below
  abbrev good : Ty × Val → Bool
  good a = val_has (gives_of r) a.0 a.1 && handle_below r a

  all-good : list_all good (uses_of r) ≡ true
  all-good = join (uses_of r) ok.types fits.handles
    where
      join : (xs : List (Ty × Val)) → list_all (λ a. val_has (gives_of r) a.0 a.1) xs ≡ true → list_all (handle_below r) xs ≡ true → list_all good xs ≡ true
      join [] h g = refl
      join (x ∷ xs) h g =
          let p = and_parts (val_has (gives_of r) x.0 x.1) (list_all (λ a. val_has (gives_of r) a.0 a.1) xs) h in
          let q = and_parts (handle_below r x) (list_all (handle_below r) xs) g in
          both (good x) (list_all good xs) (both (val_has (gives_of r) x.0 x.1) (handle_below r x) p.0 q.0) (join xs p.1 q.1)

  is-under : (u : Ty) (a : Val) → good (u, a) ≡ true → under (u, operand_of ws a) ≡ true
  is-under u a h = let p = and_parts (val_has (gives_of r) u a) (handle_below r (u, a)) h in value-under u a p.0 p.1

  args-under : (args : List (Ty × Val)) → list_all good args ≡ true → list_all under (map (typed_operand ws) args) ≡ true
  args-under [] h = refl
  args-under (a ∷ args) h = let p = and_parts (good a) (list_all good args) h in both (under (a.0, operand_of ws a.1)) (list_all under (map (typed_operand ws) args)) (is-under a.0 a.1 p.0) (args-under args p.1)

  abbrev stays : Step → Bool
  stays s = list_all under (wants f s)

  read-under : (n : ℕ) (v : Value) → good (ty.Res, Known v) ≡ true → stays (InstAt (read_into ws n v)) ≡ true
  read-under n v h = ap (λ b. true && (b && true)) (is-under ty.Res (Known v) h)

  item-under : (x : Item) → list_all good (item_uses x) ≡ true → (n : ℕ) → list_all (λ i. stays (InstAt i)) (instructions ws n x) ≡ true
  item-under (item.Binary d o g w a b) h n = refl
  item-under (item.Icmp d o w a b) h n = refl
  item-under (item.Convert d o w a to) h n = refl
  item-under (item.Select d w c a b) h n = refl
  item-under (item.Read d v) h n = ap (λ s. s && true) (read-under n v (first-passes good (ty.Res, Known v) [] h))
  item-under (item.Equal d v u) h n =
      equal-passes (λ i. stays (InstAt i)) ws n d v u
      (λ z. read-under n v (first-passes good (ty.Res, Known v) ((ty.Res, Known u) ∷ []) h))
      (λ z. read-under (n + reads v) u (second-passes good (ty.Res, Known v) (ty.Res, Known u) [] h))
      refl
  item-under (item.Operation name args) h n = ap (λ b. (true && b) && true) (args-under args h)
  item-under (item.Output c args) h n = ap (λ b. (true && b) && true) (args-under args h)

  tail-under : (x : Tail) → stays (TermAt (print_tail ws x)) ≡ true
  tail-under (tail.Jump j) = refl
  tail-under (tail.Branch a j i) = refl
  tail-under (tail.Switch w a j cases) = refl
  tail-under (tail.Return a) = refl

  phi-under : (n : ℕ) (p : Part) → slice_get r.parts n ≡ Some p → (k : ℕ) (x : Dyn × Width) → slice_get p.params k ≡ Some x → stays (PhiAt (record { result = local (names_before r n + k); entries = entries ws k (edges_to n r.parts) })) ≡ true
  phi-under n p s k x g =
      ap (λ o. list_all under (phi_wants o (record { result = local (names_before r n + k); entries = entries ws k (edges_to n r.parts) }))) (param-type r t ok n p s k x g)
      ∙ all-map under (λ (e : Operand × BlockId). (ty.Int x.1, e.0)) (entries ws k (edges_to n r.parts)) (entries-there-pass (λ e. under (ty.Int x.1, e.0)) ws r k n (λ q i j u a z. refl))

  all-under : all_steps (λ g s. list_all under (wants g s)) m ≡ true
  all-under = all-steps (λ g s. list_all under (wants g s)) r t (entry-passes r t stays ok (record {
    start = refl;
    item = λ x a pre post e. item-under x (item-uses-pass good r x all-good a) (length pre);
    tail = λ n p s. tail-under p.tail;
    phi = λ z n p s k x g. phi-under n p s k x g;
    leads = λ e n lt. refl;
  }))

  under-by : (p : Point) → at_step m (spot.At p) (λ g p step. list_all under (wants g step)) ≡ at_step m (spot.At p) (λ g p step. numbers_below r.all_qubits r.all_results g step)
  unfolding numbers_below
  under-by p = refl

  at-point : (p : Point) → at_step m (spot.At p) (λ g p step. numbers_below r.all_qubits r.all_results g step) ≡ true
  at-point p = sym (under-by p) ∙ at-spot m (λ g s. list_all under (wants g s)) all-under (λ g. refl) (spot.At p)

  pub stays-below : (s : Spot) → keeps_rule m limit s code.IdRange ≡ true
  unfolding keeps_rule
  stays-below spot.Module = refl
  stays-below (spot.Func g) = refl
  stays-below (spot.At p) =
      ap (λ k. at_step m (spot.At p) (λ g p step. numbers_below k (required_results m limit) g step)) qubits-are
      ∙ ap (λ k. at_step m (spot.At p) (λ g p step. numbers_below r.all_qubits k g step)) results-are
      ∙ at-point p

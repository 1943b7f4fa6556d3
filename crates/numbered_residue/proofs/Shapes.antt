-- The parts of order that the forms of the printed instructions show: flags, integers, results, written values and types.
use Rattle.std.proofs.Common.{◌≡◌, ℕ, zero, suc, ◌+◌, Bool, true, false, ◌&&◌, not, Option, None, Some, List, [], ◌∷◌, ◌++◌, length, map, refl, ap, ◌∙◌}
use Rattle.std.proofs.lemmas.Bool.{and_parts}
use Rattle.std.specs.List.{list_all, list_any}
use Rattle.std.specs.Prelude.{◌||◌, if◌then◌else◌, slice_get}
use Rattle.ir_module.specs.declared.tree.Inst.{Inst}
use Rattle.ir_module.specs.declared.tree.Operand.TheVariants as operand
use Rattle.ir_module.specs.Numbered.{all_steps, calls_whole, flags_allowed, has_result, is_void, is_written, not_void, on_integers, type_passes}
use Rattle.ir_module.specs.Operands.{step_operands}
use Rattle.ir_module.specs.Steps.{Step, InstAt, TermAt}
use Rattle.ir_values.specs.declared.int.Width.{Width}
use Rattle.ir_values.specs.declared.int.Width.TheVariants.{W1, W64}
use Rattle.ir_values.specs.declared.name.Name.{Name}
use Rattle.ir_values.specs.declared.ty.Ty.{Ty}
use Rattle.ir_values.specs.declared.ty.Ty.TheVariants as ty
use Rattle.ir_values.specs.declared.value.Value.{Value}
use Rattle.ir_values.specs.declared.value.Value.TheVariants as value
use Rattle.ir_values.specs.Types.{is_ty}
use Rattle.kept_items.specs.declared.item.Item.{Item}
use Rattle.kept_items.specs.declared.item.Item.TheVariants as item
use Rattle.kept_items.specs.declared.target.Target.{Target}
use Rattle.kept_items.specs.declared.val.Dyn.{Dyn}
use Rattle.kept_items.specs.declared.val.Val.{Val}
use Rattle.kept_items.specs.declared.val.Val.TheVariants.{Known, Dynamic}
use Rattle.residue.specs.declared.parts.Part.{Part}
use Rattle.residue.specs.declared.parts.Residue.{Residue}
use Rattle.residue.specs.declared.parts.Tail.{Tail}
use Rattle.residue.specs.declared.parts.Tail.TheVariants as tail
use Rattle.residue.specs.Functions.{all_items, is_constant}
use Rattle.residue.specs.Instructions.{Words, instructions, names_of_item, named_value, operand_of, print_tail, read_into, reads, side_operand, typed_operand}
use Rattle.residue.specs.Printed.{argument, edges_to, entries, locals_from, names_of, names_of_items, names_of_params, names_of_part, printed, printed_entry, words}
use Rattle.residue.specs.Scopes.{gives_of, item_uses, items_of, jump_args, tail_uses}
use Rattle.residue.specs.Valid.{Valid, all_tails, is_constant_result, item_allowed, item_compares, tail_compares, val_has}
use Rattle.printed_residue.specs.Places.{names_before}
use Rattle.printed_residue.proofs.Declared.{fits}
use Rattle.printed_residue.proofs.Facts.{passes-here}
use Rattle.numbered_residue.proofs.Forms.{entries-pass, equal-passes, index-passes, item-uses-pass, jump-args-pass}
use Rattle.numbered_residue.proofs.Passing.{all-both, all-map, all-steps, entry-passes}
use Rattle.numbered_residue.proofs.Shared.{three, two}

-- what one side of a comparison is read into
abbrev side_names : Bool → List (Option ℕ × Ty)
side_names a = if a then [] else ((None, ty.Int W1) ∷ [])

module _ (r : Residue) (t : Target) (ok : Valid r t) where
  abbrev ws : Words
  ws = words r

  -- ---- flags

  flags-item : (x : Item) → item_allowed x ≡ true → (m : ℕ) → list_all (λ i. flags_allowed (InstAt i)) (instructions ws m x) ≡ true
  flags-item (item.Binary d o g w a b) h m = ap (λ s. s && true) h
  flags-item (item.Icmp d o w a b) h m = refl
  flags-item (item.Convert d o w a to) h m = refl
  flags-item (item.Select d w c a b) h m = refl
  flags-item (item.Read d v) h m = refl
  flags-item (item.Equal d v u) h m = equal-passes (λ i. flags_allowed (InstAt i)) ws m d v u (λ e. refl) (λ e. refl) refl
  flags-item (item.Operation name args) h m = refl
  flags-item (item.Output c args) h m = refl

  pub flags : all_steps (λ f s. flags_allowed s) (printed r t) ≡ true
  flags = all-steps (λ f s. flags_allowed s) r t (entry-passes r t flags_allowed ok (record {
    start = refl;
    item = λ x a pre post e. flags-item x (passes-here item_allowed (all_items r) a.0 x ok.allowed a.1) (length pre);
    tail = λ n p s. refl;
    phi = λ z n p s k x g. refl;
    leads = λ e n lt. refl;
  }))

  -- ---- integers

  integers-item : (x : Item) (m : ℕ) → list_all (λ i. on_integers (InstAt i)) (instructions ws m x) ≡ true
  integers-item (item.Binary d o g w a b) m = refl
  integers-item (item.Icmp d o w a b) m = refl
  integers-item (item.Convert d o w a to) m = refl
  integers-item (item.Select d w c a b) m = refl
  integers-item (item.Read d v) m = refl
  integers-item (item.Equal d v u) m = equal-passes (λ i. on_integers (InstAt i)) ws m d v u (λ e. refl) (λ e. refl) refl
  integers-item (item.Operation name args) m = refl
  integers-item (item.Output c args) m = refl

  integers-tail : (x : Tail) → on_integers (TermAt (print_tail ws x)) ≡ true
  integers-tail (tail.Jump j) = refl
  integers-tail (tail.Branch a j i) = refl
  integers-tail (tail.Switch w a j cases) = refl
  integers-tail (tail.Return a) = refl

  pub integers : all_steps (λ f s. on_integers s) (printed r t) ≡ true
  integers = all-steps (λ f s. on_integers s) r t (entry-passes r t on_integers ok (record {
    start = refl;
    item = λ x a pre post e. integers-item x (length pre);
    tail = λ n p s. integers-tail p.tail;
    phi = λ z n p s k x g. refl;
    leads = λ e n lt. refl;
  }))

  -- ---- results

  named-item : (x : Item) (m : ℕ) → list_all (λ i. has_result (InstAt i)) (instructions ws m x) ≡ true
  named-item (item.Binary d o g w a b) m = refl
  named-item (item.Icmp d o w a b) m = refl
  named-item (item.Convert d o w a to) m = refl
  named-item (item.Select d w c a b) m = refl
  named-item (item.Read d v) m = refl
  named-item (item.Equal d v u) m = equal-passes (λ i. has_result (InstAt i)) ws m d v u (λ e. refl) (λ e. refl) refl
  named-item (item.Operation name args) m = refl
  named-item (item.Output c args) m = refl

  pub named : all_steps (λ f s. has_result s) (printed r t) ≡ true
  named = all-steps (λ f s. has_result s) r t (entry-passes r t has_result ok (record {
    start = refl;
    item = λ x a pre post e. named-item x (length pre);
    tail = λ n p s. refl;
    phi = λ z n p s k x g. refl;
    leads = λ e n lt. refl;
  }))

  -- ---- written values

  val-written : (a : Val) → is_constant_result a ≡ false → is_written (operand_of ws a) ≡ true
  val-written (Dynamic d) h = refl
  val-written (Known (value.Int i)) h = refl
  val-written (Known (value.Double i)) h = refl
  val-written (Known (value.Id i)) h = refl
  val-written (Known (value.Alloc i)) h = refl
  val-written (Known (value.Measured i)) h = refl
  val-written (Known value.One) h = cc
  val-written (Known value.Zero) h = cc
  val-written (Known (value.Label g)) h = refl
  val-written (Known value.NoLabel) h = refl
  val-written (Known (value.Func f)) h = refl

  not-any : {A : Type 0} (test : A → Bool) (xs : List A) → not (list_any test xs) ≡ true → list_all (λ x. not (test x)) xs ≡ true
  not-any test [] h = refl
  not-any test (x ∷ xs) h = by (test x) h (λ k. not-any test xs k)
    where
      by : (b : Bool) → not (b || list_any test xs) ≡ true → (not (list_any test xs) ≡ true → list_all (λ x. not (test x)) xs ≡ true) → (not b && list_all (λ x. not (test x)) xs) ≡ true
      by true h ih = cc
      by false h ih = ih h

  not-true : (b : Bool) → not b ≡ true → b ≡ false
  not-true true h = cc
  not-true false h = refl

  abbrev plain : Ty × Val → Bool
  plain a = not (is_constant_result a.1)

  of-plain : (a : Val) → not (is_constant_result a) ≡ true → is_written (operand_of ws a) ≡ true
  of-plain a h = val-written a (not-true (is_constant_result a) h)

  args-written : (args : List (Ty × Val)) → list_all plain args ≡ true → list_all is_written (map (λ a. a.1) (map (typed_operand ws) args)) ≡ true
  args-written [] h = refl
  args-written (a ∷ args) h =
      let p = and_parts (plain a) (list_all plain args) h in
      ap (λ b. b && list_all is_written (map (λ a. a.1) (map (typed_operand ws) args))) (of-plain a.1 p.0) ∙ args-written args p.1

  side-written : (n : ℕ) (v : Value) → is_written (side_operand n v) ≡ true
  side-written n value.One = refl
  side-written n value.Zero = refl
  side-written n (value.Int i) = refl
  side-written n (value.Double i) = refl
  side-written n (value.Id i) = refl
  side-written n (value.Alloc i) = refl
  side-written n (value.Measured i) = refl
  side-written n (value.Label i) = refl
  side-written n value.NoLabel = refl
  side-written n (value.Func i) = refl

  value-written : (v : Value) → is_constant v ≡ false → is_written (operand.Const (named_value ws v)) ≡ true
  value-written value.One h = cc
  value-written value.Zero h = cc
  value-written (value.Int i) h = refl
  value-written (value.Double i) h = refl
  value-written (value.Id i) h = refl
  value-written (value.Alloc i) h = refl
  value-written (value.Measured i) h = refl
  value-written (value.Label i) h = refl
  value-written value.NoLabel h = refl
  value-written (value.Func i) h = refl

  abbrev inst-written : Inst → Bool
  inst-written i = list_all is_written (step_operands (InstAt i))

  read-written : (n : ℕ) (v : Value) → is_constant v ≡ false → inst-written (read_into ws n v) ≡ true
  read-written n v h = ap (λ s. s && true) (value-written v h)

  -- the values of an item other than a comparison, by its test
  abbrev UsesPlain : Item → Type 0
  UsesPlain x = list_all plain (item_uses x) ≡ true

  val-known : (v : Value) → plain (ty.Res, Known v) ≡ true → is_constant v ≡ false
  val-known value.One h = cc
  val-known value.Zero h = cc
  val-known (value.Int i) h = refl
  val-known (value.Double i) h = refl
  val-known (value.Id i) h = refl
  val-known (value.Alloc i) h = refl
  val-known (value.Measured i) h = refl
  val-known (value.Label i) h = refl
  val-known value.NoLabel h = refl
  val-known (value.Func i) h = refl

  head-plain : (a : Ty × Val) (rest : List (Ty × Val)) → list_all plain (a ∷ rest) ≡ true → (is_written (operand_of ws a.1) ≡ true) × (list_all plain rest ≡ true)
  head-plain a rest h = let p = and_parts (plain a) (list_all plain rest) h in (of-plain a.1 p.0, p.1)

  written-item : (x : Item) → item_compares x ≡ true → (m : ℕ) → list_all inst-written (instructions ws m x) ≡ true
  written-item (item.Binary d o g w a b) h m =
      let p = head-plain (ty.Int w, a) ((ty.Int w, b) ∷ []) (not-any (λ (a : Ty × Val). is_constant_result a.1) ((ty.Int w, a) ∷ (ty.Int w, b) ∷ []) h) in
      let q = head-plain (ty.Int w, b) [] p.1 in
      ap (λ s. s && true) (two (is_written (operand_of ws a)) (is_written (operand_of ws b)) p.0 q.0)
  written-item (item.Icmp d o w a b) h m =
      let p = head-plain (ty.Int w, a) ((ty.Int w, b) ∷ []) (not-any (λ (a : Ty × Val). is_constant_result a.1) ((ty.Int w, a) ∷ (ty.Int w, b) ∷ []) h) in
      let q = head-plain (ty.Int w, b) [] p.1 in
      ap (λ s. s && true) (two (is_written (operand_of ws a)) (is_written (operand_of ws b)) p.0 q.0)
  written-item (item.Convert d o w a to) h m =
      let p = head-plain (ty.Int w, a) [] (not-any (λ (a : Ty × Val). is_constant_result a.1) ((ty.Int w, a) ∷ []) h) in
      ap (λ s. s && true) (ap (λ s. s && true) p.0)
  written-item (item.Select d w c a b) h m =
      let p = not-any (λ (a : Ty × Val). is_constant_result a.1) (item_uses (item.Select d w c a b)) h in
      let q = head-plain (ty.Int W1, c) ((ty.Int w, a) ∷ (ty.Int w, b) ∷ []) p in
      let s = head-plain (ty.Int w, a) ((ty.Int w, b) ∷ []) q.1 in
      let u = head-plain (ty.Int w, b) [] s.1 in
      ap (λ s. s && true) (three (is_written (operand_of ws c)) (is_written (operand_of ws a)) (is_written (operand_of ws b)) q.0 s.0 u.0)
  written-item (item.Read d v) h m =
      let p = and_parts (plain (ty.Res, Known v)) true (not-any (λ (a : Ty × Val). is_constant_result a.1) ((ty.Res, Known v) ∷ []) h) in
      ap (λ s. s && true) (read-written m v (val-known v p.0))
  written-item (item.Equal d v u) h m =
      equal-passes inst-written ws m d v u (λ e. read-written m v e) (λ e. read-written (m + reads v) u e)
      (two (is_written (side_operand m v)) (is_written (side_operand (m + reads v) u)) (side-written m v) (side-written (m + reads v) u))
  written-item (item.Operation name args) h m = ap (λ s. s && true) (args-written args (not-any (λ (a : Ty × Val). is_constant_result a.1) args h))
  written-item (item.Output c args) h m = ap (λ s. s && true) (args-written args (not-any (λ (a : Ty × Val). is_constant_result a.1) args h))

  tails : (n : ℕ) (p : Part) → slice_get r.parts n ≡ Some p → tail_compares p.tail ≡ true
  tails n p s = passes-here (λ p. tail_compares p.tail) r.parts n p (and_parts (list_all item_compares (all_items r)) (all_tails tail_compares r) ok.constants).1 s

  tail-parts : (x : Tail) → tail_compares x ≡ true → (list_all plain (tail_uses x) ≡ true) × (list_all (λ a. not (is_constant_result a)) (jump_args x) ≡ true)
  tail-parts x h =
      let p = and_parts (not (list_any (λ a. is_constant_result a.1) (tail_uses x))) (not (list_any is_constant_result (jump_args x))) h in
      (not-any (λ (a : Ty × Val). is_constant_result a.1) (tail_uses x) p.0, not-any is_constant_result (jump_args x) p.1)

  written-tail : (x : Tail) → list_all plain (tail_uses x) ≡ true → list_all is_written (step_operands (TermAt (print_tail ws x))) ≡ true
  written-tail (tail.Jump j) h = refl
  written-tail (tail.Branch a j i) h = ap (λ s. s && true) (head-plain (ty.Int W1, a) [] h).0
  written-tail (tail.Switch w a j cases) h = ap (λ s. s && true) (head-plain (ty.Int w, a) (map (λ c. (ty.Int w, Known (value.Int c.0))) cases) h).0
  written-tail (tail.Return a) h = ap (λ s. s && true) (head-plain (ty.Int W64, a) [] h).0

  pub written : all_steps (λ f s. list_all is_written (step_operands s)) (printed r t) ≡ true
  written = all-steps (λ f s. list_all is_written (step_operands s)) r t (entry-passes r t (λ s. list_all is_written (step_operands s)) ok (record {
    start = refl;
    item = λ x a pre post e. written-item x (passes-here item_compares (all_items r) a.0 x (and_parts (list_all item_compares (all_items r)) (all_tails tail_compares r) ok.constants).0 a.1) (length pre);
    tail = λ n p s. written-tail p.tail (tail-parts p.tail (tails n p s)).0;
    phi = λ z n p s k x g. all-map is_written (λ e. e.0) (entries ws k (edges_to n r.parts)) (entries-pass (λ e. is_written e.0) ws r k n (λ m q i j a.
        of-plain (argument k j) (index-passes (λ b. not (is_constant_result b)) j.args k (jump-args-pass (λ b. not (is_constant_result b)) q.tail j (tail-parts q.tail (tails m q i)).1 a) refl)));
    leads = λ e n lt. refl;
  }))

  -- ---- types: none is void, and each is whole

  abbrev ints : Ty → Bool
  ints (ty.Int w) = true
  ints t = false

  names-item : (x : Item) → list_all (λ y. ints y.1) (names_of_item x) ≡ true
  names-item (item.Binary d o g w a b) = refl
  names-item (item.Icmp d o w a b) = refl
  names-item (item.Convert d o w a to) = refl
  names-item (item.Select d w c a b) = refl
  names-item (item.Read d v) = refl
  names-item (item.Equal d v u) = by (is_constant v) (is_constant u)
    where
      by : (a b : Bool) → list_all (λ y. ints y.1) (side_names a ++ (side_names b ++ (Some d.0, ty.Int W1) ∷ [])) ≡ true
      by true true = refl
      by true false = refl
      by false true = refl
      by false false = refl
  names-item (item.Operation name args) = refl
  names-item (item.Output c args) = refl

  names-params : (params : List (Dyn × Width)) → list_all (λ y. ints y.1) (names_of_params params) ≡ true
  names-params [] = refl
  names-params (x ∷ params) = names-params params

  names-items : (xs : List Item) → list_all (λ y. ints y.1) (names_of_items xs) ≡ true
  names-items [] = refl
  names-items (x ∷ xs) = all-both (λ y. ints y.1) (names_of_item x) (names_of_items xs) (names-item x) (names-items xs)

  names-parts : (parts : List Part) → list_all (λ y. ints y.1) (names_of parts) ≡ true
  names-parts [] = refl
  names-parts (p ∷ parts) = all-both (λ y. ints y.1) (names_of_part p) (names_of parts) (all-both (λ y. ints y.1) (names_of_params p.params) (names_of_items (items_of p.lines)) (names-params p.params) (names-items (items_of p.lines))) (names-parts parts)

  -- what all integer types pass, all local names pass
  pub locals-pass : (test : Ty → Bool) → ((w : Width) → test (ty.Int w) ≡ true) → (n : ℕ) (names : List (Option ℕ × Ty)) → list_all (λ y. ints y.1) names ≡ true → list_all (λ l. test l.1) (locals_from n names) ≡ true
  locals-pass test h n [] g = refl
  locals-pass test h n (x ∷ names) g =
      let p = and_parts (ints x.1) (list_all (λ y. ints y.1) names) g in
      ap (λ b. b && list_all (λ l. test l.1) (locals_from (suc n) names)) (by x.1 p.0) ∙ locals-pass test h (suc n) names p.1
    where
      by : (u : Ty) → ints u ≡ true → test u ≡ true
      by (ty.Int w) e = h w
      by ty.Void e = cc
      by ty.Double e = cc
      by ty.Qubit e = cc
      by ty.Res e = cc
      by ty.Text e = cc
      by (ty.Func us) e = cc

  pub all-locals-pass : (test : Ty → Bool) → ((w : Width) → test (ty.Int w) ≡ true) → list_all (λ l. test l.1) (printed_entry r t).locals ≡ true
  all-locals-pass test h = locals-pass test h 0 (names_of r.parts) (names-parts r.parts)

  local-passes : (test : Ty → Bool) (ls : List (Name × Ty)) (i : ℕ) → list_all (λ l. test l.1) ls ≡ true → type_passes test (slice_get ls i) ≡ true
  local-passes test [] i h = refl
  local-passes test (l ∷ ls) zero h = (and_parts (test l.1) (list_all (λ l. test l.1) ls) h).0
  local-passes test (l ∷ ls) (suc i) h = local-passes test ls i (and_parts (test l.1) (list_all (λ l. test l.1) ls) h).1

  pub type-not-void : (u : Ty) (a : Val) → val_has (gives_of r) u a ≡ true → not (is_void u) ≡ true
  type-not-void ty.Void (Known v) h = cc
  type-not-void ty.Void (Dynamic d) h = cc
  type-not-void (ty.Int w) a h = refl
  type-not-void ty.Double a h = refl
  type-not-void ty.Qubit a h = refl
  type-not-void ty.Res a h = refl
  type-not-void ty.Text a h = refl
  type-not-void (ty.Func us) a h = refl

  pub type-whole : (u : Ty) (a : Val) → val_has (gives_of r) u a ≡ true → is_ty u ≡ true
  type-whole (ty.Func us) (Known v) h = cc
  type-whole (ty.Func us) (Dynamic d) h = cc
  type-whole ty.Void a h = refl
  type-whole (ty.Int w) a h = refl
  type-whole ty.Double a h = refl
  type-whole ty.Qubit a h = refl
  type-whole ty.Res a h = refl
  type-whole ty.Text a h = refl

  -- a test of types that all types of values pass
  abbrev OfValues : (Ty → Bool) → Type 0
  OfValues test = (u : Ty) (a : Val) → val_has (gives_of r) u a ≡ true → test u ≡ true

  pub arg-types : (test : Ty → Bool) → OfValues test → (args : List (Ty × Val)) → list_all (fits (gives_of r)) args ≡ true → list_all (λ a. test a.0) (map (typed_operand ws) args) ≡ true
  arg-types test h [] g = refl
  arg-types test h (a ∷ args) g =
      let p = and_parts (fits (gives_of r) a) (list_all (fits (gives_of r)) args) g in
      ap (λ b. b && list_all (λ a. test a.0) (map (typed_operand ws) args)) (h a.0 a.1 p.0) ∙ arg-types test h args p.1

  abbrev nowhere-void : Step → Bool
  nowhere-void s = not_void (printed_entry r t) s

  void-item : (x : Item) → list_all (fits (gives_of r)) (item_uses x) ≡ true → (m : ℕ) → list_all (λ i. nowhere-void (InstAt i)) (instructions ws m x) ≡ true
  void-item (item.Binary d o g w a b) h m = refl
  void-item (item.Icmp d o w a b) h m = refl
  void-item (item.Convert d o w a to) h m = refl
  void-item (item.Select d w c a b) h m = refl
  void-item (item.Read d v) h m = refl
  void-item (item.Equal d v u) h m = equal-passes (λ i. nowhere-void (InstAt i)) ws m d v u (λ e. refl) (λ e. refl) refl
  void-item (item.Operation name args) h m = ap (λ s. s && true) (arg-types (λ u. not (is_void u)) type-not-void args h)
  void-item (item.Output c args) h m = ap (λ s. s && true) (arg-types (λ u. not (is_void u)) type-not-void args h)

  pub steps-not-void : all_steps not_void (printed r t) ≡ true
  steps-not-void = all-steps not_void r t (entry-passes r t nowhere-void ok (record {
    start = refl;
    item = λ x a pre post e. void-item x (item-uses-pass (fits (gives_of r)) r x ok.types a) (length pre);
    tail = λ n p s. refl;
    phi = λ z n p s k x g. local-passes (λ u. not (is_void u)) (printed_entry r t).locals (names_before r n + k) (all-locals-pass (λ u. not (is_void u)) (λ w. refl));
    leads = λ e n lt. refl;
  }))

  whole-item : (x : Item) → list_all (fits (gives_of r)) (item_uses x) ≡ true → (m : ℕ) → list_all (λ i. calls_whole (InstAt i)) (instructions ws m x) ≡ true
  whole-item (item.Binary d o g w a b) h m = refl
  whole-item (item.Icmp d o w a b) h m = refl
  whole-item (item.Convert d o w a to) h m = refl
  whole-item (item.Select d w c a b) h m = refl
  whole-item (item.Read d v) h m = refl
  whole-item (item.Equal d v u) h m = equal-passes (λ i. calls_whole (InstAt i)) ws m d v u (λ e. refl) (λ e. refl) refl
  whole-item (item.Operation name args) h m = ap (λ s. s && true) (arg-types is_ty type-whole args h)
  whole-item (item.Output c args) h m = ap (λ s. s && true) (arg-types is_ty type-whole args h)

  pub steps-whole : all_steps (λ f s. calls_whole s) (printed r t) ≡ true
  steps-whole = all-steps (λ f s. calls_whole s) r t (entry-passes r t calls_whole ok (record {
    start = refl;
    item = λ x a pre post e. whole-item x (item-uses-pass (fits (gives_of r)) r x ok.types a) (length pre);
    tail = λ n p s. refl;
    phi = λ z n p s k x g. refl;
    leads = λ e n lt. refl;
  }))

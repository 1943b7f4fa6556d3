-- The rules of admission at every spot of the printed module.
use Rattle.std.proofs.Common.{◌≡◌, ℕ, zero, suc, ◌+◌, Bool, true, false, ◌&&◌, not, Option, None, Some, List, [], ◌∷◌, length, map, refl, sym, ap, ◌∙◌, arith}
use Rattle.std.proofs.lemmas.Bool.{and_parts}
use Rattle.std.specs.List.{list_all, list_any}
use Rattle.std.specs.Prelude.{◌||◌, ◌==◌, is_some, slice_get}
use Rattle.ir_module.specs.declared.places.Point.{Point}
use Rattle.ir_module.specs.declared.places.Spot.{Spot}
use Rattle.ir_module.specs.declared.places.Spot.TheVariants as spot
use Rattle.ir_module.specs.declared.tree.Function.{Function}
use Rattle.ir_module.specs.declared.tree.Inst.{Inst}
use Rattle.ir_module.specs.declared.tree.Module.{Module}
use Rattle.ir_module.specs.declared.tree.Operand.{Operand}
use Rattle.ir_module.specs.declared.tree.Operand.TheVariants as operand
use Rattle.ir_module.specs.declared.tree.Phi.{Phi}
use Rattle.ir_module.specs.declared.tree.Term.TheVariants as term
use Rattle.ir_module.specs.Entry.{entry_of}
use Rattle.ir_module.specs.Numbered.{all_steps}
use Rattle.ir_module.specs.Numbered as numbered
use Rattle.ir_module.specs.declared.tree.Constant.{Constant}
use Rattle.ir_module.specs.Steps.{Step, PhiAt, InstAt, TermAt, NoStep, step_of_point}
use Rattle.ir_module.proofs.StepLemmas.{module-passes}
use Rattle.ir_values.specs.declared.class.Class.{Class}
use Rattle.ir_values.specs.declared.class.Class.TheVariants as class
use Rattle.ir_values.specs.declared.ids.BlockId.{BlockId}
use Rattle.ir_values.specs.declared.ids.FuncId.{FuncId}
use Rattle.ir_values.specs.declared.int.Width.{Width}
use Rattle.ir_values.specs.declared.int.Width.TheVariants.{W1, W64}
use Rattle.ir_values.specs.declared.ty.Ty.{Ty}
use Rattle.ir_values.specs.declared.ty.Ty.TheVariants as ty
use Rattle.ir_values.specs.declared.value.Value.{Value}
use Rattle.ir_values.specs.declared.value.Value.TheVariants as value
use Rattle.ir_values.specs.Int.{IntValue}
use Rattle.ir_values.specs.Values.{same_int}
use Rattle.kept_items.specs.declared.item.Item.{Item}
use Rattle.kept_items.specs.declared.item.Item.TheVariants as item
use Rattle.kept_items.specs.declared.target.Target.{Target}
use Rattle.kept_items.specs.declared.val.Dyn.{Dyn}
use Rattle.kept_items.specs.declared.val.Val.{Val}
use Rattle.kept_items.specs.declared.val.Val.TheVariants.{Known, Dynamic}
use Rattle.residue.specs.declared.parts.Jump.{Jump}
use Rattle.residue.specs.declared.parts.Part.{Part}
use Rattle.residue.specs.declared.parts.Residue.{Residue}
use Rattle.residue.specs.declared.parts.Tail.{Tail}
use Rattle.residue.specs.declared.parts.Tail.TheVariants as tail
use Rattle.residue.specs.Functions.{Called, declaration, declared_of, initialize, is_constant, read_name, record_name}
use Rattle.residue.specs.Instructions.{Words, block_number, instructions, local, operand_of, print_tail, read_into, reads, side_operand, typed_operand}
use Rattle.residue.specs.Printed.{argument, edges_to, entries, initialize_call, printed, printed_entry, words}
use Rattle.residue.specs.Scopes.{gives_of, item_uses, tail_uses}
use Rattle.residue.specs.Valid.{Valid, all_differ, all_tails, distinct_cases, is_own_name, own_names, val_has, value_has}
use Rattle.residue.specs.Valid as valid
use Rattle.type_check.specs.declared.code.TypeCode.TheVariants as code
use Rattle.type_check.specs.Faults.{at_function, at_module, at_step, is_no_second, keeps_rule, on_function, where_entry}
use Rattle.type_check.specs.Rules.{are_distinct, body_has_own_name, cases_differ, constants_have_own_names, functions_known, is_entry_type, is_known, is_reserved, operand_known, shape_agrees, types_agree}
use Rattle.type_check.specs.Typing.{all_have, phi_wants, same_type, wants}
use Rattle.printed_residue.specs.Places.{names_before}
use Rattle.printed_residue.proofs.Calls.{Declares, measures, op_class}
use Rattle.printed_residue.proofs.Looks.{differ}
use Rattle.printed_residue.proofs.Declared.{fits}
use Rattle.printed_residue.proofs.Ends.{entry-is, initialize-declared}
use Rattle.printed_residue.proofs.Facts.{passes-here}
use Rattle.printed_residue.proofs.Items.{ItemDeclared}
use Rattle.printed_residue.proofs.Lines.{item-declared}
use Rattle.printed_residue.proofs.Running.{ReadDeclared}
use Rattle.numbered_residue.proofs.Forms.{equal-passes, first-passes, item-uses-pass, second-passes, tail-uses-pass, third-passes}
use Rattle.numbered_residue.proofs.Passing.{all-map, all-steps, entry-passes}
use Rattle.typed_residue.proofs.Edges.{entries-there-pass}
use Rattle.typed_residue.proofs.Types.{all-agree-in, arg-typed, fits-there, param-type}
use Rattle.numbered_residue.proofs.Shared.{both, every, not-false, three, two}

-- ---- a test of all steps, at a spot

pub at-spot : (m : Module) (test : Function → Step → Bool) → all_steps test m ≡ true → ((f : Function) → test f NoStep ≡ true) → (s : Spot) → at_step m s (λ f p step. test f step) ≡ true
at-spot m test h none spot.Module = refl
at-spot m test h none (spot.Func g) = refl
at-spot m test h none (spot.At p) = by (slice_get m.funcs p.func.0) refl
  where
    by : (o : Option Function) → slice_get m.funcs p.func.0 ≡ o → on_function o (λ f. test f (step_of_point f p)) ≡ true
    by None e = refl
    by (Some f) e = module-passes test m p f h (none f) e

module _ (r : Residue) (t : Target) (ok : Valid r t) where
  abbrev m : Module
  m = printed r t

  abbrev f : Function
  f = printed_entry r t

  abbrev ws : Words
  ws = words r

  -- ---- types

  types-by : (p : Point) → at_step m (spot.At p) (λ g p step. all_have m g (wants g step) && shape_agrees g step) ≡ at_step m (spot.At p) (λ g p step. types_agree m g step)
  unfolding types_agree
  types-by p = refl

  pub types : (limit : ℕ) (s : Spot) → keeps_rule m limit s code.Types ≡ true
  unfolding keeps_rule
  types limit spot.Module = refl
  types limit (spot.Func g) = refl
  types limit (spot.At p) = sym (types-by p) ∙ at-spot m (λ g s. all_have m g (wants g s) && shape_agrees g s) (all-agree-in r t ok) (λ g. refl) (spot.At p)

  -- ---- the cases of a switch

  abbrev printed_case : IntValue × Jump → IntValue × BlockId
  printed_case c = (c.0, block_number c.1.to)

  any-case : (i : IntValue) (cases : List (IntValue × Jump)) → list_any (λ (d : IntValue × BlockId). same_int d.0 i) (map printed_case cases) ≡ list_any (λ (d : IntValue × Jump). same_int d.0 i) cases
  any-case i [] = refl
  any-case i (c ∷ cases) = ap (λ b. same_int c.0 i || b) (any-case i cases)

  cases-distinct : (cases : List (IntValue × Jump)) → all_differ (λ (c : IntValue × Jump) (d : IntValue × Jump). same_int c.0 d.0) cases ≡ true → are_distinct (map printed_case cases) ≡ true
  cases-distinct [] h = refl
  cases-distinct (c ∷ cases) h =
      let p = and_parts (not (list_any (λ (d : IntValue × Jump). same_int d.0 c.0) cases)) (all_differ (λ (c : IntValue × Jump) (d : IntValue × Jump). same_int c.0 d.0) cases) h in
      both (not (list_any (λ (d : IntValue × BlockId). same_int d.0 c.0) (map printed_case cases))) (are_distinct (map printed_case cases)) (ap not (any-case c.0 cases) ∙ p.0) (cases-distinct cases p.1)

  tail-cases : (x : Tail) → valid.cases_differ x ≡ true → cases_differ (TermAt (print_tail ws x)) ≡ true
  unfolding cases_differ
  tail-cases (tail.Jump j) h = refl
  tail-cases (tail.Branch a j i) h = refl
  tail-cases (tail.Switch w a j cases) h = cases-distinct cases h
  tail-cases (tail.Return a) h = refl

  inst-cases : (i : Inst) → cases_differ (InstAt i) ≡ true
  unfolding cases_differ
  inst-cases i = refl

  phi-cases : (x : Phi) → cases_differ (PhiAt x) ≡ true
  unfolding cases_differ
  phi-cases x = refl

  br-cases : (b : BlockId) → cases_differ (TermAt (term.Br b)) ≡ true
  unfolding cases_differ
  br-cases b = refl

  none-cases : cases_differ NoStep ≡ true
  unfolding cases_differ
  none-cases = refl

  all-cases : all_steps (λ g s. cases_differ s) m ≡ true
  all-cases = all-steps (λ g s. cases_differ s) r t (entry-passes r t cases_differ ok (record {
    start = inst-cases initialize_call;
    item = λ x a pre post e. every (λ i. cases_differ (InstAt i)) (instructions ws (length pre) x) (λ i. inst-cases i);
    tail = λ n p s. tail-cases p.tail (passes-here (λ p. valid.cases_differ p.tail) r.parts n p ok.cases s);
    phi = λ z n p s k x g. phi-cases (record { result = local (names_before r n + k); entries = entries ws k (edges_to n r.parts) });
    leads = λ e n lt. br-cases (block_number n);
  }))

  pub cases : (limit : ℕ) (s : Spot) → keeps_rule m limit s code.SwitchCase ≡ true
  unfolding keeps_rule
  cases limit s = at-spot m (λ g s. cases_differ s) all-cases (λ g. none-cases) s

  -- ---- known functions

  abbrev known : Step → Bool
  known s = list_all (λ w. operand_known m w.1) (wants f s)

  value-known : (u : Ty) (v : Value) → value_has u v ≡ true → operand_known m (operand_of ws (Known v)) ≡ true
  value-known u (value.Int i) h = refl
  value-known u (value.Double i) h = refl
  value-known u (value.Id i) h = refl
  value-known u (value.Alloc i) h = refl
  value-known u (value.Measured i) h = refl
  value-known u value.One h = refl
  value-known u value.Zero h = refl
  value-known u (value.Label g) h = refl
  value-known u value.NoLabel h = refl
  value-known u (value.Func g) h = no-function u h
    where
      no-function : (u : Ty) → value_has u (value.Func g) ≡ true → operand_known m (operand_of ws (Known (value.Func g))) ≡ true
      no-function ty.Void h = cc
      no-function (ty.Int w) h = cc
      no-function ty.Double h = cc
      no-function ty.Qubit h = cc
      no-function ty.Res h = cc
      no-function ty.Text h = cc
      no-function (ty.Func us) h = cc

  abbrev fit : Ty × Val → Bool
  fit a = fits (gives_of r) a

  val-known : (u : Ty) (a : Val) → fit (u, a) ≡ true → operand_known m (operand_of ws a) ≡ true
  val-known u (Dynamic d) h = refl
  val-known ty.Void (Known v) h = value-known ty.Void v h
  val-known (ty.Int w) (Known v) h = value-known (ty.Int w) v h
  val-known ty.Double (Known v) h = value-known ty.Double v h
  val-known ty.Qubit (Known v) h = value-known ty.Qubit v h
  val-known ty.Res (Known v) h = value-known ty.Res v h
  val-known ty.Text (Known v) h = value-known ty.Text v h
  val-known (ty.Func us) (Known v) h = value-known (ty.Func us) v h

  args-known : (args : List (Ty × Val)) → list_all fit args ≡ true → list_all (λ w. operand_known m w.1) (map (typed_operand ws) args) ≡ true
  args-known [] h = refl
  args-known (a ∷ args) h =
      let p = and_parts (fit a) (list_all fit args) h in
      both (operand_known m (operand_of ws a.1)) (list_all (λ w. operand_known m w.1) (map (typed_operand ws) args)) (val-known a.0 a.1 p.0) (args-known args p.1)

  callee-known : (g : FuncId) (name : List ℕ) (c : Class) → Declares m g name c → operand_known m (operand.Const (value.Func g)) ≡ true
  callee-known g name c d = ap is_known d.is ∙ ap (λ o. is_some d.function.blocks || is_some o) d.class ∙ or-true (is_some d.function.blocks)
    where
      or-true : (b : Bool) → (b || true) ≡ true
      or-true true = refl
      or-true false = refl

  side-known : (n : ℕ) (v : Value) → operand_known m (side_operand n v) ≡ true
  side-known n value.One = refl
  side-known n value.Zero = refl
  side-known n (value.Int i) = refl
  side-known n (value.Double i) = refl
  side-known n (value.Id i) = refl
  side-known n (value.Alloc i) = refl
  side-known n (value.Measured i) = refl
  side-known n (value.Label i) = refl
  side-known n value.NoLabel = refl
  side-known n (value.Func i) = refl

  side-declared : (v : Value) → is_constant v ≡ false → ReadDeclared m ws v → Declares m (ws.function read_name) read_name class.Read
  side-declared value.One e d = cc
  side-declared value.Zero e d = cc
  side-declared (value.Int i) e d = d
  side-declared (value.Double i) e d = d
  side-declared (value.Id i) e d = d
  side-declared (value.Alloc i) e d = d
  side-declared (value.Measured i) e d = d
  side-declared (value.Label i) e d = d
  side-declared value.NoLabel e d = d
  side-declared (value.Func i) e d = d

  read-known : (n : ℕ) (v : Value) → Declares m (ws.function read_name) read_name class.Read → fit (ty.Res, Known v) ≡ true → known (InstAt (read_into ws n v)) ≡ true
  read-known n v d h = two (operand_known m (operand.Const (value.Func (ws.function read_name)))) (operand_known m (operand_of ws (Known v))) (callee-known (ws.function read_name) read_name class.Read d) (val-known ty.Res (Known v) h)

  call-known : (name : List ℕ) (c : Class) (args : List (Ty × Val)) → Declares m (ws.function name) name c → list_all fit args ≡ true → (operand_known m (operand.Const (value.Func (ws.function name))) && list_all (λ w. operand_known m w.1) (map (typed_operand ws) args)) ≡ true
  call-known name c args d h = both (operand_known m (operand.Const (value.Func (ws.function name)))) (list_all (λ w. operand_known m w.1) (map (typed_operand ws) args)) (callee-known (ws.function name) name c d) (args-known args h)

  item-known : (x : Item) → list_all fit (item_uses x) ≡ true → ItemDeclared m ws x → (n : ℕ) → list_all (λ i. known (InstAt i)) (instructions ws n x) ≡ true
  item-known (item.Binary d o g w a b) h e n = ap (λ s. s && true) (two (operand_known m (operand_of ws a)) (operand_known m (operand_of ws b)) (val-known (ty.Int w) a (first-passes fit (ty.Int w, a) ((ty.Int w, b) ∷ []) h)) (val-known (ty.Int w) b (second-passes fit (ty.Int w, a) (ty.Int w, b) [] h)))
  item-known (item.Icmp d o w a b) h e n = ap (λ s. s && true) (two (operand_known m (operand_of ws a)) (operand_known m (operand_of ws b)) (val-known (ty.Int w) a (first-passes fit (ty.Int w, a) ((ty.Int w, b) ∷ []) h)) (val-known (ty.Int w) b (second-passes fit (ty.Int w, a) (ty.Int w, b) [] h)))
  item-known (item.Convert d o w a to) h e n = ap (λ s. (s && true) && true) (val-known (ty.Int w) a (first-passes fit (ty.Int w, a) [] h))
  item-known (item.Select d w c a b) h e n =
      ap (λ s. s && true) (three (operand_known m (operand_of ws c)) (operand_known m (operand_of ws a)) (operand_known m (operand_of ws b))
      (val-known (ty.Int W1) c (first-passes fit (ty.Int W1, c) ((ty.Int w, a) ∷ (ty.Int w, b) ∷ []) h)) (val-known (ty.Int w) a (second-passes fit (ty.Int W1, c) (ty.Int w, a) ((ty.Int w, b) ∷ []) h)) (val-known (ty.Int w) b (third-passes fit (ty.Int W1, c) (ty.Int w, a) (ty.Int w, b) [] h)))
  item-known (item.Read d v) h e n = ap (λ s. s && true) (read-known n v e (first-passes fit (ty.Res, Known v) [] h))
  item-known (item.Equal d v u) h e n =
      equal-passes (λ i. known (InstAt i)) ws n d v u
      (λ z. read-known n v (side-declared v z e.0) (first-passes fit (ty.Res, Known v) ((ty.Res, Known u) ∷ []) h))
      (λ z. read-known (n + reads v) u (side-declared u z e.1) (second-passes fit (ty.Res, Known v) (ty.Res, Known u) [] h))
      (two (operand_known m (side_operand n v)) (operand_known m (side_operand (n + reads v) u)) (side-known n v) (side-known (n + reads v) u))
  item-known (item.Operation name args) h e n = ap (λ s. s && true) (call-known name (op_class (measures args)) args e h)
  item-known (item.Output c args) h e n = ap (λ s. s && true) (call-known (record_name c) c args e h)

  tail-known : (x : Tail) → list_all fit (tail_uses x) ≡ true → known (TermAt (print_tail ws x)) ≡ true
  tail-known (tail.Jump j) h = refl
  tail-known (tail.Branch a j i) h = ap (λ s. s && true) (val-known (ty.Int W1) a (first-passes fit (ty.Int W1, a) [] h))
  tail-known (tail.Switch w a j cases) h = ap (λ s. s && true) (val-known (ty.Int w) a (first-passes fit (ty.Int w, a) (map (λ c. (ty.Int w, Known (value.Int c.0))) cases) h))
  tail-known (tail.Return a) h = ap (λ s. s && true) (val-known (ty.Int W64) a (first-passes fit (ty.Int W64, a) [] h))

  phi-known : (n : ℕ) (p : Part) → slice_get r.parts n ≡ Some p → (k : ℕ) (x : Dyn × Width) → slice_get p.params k ≡ Some x → known (PhiAt (record { result = local (names_before r n + k); entries = entries ws k (edges_to n r.parts) })) ≡ true
  phi-known n p s k x g =
      ap (λ o. list_all (λ w. operand_known m w.1) (phi_wants o (record { result = local (names_before r n + k); entries = entries ws k (edges_to n r.parts) }))) (param-type r t ok n p s k x g)
      ∙ all-map (λ (w : Ty × Operand). operand_known m w.1) (λ (e : Operand × BlockId). (ty.Int x.1, e.0)) (entries ws k (edges_to n r.parts)) (entries-there-pass (λ e. operand_known m e.0) ws r k n (λ q i j u a z.
      val-known (ty.Int x.1) (argument k j) (arg-typed r t ok p.params j.args k x (fits-there r t ok n p s q i j u a z) g)))

  all-known : all_steps (λ g s. list_all (λ w. operand_known m w.1) (wants g s)) m ≡ true
  all-known = all-steps (λ g s. list_all (λ w. operand_known m w.1) (wants g s)) r t (entry-passes r t known ok (record {
    start = ap (λ s. s && true) (callee-known (record { 0 = 1 }) initialize.name class.Init (initialize-declared r t));
    item = λ x a pre post e. item-known x (item-uses-pass fit r x ok.types a) (item-declared r t ok x a) (length pre);
    tail = λ n p s. tail-known p.tail (tail-uses-pass fit r n p ok.types s);
    phi = λ z n p s k x g. phi-known n p s k x g;
    leads = λ e n lt. refl;
  }))

  known-by : (p : Point) → at_step m (spot.At p) (λ g p step. list_all (λ w. operand_known m w.1) (wants g step)) ≡ at_step m (spot.At p) (λ g p step. functions_known m g step)
  unfolding functions_known
  known-by p = refl

  pub knows : (limit : ℕ) (s : Spot) → keeps_rule m limit s code.UnknownDecl ≡ true
  unfolding keeps_rule
  knows limit spot.Module = refl
  knows limit (spot.Func g) = refl
  knows limit (spot.At p) = sym (known-by p) ∙ at-spot m (λ g s. list_all (λ w. operand_known m w.1) (wants g s)) all-known (λ g. refl) (spot.At p)

  -- ---- functions

  -- a test of functions that the entry passes under number 0 and each declaration under any
  pub functions-pass : (test : ℕ → Function → Bool) → test 0 f ≡ true → ((n : ℕ) (c : Called) → test (suc n) (declaration r.irreversible c) ≡ true) → (s : Spot) → at_function m s test ≡ true
  functions-pass test h g spot.Module = refl
  functions-pass test h g (spot.At p) = refl
  functions-pass test h g (spot.Func n) = by n.0
    where
      later : (n k : ℕ) (cs : List Called) → on_function (slice_get (map (declaration r.irreversible) cs) n) (test (suc k)) ≡ true
      later n k [] = refl
      later zero k (c ∷ cs) = g k c
      later (suc n) k (c ∷ cs) = later n k cs

      by : (n : ℕ) → on_function (slice_get m.funcs n) (test n) ≡ true
      by zero = h
      by (suc n) = later n n (declared_of r)

  own : list_all is_own_name (own_names r) ≡ true
  own = (and_parts (numbered.are_distinct (own_names r)) (list_all is_own_name (own_names r)) ok.names).1

  no-constant : list_any (λ c. is_reserved c.name) r.globals ≡ false
  no-constant = each r.globals (and_parts (is_own_name r.entry) (list_all is_own_name (map (λ g. g.name) r.globals)) own).1
    where
      each : (gs : List Constant) → list_all is_own_name (map (λ g. g.name) gs) ≡ true → list_any (λ c. is_reserved c.name) gs ≡ false
      each [] h = refl
      each (x ∷ gs) h =
          let p = and_parts (is_own_name x.name) (list_all is_own_name (map (λ g. g.name) gs)) h in
          ap (λ b. b || list_any (λ c. is_reserved c.name) gs) (not-false (is_reserved x.name) p.0) ∙ each gs p.1

  at-module-true : (s : Spot) → at_module s true ≡ true
  at-module-true spot.Module = refl
  at-module-true (spot.Func g) = refl
  at-module-true (spot.At p) = refl

  pub names : (limit : ℕ) (s : Spot) → keeps_rule m limit s code.ReservedName ≡ true
  unfolding keeps_rule
  names limit s =
      both (at_module s (constants_have_own_names m)) (at_function m s (λ n g. body_has_own_name g))
      (ap (λ b. at_module s (not b)) no-constant ∙ at-module-true s)
      (functions-pass (λ n g. body_has_own_name g) (ap (λ b. not (true && b)) (not-false (is_reserved r.entry) (and_parts (is_own_name r.entry) (list_all is_own_name (map (λ g. g.name) r.globals)) own).0)) (λ n c. refl) s)

  -- ---- the entry

  no-second : (n : ℕ) (c : Called) → is_no_second (Some (record { number = 0; function = f })) (suc n) (declaration r.irreversible c) ≡ true
  no-second n c = or-true (suc n == 0)
    where
      or-true : (b : Bool) → (b || true) ≡ true
      or-true true = refl
      or-true false = refl

  pub entry : (limit : ℕ) (s : Spot) → keeps_rule m limit s code.NoEntry ≡ true
  unfolding keeps_rule
  entry limit s =
      both (at_module s (is_some (entry_of m))) (at_function m s (is_no_second (entry_of m)))
      (ap (λ o. at_module s (is_some o)) (entry-is r t) ∙ at-module-true s)
      (ap (λ o. at_function m s (is_no_second o)) (entry-is r t) ∙ functions-pass (is_no_second (Some (record { number = 0; function = f }))) refl no-second s)

  returns-code : is_entry_type f ≡ true
  unfolding same_type
  returns-code = refl

  later-number : (n : ℕ) (c : Called) → where_entry (Some (record { number = 0; function = f })) is_entry_type (suc n) (declaration r.irreversible c) ≡ true
  later-number n c = ap (λ b. not b || is_entry_type (declaration r.irreversible c)) (differ (suc n) 0 (λ e. absurd (omega (arith, e))))

  pub signature : (limit : ℕ) (s : Spot) → keeps_rule m limit s code.EntrySignature ≡ true
  unfolding keeps_rule
  signature limit s =
      ap (λ o. at_function m s (where_entry o is_entry_type)) (entry-is r t)
      ∙ functions-pass (where_entry (Some (record { number = 0; function = f })) is_entry_type) returns-code later-number s

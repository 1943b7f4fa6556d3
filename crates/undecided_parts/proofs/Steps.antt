-- A static step keeps an item only where constants don't decide it.
use Rattle.std.proofs.Common.{◌≡◌, refl, ap, not, ℕ, Bool, true, false, Option, None, Some, List, [], ◌∷◌, Result, Ok, Err, map}
use Rattle.std.specs.Prelude.{if◌then◌else◌, ◌==◌, ◌&&◌, ◌||◌, slice_get}
use Rattle.ir_module.specs.declared.places.Point.{Point}
use Rattle.ir_module.specs.declared.tree.Block.{Block}
use Rattle.ir_module.specs.declared.tree.Function.{Function}
use Rattle.ir_module.specs.declared.tree.InstKind.{InstKind}
use Rattle.ir_module.specs.declared.tree.InstKind.TheVariants as inst
use Rattle.ir_module.specs.declared.tree.Module.{Module}
use Rattle.ir_module.specs.declared.tree.Term.{Term}
use Rattle.ir_module.specs.declared.tree.Term.TheVariants as term
use Rattle.ir_module.specs.Classes.{class_of_function}
use Rattle.ir_module.specs.Operands.{operands_of}
use Rattle.ir_module.specs.Steps.{Step, PhiAt, InstAt, TermAt, NoStep, step_in_module}
use Rattle.ir_values.specs.declared.cause.Cause.{Cause}
use Rattle.ir_values.specs.declared.cause.Cause.TheVariants as cause
use Rattle.ir_values.specs.declared.class.Class.{Class}
use Rattle.ir_values.specs.declared.class.Class.TheVariants as class
use Rattle.ir_values.specs.declared.ids.BlockId.{BlockId}
use Rattle.ir_values.specs.declared.ids.FuncId.{FuncId}
use Rattle.ir_values.specs.declared.ids.LocalId.{LocalId}
use Rattle.ir_values.specs.declared.int.BinOp.{BinOp}
use Rattle.ir_values.specs.declared.int.Conv.{Conv}
use Rattle.ir_values.specs.declared.int.Flags.{Flags}
use Rattle.ir_values.specs.declared.int.Pred.{Pred}
use Rattle.ir_values.specs.declared.int.Width.{Width}
use Rattle.ir_values.specs.declared.ty.Ty.{Ty}
use Rattle.ir_values.specs.declared.ty.Ty.TheVariants as ty
use Rattle.ir_values.specs.declared.value.Value.{Value}
use Rattle.ir_values.specs.declared.value.Value.TheVariants as value
use Rattle.residue.specs.Functions.{is_constant}
use Rattle.settled_adaptive.specs.Undecided.{is_undecided}
use Rattle.undecided_parts.specs.Laws.{keeps_undecided}
use Rattle.ir_values.specs.Arithmetic.{allows, binary_of, compare_of, converts, convert_of}
use Rattle.ir_values.specs.Int.{IntValue, signed}
use Rattle.ir_values.specs.Names.{name_text}
use Rattle.qir_meaning.specs.Moves.{target_of}
use Rattle.qir_meaning.specs.Effects.{is_one}
use Rattle.kept_items.specs.declared.item.Choice.{Choice}
use Rattle.kept_items.specs.declared.item.Choice.TheVariants.{One, Branch, Switch}
use Rattle.kept_items.specs.declared.item.Code.TheVariants as code
use Rattle.kept_items.specs.declared.item.Item.{Item}
use Rattle.kept_items.specs.declared.item.Item.TheVariants as item
use Rattle.kept_items.specs.declared.target.Kind.TheVariants as kind
use Rattle.kept_items.specs.declared.target.Target.{Target}
use Rattle.kept_items.specs.declared.val.Dyn.{Dyn}
use Rattle.kept_items.specs.declared.val.Val.{Val}
use Rattle.kept_items.specs.declared.val.Val.TheVariants.{Known, Dynamic}
use Rattle.kept_items.specs.Items.{bit_int}
use Rattle.kept_items.specs.Targets.{has_ints, has_returns, has_switch, is_base}
use Rattle.static_steps.specs.declared.config.Config.{Config}
use Rattle.static_steps.specs.declared.phase.Phase.{Phase}
use Rattle.static_steps.specs.declared.turn.Move.{Move}
use Rattle.static_steps.specs.declared.turn.Turn.{Turn}
use Rattle.static_steps.specs.declared.turn.Turn.TheVariants.{Exits, Bad, Lost}
use Rattle.static_steps.specs.declared.work.WorkFrame.{WorkFrame}
use Rattle.static_steps.specs.Calls as calls
use Rattle.static_steps.specs.Edges as edges
use Rattle.static_steps.specs.Integers as integers
use Rattle.static_steps.specs.Operations as operations
use Rattle.static_steps.specs.Records as records
use Rattle.static_steps.specs.Results as results
use Rattle.static_steps.specs.Returns as returns
use Rattle.static_steps.specs.Settings.{Setting, bound, gives_dynamic, gives_known, goes, kept_if, passed, silent}
use Rattle.static_steps.specs.Steps.{inst_turn, setting_of, static_step, step_turn, term_turn, with_val, with_vals}
use Rattle.ir_values.specs.Values.{is_bit, is_bitwise, same_width}
use Rattle.static_steps.specs.Values.{same_known, val_of, vals_of}

abbrev Keeps : Turn → Type 0
Keeps t = keeps_undecided t ≡ true

either : (b : Bool) (u v : Turn) → Keeps u → Keeps v → Keeps (if b then u else v)
either true u v h k = h
either false u v h k = k

-- a result without a known bit is no constant
one-varies : (v : Value) → results.const_bit v ≡ None → not (is_constant v) ≡ true
one-varies value.One e = cc
one-varies value.Zero e = cc
one-varies v e = refl

two-vary : (v u : Value) → results.both_bits (results.const_bit v) (results.const_bit u) ≡ None → not (is_constant v && is_constant u) ≡ true
two-vary value.One value.One e = cc
two-vary value.One value.Zero e = cc
two-vary value.One u e = refl
two-vary value.Zero value.One e = cc
two-vary value.Zero value.Zero e = cc
two-vary value.Zero u e = refl
two-vary v u e = refl

module _ (s : Setting) where
  module _ (x : Option LocalId) where
    keeps : (ok : Bool) (i : Item) → is_undecided i ≡ true → Keeps (kept_if s x ok i)
    keeps ok i h = either ok (gives_dynamic s x i) (Bad kind.Capability) h refl

    folds : (r : Result IntValue Cause) → Keeps (integers.folded s x r)
    folds (Ok i) = refl
    folds (Err why) = refl

    binaries : (o : BinOp) (flags : Flags) (wd : Width) (a b : Val) → Keeps (integers.binary_turn s x o flags wd a b)
    binaries o flags wd (Known (value.Int i)) (Known (value.Int j)) =
        either (same_width i.width j.width && allows o flags) (integers.folded s x (binary_of o flags i j)) Lost (folds (binary_of o flags i j)) refl
    binaries o flags wd (Known v) (Known u) = refl
    binaries o flags wd a b = keeps (has_ints s.t || (is_bit wd && is_bitwise o)) (item.Binary s.fresh o flags wd a b) refl

    icmps : (o : Pred) (wd : Width) (a b : Val) → Keeps (integers.icmp_turn s x o wd a b)
    icmps o wd (Known (value.Int i)) (Known (value.Int j)) =
        either (same_width i.width j.width) (gives_known s x (value.Int (bit_int (compare_of o i j)))) Lost refl refl
    icmps o wd (Known v) (Known u) = refl
    icmps o wd a b = keeps (has_ints s.t || is_bit wd) (item.Icmp s.fresh o wd a b) refl

    converts-to : (o : Conv) (wd : Width) (a : Val) (to : Width) → Keeps (integers.convert_turn s x o wd a to)
    converts-to o wd (Known (value.Int i)) to = either (converts o i.width to) (gives_known s x (value.Int (convert_of o i to))) Lost refl refl
    converts-to o wd (Known v) to = refl
    converts-to o wd (Dynamic d) to = keeps (has_ints s.t) (item.Convert s.fresh o wd (Dynamic d) to) refl

    select-kept : (t : Ty) (d : Dyn) (a b : Val) → same_known a b ≡ false → Keeps (integers.select_kept s x t d a b)
    select-kept (ty.Int wd) d a b e =
        either (integers.is_number a && integers.is_number b) (kept_if s x (has_ints s.t || is_bit wd) (item.Select s.fresh wd (Dynamic d) a b)) Lost
        (keeps (has_ints s.t || is_bit wd) (item.Select s.fresh wd (Dynamic d) a b) (ap not e)) refl
    select-kept ty.Qubit d a b e = refl
    select-kept ty.Res d a b e = refl
    select-kept (ty.Func ws) d a b e = refl
    select-kept other d a b e = refl

    selects : (t : Ty) (c a b : Val) → Keeps (integers.select_turn s x t c a b)
    selects t (Known (value.Int i)) a b = refl
    selects t (Known v) a b = refl
    selects t (Dynamic d) a b = by (same_known a b) refl
      where
        by : (same : Bool) → same_known a b ≡ same → Keeps (if same then goes s (bound s x a) else integers.select_kept s x t d a b)
        by true e = refl
        by false e = select-kept t d a b e

    by-const : (o : Option Bool) (i : Item) → (o ≡ None → is_undecided i ≡ true) → Keeps (results.by_const s x o i)
    by-const (Some b) i h = refl
    by-const None i h = either (is_base s.t) (Bad kind.Forbidden) (gives_dynamic s x i) refl (h refl)

    reads : (a : Val) → Keeps (results.reads s x a)
    reads (Known v) = by-const (results.const_bit v) (item.Read s.fresh v) (one-varies v)
    reads (Dynamic d) = refl

    read-turn : (vs : List Val) → Keeps (results.read_turn s x vs)
    read-turn (a ∷ []) = reads a
    read-turn vs = refl

    equals : (a b : Val) → Keeps (results.equals s x a b)
    equals (Known v) (Known u) = by-const (results.both_bits (results.const_bit v) (results.const_bit u)) (item.Equal s.fresh v u) (two-vary v u)
    equals (Known v) (Dynamic d) = refl
    equals (Dynamic d) b = refl

    equal-turn : (vs : List Val) → Keeps (results.equal_turn s x vs)
    equal-turn (a ∷ b ∷ []) = equals a b
    equal-turn vs = refl

    returns-in : (o : Option Phase) (args : List (Ty × Val)) → Keeps (operations.returns_in s x o args)
    returns-in None args = refl
    returns-in (Some ph) args = refl

    returning-on : (c : Option Cause) (args : List (Ty × Val)) → Keeps (operations.returning_on s x c args)
    returning-on (Some why) args = refl
    returning-on None args = returns-in (operations.phase_after s true) args

    returning : (o : Option (List (Ty × Val))) → Keeps (operations.returning_turn s x o)
    returning None = refl
    returning (Some args) =
        either (operations.measures args) Lost (operations.returning_on s x (operations.wrong_args s.w.held args) args) refl
        (returning-on (operations.wrong_args s.w.held args) args)

  releases : (a : Val) → Keeps (results.releases s a)
  releases (Known (value.Id i)) = refl
  releases (Known (value.Alloc j)) =
      either (results.held_in s.w.held j) (goes s (record (passed s) { held = results.without s.w.held j })) (Bad (kind.Traps cause.Released)) refl refl
  releases (Known v) = refl
  releases (Dynamic d) = refl

  release-turn : (vs : List Val) → Keeps (results.release_turn s vs)
  release-turn (a ∷ []) = releases a
  release-turn vs = refl

  issues-in : (o : Option Phase) (name : List ℕ) (args : List (Ty × Val)) → Keeps (operations.issues_in s o name args)
  issues-in None name args = refl
  issues-in (Some ph) name args = refl

  issues : (c : Option Cause) (irreversible : Bool) (name : List ℕ) (args : List (Ty × Val)) → Keeps (operations.issues s c irreversible name args)
  issues (Some why) irreversible name args = refl
  issues None irreversible name args = issues-in (operations.phase_after s irreversible) name args

  operates : (name : List ℕ) (measurement irreversible : Bool) (o : Option (List (Ty × Val))) → Keeps (operations.operates s name measurement irreversible o)
  operates name measurement irreversible None = refl
  operates name measurement irreversible (Some args) =
      either (operations.same_truth measurement (operations.measures args)) (operations.operates_on s name irreversible args) Lost
      (issues (operations.wrong_args s.w.held args) irreversible name args) refl

  outputs : (c : Class) (o : Option (List (Ty × Val))) → Keeps (records.outputs s c o)
  outputs c None = refl
  outputs c (Some args) = refl

  counts : (c : Class) (ts : List Ty) (vs : List Val) → Keeps (records.count_output s c ts vs)
  counts c ts (Dynamic d ∷ vs) = refl
  counts c ts vs = outputs c (operations.typed_args ts vs)

  result-output : (ts : List Ty) (vs : List Val) → Keeps (records.result_output s ts vs)
  result-output ts (Known value.One ∷ vs) = refl
  result-output ts (Known value.Zero ∷ vs) = refl
  result-output ts vs = outputs class.ResRecord (operations.typed_args ts vs)

  value-output : (c : Class) (ts : List Ty) (vs : List Val) → Keeps (records.value_output s c ts vs)
  value-output c ts vs = either (is_base s.t) (Bad kind.Forbidden) (records.outputs s c (operations.typed_args ts vs)) refl (outputs c (operations.typed_args ts vs))

  int-output : (ts : List Ty) (vs : List Val) → Keeps (records.int_output s ts vs)
  int-output ts vs =
      let u : Turn = records.outputs s class.IntRecord (operations.typed_args ts vs) in
      either (is_base s.t) (Bad kind.Forbidden) (if has_ints s.t then u else Bad kind.Capability) refl
      (either (has_ints s.t) u (Bad kind.Capability) (outputs class.IntRecord (operations.typed_args ts vs)) refl)

  silents : (f : Function) (name : List ℕ) (c : Class) (ts : List Ty) (vs : List Val) → Keeps (calls.silent_turn s f name c ts vs)
  silents f name class.Release ts vs = release-turn vs
  silents f name class.Gate ts vs = operates name false (operations.is_irreversible f class.Gate) (operations.typed_args ts vs)
  silents f name class.Measure ts vs = operates name true true (operations.typed_args ts vs)
  silents f name class.Tuple ts vs = counts class.Tuple ts vs
  silents f name class.Array ts vs = counts class.Array ts vs
  silents f name class.ResRecord ts vs = result-output ts vs
  silents f name class.BoolRecord ts vs = value-output class.BoolRecord ts vs
  silents f name class.IntRecord ts vs = int-output ts vs
  silents f name class.DoubleRecord ts vs = value-output class.DoubleRecord ts vs
  silents f name c ts vs = refl

  unnamed : (x : Option LocalId) (u : Turn) → Keeps u → Keeps (silent x u)
  unnamed None u h = h
  unnamed (Some y) u h = refl

  classes : (x : Option LocalId) (f : Function) (name : List ℕ) (c : Class) (ts : List Ty) (vs : List Val) → Keeps (calls.class_turn s x f name c ts vs)
  classes x f name class.Alloc ts vs = refl
  classes x f name class.One ts vs = refl
  classes x f name class.Zero ts vs = refl
  classes x f name class.Read ts vs = read-turn x vs
  classes x f name class.Equal ts vs = equal-turn x vs
  classes x f name class.Returning ts vs = returning x (operations.typed_args ts vs)
  classes x f name c ts vs = unnamed x (calls.silent_turn s f name c ts vs) (silents f name c ts vs)

  bodies : (x : Option LocalId) (g : FuncId) (f : Function) (o : Option (List Block)) (ts : List Ty) (vs : List Val) → Keeps (calls.body_turn s x g f o ts vs)
  bodies x g f (Some blocks) ts vs = refl
  bodies x g f None ts vs = by-class (class_of_function f)
    where
      by-class : (c : Option Class) → Keeps (calls.declared_turn s x f c ts vs)
      by-class None = refl
      by-class (Some c) = classes x f (name_text f.name) c ts vs

  call-turn : (x : Option LocalId) (g : FuncId) (o : Option Function) (ts : List Ty) (vs : List Val) → Keeps (calls.calls_turn s x g o ts vs)
  call-turn x g None ts vs = refl
  call-turn x g (Some f) ts vs = bodies x g f f.blocks ts vs

  insts : (x : Option LocalId) (what : InstKind) (vs : List Val) → Keeps (inst_turn s x what vs)
  insts x (inst.Binary o flags (ty.Int wd) a b) (u ∷ v ∷ []) = binaries x o flags wd u v
  insts x (inst.Icmp o (ty.Int wd) a b) (u ∷ v ∷ []) = icmps x o wd u v
  insts x (inst.Convert o (ty.Int wd) a (ty.Int to)) (u ∷ []) = converts-to x o wd u to
  insts x (inst.Select c t a u b) (p ∷ q ∷ r ∷ []) = selects x t p q r
  insts x (inst.Call ret f args) (Known (value.Func g) ∷ vs) = call-turn x g (slice_get s.m.funcs g.0) (map (λ a. a.0) args) vs
  insts x what vs = refl

  edge-turn : (o : Option (List Move)) (c : Choice) → Keeps (edges.edges_turn s o c)
  edge-turn None c = refl
  edge-turn (Some mvs) c = refl

  edges-to : (bs : List BlockId) (c : Choice) → Keeps (edges.edges_to s bs c)
  edges-to bs c = edge-turn (edges.all_along s bs) c

  branches : (a : Val) (b c : BlockId) → Keeps (edges.branch_turn s a b c)
  branches (Known (value.Int i)) b c = edges-to ((if is_one i then b else c) ∷ []) One
  branches (Known v) b c = refl
  branches (Dynamic d) b c = edges-to (b ∷ c ∷ []) (Branch d)

  switches : (wd : Width) (a : Val) (b : BlockId) (cases : List (IntValue × BlockId)) → Keeps (edges.switch_turn s wd a b cases)
  switches wd (Known (value.Int i)) b cases = edges-to (target_of i cases b ∷ []) One
  switches wd (Known v) b cases = refl
  switches wd (Dynamic d) b cases =
      let c : Choice = Switch d wd (edges.case_values cases) in
      either (has_switch s.t && (is_bit wd || has_ints s.t)) (edges.edges_to s (edges.targets cases b) c) (Bad kind.Capability) (edges-to (edges.targets cases b) c) refl

  exits : (a : Option Val) → Keeps (returns.exits s a)
  exits None = refl
  exits (Some (Known (value.Int i))) = either (has_returns s.t || (i.bits == 0)) (Exits (code.Known (signed i))) (Bad kind.Capability) refl refl
  exits (Some (Known v)) = refl
  exits (Some (Dynamic d)) = either (has_returns s.t) (Exits (code.Dynamic d)) (Bad kind.Capability) refl refl

  resumes : (f : WorkFrame) (fs : List WorkFrame) (o : Option (Option LocalId)) (a : Option Val) → Keeps (returns.resumes s f fs o a)
  resumes f fs None a = refl
  resumes f fs (Some x) (Some a) = refl
  resumes f fs (Some None) None = refl
  resumes f fs (Some (Some x)) None = refl

  backs : (fs : List WorkFrame) (a : Option Val) → Keeps (returns.back_turn s fs a)
  backs [] a = exits a
  backs (f ∷ fs) a = resumes f fs (returns.call_result s.m f.at) a

  valued : (o : Option Val) (go : Val → Turn) → ((v : Val) → Keeps (go v)) → Keeps (with_val o go)
  valued None go h = refl
  valued (Some v) go h = h v

  all-valued : (o : Option (List Val)) (go : List Val → Turn) → ((vs : List Val) → Keeps (go vs)) → Keeps (with_vals o go)
  all-valued None go h = refl
  all-valued (Some vs) go h = h vs

  terms : (e : Term) → Keeps (term_turn s e)
  terms term.RetVoid = backs s.w.below None
  terms (term.Ret t a) = valued (val_of s.w.top.names a) (λ v. returns.back_turn s s.w.below (Some v)) (λ v. backs s.w.below (Some v))
  terms (term.Br b) = edges-to (b ∷ []) One
  terms (term.CondBr c b d) = valued (val_of s.w.top.names c) (λ v. edges.branch_turn s v b d) (λ v. branches v b d)
  terms (term.Switch (ty.Int wd) a b cases) = valued (val_of s.w.top.names a) (λ v. edges.switch_turn s wd v b cases) (λ v. switches wd v b cases)
  terms (term.Switch other a b cases) = refl

  steps : (c : Step) → Keeps (step_turn s c)
  steps (PhiAt phi) = refl
  steps (InstAt i) = all-valued (vals_of s.w.top.names (operands_of i.what)) (inst_turn s i.result i.what) (insts i.result i.what)
  steps (TermAt e) = terms e
  steps NoStep = refl

pub steps-keep : (m : Module) (t : Target) (live : Point → LocalId → Bool) (g : Config) → keeps_undecided (static_step m t live g) ≡ true
unfolding static_step
steps-keep m t live g = steps (setting_of m t live g) (step_in_module m g.top.at)

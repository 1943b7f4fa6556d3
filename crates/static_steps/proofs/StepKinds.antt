-- A step never says that the program comes back to where it was, nor that the budget ends.
use Rattle.std.proofs.Common.{ℕ, Bool, true, false, Option, None, Some, List, [], ◌∷◌, Result, Ok, Err, map}
use Rattle.std.specs.Prelude.{if◌then◌else◌, ◌==◌, ◌&&◌, ◌||◌, slice_get}
use Rattle.ir_module.specs.declared.places.Point.{Point}
use Rattle.ir_module.specs.declared.tree.Block.{Block}
use Rattle.ir_module.specs.declared.tree.Function.{Function}
use Rattle.ir_module.specs.declared.tree.InstKind.{InstKind}
use Rattle.ir_module.specs.declared.tree.InstKind.TheVariants as inst
use Rattle.ir_module.specs.declared.tree.Module.{Module}
use Rattle.ir_module.specs.declared.tree.Term.{Term}
use Rattle.ir_module.specs.declared.tree.Term.TheVariants as term
use Rattle.ir_module.specs.Classes.{class_of_function}
use Rattle.ir_module.specs.Operands.{operands_of}
use Rattle.ir_module.specs.Steps.{Step, PhiAt, InstAt, TermAt, NoStep, step_in_module}
use Rattle.ir_values.specs.declared.cause.Cause.{Cause}
use Rattle.ir_values.specs.declared.cause.Cause.TheVariants as cause
use Rattle.ir_values.specs.declared.class.Class.{Class}
use Rattle.ir_values.specs.declared.class.Class.TheVariants as class
use Rattle.ir_values.specs.declared.ids.BlockId.{BlockId}
use Rattle.ir_values.specs.declared.ids.FuncId.{FuncId}
use Rattle.ir_values.specs.declared.ids.LocalId.{LocalId}
use Rattle.ir_values.specs.declared.int.BinOp.{BinOp}
use Rattle.ir_values.specs.declared.int.Conv.{Conv}
use Rattle.ir_values.specs.declared.int.Flags.{Flags}
use Rattle.ir_values.specs.declared.int.Pred.{Pred}
use Rattle.ir_values.specs.declared.int.Width.{Width}
use Rattle.ir_values.specs.declared.ty.Ty.{Ty}
use Rattle.ir_values.specs.declared.ty.Ty.TheVariants as ty
use Rattle.ir_values.specs.declared.value.Value.TheVariants as value
use Rattle.ir_values.specs.Arithmetic.{allows, binary_of, compare_of, converts, convert_of}
use Rattle.ir_values.specs.Int.{IntValue, signed}
use Rattle.ir_values.specs.Names.{name_text}
use Rattle.qir_meaning.specs.Moves.{target_of}
use Rattle.qir_meaning.specs.Effects.{is_one}
use Rattle.kept_items.specs.declared.item.Choice.{Choice}
use Rattle.kept_items.specs.declared.item.Choice.TheVariants.{One, Branch, Switch}
use Rattle.kept_items.specs.declared.item.Code.TheVariants as code
use Rattle.kept_items.specs.declared.item.Item.{Item}
use Rattle.kept_items.specs.declared.item.Item.TheVariants as item
use Rattle.kept_items.specs.declared.target.Kind.TheVariants as kind
use Rattle.kept_items.specs.declared.target.Target.{Target}
use Rattle.kept_items.specs.declared.val.Dyn.{Dyn}
use Rattle.kept_items.specs.declared.val.Val.{Val}
use Rattle.kept_items.specs.declared.val.Val.TheVariants.{Known, Dynamic}
use Rattle.kept_items.specs.Items.{bit_int}
use Rattle.kept_items.specs.Targets.{has_ints, has_returns, has_switch, is_base}
use Rattle.static_steps.specs.declared.config.Config.{Config}
use Rattle.static_steps.specs.declared.phase.Phase.{Phase}
use Rattle.static_steps.specs.declared.turn.Move.{Move}
use Rattle.static_steps.specs.declared.turn.Turn.{Turn}
use Rattle.static_steps.specs.declared.turn.Turn.TheVariants.{Exits, Bad, Lost}
use Rattle.static_steps.specs.declared.work.WorkFrame.{WorkFrame}
use Rattle.static_steps.specs.Calls as calls
use Rattle.static_steps.specs.Edges as edges
use Rattle.static_steps.specs.Integers as integers
use Rattle.static_steps.specs.Laws.{IsStepTurn}
use Rattle.static_steps.specs.Operations as operations
use Rattle.static_steps.specs.Records as records
use Rattle.static_steps.specs.Results as results
use Rattle.static_steps.specs.Returns as returns
use Rattle.static_steps.specs.Settings.{Setting, bound, gives_dynamic, gives_known, goes, kept_if, passed, silent}
use Rattle.static_steps.specs.Steps.{inst_turn, setting_of, static_step, step_turn, term_turn, with_val, with_vals}
use Rattle.ir_values.specs.Values.{is_bit, is_bitwise, same_width}
use Rattle.static_steps.specs.Values.{same_known, val_of, vals_of}

either : (b : Bool) (u v : Turn) → IsStepTurn u → IsStepTurn v → IsStepTurn (if b then u else v)
either true u v h k = h
either false u v h k = k

module _ (s : Setting) where
  module _ (x : Option LocalId) where
    keeps : (ok : Bool) (i : Item) → IsStepTurn (kept_if s x ok i)
    keeps ok i = either ok (gives_dynamic s x i) (Bad kind.Capability) tt tt

    folds : (r : Result IntValue Cause) → IsStepTurn (integers.folded s x r)
    folds (Ok i) = tt
    folds (Err why) = tt

    binaries : (o : BinOp) (flags : Flags) (wd : Width) (a b : Val) → IsStepTurn (integers.binary_turn s x o flags wd a b)
    binaries o flags wd (Known (value.Int i)) (Known (value.Int j)) =
        either (same_width i.width j.width && allows o flags) (integers.folded s x (binary_of o flags i j)) Lost (folds (binary_of o flags i j)) tt
    binaries o flags wd (Known v) (Known u) = tt
    binaries o flags wd a b = keeps (has_ints s.t || (is_bit wd && is_bitwise o)) (item.Binary s.fresh o flags wd a b)

    icmps : (o : Pred) (wd : Width) (a b : Val) → IsStepTurn (integers.icmp_turn s x o wd a b)
    icmps o wd (Known (value.Int i)) (Known (value.Int j)) =
        either (same_width i.width j.width) (gives_known s x (value.Int (bit_int (compare_of o i j)))) Lost tt tt
    icmps o wd (Known v) (Known u) = tt
    icmps o wd a b = keeps (has_ints s.t || is_bit wd) (item.Icmp s.fresh o wd a b)

    converts-to : (o : Conv) (wd : Width) (a : Val) (to : Width) → IsStepTurn (integers.convert_turn s x o wd a to)
    converts-to o wd (Known (value.Int i)) to = either (converts o i.width to) (gives_known s x (value.Int (convert_of o i to))) Lost tt tt
    converts-to o wd (Known v) to = tt
    converts-to o wd (Dynamic d) to = keeps (has_ints s.t) (item.Convert s.fresh o wd (Dynamic d) to)

    select-kept : (t : Ty) (d : Dyn) (a b : Val) → IsStepTurn (integers.select_kept s x t d a b)
    select-kept (ty.Int wd) d a b =
        either (integers.is_number a && integers.is_number b) (kept_if s x (has_ints s.t || is_bit wd) (item.Select s.fresh wd (Dynamic d) a b)) Lost
        (keeps (has_ints s.t || is_bit wd) (item.Select s.fresh wd (Dynamic d) a b)) tt
    select-kept ty.Qubit d a b = tt
    select-kept ty.Res d a b = tt
    select-kept (ty.Func ws) d a b = tt
    select-kept other d a b = tt

    selects : (t : Ty) (c a b : Val) → IsStepTurn (integers.select_turn s x t c a b)
    selects t (Known (value.Int i)) a b = tt
    selects t (Known v) a b = tt
    selects t (Dynamic d) a b = either (same_known a b) (goes s (bound s x a)) (integers.select_kept s x t d a b) tt (select-kept t d a b)

    by-const : (o : Option Bool) (i : Item) → IsStepTurn (results.by_const s x o i)
    by-const (Some b) i = tt
    by-const None i = either (is_base s.t) (Bad kind.Forbidden) (gives_dynamic s x i) tt tt

    reads : (a : Val) → IsStepTurn (results.reads s x a)
    reads (Known v) = by-const (results.const_bit v) (item.Read s.fresh v)
    reads (Dynamic d) = tt

    read-turn : (vs : List Val) → IsStepTurn (results.read_turn s x vs)
    read-turn (a ∷ []) = reads a
    read-turn vs = tt

    equals : (a b : Val) → IsStepTurn (results.equals s x a b)
    equals (Known v) (Known u) = by-const (results.both_bits (results.const_bit v) (results.const_bit u)) (item.Equal s.fresh v u)
    equals (Known v) (Dynamic d) = tt
    equals (Dynamic d) b = tt

    equal-turn : (vs : List Val) → IsStepTurn (results.equal_turn s x vs)
    equal-turn (a ∷ b ∷ []) = equals a b
    equal-turn vs = tt

    returns-in : (o : Option Phase) (args : List (Ty × Val)) → IsStepTurn (operations.returns_in s x o args)
    returns-in None args = tt
    returns-in (Some ph) args = tt

    returning-on : (c : Option Cause) (args : List (Ty × Val)) → IsStepTurn (operations.returning_on s x c args)
    returning-on (Some why) args = tt
    returning-on None args = returns-in (operations.phase_after s true) args

    returning : (o : Option (List (Ty × Val))) → IsStepTurn (operations.returning_turn s x o)
    returning None = tt
    returning (Some args) =
        either (operations.measures args) Lost (operations.returning_on s x (operations.wrong_args s.w.held args) args) tt
        (returning-on (operations.wrong_args s.w.held args) args)

  releases : (a : Val) → IsStepTurn (results.releases s a)
  releases (Known (value.Id i)) = tt
  releases (Known (value.Alloc j)) =
      either (results.held_in s.w.held j) (goes s (record (passed s) { held = results.without s.w.held j })) (Bad (kind.Traps cause.Released)) tt tt
  releases (Known v) = tt
  releases (Dynamic d) = tt

  release-turn : (vs : List Val) → IsStepTurn (results.release_turn s vs)
  release-turn (a ∷ []) = releases a
  release-turn vs = tt

  issues-in : (o : Option Phase) (name : List ℕ) (args : List (Ty × Val)) → IsStepTurn (operations.issues_in s o name args)
  issues-in None name args = tt
  issues-in (Some ph) name args = tt

  issues : (c : Option Cause) (irreversible : Bool) (name : List ℕ) (args : List (Ty × Val)) → IsStepTurn (operations.issues s c irreversible name args)
  issues (Some why) irreversible name args = tt
  issues None irreversible name args = issues-in (operations.phase_after s irreversible) name args

  operates : (name : List ℕ) (measurement irreversible : Bool) (o : Option (List (Ty × Val))) → IsStepTurn (operations.operates s name measurement irreversible o)
  operates name measurement irreversible None = tt
  operates name measurement irreversible (Some args) =
      either (operations.same_truth measurement (operations.measures args)) (operations.operates_on s name irreversible args) Lost
      (issues (operations.wrong_args s.w.held args) irreversible name args) tt

  outputs : (c : Class) (o : Option (List (Ty × Val))) → IsStepTurn (records.outputs s c o)
  outputs c None = tt
  outputs c (Some args) = tt

  counts : (c : Class) (ts : List Ty) (vs : List Val) → IsStepTurn (records.count_output s c ts vs)
  counts c ts (Dynamic d ∷ vs) = tt
  counts c ts vs = outputs c (operations.typed_args ts vs)

  result-output : (ts : List Ty) (vs : List Val) → IsStepTurn (records.result_output s ts vs)
  result-output ts (Known value.One ∷ vs) = tt
  result-output ts (Known value.Zero ∷ vs) = tt
  result-output ts vs = outputs class.ResRecord (operations.typed_args ts vs)

  value-output : (c : Class) (ts : List Ty) (vs : List Val) → IsStepTurn (records.value_output s c ts vs)
  value-output c ts vs = either (is_base s.t) (Bad kind.Forbidden) (records.outputs s c (operations.typed_args ts vs)) tt (outputs c (operations.typed_args ts vs))

  int-output : (ts : List Ty) (vs : List Val) → IsStepTurn (records.int_output s ts vs)
  int-output ts vs =
      let u : Turn = records.outputs s class.IntRecord (operations.typed_args ts vs) in
      either (is_base s.t) (Bad kind.Forbidden) (if has_ints s.t then u else Bad kind.Capability) tt
      (either (has_ints s.t) u (Bad kind.Capability) (outputs class.IntRecord (operations.typed_args ts vs)) tt)

  silents : (f : Function) (name : List ℕ) (c : Class) (ts : List Ty) (vs : List Val) → IsStepTurn (calls.silent_turn s f name c ts vs)
  silents f name class.Release ts vs = release-turn vs
  silents f name class.Gate ts vs = operates name false (operations.is_irreversible f class.Gate) (operations.typed_args ts vs)
  silents f name class.Measure ts vs = operates name true true (operations.typed_args ts vs)
  silents f name class.Tuple ts vs = counts class.Tuple ts vs
  silents f name class.Array ts vs = counts class.Array ts vs
  silents f name class.ResRecord ts vs = result-output ts vs
  silents f name class.BoolRecord ts vs = value-output class.BoolRecord ts vs
  silents f name class.IntRecord ts vs = int-output ts vs
  silents f name class.DoubleRecord ts vs = value-output class.DoubleRecord ts vs
  silents f name c ts vs = tt

  unnamed : (x : Option LocalId) (u : Turn) → IsStepTurn u → IsStepTurn (silent x u)
  unnamed None u h = h
  unnamed (Some y) u h = tt

  classes : (x : Option LocalId) (f : Function) (name : List ℕ) (c : Class) (ts : List Ty) (vs : List Val) → IsStepTurn (calls.class_turn s x f name c ts vs)
  classes x f name class.Alloc ts vs = tt
  classes x f name class.One ts vs = tt
  classes x f name class.Zero ts vs = tt
  classes x f name class.Read ts vs = read-turn x vs
  classes x f name class.Equal ts vs = equal-turn x vs
  classes x f name class.Returning ts vs = returning x (operations.typed_args ts vs)
  classes x f name c ts vs = unnamed x (calls.silent_turn s f name c ts vs) (silents f name c ts vs)

  bodies : (x : Option LocalId) (g : FuncId) (f : Function) (o : Option (List Block)) (ts : List Ty) (vs : List Val) → IsStepTurn (calls.body_turn s x g f o ts vs)
  bodies x g f (Some blocks) ts vs = tt
  bodies x g f None ts vs = by-class (class_of_function f)
    where
      by-class : (c : Option Class) → IsStepTurn (calls.declared_turn s x f c ts vs)
      by-class None = tt
      by-class (Some c) = classes x f (name_text f.name) c ts vs

  call-turn : (x : Option LocalId) (g : FuncId) (o : Option Function) (ts : List Ty) (vs : List Val) → IsStepTurn (calls.calls_turn s x g o ts vs)
  call-turn x g None ts vs = tt
  call-turn x g (Some f) ts vs = bodies x g f f.blocks ts vs

  insts : (x : Option LocalId) (what : InstKind) (vs : List Val) → IsStepTurn (inst_turn s x what vs)
  insts x (inst.Binary o flags (ty.Int wd) a b) (u ∷ v ∷ []) = binaries x o flags wd u v
  insts x (inst.Icmp o (ty.Int wd) a b) (u ∷ v ∷ []) = icmps x o wd u v
  insts x (inst.Convert o (ty.Int wd) a (ty.Int to)) (u ∷ []) = converts-to x o wd u to
  insts x (inst.Select c t a u b) (p ∷ q ∷ r ∷ []) = selects x t p q r
  insts x (inst.Call ret f args) (Known (value.Func g) ∷ vs) = call-turn x g (slice_get s.m.funcs g.0) (map (λ a. a.0) args) vs
  insts x what vs = tt

  edge-turn : (o : Option (List Move)) (c : Choice) → IsStepTurn (edges.edges_turn s o c)
  edge-turn None c = tt
  edge-turn (Some mvs) c = tt

  edges-to : (bs : List BlockId) (c : Choice) → IsStepTurn (edges.edges_to s bs c)
  edges-to bs c = edge-turn (edges.all_along s bs) c

  branches : (a : Val) (b c : BlockId) → IsStepTurn (edges.branch_turn s a b c)
  branches (Known (value.Int i)) b c = edges-to ((if is_one i then b else c) ∷ []) One
  branches (Known v) b c = tt
  branches (Dynamic d) b c = edges-to (b ∷ c ∷ []) (Branch d)

  switches : (wd : Width) (a : Val) (b : BlockId) (cases : List (IntValue × BlockId)) → IsStepTurn (edges.switch_turn s wd a b cases)
  switches wd (Known (value.Int i)) b cases = edges-to (target_of i cases b ∷ []) One
  switches wd (Known v) b cases = tt
  switches wd (Dynamic d) b cases =
      let c : Choice = Switch d wd (edges.case_values cases) in
      either (has_switch s.t && (is_bit wd || has_ints s.t)) (edges.edges_to s (edges.targets cases b) c) (Bad kind.Capability) (edges-to (edges.targets cases b) c) tt

  exits : (a : Option Val) → IsStepTurn (returns.exits s a)
  exits None = tt
  exits (Some (Known (value.Int i))) = either (has_returns s.t || (i.bits == 0)) (Exits (code.Known (signed i))) (Bad kind.Capability) tt tt
  exits (Some (Known v)) = tt
  exits (Some (Dynamic d)) = either (has_returns s.t) (Exits (code.Dynamic d)) (Bad kind.Capability) tt tt

  resumes : (f : WorkFrame) (fs : List WorkFrame) (o : Option (Option LocalId)) (a : Option Val) → IsStepTurn (returns.resumes s f fs o a)
  resumes f fs None a = tt
  resumes f fs (Some x) (Some a) = tt
  resumes f fs (Some None) None = tt
  resumes f fs (Some (Some x)) None = tt

  backs : (fs : List WorkFrame) (a : Option Val) → IsStepTurn (returns.back_turn s fs a)
  backs [] a = exits a
  backs (f ∷ fs) a = resumes f fs (returns.call_result s.m f.at) a

  valued : (o : Option Val) (go : Val → Turn) → ((v : Val) → IsStepTurn (go v)) → IsStepTurn (with_val o go)
  valued None go h = tt
  valued (Some v) go h = h v

  all-valued : (o : Option (List Val)) (go : List Val → Turn) → ((vs : List Val) → IsStepTurn (go vs)) → IsStepTurn (with_vals o go)
  all-valued None go h = tt
  all-valued (Some vs) go h = h vs

  terms : (e : Term) → IsStepTurn (term_turn s e)
  terms term.RetVoid = backs s.w.below None
  terms (term.Ret t a) = valued (val_of s.w.top.names a) (λ v. returns.back_turn s s.w.below (Some v)) (λ v. backs s.w.below (Some v))
  terms (term.Br b) = edges-to (b ∷ []) One
  terms (term.CondBr c b d) = valued (val_of s.w.top.names c) (λ v. edges.branch_turn s v b d) (λ v. branches v b d)
  terms (term.Switch (ty.Int wd) a b cases) = valued (val_of s.w.top.names a) (λ v. edges.switch_turn s wd v b cases) (λ v. switches wd v b cases)
  terms (term.Switch other a b cases) = tt

  steps : (c : Step) → IsStepTurn (step_turn s c)
  steps (PhiAt phi) = tt
  steps (InstAt i) = all-valued (vals_of s.w.top.names (operands_of i.what)) (inst_turn s i.result i.what) (insts i.result i.what)
  steps (TermAt e) = terms e
  steps NoStep = tt

pub never : (m : Module) (t : Target) (live : Point → LocalId → Bool) (g : Config) → IsStepTurn (static_step m t live g)
unfolding static_step
never m t live g = steps (setting_of m t live g) (step_in_module m g.top.at)

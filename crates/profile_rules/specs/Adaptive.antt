-- The rules of the Adaptive Profile, each as a test that is true where it is broken (QIR specification, 'Adaptive Profile').
-- They hold in every function with a body, in code that nothing leads to, too.
use Rattle.std.specs.Prelude.{◌≡◌, ◌⊎◌, ℕ, ◌==◌, ◌&&◌, ◌||◌, not, nat_lt, Bool, true, false, Option, None, Some, List, [], ◌∷◌, map, flat_map, take, slice_get, codes}
use Rattle.std.specs.List.{list_any}
use Rattle.ir_values.specs.declared.class.Class.{Class}
use Rattle.ir_values.specs.declared.class.Class.TheVariants as class
use Rattle.ir_values.specs.declared.ids.LocalId.{LocalId}
use Rattle.ir_values.specs.declared.int.Width.TheVariants.{W1}
use Rattle.ir_values.specs.declared.ty.Ty.{Ty}
use Rattle.ir_values.specs.declared.ty.Ty.TheVariants as ty
use Rattle.ir_values.specs.Values.{is_bitwise}
use Rattle.ir_module.specs.declared.places.Point.{Point}
use Rattle.ir_module.specs.declared.places.Spot.{Spot}
use Rattle.ir_module.specs.declared.places.Spot.TheVariants as spot
use Rattle.ir_module.specs.declared.tree.Callee.{Callee}
use Rattle.ir_module.specs.declared.tree.Callee.TheVariants as callee
use Rattle.ir_module.specs.declared.tree.FlagPart.TheVariants as part
use Rattle.ir_module.specs.declared.tree.FlagValue.{FlagValue}
use Rattle.ir_module.specs.declared.tree.FlagValue.TheVariants as flag
use Rattle.ir_module.specs.declared.tree.Function.{Function}
use Rattle.ir_module.specs.declared.tree.InstKind.{InstKind}
use Rattle.ir_module.specs.declared.tree.InstKind.TheVariants as kind
use Rattle.ir_module.specs.declared.tree.Module.{Module}
use Rattle.ir_module.specs.declared.tree.Operand.{Operand}
use Rattle.ir_module.specs.declared.tree.Operand.TheVariants as operand
use Rattle.ir_module.specs.declared.tree.Term.TheVariants as term
use Rattle.ir_module.specs.Edges.{edges}
use Rattle.ir_module.specs.Numbered.{is_int}
use Rattle.ir_module.specs.Steps.{Step, PhiAt, InstAt, TermAt, NoStep, step_of_point, steps_of}
use Rattle.ir_module.specs.Tree.{blocks_of}
use Rattle.graph_cycles.specs.Cycles.{Graph, Reaches, IsOnCycle}
use Rattle.profile_rules.specs.Calls.{Call, passes, at_call, call_of, calls_body, calls_class, has_count, is_int_record}
use Rattle.profile_rules.specs.Findings.{Rules, Breaks}
use Rattle.profile_rules.specs.Shared.{names_other_profile, lacks_labeling_schema, lacks_required_number, lacks_required_flag, flag_of, has_other_body, initializes_late, on_entry}
use Rattle.profile_rules.specs.Walk.{is_return}

-- ---- what a module may use beyond the profile's core, by its flags

abbrev pub value_is_on : FlagValue → Bool
value_is_on (flag.One (part.Int w b)) = not (b == 0)
value_is_on (flag.One (part.Text t)) = false
value_is_on (flag.List []) = false
value_is_on (flag.List (p ∷ ps)) = true

-- the first flag of this key is on: its value is an integer other than 0, or a list that isn't empty
abbrev pub is_on : List ℕ → Module → Bool
is_on key m = passes (flag_of key m.flags) (λ a. value_is_on a.value)

abbrev pub integers_key : List ℕ
integers_key = codes "int_computations"

abbrev pub functions_key : List ℕ
functions_key = codes "ir_functions"

abbrev pub backwards_key : List ℕ
backwards_key = codes "backwards_branching"

abbrev pub switches_key : List ℕ
switches_key = codes "multiple_target_branching"

abbrev pub returns_key : List ℕ
returns_key = codes "multiple_return_points"

-- ---- control flow

abbrev pub is_switch : Step → Bool
is_switch (TermAt (term.Switch t a default cases)) = true
is_switch s = false

abbrev pub is_return_step : Step → Bool
is_return_step (TermAt t) = is_return t
is_return_step s = false

-- a return after the first one of its function in text order
abbrev pub is_later_return : Function → Point → Step → Bool
is_later_return f p s = is_return_step s && list_any (λ c. is_return c.term) (take p.block.0 (blocks_of f))

abbrev pub ends_block : Step → Bool
ends_block (TermAt t) = true
ends_block s = false

-- the blocks of a function and their edges
abbrev pub block_graph : Function → Graph
block_graph f = map (λ c. map (λ b. b.0) (edges c.term)) (blocks_of f)

-- ---- integers

-- of one bit: the operations on each bit by itself are free there
abbrev pub is_boolean : Ty → Bool
is_boolean (ty.Int W1) = true
is_boolean t = false

-- an integer of more than one bit
abbrev pub is_wide : Ty → Bool
is_wide t = is_int t && not (is_boolean t)

abbrev pub kind_computes : InstKind → Bool
kind_computes (kind.Binary o flags t a b) = not (is_boolean t && is_bitwise o)
kind_computes (kind.Icmp p t a b) = not (is_boolean t)
kind_computes (kind.Convert c t a to) = true
kind_computes (kind.Select c t a u b) = is_wide t
kind_computes (kind.Call ret g args) = false

abbrev pub type_of_local : Function → LocalId → (Ty → Bool) → Bool
type_of_local f x test = passes (slice_get f.locals x.0) (λ l. test l.1)

-- an instruction on integers, or a choice between integers, that isn't free
abbrev pub computes_integers : Function → Step → Bool
computes_integers f (PhiAt phi) = type_of_local f phi.result is_wide
computes_integers f (InstAt i) = kind_computes i.what
computes_integers f (TermAt t) = false
computes_integers f NoStep = false

abbrev pub kind_selects_other : InstKind → Bool
kind_selects_other (kind.Select c t a u b) = not (is_int t)
kind_selects_other k = false

-- a select or a phi of a type that isn't an integer
abbrev pub selects_no_integers : Function → Step → Bool
selects_no_integers f (PhiAt phi) = type_of_local f phi.result (λ t. not (is_int t))
selects_no_integers f (InstAt i) = kind_selects_other i.what
selects_no_integers f (TermAt t) = false
selects_no_integers f NoStep = false

-- ---- calls

abbrev pub is_adaptive_class : Class → Bool
is_adaptive_class class.Init = true
is_adaptive_class class.Gate = true
is_adaptive_class class.Measure = true
is_adaptive_class class.Read = true
is_adaptive_class class.Tuple = true
is_adaptive_class class.Array = true
is_adaptive_class class.ResRecord = true
is_adaptive_class class.BoolRecord = true
is_adaptive_class class.IntRecord = true
is_adaptive_class class.DoubleRecord = true
is_adaptive_class c = false

-- a call of what is neither a function with a body nor a declared function of the profile
abbrev pub calls_other_function : Module → Step → Bool
calls_other_function m s = at_call s (λ c. not (calls_body m c || calls_class m is_adaptive_class c))

-- a record of an integer
abbrev pub records_integer : Module → Step → Bool
records_integer m s = at_call s (calls_class m is_int_record)

-- a constant or, outside the entry, a parameter
abbrev pub is_fixed : Bool → Function → Operand → Bool
is_fixed in_entry f (operand.Const v) = true
is_fixed in_entry f (operand.Local x) = not in_entry && nat_lt x.0 f.params

abbrev pub is_handle : Ty → Bool
is_handle ty.Qubit = true
is_handle ty.Res = true
is_handle t = false

abbrev pub is_function_type : Ty → Bool
is_function_type (ty.Func ws) = true
is_function_type t = false

abbrev pub is_label_or_double : Ty → Bool
is_label_or_double ty.Text = true
is_label_or_double ty.Double = true
is_label_or_double t = false

-- a call with a function, or with a qubit or a result that isn't fixed, among its arguments
abbrev pub passes_computed_handle : Bool → Function → Step → Bool
passes_computed_handle in_entry f s =
    at_call s (λ c. list_any (λ a. is_function_type a.0 || (is_handle a.0 && not (is_fixed in_entry f a.1))) c.args)

abbrev pub first_of : List (Ty × Operand) → List (Ty × Operand)
first_of [] = []
first_of (a ∷ rest) = a ∷ []

-- a call with a label or a double that isn't fixed, or of a tuple's or an array's record with a count that isn't
abbrev pub passes_computed_label : Module → Bool → Function → Step → Bool
passes_computed_label m in_entry f s =
    at_call s (λ c. list_any (λ a. is_label_or_double a.0 && not (is_fixed in_entry f a.1)) c.args
    || (calls_class m has_count c && list_any (λ a. not (is_fixed in_entry f a.1)) (first_of c.args)))

-- ---- calls that lead back

abbrev pub callee_number : Callee → List ℕ
callee_number (callee.Func g) = g.0 ∷ []
callee_number (callee.Local x) = []

abbrev pub number_called_by : Option Call → List ℕ
number_called_by None = []
number_called_by (Some c) = callee_number c.callee

-- the number of the function that a step calls by its name
abbrev pub number_called : Step → List ℕ
number_called s = number_called_by (call_of s)

-- the functions of a module and their calls by name
abbrev pub call_graph : Module → Graph
call_graph m = map (λ f. flat_map number_called (steps_of f)) m.funcs

-- ---- all rules

-- the rules, where `cyclic` tells of each point whether its block lies on a cycle, and `returning` whether its call
-- leads back to its function
abbrev pub adaptive_rules_by : (Point → Bool) → (Point → Step → Bool) → Module → ℕ → Rules
adaptive_rules_by cyclic returning m e = record {
  on_module = (4, lacks_required_flag m.flags) ∷ [];
  on_function =
      (1, on_entry e (names_other_profile (codes "adaptive_profile")))
      ∷ (2, on_entry e lacks_labeling_schema)
      ∷ (3, on_entry e lacks_required_number)
      ∷ (5, λ g f. has_other_body e g f && not (is_on functions_key m))
      ∷ [];
  on_step =
      (6, λ f p s. (ends_block s && cyclic p) && not (is_on backwards_key m))
      ∷ (7, λ f p s. is_switch s && not (is_on switches_key m))
      ∷ (8, λ f p s. is_later_return f p s && not (is_on returns_key m))
      ∷ (9, λ f p s. computes_integers f s && not (is_on integers_key m))
      ∷ (10, λ f p s. selects_no_integers f s)
      ∷ (11, λ f p s. calls_other_function m s)
      ∷ (12, λ f p s. records_integer m s && not (is_on integers_key m))
      ∷ (13, λ f p s. passes_computed_handle (p.func.0 == e) f s)
      ∷ (14, λ f p s. passes_computed_label m (p.func.0 == e) f s)
      ∷ (15, λ f p s. initializes_late m e p s)
      ∷ (16, λ f p s. returning p s)
      ∷ [];
}

-- the rules that need no walk
abbrev pub adaptive_rules : Module → ℕ → Rules
adaptive_rules = adaptive_rules_by (λ p. false) (λ p s. false)

-- ---- the two rules on walks

abbrev pub LoopsAt : Option Function → Point → Type 0
LoopsAt None p = ⊥
LoopsAt (Some f) p = (ends_block (step_of_point f p) ≡ true) × IsOnCycle (block_graph f) p.block.0

-- a walk leads from the block back to it; this is told at its terminator
abbrev pub LoopsBack : Module → Spot → Type 0
LoopsBack m spot.Module = ⊥
LoopsBack m (spot.Func g) = ⊥
LoopsBack m (spot.At p) = LoopsAt (slice_get m.funcs p.func.0) p

abbrev pub ReturnsFrom : Module → ℕ → List ℕ → Type 0
ReturnsFrom m f [] = ⊥
ReturnsFrom m f (g ∷ gs) = Reaches (call_graph m) g f

abbrev pub CallsAt : Module → Option Function → Point → Type 0
CallsAt m None p = ⊥
CallsAt m (Some f) p = ReturnsFrom m p.func.0 (number_called (step_of_point f p))

-- a call by name of a function that leads, by calls, to the function in which the call stands
abbrev pub CallsBack : Module → Spot → Type 0
CallsBack m spot.Module = ⊥
CallsBack m (spot.Func g) = ⊥
CallsBack m (spot.At p) = CallsAt m (slice_get m.funcs p.func.0) p

-- the module, whose entry has the number e, breaks the rule of this number at the spot
abbrev pub ViolatesAdaptive : Module → ℕ → Spot → ℕ → Type 0
ViolatesAdaptive m e s r =
    Breaks (adaptive_rules m e) m s r
    ⊎ (((r ≡ 6) × (is_on backwards_key m ≡ false) × LoopsBack m s)
    ⊎ ((r ≡ 16) × CallsBack m s))

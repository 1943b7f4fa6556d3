-- The findings of worked modules: for each rule a module that breaks it, beside its nearest neighbour that doesn't.
use Rattle.std.proofs.Common.{arith}
use Rattle.std.specs.Prelude.{◌≡◌, refl, ℕ, false, true, Bool, Option, None, Some, List, [], ◌∷◌, ◌++◌, length, map, slice_get, codes}
use Rattle.ir_values.specs.declared.ids.BlockId.{BlockId}
use Rattle.ir_values.specs.declared.int.BinOp.{BinOp}
use Rattle.ir_values.specs.declared.int.BinOp.TheVariants as op
use Rattle.ir_values.specs.declared.int.Conv.TheVariants as conv
use Rattle.ir_values.specs.declared.int.Width.{Width}
use Rattle.ir_values.specs.declared.int.Width.TheVariants.{W1, W64}
use Rattle.ir_values.specs.declared.name.Name.{Name}
use Rattle.ir_values.specs.declared.name.Name.TheVariants as name
use Rattle.ir_values.specs.declared.ty.Ty.{Ty}
use Rattle.ir_values.specs.declared.ty.Ty.TheVariants as ty
use Rattle.ir_values.specs.declared.value.Value.TheVariants as value
use Rattle.ir_values.specs.Calls.{class_of, qis, rt}
use Rattle.ir_module.specs.declared.places.Spot.TheVariants as spot
use Rattle.ir_module.specs.declared.tree.Attr.{Attr}
use Rattle.ir_module.specs.declared.tree.Block.{Block}
use Rattle.ir_module.specs.declared.tree.Callee.TheVariants as callee
use Rattle.ir_module.specs.declared.tree.Flag.{Flag}
use Rattle.ir_module.specs.declared.tree.FlagPart.TheVariants as part
use Rattle.ir_module.specs.declared.tree.FlagValue.TheVariants as flag
use Rattle.ir_module.specs.declared.tree.Function.{Function}
use Rattle.ir_module.specs.declared.tree.Inst.{Inst}
use Rattle.ir_module.specs.declared.tree.InstKind.{InstKind}
use Rattle.ir_module.specs.declared.tree.InstKind.TheVariants as kind
use Rattle.ir_module.specs.declared.tree.Module.{Module}
use Rattle.ir_module.specs.declared.tree.Operand.{Operand}
use Rattle.ir_module.specs.declared.tree.Operand.TheVariants as operand
use Rattle.ir_module.specs.declared.tree.Term.{Term}
use Rattle.ir_module.specs.declared.tree.Term.TheVariants as term
use Rattle.ir_module.specs.Spots.{point_at}
use Rattle.profile_rules.specs.declared.finding.Finding.{Finding}
use Rattle.profile_rules.specs.declared.finding.Form.{Form}
use Rattle.profile_rules.specs.declared.finding.Form.TheVariants as form
use Rattle.profile_rules.specs.Adaptive.{adaptive_rules, LoopsBack, CallsBack}
use Rattle.profile_rules.specs.Base.{base_rules}
use Rattle.profile_rules.specs.code.Listed.{findings}

-- ---- short words for modules

abbrev number : Width → ℕ → Operand
number w n = operand.Const (value.Int (record { width = w; bits = n }))

abbrev id : ℕ → Operand
id n = operand.Const (value.Id n)

abbrev local : ℕ → Operand
local x = operand.Local (record { 0 = x })

abbrev to : ℕ → BlockId
to b = record { 0 = b }

abbrev i64 : Ty
i64 = ty.Int W64

abbrev i1 : Ty
i1 = ty.Int W1

abbrev no_label : Ty × Operand
no_label = (ty.Text, operand.Const value.NoLabel)

abbrev qubit : Operand → Ty × Operand
qubit a = (ty.Qubit, a)

abbrev result : ℕ → Ty × Operand
result n = (ty.Res, id n)

abbrev gives : ℕ → InstKind → Inst
gives x what = record { result = Some (record { 0 = x }); what = what }

abbrev does : InstKind → Inst
does what = record { result = None; what = what }

abbrev calls : Ty → ℕ → List (Ty × Operand) → InstKind
calls ret f args = kind.Call ret (callee.Func (record { 0 = f })) args

abbrev binary : BinOp → Ty → Operand → Operand → InstKind
binary o t a b = kind.Binary o (record { nuw = false; nsw = false; exact = false }) t a b

abbrev block : List Inst → Term → Block
block insts t = record { name = name.Number 0; phis = []; insts = insts; term = t }

abbrev names : List Ty → List (Name × Ty)
names ts = map (λ t. (name.Number 0, t)) ts

abbrev attr : List ℕ → Option (List ℕ) → Attr
attr key v = record { key = key; value = v }

abbrev declares : List ℕ → Ty → List Ty → List Attr → Function
declares n ret ts attrs =
    record { name = name.Text n; ret = ret; params = length ts; locals = names ts; attrs = attrs; blocks = None }

abbrev defines : List ℕ → Ty → ℕ → List Ty → List Attr → List Block → Function
defines n ret params ts attrs blocks =
    record { name = name.Text n; ret = ret; params = params; locals = names ts; attrs = attrs; blocks = Some blocks }

abbrev flag_with : ℕ → List ℕ → ℕ → ℕ → Flag
flag_with behaviour key width bits = record { behaviour = behaviour; key = key; value = flag.One (part.Int width bits) }

-- ---- the functions that bodies here call, from number 1 on

abbrev irreversible : List Attr
irreversible = attr (codes "irreversible") None ∷ []

abbrev declarations : List Function
declarations =
    declares (rt (codes "initialize")) ty.Void (ty.Text ∷ []) []
    ∷ declares (qis (codes "h__body")) ty.Void (ty.Qubit ∷ []) []
    ∷ declares (qis (codes "reset__body")) ty.Void (ty.Qubit ∷ []) irreversible
    ∷ declares (qis (codes "mz__body")) ty.Void (ty.Qubit ∷ ty.Res ∷ []) irreversible
    ∷ declares (rt (codes "read_result")) i1 (ty.Res ∷ []) []
    ∷ declares (rt (codes "tuple_record_output")) ty.Void (i64 ∷ ty.Text ∷ []) []
    ∷ declares (rt (codes "result_record_output")) ty.Void (ty.Res ∷ ty.Text ∷ []) []
    ∷ declares (rt (codes "bool_record_output")) ty.Void (i1 ∷ ty.Text ∷ []) []
    ∷ declares (rt (codes "int_record_output")) ty.Void (i64 ∷ ty.Text ∷ []) []
    ∷ declares (rt (codes "qubit_allocate")) ty.Qubit [] []
    ∷ []

-- the number of the first function behind these
abbrev next : ℕ
next = 11

abbrev initialize : Inst
initialize = does (calls ty.Void 1 (no_label ∷ []))

abbrev h : Operand → Inst
h q = does (calls ty.Void 2 (qubit q ∷ []))

abbrev reset : Inst
reset = does (calls ty.Void 3 (qubit (id 0) ∷ []))

abbrev mz : ℕ → Inst
mz n = does (calls ty.Void 4 (qubit (id n) ∷ result n ∷ []))

abbrev read : ℕ → Inst
read x = gives x (calls i1 5 (result 0 ∷ []))

abbrev record_tuple : Operand → Inst
record_tuple n = does (calls ty.Void 6 ((i64, n) ∷ no_label ∷ []))

abbrev record_result : Inst
record_result = does (calls ty.Void 7 (result 0 ∷ no_label ∷ []))

abbrev record_bool : Operand → Inst
record_bool b = does (calls ty.Void 8 ((i1, b) ∷ no_label ∷ []))

abbrev record_integer : Inst
record_integer = does (calls ty.Void 9 ((i64, number W64 1) ∷ no_label ∷ []))

abbrev done : Term
done = term.Ret i64 (number W64 0)

-- ---- attributes and flags

abbrev profile : List ℕ → Attr
profile text = attr (codes "qir_profiles") (Some text)

abbrev labeled : Attr
labeled = attr (codes "output_labeling_schema") None

abbrev qubits : Attr
qubits = attr (codes "required_num_qubits") (Some (codes "2"))

abbrev results : Attr
results = attr (codes "required_num_results") (Some (codes "2"))

abbrev attributes : List ℕ → List Attr
attributes text = attr (codes "entry_point") None ∷ profile text ∷ labeled ∷ qubits ∷ results ∷ []

abbrev base_attributes : List Attr
base_attributes = attributes (codes "base_profile")

abbrev adaptive_attributes : List Attr
adaptive_attributes = attributes (codes "adaptive_profile")

abbrev minor : ℕ → Flag
minor behaviour = flag_with behaviour (codes "qir_minor_version") 32 0

abbrev flags_with_minor : List Flag → List Flag
flags_with_minor flags =
    flag_with 1 (codes "qir_major_version") 32 1
    ∷ (flags
    ++ (flag_with 1 (codes "dynamic_qubit_management") 1 0 ∷ flag_with 1 (codes "dynamic_result_management") 1 0 ∷ []))

abbrev four_flags : List Flag
four_flags = flags_with_minor (minor 7 ∷ [])

abbrev module_of : List Flag → Function → List Function → Module
module_of flags main functions = record { globals = []; funcs = main ∷ (declarations ++ functions); flags = flags }

-- ---- findings

abbrev whole : ℕ → Finding
whole r = record { spot = spot.Module; rule = r }

abbrev func : ℕ → ℕ → Finding
func g r = record { spot = spot.Func (record { 0 = g }); rule = r }

-- at the step of this number in a block of the entry
abbrev at : ℕ → ℕ → ℕ → Finding
at b i r = record { spot = spot.At (point_at 0 b i); rule = r }

abbrev findings_with : Option Function → Form → Module → List Finding
findings_with None shape m = []
findings_with (Some main) shape m = findings (base_rules shape m 0 main) m

abbrev base_findings : Form → Module → List Finding
base_findings shape m = findings_with (slice_get m.funcs 0) shape m

abbrev Row : Type 0
Row = Module × List Finding

abbrev strict : List Row → Type 0
strict rows = map (λ r. base_findings form.Strict r.0) rows ≡ map (λ r. r.1) rows

abbrev chain : List Row → Type 0
chain rows = map (λ r. base_findings form.Chain r.0) rows ≡ map (λ r. r.1) rows

abbrev adaptive : List Row → Type 0
adaptive rows = map (λ r. findings (adaptive_rules r.0 0) r.0) rows ≡ map (λ r. r.1) rows

-- ---- the Base Profile

-- four blocks with these instructions
abbrev four : List Inst → List Inst → List Inst → List Inst → List Block
four a b c d = block a (term.Br (to 1)) ∷ block b (term.Br (to 2)) ∷ block c (term.Br (to 3)) ∷ block d done ∷ []

abbrev main : List Attr → List Ty → List Block → Function
main attrs ts blocks = defines (codes "main") i64 0 ts attrs blocks

abbrev with_blocks : List Block → Module
with_blocks blocks = module_of four_flags (main base_attributes [] blocks) []

abbrev with_locals : List Ty → List Block → Module
with_locals ts blocks = module_of four_flags (main base_attributes ts blocks) []

abbrev shortest : List Block
shortest = four (initialize ∷ []) (h (id 0) ∷ []) (mz 0 ∷ []) (record_result ∷ [])

abbrev with_attributes : List Attr → Module
with_attributes attrs = module_of four_flags (main attrs [] shortest) []

abbrev with_flags : List Flag → Module
with_flags flags = module_of flags (main base_attributes [] shortest) []

abbrev with_functions : List Function → Module
with_functions functions = module_of four_flags (main base_attributes [] shortest) functions

abbrev entry_rows : List Row
entry_rows =
    (with_blocks shortest, [])
    -- another profile is named; only the first of two attributes counts
    ∷ (with_attributes adaptive_attributes, func 0 1 ∷ [])
    ∷ (with_attributes (base_attributes ++ (profile (codes "adaptive_profile") ∷ [])), [])
    -- without a labelling schema; one without a value will do
    ∷ (with_attributes (profile (codes "base_profile") ∷ qubits ∷ results ∷ []), func 0 2 ∷ [])
    -- without the number of results
    ∷ (with_attributes (profile (codes "base_profile") ∷ labeled ∷ qubits ∷ []), func 0 3 ∷ [])
    -- a flag that is missing, one of another behaviour, and a later one that doesn't count
    ∷ (with_flags (flags_with_minor []), whole 4 ∷ [])
    ∷ (with_flags (flags_with_minor (minor 1 ∷ [])), whole 4 ∷ [])
    ∷ (with_flags (flags_with_minor (minor 7 ∷ minor 1 ∷ [])), [])
    -- another function with a body, and one that is declared
    ∷ (with_functions (defines (codes "turn") ty.Void 0 [] [] (block [] term.RetVoid ∷ []) ∷ []), func next 5 ∷ [])
    ∷ (with_functions (declares (qis (codes "x__body")) ty.Void (ty.Qubit ∷ []) [] ∷ []), [])
    ∷ []

entries_in_strict_form : strict entry_rows
unfolding class_of
entries_in_strict_form = refl

abbrev one_block : List Inst → Module
one_block insts = with_blocks (block insts done ∷ [])

-- three blocks, whose first ends in a branch on a value
abbrev branching : List Block
branching = block [] (term.CondBr (number W1 1) (to 1) (to 2)) ∷ block [] done ∷ block [] done ∷ []

-- the last block leads back to the second
abbrev circle : List Block
circle = block [] (term.Br (to 1)) ∷ block [] (term.Br (to 1)) ∷ []

abbrev beside : List Block
beside = block [] done ∷ block [] done ∷ []

abbrev returns_nothing : Module
returns_nothing = module_of four_flags (defines (codes "main") ty.Void 0 [] base_attributes (block [] term.RetVoid ∷ [])) []

abbrev unmarked : Inst → Module
unmarked i =
    module_of four_flags (main base_attributes [] (four [] [] (i ∷ []) []))
    (declares (qis (codes "measure__body")) ty.Void (ty.Qubit ∷ ty.Res ∷ []) [] ∷ [])

abbrev measure_unmarked : Inst
measure_unmarked = does (calls ty.Void next (qubit (id 0) ∷ result 0 ∷ []))

abbrev chain_rows : List Row
chain_rows =
    (one_block (h (id 0) ∷ mz 0 ∷ h (id 0) ∷ record_result ∷ []), [])
    -- a branch on a value, which ends the walk
    ∷ (with_blocks branching, func 0 7 ∷ at 0 0 6 ∷ [])
    -- a walk that never returns, and a block that no walk meets
    ∷ (with_blocks circle, func 0 7 ∷ [])
    ∷ (with_blocks beside, func 0 7 ∷ [])
    -- blocks in another order than that of the walk
    ∷ (with_blocks (block [] (term.Br (to 2)) ∷ block [] done ∷ block [] (term.Br (to 1)) ∷ []), [])
    ∷ (returns_nothing, [])
    -- an instruction that is no call
    ∷ (with_locals (i64 ∷ []) (block (gives 0 (binary op.Add i64 (number W64 1) (number W64 1)) ∷ []) done ∷ []), at 0 0 9 ∷ [])
    -- a result is read; an argument is computed
    ∷ (with_locals (i1 ∷ []) (block (read 0 ∷ []) done ∷ []), at 0 0 10 ∷ [])
    ∷ (with_locals (ty.Qubit ∷ []) (block (h (local 0) ∷ []) done ∷ []), at 0 0 11 ∷ [])
    -- initialised by the second instruction
    ∷ (one_block (h (id 0) ∷ initialize ∷ []), at 0 1 14 ∷ [])
    ∷ (one_block (initialize ∷ h (id 0) ∷ []), [])
    ∷ (unmarked measure_unmarked, [])
    ∷ []

blocks_in_chain_form : chain chain_rows
unfolding class_of
blocks_in_chain_form = refl

abbrev strict_rows : List Row
strict_rows =
    -- one block, where initialisation alone may stand, and one that returns nothing
    (one_block (initialize ∷ h (id 0) ∷ []), func 0 7 ∷ at 0 1 12 ∷ [])
    ∷ (returns_nothing, func 0 7 ∷ func 0 8 ∷ [])
    -- gates that can be undone stand in the second block, others and measurements in the third
    ∷ (with_blocks (four [] (reset ∷ mz 0 ∷ record_result ∷ []) [] []), at 1 0 12 ∷ at 1 1 12 ∷ at 1 2 12 ∷ [])
    ∷ (with_blocks (four [] [] (reset ∷ mz 0 ∷ h (id 0) ∷ []) []), at 2 2 12 ∷ [])
    ∷ (with_blocks (four [] [] [] (h (id 0) ∷ mz 0 ∷ [])), at 3 0 12 ∷ at 3 1 12 ∷ [])
    -- a record of a bit is a record, but not one of the profile
    ∷ (with_blocks (four [] [] [] (record_bool (number W1 1) ∷ record_tuple (number W64 1) ∷ [])), at 3 0 10 ∷ [])
    -- a measurement without a mark is told at its declaration, where the entry calls it
    ∷ (unmarked measure_unmarked, func next 13 ∷ [])
    ∷ (unmarked (mz 0), [])
    ∷ []

blocks_in_strict_form : strict strict_rows
unfolding class_of
blocks_in_strict_form = refl

-- ---- the Adaptive Profile

abbrev key_on : List ℕ → List Flag
key_on key = four_flags ++ (flag_with 1 key 1 1 ∷ [])

abbrev off : List Flag
off = four_flags

abbrev body : List Flag → List Ty → List Block → Module
body flags ts blocks = module_of flags (main adaptive_attributes ts blocks) []

abbrev one : List Flag → List Ty → List Inst → Module
one flags ts insts = body flags ts (block insts done ∷ [])

-- a function with a body, which has a qubit, a label and a number as parameters and then a local qubit
abbrev turn : List Inst → Function
turn insts = defines (codes "turn") ty.Void 3 (ty.Qubit ∷ ty.Text ∷ i64 ∷ ty.Qubit ∷ []) [] (block insts term.RetVoid ∷ [])

abbrev with_turn : List Flag → List Inst → Module
with_turn flags insts = module_of flags (main adaptive_attributes [] (block [] done ∷ [])) (turn insts ∷ [])

abbrev functions_on : List Flag
functions_on = key_on (codes "ir_functions")

abbrev in_turn : ℕ → ℕ → Finding
in_turn i r = record { spot = spot.At (point_at next 0 i); rule = r }

abbrev adaptive_entry_rows : List Row
adaptive_entry_rows =
    (body off [] (block [] done ∷ []), [])
    ∷ (module_of four_flags (main base_attributes [] (block [] done ∷ [])) [], func 0 1 ∷ [])
    ∷ (module_of [] (main (profile (codes "adaptive_profile") ∷ []) [] (block [] done ∷ [])) [], whole 4 ∷ func 0 2 ∷ func 0 3 ∷ [])
    -- a function with a body
    ∷ (with_turn off [], func next 5 ∷ [])
    ∷ (with_turn functions_on [], [])
    -- a flag of 0 is off, a list that isn't empty is on, an empty one is off
    ∷ (with_turn (four_flags ++ (flag_with 1 (codes "ir_functions") 1 0 ∷ [])) [], func next 5 ∷ [])
    ∷ (with_turn (four_flags ++ (record { behaviour = 5; key = codes "ir_functions"; value = flag.List (part.Text [] ∷ []) } ∷ [])) [], [])
    ∷ (with_turn (four_flags ++ (record { behaviour = 5; key = codes "ir_functions"; value = flag.List [] } ∷ [])) [], func next 5 ∷ [])
    ∷ []

entries_of_the_adaptive_profile : adaptive adaptive_entry_rows
unfolding class_of
entries_of_the_adaptive_profile = refl

abbrev switches : List Block
switches =
    block [] (term.Switch i64 (number W64 0) (to 1) ((record { width = W64; bits = 0 }, to 1) ∷ [])) ∷ block [] done ∷ []

abbrev phi : Ty → List Flag → Module
phi t flags =
    body flags (t ∷ [])
    (block [] (term.Br (to 1)) ∷ record { name = name.Number 0; phis = record { result = record { 0 = 0 }; entries = [] } ∷ []; insts = []; term = done } ∷ [])

abbrev integers_on : List Flag
integers_on = key_on (codes "int_computations")

abbrev bit : Bool → Operand
bit true = number W1 1
bit false = number W1 0

abbrev adaptive_step_rows : List Row
adaptive_step_rows =
    (body off [] switches, at 0 0 7 ∷ [])
    ∷ (body (key_on (codes "multiple_target_branching")) [] switches, [])
    -- a branch with two targets is free; the second return is not
    ∷ (body off [] branching, at 2 0 8 ∷ [])
    ∷ (body (key_on (codes "multiple_return_points")) [] branching, [])
    -- on one bit `xor`, comparisons and choices are free; `add` and conversions are not
    ∷ (one off (i1 ∷ []) (gives 0 (binary op.Xor i1 (bit true) (bit false)) ∷ []), [])
    ∷ (one off (i1 ∷ []) (gives 0 (binary op.Add i1 (bit true) (bit false)) ∷ []), at 0 0 9 ∷ [])
    ∷ (one off (i64 ∷ []) (gives 0 (kind.Convert conv.ZExt i1 (bit true) i64) ∷ []), at 0 0 9 ∷ [])
    ∷ (one off (i64 ∷ []) (gives 0 (binary op.Xor i64 (number W64 1) (number W64 1)) ∷ []), at 0 0 9 ∷ [])
    ∷ (one integers_on (i64 ∷ []) (gives 0 (binary op.Xor i64 (number W64 1) (number W64 1)) ∷ []), [])
    ∷ (one off (i1 ∷ []) (gives 0 (kind.Select (bit true) i1 (bit true) i1 (bit false)) ∷ []), [])
    ∷ (one off (i64 ∷ []) (gives 0 (kind.Select (bit true) i64 (number W64 1) i64 (number W64 1)) ∷ []), at 0 0 9 ∷ [])
    ∷ (phi i1 off, [])
    ∷ (phi i64 off, at 1 0 9 ∷ [])
    ∷ (phi i64 integers_on, [])
    -- a qubit is chosen
    ∷ (phi ty.Qubit integers_on, at 1 0 10 ∷ [])
    ∷ (one off (ty.Qubit ∷ []) (gives 0 (kind.Select (bit true) ty.Qubit (id 0) ty.Qubit (id 1)) ∷ h (local 0) ∷ []), at 0 0 10 ∷ at 0 1 13 ∷ [])
    ∷ []

steps_of_the_adaptive_profile : adaptive adaptive_step_rows
unfolding class_of
steps_of_the_adaptive_profile = refl

abbrev adaptive_call_rows : List Row
adaptive_call_rows =
    -- a result is read, a qubit is allocated
    (one off (i1 ∷ []) (mz 0 ∷ read 0 ∷ record_bool (local 0) ∷ []), [])
    ∷ (one off (ty.Qubit ∷ []) (gives 0 (calls ty.Qubit 10 []) ∷ []), at 0 0 11 ∷ [])
    ∷ (one off [] (record_integer ∷ []), at 0 0 12 ∷ [])
    ∷ (one integers_on [] (record_integer ∷ []), [])
    -- a qubit that is a parameter, and one that isn't
    ∷ (with_turn functions_on (h (local 0) ∷ []), [])
    ∷ (with_turn functions_on (h (local 3) ∷ []), in_turn 0 13 ∷ [])
    -- a count that is a parameter, and one that is computed in the entry
    ∷ (with_turn functions_on (record_tuple (local 2) ∷ []), [])
    ∷ (one integers_on (i64 ∷ []) (record_tuple (local 0) ∷ []), at 0 0 14 ∷ [])
    -- initialised by another function than the entry
    ∷ (with_turn functions_on (initialize ∷ []), in_turn 0 15 ∷ [])
    ∷ (one off [] (initialize ∷ []), [])
    ∷ []

calls_of_the_adaptive_profile : adaptive adaptive_call_rows
unfolding class_of
calls_of_the_adaptive_profile = refl

-- ---- the rules on walks

-- a block that leads to itself
goes_back : LoopsBack (body off [] circle) (spot.At (point_at 0 1 0))
goes_back = (refl, record { first = 1; edge = (0, omega arith, refl); rest = record { walk = []; is = refl } })

-- a function that calls itself
calls_itself : CallsBack (with_turn functions_on (does (calls ty.Void next []) ∷ [])) (spot.At (point_at next 0 0))
calls_itself = record { walk = []; is = refl }

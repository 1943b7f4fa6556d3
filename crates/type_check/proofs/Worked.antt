-- The first faults of worked modules: for each rule a module that breaks it, and its neighbour that doesn't.
use Rattle.std.specs.Prelude.{◌≡◌, refl, ℕ, suc, false, Option, None, Some, List, [], ◌∷◌, length, map, codes}
use Rattle.ir_module.specs.declared.places.Spot.{Spot}
use Rattle.ir_module.specs.declared.places.Spot.TheVariants as spot
use Rattle.ir_module.specs.declared.tree.Attr.{Attr}
use Rattle.ir_module.specs.declared.tree.Block.{Block}
use Rattle.ir_module.specs.declared.tree.Callee.TheVariants as callee
use Rattle.ir_module.specs.declared.tree.Constant.{Constant}
use Rattle.ir_module.specs.declared.tree.Function.{Function}
use Rattle.ir_module.specs.declared.tree.Inst.{Inst}
use Rattle.ir_module.specs.declared.tree.InstKind.{InstKind}
use Rattle.ir_module.specs.declared.tree.InstKind.TheVariants as kind
use Rattle.ir_module.specs.declared.tree.Module.{Module}
use Rattle.ir_module.specs.declared.tree.Operand.{Operand}
use Rattle.ir_module.specs.declared.tree.Operand.TheVariants as operand
use Rattle.ir_module.specs.declared.tree.Phi.{Phi}
use Rattle.ir_module.specs.declared.tree.Term.{Term}
use Rattle.ir_module.specs.declared.tree.Term.TheVariants as term
use Rattle.ir_module.specs.Entry.{entry_of}
use Rattle.ir_module.specs.Spots.{point_at}
use Rattle.ir_values.specs.Calls.{class_of, qis, rt}
use Rattle.ir_values.specs.declared.ids.BlockId.{BlockId}
use Rattle.ir_values.specs.declared.int.BinOp.TheVariants as op
use Rattle.ir_values.specs.declared.int.Conv.TheVariants as conv
use Rattle.ir_values.specs.declared.int.Pred.TheVariants as pred
use Rattle.ir_values.specs.declared.int.Width.{Width}
use Rattle.ir_values.specs.declared.int.Width.TheVariants.{W1, W32, W64}
use Rattle.ir_values.specs.declared.name.Name.{Name}
use Rattle.ir_values.specs.declared.name.Name.TheVariants as name
use Rattle.ir_values.specs.declared.ty.Ty.{Ty}
use Rattle.ir_values.specs.declared.ty.Ty.TheVariants as ty
use Rattle.ir_values.specs.declared.value.Value.TheVariants as value
use Rattle.ir_values.specs.Int.{IntValue}
use Rattle.type_check.specs.declared.code.TypeCode.{TypeCode}
use Rattle.type_check.specs.declared.code.TypeCode.TheVariants as code
use Rattle.type_check.specs.code.Search.{first_fault}
use Rattle.type_check.specs.Faults.{keeps_rule}
use Rattle.type_check.specs.Required.{required_qubits, required_results}
use Rattle.type_check.specs.Rules.{types_agree, entries_fit, keeps_first, cases_differ, numbers_below, functions_known}
use Rattle.type_check.specs.Typing.{same_type}

abbrev pub limit : ℕ
limit = 1000000000

-- ---- short words for modules

abbrev pub int : Width → ℕ → IntValue
int w n = record { width = w; bits = n }

abbrev pub number : Width → ℕ → Operand
number w n = operand.Const (value.Int (int w n))

abbrev pub id : ℕ → Operand
id n = operand.Const (value.Id n)

abbrev pub local : ℕ → Operand
local x = operand.Local (record { 0 = x })

abbrev pub to : ℕ → BlockId
to b = record { 0 = b }

abbrev pub i64 : Ty
i64 = ty.Int W64

abbrev pub i32 : Ty
i32 = ty.Int W32

abbrev pub i1 : Ty
i1 = ty.Int W1

abbrev pub sum : Ty → Operand → Operand → InstKind
sum t a b = kind.Binary op.Add (record { nuw = false; nsw = false; exact = false }) t a b

abbrev pub gives : ℕ → InstKind → Inst
gives x what = record { result = Some (record { 0 = x }); what = what }

abbrev pub does : InstKind → Inst
does what = record { result = None; what = what }

abbrev pub calls : Ty → ℕ → List (Ty × Operand) → InstKind
calls ret f args = kind.Call ret (callee.Func (record { 0 = f })) args

abbrev pub phi : ℕ → List (Operand × BlockId) → Phi
phi x entries = record { result = record { 0 = x }; entries = entries }

abbrev pub block : ℕ → List Phi → List Inst → Term → Block
block n phis insts t = record { name = name.Text (n ∷ []); phis = phis; insts = insts; term = t }

-- local names are numbered
abbrev pub names : ℕ → List Ty → List (Name × Ty)
names n [] = []
names n (t ∷ ts) = (name.Number n, t) ∷ names (suc n) ts

abbrev pub declares : List ℕ → Ty → List Ty → Function
declares n ret ts = record { name = name.Text n; ret = ret; params = length ts; locals = names 0 ts; attrs = []; blocks = None }

abbrev pub defines : List ℕ → Ty → ℕ → List Ty → List Attr → List Block → Function
defines n ret params ts attrs blocks =
    record { name = name.Text n; ret = ret; params = params; locals = names 0 ts; attrs = attrs; blocks = Some blocks }

abbrev pub attr : List ℕ → Option (List ℕ) → Attr
attr key v = record { key = key; value = v }

abbrev pub entry_point : Attr
entry_point = attr (codes "entry_point") None

abbrev pub qubits : Option (List ℕ) → Attr
qubits v = attr (codes "required_num_qubits") v

-- `main` with these local names, and the functions that it may call from number 1 on
abbrev pub module_of : List Attr → List Ty → List Block → List Function → Module
module_of attrs ts blocks functions = record {
  globals = [];
  funcs =
      defines (codes "main") i64 0 ts (entry_point ∷ attrs) blocks
      ∷ declares (qis (codes "h__body")) ty.Void (ty.Qubit ∷ [])
      ∷ declares (qis (codes "phase__body")) ty.Void (i64 ∷ ty.Qubit ∷ [])
      ∷ declares (rt (codes "fail")) ty.Void (ty.Text ∷ [])
      ∷ functions;
  flags = [];
}

abbrev pub done : Term
done = term.Ret i64 (number W64 0)

abbrev pub one_block : List Attr → List Ty → List Inst → Module
one_block attrs ts insts = module_of attrs ts (block 0 [] insts done ∷ []) []

abbrev hadamard : Operand → Inst
hadamard q = does (calls ty.Void 1 ((ty.Qubit, q) ∷ []))

-- ---- each row: a module, and the fault that is told of it

abbrev Row : Type 0
Row = Module × Option (Spot × TypeCode)

abbrev fault : Module → Spot → TypeCode → Row
fault m s c = (m, Some (s, c))

abbrev fine : Module → Row
fine m = (m, None)

abbrev at : ℕ → ℕ → ℕ → Spot
at f b i = spot.At (point_at f b i)

abbrev of_function : ℕ → Spot
of_function f = spot.Func (record { 0 = f })

-- the fault that is told of each module is that of its row
abbrev Hold : List Row → Type 0
Hold rows = map (λ r. first_fault r.0 limit) rows ≡ map (λ r. r.1) rows

abbrev types_rows : List Row
types_rows =
    -- %0 = add i64 1, 1 and %1 = and i32 %0, 1
    fault (one_block [] (i64 ∷ i32 ∷ []) (gives 0 (sum i64 (number W64 1) (number W64 1)) ∷ gives 1 (sum i32 (local 0) (number W32 1)) ∷ [])) (at 0 0 1) code.Types
    ∷ fine (one_block [] (i64 ∷ i64 ∷ []) (gives 0 (sum i64 (number W64 1) (number W64 1)) ∷ gives 1 (sum i64 (local 0) (number W64 1)) ∷ []))
    -- a name may be read where nothing has defined it yet
    ∷ fine (one_block [] (i64 ∷ i64 ∷ []) (gives 0 (sum i64 (local 1) (number W64 1)) ∷ gives 1 (sum i64 (number W64 1) (number W64 1)) ∷ []))
    -- a name of another type than the instruction gives
    ∷ fault (one_block [] (i32 ∷ []) (gives 0 (sum i64 (number W64 1) (number W64 1)) ∷ [])) (at 0 0 0) code.Types
    -- an extension to a narrower type
    ∷ fault (one_block [] (i32 ∷ []) (gives 0 (kind.Convert conv.ZExt i64 (number W64 1) i32) ∷ [])) (at 0 0 0) code.Types
    ∷ fine (one_block [] (i32 ∷ []) (gives 0 (kind.Convert conv.Trunc i64 (number W64 1) i32) ∷ []))
    -- a call of nothing has a name
    ∷ fault (one_block [] (ty.Void ∷ []) (gives 0 (calls ty.Void 1 ((ty.Qubit, id 0) ∷ [])) ∷ [])) (at 0 0 0) code.Types
    ∷ fine (one_block [] [] (hadamard (id 0) ∷ []))
    -- an argument of another type than the callee takes
    ∷ fault (one_block [] [] (does (calls ty.Void 1 ((ty.Res, id 0) ∷ [])) ∷ [])) (at 0 0 0) code.Types
    -- a return of another type than the function's
    ∷ fault (module_of [] [] (block 0 [] [] (term.Ret i32 (number W32 0)) ∷ []) []) (at 0 0 0) code.Types
    ∷ []

-- a loop of three turns, each of which calls a function with a body
abbrev pub turns : List (Operand × BlockId) → Module
turns entries =
    module_of (qubits (Some (codes "1")) ∷ []) (i64 ∷ i64 ∷ i1 ∷ [])
    (block 0 [] [] (term.Br (to 1))
    ∷ block 1 (phi 0 entries ∷ [])
    (does (calls ty.Void 4 ((i64, local 0) ∷ (ty.Qubit, id 0) ∷ []))
    ∷ gives 1 (sum i64 (local 0) (number W64 1))
    ∷ gives 2 (kind.Icmp pred.Slt i64 (local 1) (number W64 3))
    ∷ [])
    (term.CondBr (local 2) (to 1) (to 2))
    ∷ block 2 [] [] done
    ∷ [])
    (defines (codes "turn") ty.Void 2 (i64 ∷ ty.Qubit ∷ []) [] (block 0 [] (does (calls ty.Void 2 ((i64, local 0) ∷ (ty.Qubit, local 1) ∷ [])) ∷ []) term.RetVoid ∷ []) ∷ [])

abbrev pub three_turns : Module
three_turns = turns ((number W64 0, to 0) ∷ (local 1, to 1) ∷ [])

-- both edges of a branch lead to one block, whose phi has these entries
abbrev twice : List (Operand × BlockId) → Module
twice entries =
    module_of [] (i64 ∷ []) (block 0 [] [] (term.CondBr (number W1 0) (to 1) (to 1)) ∷ block 1 (phi 0 entries ∷ []) [] done ∷ []) []

abbrev edge_rows : List Row
edge_rows =
    fine three_turns
    ∷ fault (turns ((number W64 0, to 0) ∷ [])) (at 0 1 0) code.PhiEntries
    ∷ fault (turns ((number W64 0, to 0) ∷ (local 1, to 1) ∷ (local 1, to 2) ∷ [])) (at 0 1 0) code.PhiEntries
    ∷ fine (twice ((number W64 5, to 0) ∷ (number W64 5, to 0) ∷ []))
    ∷ fault (twice ((number W64 5, to 0) ∷ [])) (at 0 1 0) code.PhiEntries
    ∷ fault (twice ((number W64 5, to 0) ∷ (number W64 6, to 0) ∷ [])) (at 0 1 0) code.PhiEntries
    -- back to the first block
    ∷ fault (module_of [] [] (block 0 [] [] (term.Br (to 0)) ∷ []) []) (at 0 0 0) code.EntryBlock
    ∷ fault (module_of [] (i64 ∷ []) (block 0 (phi 0 [] ∷ []) [] done ∷ []) []) (at 0 0 0) code.EntryBlock
    ∷ []

abbrev switch : ℕ → ℕ → Module
switch a b =
    module_of [] [] (block 0 [] [] (term.Switch i64 (number W64 0) (to 1) ((int W64 a, to 1) ∷ (int W64 b, to 1) ∷ [])) ∷ block 1 [] [] done ∷ []) []

abbrev call_rows : List Row
call_rows =
    fault (switch 7 7) (at 0 0 0) code.SwitchCase
    ∷ fine (switch 7 8)
    -- a number equal to the required one is too great
    ∷ fault (one_block (qubits (Some (codes "1")) ∷ []) [] (hadamard (id 1) ∷ [])) (at 0 0 0) code.IdRange
    ∷ fine (one_block (qubits (Some (codes "2")) ∷ []) [] (hadamard (id 1) ∷ []))
    -- where the required number is missing each number below the limit is allowed
    ∷ fine (one_block [] [] (hadamard (id 999999999) ∷ []))
    ∷ fault (one_block [] [] (hadamard (id 1000000000) ∷ [])) (at 0 0 0) code.IdRange
    -- a declared function without a class
    ∷ fault (one_block [] [] (does (calls ty.Void 3 ((ty.Text, operand.Const value.NoLabel) ∷ [])) ∷ [])) (at 0 0 0) code.UnknownDecl
    ∷ []

abbrev constant : List ℕ → Constant
constant n = record { name = name.Text n; bytes = [] }

abbrev with_constant : List ℕ → Module → Module
with_constant n m = record m { globals = constant n ∷ [] }

abbrev plain_function : List ℕ → List Attr → Function
plain_function n attrs = defines n ty.Void 0 [] attrs (block 0 [] [] term.RetVoid ∷ [])

abbrev entry_rows : List Row
entry_rows =
    fault (record { globals = []; funcs = []; flags = [] }) spot.Module code.NoEntry
    -- a second entry
    ∷ fault (module_of [] [] (block 0 [] [] done ∷ []) (plain_function (codes "second") (entry_point ∷ []) ∷ [])) (of_function 4) code.NoEntry
    ∷ fine (module_of [] [] (block 0 [] [] done ∷ []) (plain_function (codes "second") [] ∷ []))
    -- where the required number is no number, no number is out of range
    ∷ fault (one_block (qubits (Some (codes "01")) ∷ []) [] (hadamard (id 1) ∷ [])) (of_function 0) code.BadNumberAttr
    ∷ fault (one_block (qubits (Some []) ∷ []) [] []) (of_function 0) code.BadNumberAttr
    ∷ fault (one_block (qubits None ∷ []) [] []) (of_function 0) code.BadNumberAttr
    ∷ fault (one_block (qubits (Some (codes "1000000001")) ∷ []) [] []) (of_function 0) code.BadNumberAttr
    ∷ fine (one_block (qubits (Some (codes "1000000000")) ∷ []) [] [])
    ∷ fine (one_block (qubits (Some (codes "0")) ∷ []) [] [])
    -- an entry with a parameter
    ∷ fault (record { globals = []; funcs = defines (codes "main") ty.Void 1 (i64 ∷ []) (entry_point ∷ []) (block 0 [] [] term.RetVoid ∷ []) ∷ []; flags = [] }) (of_function 0) code.EntrySignature
    -- reserved names
    ∷ fault (module_of [] [] (block 0 [] [] done ∷ []) (plain_function (codes "__quantum__mine") [] ∷ [])) (of_function 4) code.ReservedName
    ∷ fault (with_constant (codes "__quantum__text") (one_block [] [] [])) spot.Module code.ReservedName
    ∷ fine (with_constant (codes "_quantum_text") (one_block [] [] []))
    -- a fault in a step is told before one of the entry
    ∷ fault (one_block (qubits None ∷ []) (i32 ∷ []) (gives 0 (sum i64 (number W64 1) (number W64 1)) ∷ [])) (at 0 0 0) code.Types
    ∷ []

types_are_told : Hold types_rows
unfolding first_fault keeps_rule entry_of required_qubits required_results types_agree entries_fit keeps_first cases_differ numbers_below functions_known same_type class_of
types_are_told = refl

edges_are_told : Hold edge_rows
unfolding first_fault keeps_rule entry_of required_qubits required_results types_agree entries_fit keeps_first cases_differ numbers_below functions_known same_type class_of
edges_are_told = refl

calls_are_told : Hold call_rows
unfolding first_fault keeps_rule entry_of required_qubits required_results types_agree entries_fit keeps_first cases_differ numbers_below functions_known same_type class_of
calls_are_told = refl

entries_are_told : Hold entry_rows
unfolding first_fault keeps_rule entry_of required_qubits required_results types_agree entries_fit keeps_first cases_differ numbers_below functions_known same_type class_of
entries_are_told = refl

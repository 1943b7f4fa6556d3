-- The rules of admission on one step of a function and on one function, each as a test that is true where it keeps the rule.
use Rattle.std.specs.Prelude.{ℕ, suc, ◌==◌, ◌&&◌, ◌||◌, nat_eq, nat_lt, not, Bool, true, false, is_some, Option, None, Some, List, [], ◌∷◌, ◌++◌, map, filter, count_by, slice_get}
use Rattle.std.specs.List.{list_all, list_any, starts_with}
use Rattle.ir_values.specs.declared.ids.BlockId.{BlockId}
use Rattle.ir_values.specs.declared.ids.LocalId.{LocalId}
use Rattle.ir_values.specs.declared.int.Conv.{Conv}
use Rattle.ir_values.specs.declared.int.Width.TheVariants.{W64}
use Rattle.ir_values.specs.declared.name.Name.{Name}
use Rattle.ir_values.specs.declared.ty.Ty.{Ty}
use Rattle.ir_values.specs.declared.ty.Ty.TheVariants as ty
use Rattle.ir_values.specs.declared.value.Value.{Value}
use Rattle.ir_values.specs.declared.value.Value.TheVariants as value
use Rattle.ir_values.specs.Arithmetic.{converts}
use Rattle.ir_values.specs.Int.{IntValue}
use Rattle.ir_values.specs.Names.{name_text, quantum_prefix}
use Rattle.ir_values.specs.Values.{same_int, same_value}
use Rattle.ir_module.specs.declared.tree.Block.{Block}
use Rattle.ir_module.specs.declared.tree.Function.{Function}
use Rattle.ir_module.specs.declared.tree.InstKind.{InstKind}
use Rattle.ir_module.specs.declared.tree.InstKind.TheVariants as kind
use Rattle.ir_module.specs.declared.tree.Module.{Module}
use Rattle.ir_module.specs.declared.tree.Operand.{Operand}
use Rattle.ir_module.specs.declared.tree.Operand.TheVariants as operand
use Rattle.ir_module.specs.declared.tree.Term.{Term}
use Rattle.ir_module.specs.declared.tree.Term.TheVariants as term
use Rattle.ir_module.specs.Classes.{class_of_function}
use Rattle.ir_module.specs.Edges.{edges}
use Rattle.ir_module.specs.Numbered.{is_int, is_void}
use Rattle.ir_module.specs.Steps.{Step, PhiAt, InstAt, TermAt, NoStep}
use Rattle.ir_module.specs.Tree.{blocks_of}
use Rattle.type_check.specs.Typing.{same_type, local_type, is_of_type, all_have, wants, result_type}

-- ---- types (LLVM Language Reference, 'Instruction Reference')

abbrev pub converts_type : Conv → Ty → Ty → Bool
converts_type c (ty.Int w) (ty.Int v) = converts c w v
converts_type c t u = false

-- what an instruction asks of the types that are written in it
abbrev pub kind_agrees : InstKind → Bool
kind_agrees (kind.Binary op flags t a b) = is_int t
kind_agrees (kind.Icmp p t a b) = is_int t
kind_agrees (kind.Convert c t a to) = converts_type c t to
kind_agrees (kind.Select c t a u b) = same_type t u
kind_agrees (kind.Call ret g args) = true

-- a name has the type of what it names, and what is void has no name
abbrev pub result_agrees : Function → Option LocalId → Ty → Bool
result_agrees f None t = true
result_agrees f (Some x) t = is_of_type (local_type f x) t && not (is_void t)

-- a function returns its return type, and the cases of a switch have the type of its value
abbrev pub term_agrees : Function → Term → Bool
term_agrees f term.RetVoid = is_void f.ret
term_agrees f (term.Ret t a) = same_type t f.ret
term_agrees f (term.Br b) = true
term_agrees f (term.CondBr c on_true on_false) = true
term_agrees f (term.Switch t a default cases) = is_int t && list_all (λ c. same_type (ty.Int c.0.width) t) cases

-- what a step asks of types beside those of its operands
abbrev pub shape_agrees : Function → Step → Bool
shape_agrees f (PhiAt phi) = is_some (local_type f phi.result)
shape_agrees f (InstAt i) = kind_agrees i.what && result_agrees f i.result (result_type i.what)
shape_agrees f (TermAt t) = term_agrees f t
shape_agrees f NoStep = true

-- the types of operands, switch cases, arguments, results, conversions and returns agree
unfoldable pub types_agree : Module → Function → Step → Bool
types_agree m f s = all_have m f (wants f s) && shape_agrees f s

-- ---- phis (LLVM Language Reference, 'phi Instruction')

-- the blocks that edges into block b come from, one for each edge, of blocks that are numbered from n
abbrev pub sources : ℕ → ℕ → List Block → List ℕ
sources b n [] = []
sources b n (block ∷ blocks) = map (λ t. n) (filter (λ t. t.0 == b) (edges block.term)) ++ sources b (suc n) blocks

-- how many of these are q
abbrev pub times : ℕ → List ℕ → ℕ
times q ns = count_by (λ n. n == q) ns

-- the blocks that entries are for
abbrev pub entry_blocks : List (Operand × BlockId) → List ℕ
entry_blocks entries = map (λ e. e.1.0) entries

-- as many entries are for a block as edges come from it
abbrev pub entries_match : List ℕ → List (Operand × BlockId) → Bool
entries_match from entries =
    list_all (λ q. times q from == times q (entry_blocks entries)) (from ++ entry_blocks entries)

abbrev pub same_operand : Operand → Operand → Bool
same_operand (operand.Const v) (operand.Const w) = same_value v w
same_operand (operand.Local x) (operand.Local y) = x.0 == y.0
same_operand a b = false

-- two entries for one block have one operand
abbrev pub entries_agree : List (Operand × BlockId) → Bool
entries_agree [] = true
entries_agree (e ∷ es) = list_all (λ d. not (d.1.0 == e.1.0) || same_operand d.0 e.0) es && entries_agree es

-- a phi has exactly one entry for each edge into its block, and entries for one block don't differ
unfoldable pub entries_fit : Function → BlockId → Step → Bool
entries_fit f b (PhiAt phi) = entries_match (sources b.0 0 (blocks_of f)) phi.entries && entries_agree phi.entries
entries_fit f b s = true

-- ---- first blocks (LLVM Language Reference, 'Functions')

abbrev pub is_first : BlockId → Bool
is_first b = b.0 == 0

-- no edge leads to a first block, and it has no phis
unfoldable pub keeps_first : BlockId → Step → Bool
keeps_first b (PhiAt phi) = not (is_first b)
keeps_first b (InstAt i) = true
keeps_first b (TermAt t) = list_all (λ to. not (is_first to)) (edges t)
keeps_first b NoStep = true

-- ---- switches (LLVM Language Reference, 'switch Instruction')

abbrev pub are_distinct : List (IntValue × BlockId) → Bool
are_distinct [] = true
are_distinct (c ∷ cs) = not (list_any (λ d. same_int d.0 c.0) cs) && are_distinct cs

-- no two cases of a switch are equal
unfoldable pub cases_differ : Step → Bool
cases_differ (TermAt (term.Switch t a default cases)) = are_distinct cases
cases_differ s = true

-- ---- numbers of qubits and results (QIR specification, 'Base Profile')

-- a number that is written with the type of a qubit or a result is below the required one
abbrev pub number_below : ℕ → ℕ → Ty × Operand → Bool
number_below k r (ty.Qubit, operand.Const (value.Id n)) = nat_lt n k
number_below k r (ty.Res, operand.Const (value.Id n)) = nat_lt n r
number_below k r w = true

-- where k qubits and r results are required
unfoldable pub numbers_below : ℕ → ℕ → Function → Step → Bool
numbers_below k r f s = list_all (number_below k r) (wants f s)

-- ---- declared functions (QIR specification, 'Runtime Functions' and 'Quantum Instruction Set')

-- a function with a body, or a declared one that has a class
abbrev pub is_known : Option Function → Bool
is_known None = true
is_known (Some f) = is_some f.blocks || is_some (class_of_function f)

abbrev pub operand_known : Module → Operand → Bool
operand_known m (operand.Const (value.Func g)) = is_known (slice_get m.funcs g.0)
operand_known m a = true

-- no declared function without a class is called or used as a value
unfoldable pub functions_known : Module → Function → Step → Bool
functions_known m f s = list_all (λ w. operand_known m w.1) (wants f s)

-- ---- names (QIR specification, 'Runtime Functions' and 'Quantum Instruction Set')

abbrev pub is_reserved : Name → Bool
is_reserved name = starts_with nat_eq (name_text name) quantum_prefix

-- a function with a body has no name of the runtime's or the quantum instructions'
abbrev pub body_has_own_name : Function → Bool
body_has_own_name f = not (is_some f.blocks && is_reserved f.name)

-- and so has no constant
abbrev pub constants_have_own_names : Module → Bool
constants_have_own_names m = not (list_any (λ c. is_reserved c.name) m.globals)

-- ---- the type of the entry (QIR specification, 'Entry Point')

abbrev pub is_entry_type : Function → Bool
is_entry_type f = (f.params == 0) && (same_type f.ret (ty.Int W64) || is_void f.ret)

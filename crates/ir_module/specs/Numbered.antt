-- Modules whose numbers and names are in order: what a reader makes, a printer needs, and a run rests on.
use Rattle.std.specs.Prelude.{◌≡◌, ℕ, zero, suc, ◌+◌, ◌^◌, nat_lt, nat_le, if◌then◌else◌, Bool, true, false, not, ◌&&◌, ◌||◌, ◌==◌, is_some, Option, None, Some, List, [], ◌∷◌, ◌++◌, length, map, flat_map, take, count_by, slice_get}
use Rattle.std.specs.List.{list_all, list_any}
use Rattle.ir_values.specs.declared.ids.LocalId.{LocalId}
use Rattle.ir_values.specs.declared.name.Name.{Name}
use Rattle.ir_values.specs.declared.name.Name.TheVariants as name
use Rattle.ir_values.specs.declared.ty.Ty.{Ty}
use Rattle.ir_values.specs.declared.ty.Ty.TheVariants as ty
use Rattle.ir_values.specs.declared.value.Value.{Value}
use Rattle.ir_values.specs.declared.value.Value.TheVariants as value
use Rattle.ir_values.specs.Arithmetic.{allows}
use Rattle.ir_values.specs.Calls.{same_text}
use Rattle.ir_values.specs.Types.{is_ty}
use Rattle.ir_module.specs.declared.tree.Block.{Block}
use Rattle.ir_module.specs.declared.tree.Function.{Function}
use Rattle.ir_module.specs.declared.tree.Inst.{Inst}
use Rattle.ir_module.specs.declared.tree.InstKind.{InstKind}
use Rattle.ir_module.specs.declared.tree.InstKind.TheVariants as kind
use Rattle.ir_module.specs.declared.tree.Module.{Module}
use Rattle.ir_module.specs.declared.tree.Operand.{Operand}
use Rattle.ir_module.specs.declared.tree.Operand.TheVariants as operand
use Rattle.ir_module.specs.declared.tree.Term.{Term}
use Rattle.ir_module.specs.declared.tree.Term.TheVariants as term
use Rattle.ir_module.specs.Classes.{parameter_types}
use Rattle.ir_module.specs.Operands.{step_operands, step_defines, step_blocks}
use Rattle.ir_module.specs.Steps.{Step, PhiAt, InstAt, TermAt, NoStep, steps_of}
use Rattle.ir_module.specs.Tree.{blocks_of}

-- each step of each function passes the test
abbrev pub all_steps : (Function → Step → Bool) → Module → Bool
all_steps test m = list_all (λ f. list_all (test f) (steps_of f)) m.funcs

-- ---- the numbers are in range

abbrev pub constant_in_range : Module → Value → Bool
constant_in_range m (value.Label g) = nat_lt g.0 (length m.globals)
constant_in_range m (value.Func f) = nat_lt f.0 (length m.funcs)
constant_in_range m v = true

abbrev pub local_in_range : Function → LocalId → Bool
local_in_range f x = nat_lt x.0 (length f.locals)

abbrev pub operand_in_range : Module → Function → Operand → Bool
operand_in_range m f (operand.Const v) = constant_in_range m v
operand_in_range m f (operand.Local x) = local_in_range f x

abbrev pub step_in_range : Module → Function → Step → Bool
step_in_range m f s =
    list_all (operand_in_range m f) (step_operands s)
    && (list_all (local_in_range f) (step_defines s) && list_all (λ b. nat_lt b.0 (length (blocks_of f))) (step_blocks s))

abbrev pub numbers_in_range : Module → Bool
numbers_in_range m = list_all (λ f. nat_le f.params (length f.locals)) m.funcs && all_steps (step_in_range m) m

-- ---- the names of a space are distinct

abbrev pub same_name : Name → Name → Bool
same_name (name.Text a) (name.Text b) = same_text a b
same_name (name.Text a) (name.Number n) = false
same_name (name.Number n) (name.Text b) = false
same_name (name.Number m) (name.Number n) = m == n

abbrev pub are_distinct : List Name → Bool
are_distinct [] = true
are_distinct (n ∷ ns) = not (list_any (same_name n) ns) && are_distinct ns

-- constants and functions have one space of names, and so have the locals and blocks of each function
abbrev pub global_names : Module → List Name
global_names m = map (λ c. c.name) m.globals ++ map (λ f. f.name) m.funcs

abbrev pub local_names : Function → List Name
local_names f = map (λ l. l.0) f.locals ++ map (λ b. b.name) (blocks_of f)

abbrev pub names_are_distinct : Module → Bool
names_are_distinct m = are_distinct (global_names m) && list_all (λ f. are_distinct (local_names f)) m.funcs

-- ---- what instructions are written with

-- the value stands in texts: no qubit or result that a run gives
abbrev pub is_written : Operand → Bool
is_written (operand.Const (value.Alloc n)) = false
is_written (operand.Const (value.Measured n)) = false
is_written (operand.Const value.One) = false
is_written (operand.Const value.Zero) = false
is_written o = true

abbrev pub is_int : Ty → Bool
is_int (ty.Int w) = true
is_int t = false

abbrev pub is_void : Ty → Bool
is_void ty.Void = true
is_void t = false

abbrev pub kind_allows : InstKind → Bool
kind_allows (kind.Binary op flags t a b) = allows op flags
kind_allows what = true

abbrev pub flags_allowed : Step → Bool
flags_allowed (PhiAt phi) = true
flags_allowed (InstAt i) = kind_allows i.what
flags_allowed (TermAt t) = true
flags_allowed NoStep = true

abbrev pub kind_on_integers : InstKind → Bool
kind_on_integers (kind.Binary op flags t a b) = is_int t
kind_on_integers (kind.Icmp p t a b) = is_int t
kind_on_integers (kind.Convert c t a to) = is_int t && is_int to
kind_on_integers (kind.Select c t a u b) = true
kind_on_integers (kind.Call ret f args) = true

abbrev pub term_on_integers : Term → Bool
term_on_integers (term.Switch t a default cases) = is_int t
term_on_integers t = true

abbrev pub on_integers : Step → Bool
on_integers (PhiAt phi) = true
on_integers (InstAt i) = kind_on_integers i.what
on_integers (TermAt t) = term_on_integers t
on_integers NoStep = true

abbrev pub is_call : InstKind → Bool
is_call (kind.Call ret f args) = true
is_call what = false

-- only a call may define no name
abbrev pub has_result : Step → Bool
has_result (PhiAt phi) = true
has_result (InstAt i) = is_some i.result || is_call i.what
has_result (TermAt t) = true
has_result NoStep = true

-- ---- types

-- the type of a local name passes the test
abbrev pub type_passes : (Ty → Bool) → Option (Name × Ty) → Bool
type_passes test None = true
type_passes test (Some l) = test l.1

abbrev pub local_type_passes : (Ty → Bool) → Function → LocalId → Bool
local_type_passes test f x = type_passes test (slice_get f.locals x.0)

abbrev pub kind_not_void : InstKind → Bool
kind_not_void (kind.Select c t a u b) = not (is_void t) && not (is_void u)
kind_not_void (kind.Call ret f args) = list_all (λ a. not (is_void a.0)) args
kind_not_void what = true

-- no phi, select or argument is void
abbrev pub not_void : Function → Step → Bool
not_void f (PhiAt phi) = local_type_passes (λ t. not (is_void t)) f phi.result
not_void f (InstAt i) = kind_not_void i.what
not_void f (TermAt t) = true
not_void f NoStep = true

abbrev pub call_types_whole : InstKind → Bool
call_types_whole (kind.Call ret f args) = is_ty ret && list_all (λ a. is_ty a.0) args
call_types_whole what = true

abbrev pub calls_whole : Step → Bool
calls_whole (PhiAt phi) = true
calls_whole (InstAt i) = call_types_whole i.what
calls_whole (TermAt t) = true
calls_whole NoStep = true

-- ---- names and results

-- what the steps of a function define, in text order
abbrev pub results_of : Function → List LocalId
results_of f = flat_map step_defines (steps_of f)

-- of so many locals from x on: each behind the parameters is defined once, and no parameter is
abbrev pub defined_once : Function → ℕ → ℕ → Bool
defined_once f x zero = true
defined_once f x (suc more) =
    (count_by (λ r. r.0 == x) (results_of f) == (if nat_lt x f.params then 0 else 1)) && defined_once f (suc x) more

abbrev pub has_block : Option (List Block) → Bool
has_block None = true
has_block (Some []) = false
has_block (Some (b ∷ bs)) = true

abbrev pub are_few : {A : Type 0} → List A → Bool
are_few xs = nat_lt (length xs) (2 ^ 32)

-- a module whose numbers and names are in order
pub record Numbered (m : Module) : Type 0 where
  -- numbers of constants, functions, locals and blocks are in range
  pub in_range : numbers_in_range m ≡ true
  -- the names of a space are distinct
  pub distinct : names_are_distinct m ≡ true
  -- no operand is a qubit or result that a run gives
  pub written : all_steps (λ f s. list_all is_written (step_operands s)) m ≡ true
  -- each local other than a parameter is the result of exactly one phi or instruction, and no parameter is one
  pub results : list_all (λ f. defined_once f 0 (length f.locals)) m.funcs ≡ true
  -- a body has a block
  pub bodies : list_all (λ f. has_block f.blocks) m.funcs ≡ true
  -- a binary instruction has only flags that its operation allows
  pub flags : all_steps (λ f s. flags_allowed s) m ≡ true
  -- binary instructions, comparisons, conversions and switches name integer types
  pub integers : all_steps (λ f s. on_integers s) m ≡ true
  -- every instruction but a call has a result
  pub named : all_steps (λ f s. has_result s) m ≡ true
  -- no parameter, phi, select or argument has the type void
  pub values : (list_all (λ f. list_all (λ t. not (is_void t)) (parameter_types f)) m.funcs && all_steps not_void m) ≡ true
  -- constants, functions and the blocks of each function number fewer than 2 to the 32
  pub few : (are_few m.globals && (are_few m.funcs && list_all (λ f. are_few (blocks_of f)) m.funcs)) ≡ true
  -- local types, return types and the types that calls are written with are whole
  pub whole : (list_all (λ f. is_ty f.ret && list_all (λ l. is_ty l.1) f.locals) m.funcs && all_steps (λ f s. calls_whole s) m) ≡ true

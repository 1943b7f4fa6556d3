-- Which type an operand has, and which type each operand of a step has to have (LLVM Language Reference, 'Type System').
use Rattle.std.specs.Prelude.{◌==◌, Bool, true, false, Option, None, Some, List, [], ◌∷◌, map, slice_get, option_map}
use Rattle.std.specs.List.{list_all}
use Rattle.ir_values.specs.declared.ids.LocalId.{LocalId}
use Rattle.ir_values.specs.declared.int.Width.{Width}
use Rattle.ir_values.specs.declared.int.Width.TheVariants.{W1}
use Rattle.ir_values.specs.declared.sig.TyWord.{TyWord}
use Rattle.ir_values.specs.declared.ty.Ty.{Ty}
use Rattle.ir_values.specs.declared.ty.Ty.TheVariants as ty
use Rattle.ir_values.specs.declared.value.Value.{Value}
use Rattle.ir_values.specs.declared.value.Value.TheVariants as value
use Rattle.ir_values.specs.Calls.{same_words}
use Rattle.ir_values.specs.Types.{signature}
use Rattle.ir_values.specs.Values.{same_width}
use Rattle.ir_module.specs.declared.tree.Function.{Function}
use Rattle.ir_module.specs.declared.tree.InstKind.{InstKind}
use Rattle.ir_module.specs.declared.tree.InstKind.TheVariants as kind
use Rattle.ir_module.specs.declared.tree.Module.{Module}
use Rattle.ir_module.specs.declared.tree.Operand.{Operand}
use Rattle.ir_module.specs.declared.tree.Operand.TheVariants as operand
use Rattle.ir_module.specs.declared.tree.Phi.{Phi}
use Rattle.ir_module.specs.declared.tree.Term.{Term}
use Rattle.ir_module.specs.declared.tree.Term.TheVariants as term
use Rattle.ir_module.specs.Classes.{type_words}
use Rattle.ir_module.specs.Operands.{callee_operand}
use Rattle.ir_module.specs.Steps.{Step, PhiAt, InstAt, TermAt, NoStep}

-- two types are one
unfoldable pub same_type : Ty → Ty → Bool
same_type ty.Void ty.Void = true
same_type (ty.Int w) (ty.Int v) = same_width w v
same_type ty.Double ty.Double = true
same_type ty.Qubit ty.Qubit = true
same_type ty.Res ty.Res = true
same_type ty.Text ty.Text = true
same_type (ty.Func ws) (ty.Func vs) = same_words ws vs
same_type t u = false

-- ---- the type of an operand

abbrev pub local_type : Function → LocalId → Option Ty
local_type f x = option_map (λ l. l.1) (slice_get f.locals x.0)

abbrev pub is_of_type : Option Ty → Ty → Bool
is_of_type None t = false
is_of_type (Some u) t = same_type u t

-- whether the function of this number has the type of these words
abbrev pub has_words : Option Function → List TyWord → Bool
has_words None ws = false
has_words (Some f) ws = same_words (type_words f) ws

-- whether a constant has the type; a number of a handle is that of a qubit and of a result
abbrev pub constant_has : Module → Value → Ty → Bool
constant_has m (value.Int i) (ty.Int w) = same_width i.width w
constant_has m (value.Double d) ty.Double = true
constant_has m (value.Id n) ty.Qubit = true
constant_has m (value.Id n) ty.Res = true
constant_has m (value.Alloc n) ty.Qubit = true
constant_has m (value.Measured n) ty.Res = true
constant_has m value.One ty.Res = true
constant_has m value.Zero ty.Res = true
constant_has m (value.Label g) ty.Text = true
constant_has m value.NoLabel ty.Text = true
constant_has m (value.Func g) (ty.Func ws) = has_words (slice_get m.funcs g.0) ws
constant_has m v t = false

-- whether an operand of a function has the type
abbrev pub operand_has : Module → Function → Operand → Ty → Bool
operand_has m f (operand.Const v) t = constant_has m v t
operand_has m f (operand.Local x) t = is_of_type (local_type f x) t

-- ---- the types that are wanted

-- the type of a condition
abbrev pub condition : Ty
condition = ty.Int W1

-- the type of the function that a call calls
abbrev pub callee_type : Ty → List (Ty × Operand) → Ty
callee_type ret args = ty.Func (signature ret (map (λ a. a.0) args))

-- the operands of an instruction in the order of its text, a call's callee first, each with the type that it has to have
abbrev pub inst_wants : InstKind → List (Ty × Operand)
inst_wants (kind.Binary op flags t a b) = (t, a) ∷ (t, b) ∷ []
inst_wants (kind.Icmp p t a b) = (t, a) ∷ (t, b) ∷ []
inst_wants (kind.Convert c t a to) = (t, a) ∷ []
inst_wants (kind.Select c t a u b) = (condition, c) ∷ (t, a) ∷ (u, b) ∷ []
inst_wants (kind.Call ret g args) = (callee_type ret args, callee_operand g) ∷ args

abbrev pub term_wants : Term → List (Ty × Operand)
term_wants term.RetVoid = []
term_wants (term.Ret t a) = (t, a) ∷ []
term_wants (term.Br b) = []
term_wants (term.CondBr c on_true on_false) = (condition, c) ∷ []
term_wants (term.Switch t a default cases) = (t, a) ∷ []

abbrev pub phi_wants : Option Ty → Phi → List (Ty × Operand)
phi_wants None phi = []
phi_wants (Some t) phi = map (λ e. (t, e.0)) phi.entries

-- the operands of a step, each with the type that it has to have; those of a phi have the type of its result
abbrev pub wants : Function → Step → List (Ty × Operand)
wants f (PhiAt phi) = phi_wants (local_type f phi.result) phi
wants f (InstAt i) = inst_wants i.what
wants f (TermAt t) = term_wants t
wants f NoStep = []

-- whether each of these operands has its type
abbrev pub all_have : Module → Function → List (Ty × Operand) → Bool
all_have m f ws = list_all (λ w. operand_has m f w.1 w.0) ws

-- the type of what an instruction gives
abbrev pub result_type : InstKind → Ty
result_type (kind.Binary op flags t a b) = t
result_type (kind.Icmp p t a b) = condition
result_type (kind.Convert c t a to) = to
result_type (kind.Select c t a u b) = t
result_type (kind.Call ret g args) = ret

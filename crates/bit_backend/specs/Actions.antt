-- What operations do to classical bits, one for each qubit (QIR specification, 'Quantum Instruction Set').
use Rattle.std.specs.Prelude.{ℕ, Bool, false, not, ◌&&◌, ◌||◌, if◌then◌else◌, is_some, Option, None, Some, List, [], ◌∷◌, ◌++◌, codes}
use Rattle.ir_values.specs.Calls.{qis, same_text}
use Rattle.backend_api.specs.declared.operation.Answer.{Answer}
use Rattle.backend_api.specs.declared.operation.Answer.TheVariants as answer
use Rattle.backend_api.specs.declared.operation.Arg.{Arg}
use Rattle.backend_api.specs.declared.operation.Arg.TheVariants as arg
use Rattle.backend_api.specs.declared.operation.Op.{Op}
use Rattle.backend_api.specs.declared.operation.QubitRef.{QubitRef}
use Rattle.backend_api.specs.Operations.{same_qubit}
use Rattle.bit_backend.specs.declared.action.Action.{Action}
use Rattle.bit_backend.specs.declared.action.Action.TheVariants as action

-- the whole name of an instruction, by what stands between `__quantum__qis__` and `__body`
abbrev pub named : List ℕ → List ℕ
named stem = qis (stem ++ codes "__body")

abbrev pub is_named : List ℕ → List ℕ → Bool
is_named name stem = same_text name (named stem)

abbrev pub on_one : List ℕ → QubitRef → Option Action
on_one name q =
    if is_named name (codes "x") then Some (action.Flip q)
    else if is_named name (codes "reset") then Some (action.Reset q)
    else None

abbrev pub measuring : List ℕ → QubitRef → Option Action
measuring name q =
    if is_named name (codes "mz") || is_named name (codes "m") then Some (action.Measure q)
    else if is_named name (codes "mresetz") then Some (action.MeasureAndReset q)
    else None

abbrev pub on_two : List ℕ → QubitRef → QubitRef → Option Action
on_two name a b =
    if same_qubit a b then None
    else if is_named name (codes "swap") then Some (action.Swap a b)
    else if is_named name (codes "cnot") || is_named name (codes "cx") then Some (action.FlipIf a b)
    else None

abbrev pub on_three : List ℕ → QubitRef → QubitRef → QubitRef → Option Action
on_three name a b c =
    if same_qubit a b || same_qubit a c || same_qubit b c then None
    else if is_named name (codes "ccx") then Some (action.FlipIfBoth a b c)
    else None

abbrev pub on_args : List ℕ → List Arg → Option Action
on_args name (arg.Qubit q ∷ []) = on_one name q
on_args name (arg.Qubit q ∷ arg.Res r ∷ []) = measuring name q
on_args name (arg.Qubit a ∷ arg.Qubit b ∷ []) = on_two name a b
on_args name (arg.Qubit a ∷ arg.Qubit b ∷ arg.Qubit c ∷ []) = on_three name a b c
on_args name args = None

-- what an operation does to bits, where it is one of those that have a meaning there
abbrev pub action_of : Op → Option Action
action_of op = on_args op.name op.args

abbrev pub can : Op → Bool
can op = is_some (action_of op)

-- the bit of each qubit
abbrev pub QubitBits : Type 0
QubitBits = QubitRef → Bool

abbrev pub with_bit : QubitRef → Bool → QubitBits → QubitBits
with_bit q b bits p = if same_qubit q p then b else bits p

abbrev pub flipped : QubitRef → QubitBits → QubitBits
flipped q bits = with_bit q (not (bits q)) bits

-- the bits after an action
abbrev pub after_action : Action → QubitBits → QubitBits
after_action (action.Flip q) bits = flipped q bits
after_action (action.Reset q) bits = with_bit q false bits
after_action (action.Swap a b) bits = with_bit a (bits b) (with_bit b (bits a) bits)
after_action (action.FlipIf control target) bits = if bits control then flipped target bits else bits
after_action (action.FlipIfBoth first second target) bits = if bits first && bits second then flipped target bits else bits
after_action (action.Measure q) bits = bits
after_action (action.MeasureAndReset q) bits = with_bit q false bits

-- its answer, by the bits before it
abbrev pub answer_to : Action → QubitBits → Answer
answer_to (action.Flip q) bits = answer.Done
answer_to (action.Reset q) bits = answer.Done
answer_to (action.Swap a b) bits = answer.Done
answer_to (action.FlipIf control target) bits = answer.Done
answer_to (action.FlipIfBoth first second target) bits = answer.Done
answer_to (action.Measure q) bits = answer.Bit (bits q)
answer_to (action.MeasureAndReset q) bits = answer.Bit (bits q)

use Rattle.std.proofs.Common.{◌≡◌, ◌∙◌, ◌+◌, ◌-◌, ◌<◌, ◌≤◌, ℕ, List, [], ◌∷◌, Option, None, Some, length, map, refl, sym, ap, subst, arith}
use Rattle.std.proofs.lemmas.Option.{same_Some, slice_get_past, slice_get_read}
use Rattle.std.specs.Option.{option_map}
use Rattle.std.specs.Prelude.{IfOk, slice_get}
use Rattle.ir_module.specs.Classes.{class_of_function}
use Rattle.ir_module.specs.Operands.{callee_operand}
use Rattle.ir_module.specs.declared.tree.InstKind.TheVariants as kind
use Rattle.ir_module.specs.declared.tree.Operand.{Operand}
use Rattle.ir_values.specs.declared.ty.Ty.{Ty}
use Rattle.machine_frames.proofs.Operands.{if-ok}
use Rattle.machine_frames.specs.code.Apt.{calls_apt, declared_apt, does_apt, of_class}
use Rattle.qir_machine.specs.declared.calls.Called.TheVariants as called
use Rattle.qir_machine.specs.code.Machines.{Acts, Does, called_by, state}
use Rattle.qir_machine.proofs.Calling.{calls-function, class-at, enters, no-callee, no-function, none-some, of-its-class, unbound-argument, unbound-callee}
use Rattle.qir_machine.proofs.Hearing.{heard-none}
use Rattle.qir_machine.proofs.Instructions.{acts-does, acts-same, does-same, moves-acts, on-err, stuck-does, traps-does}
use Rattle.qir_machine.proofs.Stepping.{at-inst, at-none, at-phi, at-term, no-block}
use Rattle.qir_machine.proofs.machine.Machine.call_function.Goals as goal
use Rattle.qir_meaning.specs.Moves.{block_in, first_point}
use Rattle.qir_meaning.specs.State.{Enter, State, frame, value_of, values_of}

pub returns-in_default-clause-does : goal.returns-in_default-clause-does
returns-in_default-clause-does g c =
    let s = c.args.self.now in
    let m = c.args.m.now in
    let n = c.args.number in
    let none : slice_get m.funcs n.0 ≡ None = ap (λ l. slice_get l n.0) (sym c.as_slice.ensures) ∙ slice_get_past c.as_slice.result.now n.0 c.in_default.ensures.lookup.3 in
    stuck-does s _ _ (λ a es k. no-function m s.frames.at s.frames.env (state s a es) c.args.x n (map (λ (a : Ty × Operand). a.0) c.args.types.now) c.args.values none)

pub returns-in-Some-blocks-clause-does : goal.returns-in-Some-blocks-clause-does
returns-in-Some-blocks-clause-does g c =
    let s = c.args.self.now in
    let m = c.args.m.now in
    let ts = map (λ (a : Ty × Operand). a.0) c.args.types.now in
    let n = c.args.number in
    let funcs = c.as_slice.result.now in
    let f = c.in-Some.function.now in
    let at : slice_get m.funcs n.0 ≡ Some f = ap (λ l. slice_get l n.0) (sym c.as_slice.ensures) ∙ slice_get_read funcs (length funcs) n.0 f refl c.in-Some.ensures.lookup.3.0 c.in-Some.ensures.lookup.1 in
    let move = λ (st : State). Enter (first_point n) (frame f c.args.values) c.args.x st in
    if-ok c.enter.result _ _ (λ fl h. does-same s _ _ _ fl move _ (λ a es k. enters m s.frames.at s.frames.env (state s a es) c.args.x n ts c.args.values f at _ c.in-Some-blocks.is)
    (acts-does s _ _ fl move (moves-acts s c.enter.new.self fl move h) refl)) c.enter.ensures

pub returns-in-Some-get-clause-does : goal.returns-in-Some-get-clause-does
returns-in-Some-get-clause-does g c =
    let s = c.args.self.now in
    let m = c.args.m.now in
    let ts = map (λ (a : Ty × Operand). a.0) c.args.types.now in
    let n = c.args.number in
    let funcs = c.as_slice.result.now in
    let f = c.in-Some.function.now in
    let at : slice_get m.funcs n.0 ≡ Some f = ap (λ l. slice_get l n.0) (sym c.as_slice.ensures) ∙ slice_get_read funcs (length funcs) n.0 f refl c.in-Some.ensures.lookup.3.0 c.in-Some.ensures.lookup.1 in
    let list = c.as_slice-in-None.result.now in
    let cls = c.in-Some-get.class.now in
    let read : slice_get list n.0 ≡ Some cls = slice_get_read list (length list) n.0 cls refl c.in-Some-get.ensures.lookup.3.0 c.in-Some-get.ensures.lookup.1 in
    let all : slice_get list n.0 ≡ Some (class_of_function f) = ap (λ l. slice_get l n.0) (c.as_slice-in-None.ensures ∙ c.requires.classes) ∙ class-at m.funcs n.0 f at in
    if-ok c.declared_if.result _ _ (λ fl h. does-same s c.declared_if.new.self _ _ fl _ _ (λ a es k. of-its-class m s.frames.at s.frames.env (state s a es) c.args.x n ts c.args.values f at cls c.in-None.is (same_Some (class_of_function f) cls (sym all ∙ read))) (h m)) c.declared_if.ensures.does

use Rattle.std.proofs.Common.{◌≡◌, ◌∙◌, ◌+◌, ◌-◌, ◌<◌, ◌≤◌, ℕ, List, [], ◌∷◌, Option, None, Some, length, map, refl, sym, ap, subst, arith}
use Rattle.std.proofs.lemmas.Option.{same_Some, slice_get_past, slice_get_read}
use Rattle.std.specs.Option.{option_map}
use Rattle.std.specs.Prelude.{IfOk, slice_get}
use Rattle.ir_module.specs.Classes.{class_of_function}
use Rattle.ir_module.specs.Operands.{callee_operand}
use Rattle.ir_module.specs.declared.tree.InstKind.TheVariants as kind
use Rattle.ir_module.specs.declared.tree.Operand.{Operand}
use Rattle.ir_values.specs.declared.ty.Ty.{Ty}
use Rattle.machine_frames.proofs.Operands.{if-ok}
use Rattle.machine_frames.specs.code.Apt.{calls_apt, declared_apt, does_apt, of_class}
use Rattle.qir_machine.specs.declared.calls.Called.TheVariants as called
use Rattle.qir_machine.specs.code.Machines.{Acts, Does, called_by, state}
use Rattle.qir_machine.proofs.Calling.{calls-function, class-at, enters, no-callee, no-function, of-its-class, unbound-argument, unbound-callee}
use Rattle.qir_machine.proofs.Hearing.{heard-none}
use Rattle.qir_machine.proofs.Instructions.{acts-does, acts-same, does-same, moves-acts, on-err, stuck-does, traps-does}
use Rattle.qir_machine.proofs.Stepping.{at-inst, at-none, at-phi, at-term, no-block}
use Rattle.qir_machine.proofs.machine.Machine.call.Goals as goal
use Rattle.qir_meaning.specs.Moves.{block_in}
use Rattle.qir_meaning.specs.State.{value_of, values_of}

pub returns-in-Func-clause-does : goal.returns-in-Func-clause-does
returns-in-Func-clause-does g c =
    let s = c.args.self.now in
    let m = c.args.m.now in
    let p = s.frames.at in
    let env = s.frames.env in
    let ts = c.args.types.now in
    let hv : values_of env (map (λ (a : Ty × Operand). a.1) ts) ≡ Some c.in-Some.values = sym c.in_ok-values.ensures ∙ c.in-Some.is in
    let hc : called.Func c.in-Func.number ≡ called_by (value_of env (callee_operand c.args.callee)) = sym c.in-Func.is ∙ c.callee_value-called.ensures in
    if-ok c.call_function.result _ _ (λ fl h ret. does-same s c.call_function.new.self _ _ fl _ _ (λ a es k. calls-function m p env (state s a es) c.args.x c.args.callee ts ret c.in-Some.values hv c.in-Func.number hc) h) c.call_function.ensures.does

pub returns-in-Unbound-clause-does : goal.returns-in-Unbound-clause-does
returns-in-Unbound-clause-does g c ret =
    let s = c.args.self.now in
    let m = c.args.m.now in
    let p = s.frames.at in
    let env = s.frames.env in
    let ts = c.args.types.now in
    let hv : values_of env (map (λ (a : Ty × Operand). a.1) ts) ≡ Some c.in-Some.values = sym c.in_ok-values.ensures ∙ c.in-Some.is in
    let hc : called.Unbound ≡ called_by (value_of env (callee_operand c.args.callee)) = sym c.in-Unbound.is ∙ c.callee_value-called.ensures in
    rw c.traps.ensures (traps-does s _ _ _ (λ a es k. unbound-callee m p env (state s a es) c.args.x c.args.callee ts ret c.in-Some.values hv hc))

pub returns-in-Lost-clause-does : goal.returns-in-Lost-clause-does
returns-in-Lost-clause-does g c ret =
    let s = c.args.self.now in
    let m = c.args.m.now in
    let p = s.frames.at in
    let env = s.frames.env in
    let ts = c.args.types.now in
    let hv : values_of env (map (λ (a : Ty × Operand). a.1) ts) ≡ Some c.in-Some.values = sym c.in_ok-values.ensures ∙ c.in-Some.is in
    let hc : called.Lost ≡ called_by (value_of env (callee_operand c.args.callee)) = sym c.in-Lost.is ∙ c.callee_value-called.ensures in
    stuck-does s _ _ (λ a es k. no-callee m p env (state s a es) c.args.x c.args.callee ts ret c.in-Some.values hv hc)

pub returns-in-None-clause-does : goal.returns-in-None-clause-does
returns-in-None-clause-does g c ret =
    let s = c.args.self.now in
    let m = c.args.m.now in
    let p = s.frames.at in
    let env = s.frames.env in
    let ts = c.args.types.now in
    let hv : values_of env (map (λ (a : Ty × Operand). a.1) ts) ≡ None = sym c.in_ok-values.ensures ∙ c.in-None.is in
    rw c.traps-in-None.ensures (traps-does s _ _ _ (λ a es k. unbound-argument m p env (state s a es) c.args.x c.args.callee ts ret hv))

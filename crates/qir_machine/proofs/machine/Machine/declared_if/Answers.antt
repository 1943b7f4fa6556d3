use Rattle.std.proofs.Common.{◌≡◌, ◌∙◌, ◌+◌, ◌-◌, ◌<◌, ◌≤◌, ℕ, List, [], ◌∷◌, Option, None, Some, length, map, refl, sym, ap, subst, arith}
use Rattle.std.proofs.lemmas.Option.{same_Some, slice_get_past, slice_get_read}
use Rattle.std.specs.Option.{option_map}
use Rattle.std.specs.Prelude.{IfOk, slice_get}
use Rattle.ir_module.specs.Classes.{class_of_function}
use Rattle.ir_module.specs.Operands.{callee_operand}
use Rattle.ir_module.specs.declared.tree.InstKind.TheVariants as kind
use Rattle.ir_module.specs.declared.tree.Operand.{Operand}
use Rattle.ir_values.specs.declared.ty.Ty.{Ty}
use Rattle.machine_frames.proofs.Operands.{if-ok}
use Rattle.machine_frames.specs.code.Apt.{calls_apt, declared_apt, does_apt, of_class}
use Rattle.qir_machine.specs.declared.calls.Called.TheVariants as called
use Rattle.qir_machine.specs.code.Machines.{Acts, Does, called_by, state}
use Rattle.qir_machine.proofs.Calling.{calls-function, class-at, enters, no-callee, no-function, of-its-class, unbound-argument, unbound-callee}
use Rattle.qir_machine.proofs.Hearing.{heard-none}
use Rattle.qir_machine.proofs.Instructions.{acts-does, acts-same, does-same, moves-acts, on-err, stuck-does, traps-does}
use Rattle.qir_machine.proofs.Stepping.{at-inst, at-none, at-phi, at-term, no-block}
use Rattle.qir_machine.proofs.machine.Machine.declared_if.Goals as goal
use Rattle.qir_meaning.specs.Moves.{block_in}
use Rattle.qir_meaning.specs.State.{value_of, values_of}

pub returns-in-Some-clause-does : goal.returns-in-Some-clause-does
returns-in-Some-clause-does g c =
    let s = c.args.self.now in
    let ts = map (λ (a : Ty × Operand). a.0) c.args.types.now in
    if-ok c.declared.result _ _ (λ fl h m. does-same s c.declared.new.self _ _ fl _ _ (λ a es k.
    ap (λ o. of_class m s.frames.at s.frames.env (state s a es) c.args.x c.args.function.now o ts c.args.values.now) c.in-Some.is
    ∙ ap (λ n. declared_apt m s.frames.at s.frames.env (state s a es) c.args.x n ts c.in-Some.class c.args.values.now) (sym c.text-name.ensures)
    ∙ ap (declared_apt m s.frames.at s.frames.env (state s a es) c.args.x c.text-name.result.now ts c.in-Some.class) (sym c.as_slice.ensures)) (h m)) c.declared.ensures.does

pub returns-in-None-clause-does : goal.returns-in-None-clause-does
returns-in-None-clause-does g c m =
    let s = c.args.self.now in
    stuck-does s _ _ (λ a es k. ap (λ o. of_class m s.frames.at s.frames.env (state s a es) c.args.x c.args.function.now o (map (λ (a : Ty × Operand). a.0) c.args.types.now) c.args.values.now) c.in-None.is)

use Rattle.std.proofs.Common.{◌≡◌, ◌∙◌, ◌+◌, ◌-◌, ◌<◌, ◌≤◌, ℕ, List, [], ◌∷◌, Option, None, Some, length, map, refl, sym, ap, subst, arith}
use Rattle.std.proofs.lemmas.Option.{same_Some, slice_get_past, slice_get_read}
use Rattle.std.specs.Option.{option_map}
use Rattle.std.specs.Prelude.{IfOk, slice_get}
use Rattle.ir_module.specs.Classes.{class_of_function}
use Rattle.ir_module.specs.Operands.{callee_operand}
use Rattle.ir_module.specs.declared.tree.InstKind.TheVariants as kind
use Rattle.ir_module.specs.declared.tree.Operand.{Operand}
use Rattle.ir_values.specs.declared.ty.Ty.{Ty}
use Rattle.machine_frames.proofs.Operands.{if-ok}
use Rattle.machine_frames.specs.code.Apt.{calls_apt, declared_apt, does_apt, of_class}
use Rattle.qir_machine.specs.declared.calls.Called.TheVariants as called
use Rattle.qir_machine.specs.code.Machines.{Acts, Does, called_by, state}
use Rattle.qir_machine.proofs.Calling.{calls-function, class-at, enters, no-callee, no-function, of-its-class, unbound-argument, unbound-callee}
use Rattle.qir_machine.proofs.Hearing.{heard-none}
use Rattle.qir_machine.proofs.Instructions.{acts-does, acts-same, does-same, moves-acts, on-err, stuck-does, traps-does}
use Rattle.qir_machine.proofs.Stepping.{at-inst, at-none, at-phi, at-term, no-block}
use Rattle.qir_machine.proofs.machine.Machine.instruction.Goals as goal
use Rattle.qir_meaning.specs.Moves.{block_in}
use Rattle.qir_meaning.specs.State.{value_of, values_of}

pub returns-in-Call-clause-does : goal.returns-in-Call-clause-does
returns-in-Call-clause-does g c =
    let s = c.args.self.now in
    let m = c.args.m.now in
    let x = c.args.inst.now.result in
    subst (λ w. IfOk c.call.result (λ fl. Does s c.call.new.self fl (g.B.Backend.state c.args.backend.now) (g.B.Backend.state c.call.new.backend) (λ st. does_apt m s.frames.at s.frames.env st x w))) (sym c.in-Call.is)
    (subst (λ ts. IfOk c.call.result (λ fl. Does s c.call.new.self fl (g.B.Backend.state c.args.backend.now) (g.B.Backend.state c.call.new.backend) (λ st. does_apt m s.frames.at s.frames.env st x (kind.Call c.in-Call.field-0 c.in-Call.callee ts)))) c.as_slice-types.ensures
    (if-ok c.call.result _ _ (λ fl h. h c.in-Call.field-0) c.call.ensures.does))

pub returns-in_default : goal.returns-in_default
returns-in_default g c =
    let s = c.args.self.now in
    let m = c.args.m.now in
    record {
      does = if-ok c.compute.result _ _ (λ fl h. acts-does s _ _ fl _ (moves-acts s c.compute.new.self fl _ (h m)) refl) c.compute.ensures;
      memory = on-err _ _ (heard-none _);
      measured = omega arith;
    }

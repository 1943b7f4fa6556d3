use Rattle.std.proofs.Common.{◌≡◌, ◌∙◌, ◌+◌, ◌-◌, ◌<◌, ◌≤◌, ℕ, List, [], ◌∷◌, Option, None, Some, length, map, refl, sym, ap, subst, arith}
use Rattle.std.proofs.lemmas.Option.{same_Some, slice_get_past, slice_get_read}
use Rattle.std.specs.Option.{option_map}
use Rattle.std.specs.Prelude.{IfOk, slice_get}
use Rattle.ir_module.specs.Classes.{class_of_function}
use Rattle.ir_module.specs.Operands.{callee_operand}
use Rattle.ir_module.specs.declared.tree.InstKind.TheVariants as kind
use Rattle.ir_module.specs.declared.tree.Operand.{Operand}
use Rattle.ir_values.specs.declared.ty.Ty.{Ty}
use Rattle.machine_frames.proofs.Operands.{if-ok}
use Rattle.machine_frames.specs.code.Apt.{calls_apt, declared_apt, does_apt, of_class}
use Rattle.qir_machine.specs.declared.calls.Called.TheVariants as called
use Rattle.qir_machine.specs.code.Machines.{Acts, Does, called_by, state}
use Rattle.qir_machine.proofs.Calling.{calls-function, class-at, enters, no-callee, no-function, of-its-class, unbound-argument, unbound-callee}
use Rattle.qir_machine.proofs.Hearing.{heard-none}
use Rattle.qir_machine.proofs.Instructions.{acts-does, acts-same, does-same, moves-acts, on-err, stuck-does, traps-does}
use Rattle.qir_machine.proofs.Stepping.{at-inst, at-none, at-phi, at-term, no-block}
use Rattle.qir_machine.proofs.machine.Machine.advance.Goals as goal
use Rattle.qir_meaning.specs.Moves.{block_in}
use Rattle.qir_meaning.specs.State.{value_of, values_of}

pub returns-in_default-clause-does : goal.returns-in_default-clause-does
returns-in_default-clause-does g c =
    let s = c.args.self.now in
    let m = c.args.m.now in
    let none : block_in m s.frames.at.func s.frames.at.block ≡ None = sym c.block_in.ensures ∙ ap (option_map _) c.in_default.is in
    stuck-does s _ _ (λ a es k. no-block m s.frames.at s.frames.env (state s a es) none)

pub returns-then-at-phis-clause-does : goal.returns-then-at-phis-clause-does
returns-then-at-phis-clause-does g c =
    let s = c.args.self.now in
    let m = c.args.m.now in
    let b = c.in-Some.block.now in
    let n = c.len-phis.ensures in
    let lt = c.if-at-phis.true in
    stuck-does s _ _ (λ a es k. at-phi m s.frames.at s.frames.env (state s a es) b (sym c.in-Some.ensures) (omega arith))

pub returns-then-index-len-clause-does : goal.returns-then-index-len-clause-does
returns-then-index-len-clause-does g c =
    let s = c.args.self.now in
    let m = c.args.m.now in
    let b = c.in-Some.block.now in
    let n = c.len-phis.ensures in
    let le = c.if-at-phis.false in
    let l = c.len.ensures in
    let lt = c.if-index-len.true in
    stuck-does s _ _ (λ a es k. at-none m s.frames.at s.frames.env (state s a es) b (sym c.in-Some.ensures) (omega arith) (omega arith))

pub returns-in-Some-get-clause-does : goal.returns-in-Some-get-clause-does
returns-in-Some-get-clause-does g c =
    let s = c.args.self.now in
    let m = c.args.m.now in
    let b = c.in-Some.block.now in
    let i = c.in-Some-get.inst.now in
    let k = s.frames.at.index - c.len-phis.result in
    let n = c.len-phis.ensures in
    let le = c.if-at-phis.false in
    let read : slice_get c.as_slice.result.now k ≡ Some i = slice_get_read c.as_slice.result.now (length c.as_slice.result.now) k i refl c.in-Some-get.ensures.lookup.3.0 c.in-Some-get.ensures.lookup.1 in
    let at : slice_get b.insts (s.frames.at.index - length b.phis) ≡ Some i = subst (λ j. slice_get b.insts (s.frames.at.index - j) ≡ Some i) n (ap (λ l. slice_get l k) (sym c.as_slice.ensures) ∙ read) in
    if-ok c.instruction.result _ _ (λ fl h. does-same s c.instruction.new.self _ _ fl _ _ (λ a es k. at-inst m s.frames.at s.frames.env (state s a es) b (sym c.in-Some.ensures) (omega arith) i at) h) c.instruction.ensures.does

pub returns-else-index-len-clause-does : goal.returns-else-index-len-clause-does
returns-else-index-len-clause-does g c =
    let s = c.args.self.now in
    let m = c.args.m.now in
    let b = c.in-Some.block.now in
    let n = c.len-phis.ensures in
    let le = c.if-at-phis.false in
    let l = c.len.ensures in
    let few = c.if-index-len.false in
    let past = c.in-None.ensures.lookup.3 in
    let all = ap length c.as_slice.ensures in
    if-ok c.end_block.result _ _ (λ fl h. does-same s _ _ _ fl _ _ (λ a es k. at-term m s.frames.at s.frames.env (state s a es) b (sym c.in-Some.ensures) (omega arith) (omega arith))
    (acts-does s _ _ fl _ (moves-acts s c.end_block.new.self fl _ h) refl)) c.end_block.ensures

use Rattle.std.proofs.Common.{◌≡◌, ◌∙◌, ◌<◌, ℕ, List, [], ◌∷◌, Option, None, Some, map, refl, sym, ap, subst, arith, count_by}
use Rattle.std.specs.Prelude.{IfOk}
use Rattle.ir_values.specs.declared.class.Class.TheVariants as class
use Rattle.ir_values.specs.declared.ids.LocalId.{LocalId}
use Rattle.ir_values.specs.declared.ty.Ty.{Ty}
use Rattle.machine_frames.proofs.Operands.{if-ok}
use Rattle.machine_frames.specs.code.Apt.{calls_apt, declared_apt, issues, of_class}
use Rattle.machine_tables.specs.code.Reads.{argued, read_as}
use Rattle.output_records.specs.declared.record.Shown.TheVariants as shown
use Rattle.backend_api.specs.Operations.{is_result}
use Rattle.qir_machine.specs.code.Machines.{Acts, Does, state}
use Rattle.qir_machine.proofs.Hearing.{heard-none}
use Rattle.qir_machine.proofs.Instructions.{acts-does, acts-same, apt-count, does-same, moves-acts, no-issue, not-apt, one-item, runtime-same, stuck-does, traps-does, two-items}
use Rattle.qir_machine.proofs.machine.Machine.runtime.Goals as goal
use Rattle.qir_meaning.specs.Effects.{arguments, declared_call, first_result, gate, measure_into, recorded}

pub returns-in-Alloc-clause-acts : goal.returns-in-Alloc-clause-acts
returns-in-Alloc-clause-acts c =
    let s = c.args.self.now in
    subst (λ k. IfOk c.allocate.result (λ fl. (name : List ℕ) (ts : List Ty) → Acts s c.allocate.new.self fl (λ st. declared_call s.frames.at s.frames.env c.args.x st name ts k c.args.values.now))) (sym c.in-Alloc.is)
    (if-ok c.allocate.result _ _ (λ fl h name ts. h) c.allocate.ensures.acts)

pub returns-in-Release-clause-acts : goal.returns-in-Release-clause-acts
returns-in-Release-clause-acts c name ts =
    let s = c.args.self.now in
    subst (λ k. Acts s c.release_of.new.self c.release_of.result (λ st. declared_call s.frames.at s.frames.env c.args.x st name ts k c.args.values.now)) (sym c.in-Release.is) (c.release_of.ensures.acts name ts c.args.x)

pub returns-in-Read-clause-acts : goal.returns-in-Read-clause-acts
returns-in-Read-clause-acts c name ts =
    let s = c.args.self.now in
    subst (λ k. Acts s c.read_of.new.self c.read_of.result (λ st. declared_call s.frames.at s.frames.env c.args.x st name ts k c.args.values.now)) (sym c.in-Read.is) (c.read_of.ensures.acts name ts)

pub returns-in-Equal-clause-acts : goal.returns-in-Equal-clause-acts
returns-in-Equal-clause-acts c name ts =
    let s = c.args.self.now in
    subst (λ k. Acts s c.equal_of.new.self c.equal_of.result (λ st. declared_call s.frames.at s.frames.env c.args.x st name ts k c.args.values.now)) (sym c.in-Equal.is) (c.equal_of.ensures.acts name ts)

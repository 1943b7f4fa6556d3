use Rattle.std.proofs.Common.{◌≡◌, ◌∙◌, ◌<◌, ℕ, List, [], ◌∷◌, Option, None, Some, map, refl, sym, ap, subst, arith, count_by}
use Rattle.std.specs.Prelude.{IfOk}
use Rattle.ir_values.specs.declared.class.Class.TheVariants as class
use Rattle.ir_values.specs.declared.ids.LocalId.{LocalId}
use Rattle.ir_values.specs.declared.ty.Ty.{Ty}
use Rattle.machine_frames.proofs.Operands.{if-ok}
use Rattle.machine_frames.specs.code.Apt.{calls_apt, declared_apt, issues, of_class}
use Rattle.machine_tables.specs.code.Reads.{argued, read_as}
use Rattle.output_records.specs.declared.record.Shown.TheVariants as shown
use Rattle.backend_api.specs.Operations.{is_result}
use Rattle.qir_machine.specs.code.Machines.{Acts, Does, state}
use Rattle.qir_machine.proofs.Hearing.{heard-none}
use Rattle.qir_machine.proofs.Instructions.{acts-does, acts-same, apt-count, does-same, moves-acts, no-issue, not-apt, one-item, runtime-same, stuck-does, traps-does, two-items}
use Rattle.qir_machine.proofs.machine.Machine.release_of.Goals as goal
use Rattle.qir_meaning.specs.Effects.{arguments, declared_call, first_result, gate, measure_into, recorded}

pub returns-in-len1-clause-acts : goal.returns-in-len1-clause-acts
returns-in-len1-clause-acts c name ts x =
    let s = c.args.self.now in
    let few = c.in-len1.len_below in
    let some = c.in-len1.len_at_least in
    subst (λ vs. Acts s c.release.new.self c.release.result (λ st. declared_call s.frames.at s.frames.env x st name ts class.Release vs)) (sym (one-item c.args.values.now c.qubit-item.result (omega arith) (omega arith) c.qubit-item.is)) (c.release.ensures.acts x)

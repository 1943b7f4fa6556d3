use Rattle.std.proofs.Common.{◌≡◌, ◌∙◌, ◌<◌, ℕ, List, [], ◌∷◌, Option, None, Some, map, refl, sym, ap, subst, arith, count_by}
use Rattle.std.specs.Prelude.{IfOk}
use Rattle.ir_values.specs.declared.class.Class.TheVariants as class
use Rattle.ir_values.specs.declared.ids.LocalId.{LocalId}
use Rattle.ir_values.specs.declared.ty.Ty.{Ty}
use Rattle.machine_frames.proofs.Operands.{if-ok}
use Rattle.machine_frames.specs.code.Apt.{calls_apt, declared_apt, issues, of_class}
use Rattle.machine_tables.specs.code.Reads.{argued, read_as}
use Rattle.output_records.specs.declared.record.Shown.TheVariants as shown
use Rattle.backend_api.specs.Operations.{is_result}
use Rattle.qir_machine.specs.code.Machines.{Acts, Does, state}
use Rattle.qir_machine.proofs.Hearing.{heard-none}
use Rattle.qir_machine.proofs.Instructions.{acts-does, acts-same, apt-count, does-same, moves-acts, no-issue, not-apt, one-item, runtime-same, stuck-does, traps-does, two-items}
use Rattle.qir_machine.proofs.machine.Machine.record_array.Goals as goal
use Rattle.qir_meaning.specs.Effects.{arguments, declared_call, first_result, gate, measure_into, recorded}

pub returns-in-Int-clause-acts : goal.returns-in-Int-clause-acts
returns-in-Int-clause-acts c =
    let s = c.args.self.now in
    let label = c.args.label.now in
    if-ok c.record.result _ _ (λ fl h name ts x.
    subst (λ v. Acts s c.record.new.self fl (λ st. declared_call s.frames.at s.frames.env x st name ts class.Array (v ∷ label ∷ []))) (sym c.in-Int.is)
    (subst (λ w. Acts s c.record.new.self fl (λ st. recorded s.frames.at s.frames.env x st label w)) c.array_of.ensures (h x)))
    c.record.ensures.acts

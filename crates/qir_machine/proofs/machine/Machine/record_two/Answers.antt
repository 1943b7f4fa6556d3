use Rattle.std.proofs.Common.{◌≡◌, ◌∙◌, ◌<◌, ℕ, List, [], ◌∷◌, Option, None, Some, map, refl, sym, ap, subst, arith, count_by}
use Rattle.std.specs.Prelude.{IfOk}
use Rattle.ir_values.specs.declared.class.Class.TheVariants as class
use Rattle.ir_values.specs.declared.ids.LocalId.{LocalId}
use Rattle.ir_values.specs.declared.ty.Ty.{Ty}
use Rattle.machine_frames.proofs.Operands.{if-ok}
use Rattle.machine_frames.specs.code.Apt.{calls_apt, declared_apt, issues, of_class}
use Rattle.machine_tables.specs.code.Reads.{argued, read_as}
use Rattle.output_records.specs.declared.record.Shown.TheVariants as shown
use Rattle.backend_api.specs.Operations.{is_result}
use Rattle.qir_machine.specs.code.Machines.{Acts, Does, state}
use Rattle.qir_machine.proofs.Hearing.{heard-none}
use Rattle.qir_machine.proofs.Instructions.{acts-does, acts-same, apt-count, does-same, moves-acts, no-issue, not-apt, one-item, runtime-same, stuck-does, traps-does, two-items}
use Rattle.qir_machine.proofs.machine.Machine.record_two.Goals as goal
use Rattle.qir_meaning.specs.Effects.{arguments, declared_call, first_result, gate, measure_into, recorded}

pub returns-in-Tuple-clause-acts : goal.returns-in-Tuple-clause-acts
returns-in-Tuple-clause-acts c =
    let s = c.args.self.now in
    subst (λ k. IfOk c.record_tuple.result (λ fl. (name : List ℕ) (ts : List Ty) (x : Option LocalId) → Acts s c.record_tuple.new.self fl (λ st. declared_call s.frames.at s.frames.env x st name ts k (c.args.v.now ∷ c.args.label.now ∷ [])))) (sym c.in-Tuple.is) c.record_tuple.ensures.acts

pub returns-in-Array-clause-acts : goal.returns-in-Array-clause-acts
returns-in-Array-clause-acts c =
    let s = c.args.self.now in
    subst (λ k. IfOk c.record_array.result (λ fl. (name : List ℕ) (ts : List Ty) (x : Option LocalId) → Acts s c.record_array.new.self fl (λ st. declared_call s.frames.at s.frames.env x st name ts k (c.args.v.now ∷ c.args.label.now ∷ [])))) (sym c.in-Array.is) c.record_array.ensures.acts

pub returns-in-ResRecord-clause-acts : goal.returns-in-ResRecord-clause-acts
returns-in-ResRecord-clause-acts c =
    let s = c.args.self.now in
    subst (λ k. IfOk c.record_result.result (λ fl. (name : List ℕ) (ts : List Ty) (x : Option LocalId) → Acts s c.record_result.new.self fl (λ st. declared_call s.frames.at s.frames.env x st name ts k (c.args.v.now ∷ c.args.label.now ∷ [])))) (sym c.in-ResRecord.is) c.record_result.ensures.acts

pub returns-in-BoolRecord-clause-acts : goal.returns-in-BoolRecord-clause-acts
returns-in-BoolRecord-clause-acts c =
    let s = c.args.self.now in
    subst (λ k. IfOk c.record_bool.result (λ fl. (name : List ℕ) (ts : List Ty) (x : Option LocalId) → Acts s c.record_bool.new.self fl (λ st. declared_call s.frames.at s.frames.env x st name ts k (c.args.v.now ∷ c.args.label.now ∷ [])))) (sym c.in-BoolRecord.is) c.record_bool.ensures.acts

pub returns-in-IntRecord-clause-acts : goal.returns-in-IntRecord-clause-acts
returns-in-IntRecord-clause-acts c =
    let s = c.args.self.now in
    subst (λ k. IfOk c.record_int.result (λ fl. (name : List ℕ) (ts : List Ty) (x : Option LocalId) → Acts s c.record_int.new.self fl (λ st. declared_call s.frames.at s.frames.env x st name ts k (c.args.v.now ∷ c.args.label.now ∷ [])))) (sym c.in-IntRecord.is) c.record_int.ensures.acts

pub returns-in-DoubleRecord-clause-acts : goal.returns-in-DoubleRecord-clause-acts
returns-in-DoubleRecord-clause-acts c =
    let s = c.args.self.now in
    subst (λ k. IfOk c.record_double.result (λ fl. (name : List ℕ) (ts : List Ty) (x : Option LocalId) → Acts s c.record_double.new.self fl (λ st. declared_call s.frames.at s.frames.env x st name ts k (c.args.v.now ∷ c.args.label.now ∷ [])))) (sym c.in-DoubleRecord.is) c.record_double.ensures.acts

use Rattle.std.proofs.Common.{◌≡◌, ◌∙◌, ◌<◌, ℕ, List, [], ◌∷◌, Option, None, Some, map, refl, sym, ap, subst, arith, count_by}
use Rattle.std.specs.Prelude.{IfOk}
use Rattle.ir_module.specs.declared.tree.Operand.{Operand}
use Rattle.ir_values.specs.declared.class.Class.TheVariants as class
use Rattle.ir_values.specs.declared.ids.LocalId.{LocalId}
use Rattle.ir_values.specs.declared.ty.Ty.{Ty}
use Rattle.machine_frames.proofs.Operands.{if-ok}
use Rattle.machine_frames.specs.code.Apt.{calls_apt, declared_apt, issues, of_class}
use Rattle.machine_tables.specs.code.Reads.{argued, read_as}
use Rattle.output_records.specs.declared.record.Shown.TheVariants as shown
use Rattle.backend_api.specs.Operations.{is_result}
use Rattle.qir_machine.specs.code.Machines.{Acts, Does, state}
use Rattle.qir_machine.proofs.Hearing.{heard-none}
use Rattle.qir_machine.proofs.Instructions.{acts-does, acts-same, is-runtime, on-err, apt-count, does-same, moves-acts, no-issue, not-apt, one-item, runtime-same, stuck-does, traps-does, two-items}
use Rattle.qir_machine.proofs.machine.Machine.declared.Goals as goal
use Rattle.qir_meaning.specs.Effects.{arguments, declared_call, first_result, gate, measure_into, recorded}

pub returns-in-Gate-clause-does : goal.returns-in-Gate-clause-does
returns-in-Gate-clause-does g c =
    let s = c.args.self.now in
    let ts = map (λ (a : Ty × Operand). a.0) c.args.types.now in
    if-ok c.operate.result _ _ (λ fl h m. does-same s c.operate.new.self _ _ fl _ _ (λ a es k.
    subst (λ cl. declared_apt m s.frames.at s.frames.env (state s a es) c.args.x c.args.name.now ts cl c.args.values.now ≡ arguments (state s a es) ts c.args.values.now (issues m s.frames.at s.frames.env (state s a es) c.args.x c.args.name.now cl)) (sym c.in-Gate.is) refl) (h m))
    c.operate.ensures.does

pub returns-in-Measure-clause-does : goal.returns-in-Measure-clause-does
returns-in-Measure-clause-does g c =
    let s = c.args.self.now in
    let ts = map (λ (a : Ty × Operand). a.0) c.args.types.now in
    if-ok c.operate-in-Measure.result _ _ (λ fl h m. does-same s c.operate-in-Measure.new.self _ _ fl _ _ (λ a es k.
    subst (λ cl. declared_apt m s.frames.at s.frames.env (state s a es) c.args.x c.args.name.now ts cl c.args.values.now ≡ arguments (state s a es) ts c.args.values.now (issues m s.frames.at s.frames.env (state s a es) c.args.x c.args.name.now cl)) (sym c.in-Measure.is) refl) (h m))
    c.operate-in-Measure.ensures.does

pub returns-in-Returning-clause-does : goal.returns-in-Returning-clause-does
returns-in-Returning-clause-does g c =
    let s = c.args.self.now in
    let ts = map (λ (a : Ty × Operand). a.0) c.args.types.now in
    if-ok c.operate-in-Returning.result _ _ (λ fl h m. does-same s c.operate-in-Returning.new.self _ _ fl _ _ (λ a es k.
    subst (λ cl. declared_apt m s.frames.at s.frames.env (state s a es) c.args.x c.args.name.now ts cl c.args.values.now ≡ arguments (state s a es) ts c.args.values.now (issues m s.frames.at s.frames.env (state s a es) c.args.x c.args.name.now cl)) (sym c.in-Returning.is) refl) (h m))
    c.operate-in-Returning.ensures.does

pub returns-in_default : goal.returns-in_default
returns-in_default g c =
    let s = c.args.self.now in
    let same = c.runtime.ensures.measured in
    record {
      does = if-ok c.runtime.result _ _ (λ fl h m. does-same s c.runtime.new.self _ _ fl _ _ (λ a es k.
          runtime-same c.args.class (is-runtime c.args.class c.in_default.not-Gate c.in_default.not-Measure c.in_default.not-Returning) m s.frames.at s.frames.env (state s a es) c.args.x c.args.name.now _ c.args.values.now)
          (acts-does s c.runtime.new.self _ fl _ (h c.args.name.now _) c.runtime.ensures.results)) c.runtime.ensures.acts;
      memory = on-err _ _ (heard-none _);
      measured = omega arith;
    }

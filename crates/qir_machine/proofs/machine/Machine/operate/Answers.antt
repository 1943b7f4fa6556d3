use Rattle.std.proofs.Common.{◌≡◌, ◌∙◌, ◌<◌, ℕ, List, [], ◌∷◌, Option, None, Some, map, refl, sym, ap, subst, arith, count_by}
use Rattle.std.specs.Prelude.{IfOk}
use Rattle.ir_values.specs.declared.class.Class.TheVariants as class
use Rattle.ir_values.specs.declared.ids.LocalId.{LocalId}
use Rattle.ir_values.specs.declared.ty.Ty.{Ty}
use Rattle.machine_frames.proofs.Operands.{if-ok}
use Rattle.machine_frames.specs.code.Apt.{calls_apt, declared_apt, issues, of_class}
use Rattle.machine_tables.specs.code.Reads.{argued, read_as}
use Rattle.output_records.specs.declared.record.Shown.TheVariants as shown
use Rattle.backend_api.specs.Operations.{is_result}
use Rattle.qir_machine.specs.code.Machines.{Acts, Does, state}
use Rattle.qir_machine.proofs.Hearing.{heard-none}
use Rattle.qir_machine.proofs.Instructions.{acts-does, acts-same, apt-count, does-same, moves-acts, no-issue, not-apt, one-item, runtime-same, stuck-does, traps-does, two-items}
use Rattle.qir_machine.proofs.machine.Machine.operate.Goals as goal
use Rattle.qir_meaning.specs.Effects.{arguments, declared_call, first_result, gate, measure_into, recorded}

pub returns-in-Are-clause-does : goal.returns-in-Are-clause-does
returns-in-Are-clause-does g c =
    let s = c.args.self.now in
    if-ok c.issue.result _ _ (λ fl h m. does-same s c.issue.new.self _ _ fl _ _ (λ a es k. c.in_ok-args.ensures (state s a es) _ refl ∙ ap (λ r. argued r (state s a es) (issues m s.frames.at s.frames.env (state s a es) c.args.x c.args.name.now c.args.class)) c.in-Are.is) (h m)) c.issue.ensures.does

pub returns-in-Released-clause-does : goal.returns-in-Released-clause-does
returns-in-Released-clause-does g c m =
    let s = c.args.self.now in
    rw c.traps.ensures (traps-does s _ _ _ (λ a es k. c.in_ok-args.ensures (state s a es) _ refl ∙ ap (λ r. argued r (state s a es) (issues m s.frames.at s.frames.env (state s a es) c.args.x c.args.name.now c.args.class)) c.in-Released.is))

pub returns-in-Constant-clause-does : goal.returns-in-Constant-clause-does
returns-in-Constant-clause-does g c m =
    let s = c.args.self.now in
    rw c.traps-in-Constant.ensures (traps-does s _ _ _ (λ a es k. c.in_ok-args.ensures (state s a es) _ refl ∙ ap (λ r. argued r (state s a es) (issues m s.frames.at s.frames.env (state s a es) c.args.x c.args.name.now c.args.class)) c.in-Constant.is))

pub returns-in-Lost-clause-does : goal.returns-in-Lost-clause-does
returns-in-Lost-clause-does g c m =
    let s = c.args.self.now in
    stuck-does s _ _ (λ a es k. c.in_ok-args.ensures (state s a es) _ refl ∙ ap (λ r. argued r (state s a es) (issues m s.frames.at s.frames.env (state s a es) c.args.x c.args.name.now c.args.class)) c.in-Lost.is)

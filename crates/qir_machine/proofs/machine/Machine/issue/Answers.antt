use Rattle.std.proofs.Common.{◌≡◌, ◌∙◌, ◌<◌, ℕ, List, [], ◌∷◌, Option, None, Some, map, refl, sym, ap, subst, arith, count_by}
use Rattle.std.specs.Prelude.{IfOk}
use Rattle.ir_values.specs.declared.class.Class.TheVariants as class
use Rattle.ir_values.specs.declared.ids.LocalId.{LocalId}
use Rattle.ir_values.specs.declared.ty.Ty.{Ty}
use Rattle.machine_frames.proofs.Operands.{if-ok}
use Rattle.machine_frames.specs.code.Apt.{calls_apt, declared_apt, issues, of_class}
use Rattle.machine_tables.specs.code.Reads.{argued, read_as}
use Rattle.output_records.specs.declared.record.Shown.TheVariants as shown
use Rattle.backend_api.specs.Operations.{is_result}
use Rattle.qir_machine.specs.code.Machines.{Acts, Does, state}
use Rattle.qir_machine.proofs.Hearing.{heard-none}
use Rattle.qir_machine.proofs.Instructions.{acts-does, acts-same, apt-count, does-same, moves-acts, no-issue, not-apt, one-item, runtime-same, stuck-does, traps-does, two-items}
use Rattle.qir_machine.proofs.machine.Machine.issue.Goals as goal
use Rattle.qir_meaning.specs.Effects.{arguments, declared_call, first_result, gate, measure_into, recorded}

pub returns-then-results-ne0-clause-does : goal.returns-then-results-ne0-clause-does
returns-then-results-ne0-clause-does g c m =
    let s = c.args.self.now in
    let args = c.args.args in
    let n : c.count_results-results.result ≡ count_by is_result args = c.count_results-results.ensures ∙ ap (count_by is_result) c.as_slice.ensures in
    stuck-does s _ _ (λ a es k.
    ap (λ cl. issues m s.frames.at s.frames.env (state s a es) c.args.x c.args.name.now cl args) c.in-Gate.is
    ∙ not-apt (count_by is_result args) 0 _ (λ e. c.if-results-ne0.true (n ∙ e)))

pub returns-then-results-ne1-clause-does : goal.returns-then-results-ne1-clause-does
returns-then-results-ne1-clause-does g c m =
    let s = c.args.self.now in
    let args = c.args.args in
    let n : c.count_results-results.result ≡ count_by is_result args = c.count_results-results.ensures ∙ ap (count_by is_result) c.as_slice.ensures in
    stuck-does s _ _ (λ a es k.
    ap (λ cl. issues m s.frames.at s.frames.env (state s a es) c.args.x c.args.name.now cl args) c.in-Measure.is
    ∙ not-apt (count_by is_result args) 1 _ (λ e. c.if-results-ne1.true (n ∙ e)))

pub returns-then-results-ne0-2-clause-does : goal.returns-then-results-ne0-2-clause-does
returns-then-results-ne0-2-clause-does g c m =
    let s = c.args.self.now in
    let args = c.args.args in
    let n : c.count_results-results.result ≡ count_by is_result args = c.count_results-results.ensures ∙ ap (count_by is_result) c.as_slice.ensures in
    stuck-does s _ _ (λ a es k.
    ap (λ cl. issues m s.frames.at s.frames.env (state s a es) c.args.x c.args.name.now cl args) c.in-Returning.is
    ∙ not-apt (count_by is_result args) 0 _ (λ e. c.if-results-ne0-2.true (n ∙ e)))

pub returns-in_ok-op-in-Gate-clause-does : goal.returns-in_ok-op-in-Gate-clause-does
returns-in_ok-op-in-Gate-clause-does g c =
    let s = c.args.self.now in
    let args = c.args.args in
    let n : count_by is_result args ≡ 0 = sym (c.count_results-results.ensures ∙ ap (count_by is_result) c.as_slice.ensures) ∙ c.if-results-ne0.false in
    if-ok c.gate.result _ _ (λ fl h m. does-same s c.gate.new.self _ _ fl _ _ (λ a es k.
    ap (λ cl. issues m s.frames.at s.frames.env (state s a es) c.args.x c.args.name.now cl args) c.in-Gate.is
    ∙ apt-count (count_by is_result args) 0 _ n
    ∙ ap (λ o. gate s.frames.at s.frames.env c.args.x (state s a es) o a) (sym c.in_ok-op-in-Gate.ensures)) (h c.args.x))
    c.gate.ensures.does

pub returns-in_ok-op-in-Measure-clause-does : goal.returns-in_ok-op-in-Measure-clause-does
returns-in_ok-op-in-Measure-clause-does g c =
    let s = c.args.self.now in
    let args = c.args.args in
    let n : count_by is_result args ≡ 1 = sym (c.count_results-results.ensures ∙ ap (count_by is_result) c.as_slice.ensures) ∙ c.if-results-ne1.false in
    if-ok c.measure_into.result _ _ (λ fl h m. does-same s c.measure_into.new.self _ _ fl _ _ (λ a es k.
    ap (λ cl. issues m s.frames.at s.frames.env (state s a es) c.args.x c.args.name.now cl args) c.in-Measure.is
    ∙ apt-count (count_by is_result args) 1 _ n
    ∙ ap (λ o. measure_into s.frames.at s.frames.env c.args.x (state s a es) o.name o.args (first_result o.args)) (sym c.in_ok-op-in-Measure.ensures)) (h c.args.x))
    c.measure_into.ensures.does

pub returns-else-results-ne0-2-clause-does : goal.returns-else-results-ne0-2-clause-does
returns-else-results-ne0-2-clause-does g c =
    let s = c.args.self.now in
    let args = c.args.args in
    let n : count_by is_result args ≡ 0 = sym (c.count_results-results.ensures ∙ ap (count_by is_result) c.as_slice.ensures) ∙ c.if-results-ne0-2.false in
    if-ok c.measure_returning.result _ _ (λ fl h m. does-same s c.measure_returning.new.self _ _ fl _ _ (λ a es k.
    ap (λ cl. issues m s.frames.at s.frames.env (state s a es) c.args.x c.args.name.now cl args) c.in-Returning.is
    ∙ apt-count (count_by is_result args) 0 _ n) h)
    c.measure_returning.ensures.does

pub returns-in_default : goal.returns-in_default
returns-in_default g c = record {
  does = λ m. let s = c.args.self.now in stuck-does s _ _ (λ a es k. no-issue c.args.class c.in_default.not-Gate c.in_default.not-Measure c.in_default.not-Returning m s.frames.at s.frames.env (state s a es) c.args.x c.args.name.now c.args.args);
  memory = tt;
  measured = omega arith;
}

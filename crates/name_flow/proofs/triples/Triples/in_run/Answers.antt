use Rattle.std.proofs.Common.{rules, ◌≡◌, sym, ap, subst, ◌∙◌, arith, List}
use Rattle.name_flow.specs.code.Runs.{in_run}
use Rattle.name_flow.specs.code.Triples.{Ascends, Triple}
use Rattle.name_flow.proofs.Order.{run-end, run-here, run-past}
use Rattle.name_flow.proofs.triples.Triples.in_run.Goals as goal

pub returns-then-start-items : goal.returns-then-start-items
returns-then-start-items c =
    let items : List Triple = c.as_slice-items.result.now in
    let same : items ≡ c.args.self.now = c.as_slice-items.ensures.value ∙ c.self.view_is in
    let up : Ascends items = subst Ascends (sym c.as_slice-items.ensures.value) c.self.invariant in
    let is = run-end items c.args.x c.args.b c.start-start.result up c.start-start.ensures.point c.if-start-items.true in
    sym is ∙ ap (λ l. in_run l c.args.x c.args.b) same

pub returns-then-run-x : goal.returns-then-run-x
returns-then-run-x c =
    let items : List Triple = c.as_slice-items.result.now in
    let same : items ≡ c.args.self.now = c.as_slice-items.ensures.value ∙ c.self.view_is in
    let up : Ascends items = subst Ascends (sym c.as_slice-items.ensures.value) c.self.invariant in
    let is = run-here items c.args.x c.args.b c.start-start.result up c.start-start.ensures.point (0, 0, 0) (omega arith) c.if-run-x.true in
    sym is ∙ ap (λ l. in_run l c.args.x c.args.b) same

pub returns-else-run-x : goal.returns-else-run-x
returns-else-run-x c =
    let items : List Triple = c.as_slice-items.result.now in
    let same : items ≡ c.args.self.now = c.as_slice-items.ensures.value ∙ c.self.view_is in
    let up : Ascends items = subst Ascends (sym c.as_slice-items.ensures.value) c.self.invariant in
    let is = run-past items c.args.x c.args.b c.start-start.result up c.start-start.ensures.point (0, 0, 0) (omega arith) c.if-run-x.false in
    search (rules, sym is ∙ ap (λ l. in_run l c.args.x c.args.b) same)

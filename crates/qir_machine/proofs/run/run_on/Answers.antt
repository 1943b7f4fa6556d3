use Rattle.std.proofs.Common.{◌≡◌, ◌∙◌, arith}
use Rattle.qir_machine.proofs.Along.{along-broken, along-cut, along-end, along-lost, along-start, along-step, broken-at-once}
use Rattle.qir_machine.proofs.Instructions.{on-err}
use Rattle.qir_machine.proofs.run.run_on.Goals as goal

pub loop-used-init : goal.loop-used-init
loop-used-init g c =
    let r = c.requires in
    (r.limit, r.typed, along-start c.args.m.now r.limit r.numbered r.typed c.class_tells_types.ensures c.admitted_modules_keep_the_invariant.ensures c.in_ok-machine.machine (g.B.Backend.state c.args.backend.now) c.in_ok-machine.ensures)

pub loop-used-preserved : goal.loop-used-preserved
loop-used-preserved g c =
    let r = c.requires in
    let i = c.loop-used.invariant in
    (i.0, i.1, along-step c.args.m.now i.0 r.numbered i.1 c.class_tells_types.ensures c.admitted_modules_keep_the_invariant.ensures c.loop-used.used c.loop-used.machine _ _ i.2 c.advance.new.self _ (rw c.in-Goes.is at c.in_ok-advance.ensures.does) c.advance.ensures.measured)

pub returns-in-Ends-clause-ran : goal.returns-in-Ends-clause-ran
returns-in-Ends-clause-ran g c =
    let r = c.requires in
    let i = c.loop-used.invariant in
    along-end c.args.m.now i.0 r.numbered i.1 c.class_tells_types.ensures c.admitted_modules_keep_the_invariant.ensures c.loop-used.used c.loop-used.machine _ _ i.2 c.args.steps c.advance.new.self _ c.in-Ends.end c.loop-used-test.true (rw c.in-Ends.is at c.in_ok-advance.ensures.does)

pub unreachable-requires : goal.unreachable-requires
unreachable-requires g c =
    let r = c.requires in
    let i = c.loop-used.invariant in
    along-lost c.args.m.now i.0 r.numbered i.1 c.class_tells_types.ensures c.admitted_modules_keep_the_invariant.ensures c.loop-used.used c.loop-used.machine _ _ i.2 c.advance.new.self _ (rw c.in-Lost.is at c.in_ok-advance.ensures.does)

pub returns-clause-ran : goal.returns-clause-ran
returns-clause-ran g c =
    let r = c.requires in
    let i = c.loop-used.invariant in
    along-cut c.args.m.now i.0 r.numbered i.1 c.class_tells_types.ensures c.admitted_modules_keep_the_invariant.ensures c.loop-used.used c.loop-used.machine _ _ i.2 c.args.steps (omega arith)

pub returns-in_err-classes-clause-memory : goal.returns-in_err-classes-clause-memory
returns-in_err-classes-clause-memory g c =
    let r = c.requires in
    on-err _ _ (broken-at-once c.args.m.now r.limit r.numbered r.typed c.class_tells_types.ensures c.admitted_modules_keep_the_invariant.ensures c.args.steps (g.B.Backend.state c.args.backend.now))

pub returns-in_err-machine-clause-memory : goal.returns-in_err-machine-clause-memory
returns-in_err-machine-clause-memory g c =
    let r = c.requires in
    on-err _ _ (broken-at-once c.args.m.now r.limit r.numbered r.typed c.class_tells_types.ensures c.admitted_modules_keep_the_invariant.ensures c.args.steps (g.B.Backend.state c.args.backend.now))

pub returns-in_err-advance-clause-memory : goal.returns-in_err-advance-clause-memory
returns-in_err-advance-clause-memory g c =
    let r = c.requires in
    let i = c.loop-used.invariant in
    on-err _ _ (along-broken c.args.m.now i.0 r.numbered i.1 c.class_tells_types.ensures c.admitted_modules_keep_the_invariant.ensures c.loop-used.used c.loop-used.machine _ _ i.2 c.args.steps _ c.loop-used-test.true c.in_err-advance.ensures.memory)

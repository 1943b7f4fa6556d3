use Rattle.std.proofs.Common.{◌≡◌, sym, ap, subst, ◌∙◌, length, ◌<◌, arith, List}
use Rattle.name_flow.specs.code.Triples.{next, Ascends, Triple, NextHolds}
use Rattle.name_flow.proofs.Order.{next-end, next-here, next-past, next-holds}
use Rattle.name_flow.proofs.triples.Triples.next.Goals as goal
use Rattle.name_flow.proofs.triples.Triples.next.Goals.{else-found-a-via-then-found-a+else-found-b, else-found-a-via-else-found-a}

pub returns-then-start-items : goal.returns-then-start-items
returns-then-start-items c =
    let items : List Triple = c.as_slice-items.result.now in
    let same : items ≡ c.args.self.now = c.as_slice-items.ensures.value ∙ c.self.view_is in
    let up : Ascends items = subst Ascends (sym c.as_slice-items.ensures.value) c.self.invariant in
    let is = next-end items c.args.a c.args.b c.args.c c.start-start.result up c.start-start.ensures.point c.if-start-items.true in
    let value = sym is ∙ ap (λ l. next l c.args.a c.args.b c.args.c) same in
    record { value = value; held = subst (NextHolds c.args.self.now c.args.a c.args.b c.args.c) (sym value) (next-holds c.args.self.now c.args.a c.args.b c.args.c (subst Ascends same up)) }

pub returns-then-found-b : goal.returns-then-found-b
returns-then-found-b c =
    let items : List Triple = c.as_slice-items.result.now in
    let same : items ≡ c.args.self.now = c.as_slice-items.ensures.value ∙ c.self.view_is in
    let up : Ascends items = subst Ascends (sym c.as_slice-items.ensures.value) c.self.invariant in
    let within : c.start-start.result < length items = omega arith in
    let is = next-here items c.args.a c.args.b c.args.c c.start-start.result up c.start-start.ensures.point (0, 0, 0) within c.if-found-a.true c.if-found-b.true in
    let value = sym is ∙ ap (λ l. next l c.args.a c.args.b c.args.c) same in
    record { value = value; held = subst (NextHolds c.args.self.now c.args.a c.args.b c.args.c) (sym value) (next-holds c.args.self.now c.args.a c.args.b c.args.c (subst Ascends same up)) }

pub returns-else-found-a : goal.returns-else-found-a
returns-else-found-a c =
    let items : List Triple = c.as_slice-items.result.now in
    let same : items ≡ c.args.self.now = c.as_slice-items.ensures.value ∙ c.self.view_is in
    let up : Ascends items = subst Ascends (sym c.as_slice-items.ensures.value) c.self.invariant in
    let within : c.start-start.result < length items = omega arith in
    let is = next-past items c.args.a c.args.b c.args.c c.start-start.result up c.start-start.ensures.point (0, 0, 0) within
    (λ e f. elim c.else-found-a.branch [ else-found-a-via-then-found-a+else-found-b w ↦ absurd (omega (arith, f, w.if-found-b.false)) | else-found-a-via-else-found-a w ↦ absurd (omega (arith, e, w.if-found-a.false)) ]) in
    let value = sym is ∙ ap (λ l. next l c.args.a c.args.b c.args.c) same in
    record { value = value; held = subst (NextHolds c.args.self.now c.args.a c.args.b c.args.c) (sym value) (next-holds c.args.self.now c.args.a c.args.b c.args.c (subst Ascends same up)) }

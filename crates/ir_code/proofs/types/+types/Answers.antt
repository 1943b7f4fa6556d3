use Rattle.std.proofs.Common.{◌≡◌, [], ◌∷◌, ◌++◌, ◌-◌, ◌||◌, ap, ◌∙◌, sym, arith}
use Rattle.std.proofs.lemmas.Result.{err_from_is_err_and}
use Rattle.grammar.specs.Grammar.{as_tree, rep, preceded, listed}
use Rattle.grammar.specs.code.Reading.{Got, read}
use Rattle.grammar.proofs.Loop.{or_false_right}
use Rattle.grammar.proofs.Forms.{begun, gives_same, listed_none, listed_first, listed_stops}
use Rattle.grammar.proofs.Turns.{grow_smaller, grow_kept, grow_ends, grow_fails, more_smaller, more_kept, more_ends, more_fails}
use Rattle.ir_tokens.specs.declared.kind.Kind.TheVariants as kind
use Rattle.ir_grammar.specs.Types.{type_kinds, suffix_at, value_type_at}
use Rattle.ir_grammar.specs.code.DecidedTypes.{type_starts, suffix_starts, suffix_decided, suffix_within}
use Rattle.ir_code.proofs.types.+types.Goals as goal

-- types between commas

pub types_after-loop-alloc-smaller : goal.types_after-loop-alloc-smaller
types_after-loop-alloc-smaller t c = more_smaller kind.Comma (value_type_at c.args.left) (type_starts c.args.left).decided c.loop-alloc.cursor.marked c.loop-alloc.cursor.rest.now c.next_is.result c.next_is.ensures _ _ _ c.loop-alloc-test.true c.in_ok-ty.ensures

pub types_after-loop-alloc-preserved : goal.types_after-loop-alloc-preserved
types_after-loop-alloc-preserved t c = more_kept kind.Comma (value_type_at c.args.left) (type_starts c.args.left).decided c.loop-alloc.cursor.marked c.loop-alloc.cursor.rest.now c.next_is.result c.next_is.ensures c.loop-alloc.all c.push.new.self c.in_ok-ty.ty _ _ _ c.loop-alloc-test.true c.in_ok-ty.ensures c.in_ok-push.ensures.ok c.loop-alloc.invariant

pub types_after-returns : goal.types_after-returns
types_after-returns t c = more_ends kind.Comma (value_type_at c.args.left) (type_starts c.args.left).decided c.loop-alloc.cursor.marked c.loop-alloc.cursor.rest.now c.next_is.result c.next_is.ensures c.loop-alloc.all _ c.loop-alloc-test.false c.loop-alloc.invariant

pub types_after-returns-in_err-ty : goal.types_after-returns-in_err-ty
types_after-returns-in_err-ty t c =
    let p = err_from_is_err_and c.from_residual.result c.from_residual.ensures.1 in
    rw (p.1, p.2) (more_fails kind.Comma (value_type_at c.args.left) (type_starts c.args.left).decided c.loop-alloc.cursor.marked c.loop-alloc.cursor.rest.now c.next_is.result c.next_is.ensures c.loop-alloc.all _ c.in_err-ty.field-0.0 c.loop-alloc-test.true c.in_err-ty.ensures c.loop-alloc.invariant)

pub types_at-returns-then-not-type_comes : goal.types_at-returns-then-not-type_comes
types_at-returns-then-not-type_comes t c =
    let s = type_starts c.args.left in
    let ts = c.args.cursor.now.rest.now in
    let none = listed_none kind.Comma (value_type_at c.args.left) s.some c.args.cursor.now.marked ts (begun s ts ∙ (sym c.type_comes.ensures ∙ c.if-not-type_comes.true)) in
    rw (c.skip.ensures.rest, c.skip.ensures.marked, c.new.ensures) (none ∙ ap (λ z. Got [] (c.args.cursor.now.marked || z) ts) s.marked)

pub types_at-returns-in_err-first : goal.types_at-returns-in_err-first
types_at-returns-in_err-first t c =
    let s = type_starts c.args.left in
    let ts = c.args.cursor.now.rest.now in
    let p = err_from_is_err_and c.from_residual.result c.from_residual.ensures.1 in
    rw (p.1, p.2) (listed_stops kind.Comma (value_type_at c.args.left) s.some c.args.cursor.now.marked ts c.in_err-first.field-0.0 (begun s ts ∙ (sym c.type_comes.ensures ∙ c.if-not-type_comes.false)) c.in_err-first.ensures)

pub types_at-returns : goal.types_at-returns
types_at-returns t c =
    let a = value_type_at c.args.left in
    let s = type_starts c.args.left in
    let ts = c.args.cursor.now.rest.now in
    let v = c.in_ok-first.first in
    let us = c.value_type_at.new.cursor in
    let e : c.push.new.self ≡ v ∷ [] = c.in_ok-push.ensures.ok ∙ ap (λ z. z ++ v ∷ []) c.new-types.ensures in
    gives_same (listed (kind.Comma ∷ []) a) (as_tree (λ more. c.push.new.self ++ more) (rep (preceded (kind.Comma ∷ []) a))) c.args.cursor.now us c.types_after.new.cursor c.types_after.result
    (listed_first kind.Comma a s.some c.args.cursor.now.marked ts v us.marked us.rest.now (begun s ts ∙ (sym c.type_comes.ensures ∙ c.if-not-type_comes.false)) c.in_ok-first.ensures
    ∙ ap (λ z. read (as_tree (λ xs. z ++ xs) (rep (preceded (kind.Comma ∷ []) a))) us.marked us.rest.now) (sym e))
    c.types_after.ensures

-- function pointers behind one another

pub suffix-returns : goal.suffix-returns
suffix-returns t c = rw (suffix_within c.args.left (c.args.left - 1) c.args.gives (omega arith)) c.members.ensures

pub suffixes-loop-alloc-smaller : goal.suffixes-loop-alloc-smaller
suffixes-loop-alloc-smaller t c =
    let ts = c.loop-alloc.cursor.rest.now in
    grow_smaller type_kinds (suffix_at c.args.left) (suffix_decided c.args.left) c.loop-alloc.ty c.loop-alloc.cursor.marked ts _ _ _ (begun (suffix_starts c.args.left c.loop-alloc.ty) ts ∙ (sym c.next_is.ensures ∙ c.loop-alloc-test.true)) c.in_ok-ty.ensures

pub suffixes-loop-alloc-preserved : goal.suffixes-loop-alloc-preserved
suffixes-loop-alloc-preserved t c =
    let ts = c.loop-alloc.cursor.rest.now in
    grow_kept type_kinds (suffix_at c.args.left) (suffix_decided c.args.left) c.loop-alloc.ty c.loop-alloc.cursor.marked ts _ _ _ _ (begun (suffix_starts c.args.left c.loop-alloc.ty) ts ∙ (sym c.next_is.ensures ∙ c.loop-alloc-test.true)) c.in_ok-ty.ensures c.loop-alloc.invariant

pub suffixes-returns : goal.suffixes-returns
suffixes-returns t c =
    let ts = c.loop-alloc.cursor.rest.now in
    let s = suffix_starts c.args.left c.loop-alloc.ty in
    grow_ends type_kinds (suffix_at c.args.left) (suffix_decided c.args.left) c.loop-alloc.ty c.loop-alloc.cursor.marked ts _ (begun s ts ∙ (sym c.next_is.ensures ∙ c.loop-alloc-test.false)) c.loop-alloc.invariant
    ∙ ap (λ z. Got c.loop-alloc.ty z ts) (ap (λ z. c.loop-alloc.cursor.marked || z) s.marked ∙ or_false_right c.loop-alloc.cursor.marked)

pub suffixes-returns-in_err-ty : goal.suffixes-returns-in_err-ty
suffixes-returns-in_err-ty t c =
    let ts = c.loop-alloc.cursor.rest.now in
    let p = err_from_is_err_and c.from_residual.result c.from_residual.ensures.1 in
    rw (p.1, p.2) (grow_fails type_kinds (suffix_at c.args.left) (suffix_decided c.args.left) c.loop-alloc.ty c.loop-alloc.cursor.marked ts _ c.in_err-ty.field-0.0 (begun (suffix_starts c.args.left c.loop-alloc.ty) ts ∙ (sym c.next_is.ensures ∙ c.loop-alloc-test.true)) c.in_err-ty.ensures c.loop-alloc.invariant)

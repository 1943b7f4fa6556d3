use Rattle.std.proofs.Common.{◌≡◌, [], ◌∷◌, ◌++◌, ◌||◌, sym, ap, ◌∙◌}
use Rattle.std.proofs.lemmas.Result.{err_from_is_err_and}
use Rattle.grammar.specs.Grammar.{as_tree, rep, preceded, listed}
use Rattle.grammar.specs.code.Reading.{Got, read}
use Rattle.grammar.proofs.Forms.{begun, gives_same, listed_none, listed_first, listed_stops}
use Rattle.grammar.proofs.part.separated.Goals as goal

pub returns-then-not-begins : goal.returns-then-not-begins
returns-then-not-begins g c =
    let p = c.args.part.now in
    let ts = c.args.cursor.now.rest.now in
    rw (c.skip.ensures.rest, c.skip.ensures.marked, c.marked.ensures, c.new.ensures)
    (listed_none g.P.Listed.separator (g.P.Part.grammar p) (g.P.Part.starts p).some c.args.cursor.now.marked ts (begun (g.P.Part.starts p) ts ∙ (sym c.begins.ensures ∙ c.if-not-begins.true))
    ∙ ap (λ z. Got [] (c.args.cursor.now.marked || z) ts) (g.P.Part.starts p).marked)

pub returns-in_err-first : goal.returns-in_err-first
returns-in_err-first g c =
    let p = c.args.part.now in
    let e = err_from_is_err_and c.from_residual.result c.from_residual.ensures.1 in
    rw (e.1, e.2) (listed_stops g.P.Listed.separator (g.P.Part.grammar p) (g.P.Part.starts p).some c.args.cursor.now.marked c.args.cursor.now.rest.now c.in_err-first.field-0.0 (begun (g.P.Part.starts c.args.part.now) _ ∙ (sym c.begins.ensures ∙ c.if-not-begins.false)) c.in_err-first.ensures)

pub returns : goal.returns
returns g c =
    let a = g.P.Part.grammar c.args.part.now in
    let s = g.P.Listed.separator in
    let v = c.in_ok-first.first in
    let e : c.push.new.self ≡ v ∷ [] = c.in_ok-push.ensures.ok ∙ ap (λ z. z ++ v ∷ []) c.new-items.ensures in
    gives_same (listed (s ∷ []) a) (as_tree (λ more. c.push.new.self ++ more) (rep (preceded (s ∷ []) a))) c.args.cursor.now c.read.new.cursor c.separated_after.new.cursor c.separated_after.result
    (listed_first s a (g.P.Part.starts c.args.part.now).some c.args.cursor.now.marked c.args.cursor.now.rest.now v c.read.new.cursor.marked c.read.new.cursor.rest.now (begun (g.P.Part.starts c.args.part.now) _ ∙ (sym c.begins.ensures ∙ c.if-not-begins.false)) c.in_ok-first.ensures
    ∙ ap (λ z. read (as_tree (λ xs. z ++ xs) (rep (preceded (s ∷ []) a))) c.read.new.cursor.marked c.read.new.cursor.rest.now) (sym e))
    c.separated_after.ensures

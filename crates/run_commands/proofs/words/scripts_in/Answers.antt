use Rattle.std.proofs.Common.{◌≡◌, ◌∙◌, ◌++◌, ◌∷◌, [], Some, map, rules, sym, ap, subst}
use Rattle.std.specs.Prelude.{IsSome}
use Rattle.run_commands.specs.Words.{script_in, parts_of}
use Rattle.run_commands.proofs.Reading.{Remains, none-cut, remains-next, remains-none, remains-some, some-cut}
use Rattle.run_commands.proofs.words.scripts_in.Goals as goal

pub script_in-requires : goal.script_in-requires
script_in-requires c =
    let l = c.loop-first in
    let whole = map script_in (parts_of c.args.word.now) in
    let e = some-cut l.left.now c.split_once.result (c.in-Some.first, c.in-Some.rest) c.split_once.ensures.cases c.in-Some.is in
    let h = subst (λ parts. Remains whole (map script_in parts) l.all) e l.invariant.remains in
    subst (λ b. IsSome (script_in b)) (sym c.as_bytes.ensures.value) (remains-some whole (script_in c.in-Some.first.now) (map script_in (parts_of c.in-Some.rest.now)) l.all h)

pub loop-first-preserved : goal.loop-first-preserved
loop-first-preserved c =
    let l = c.loop-first in
    let whole = map script_in (parts_of c.args.word.now) in
    let e = some-cut l.left.now c.split_once.result (c.in-Some.first, c.in-Some.rest) c.split_once.ensures.cases c.in-Some.is in
    let h = subst (λ parts. Remains whole (map script_in parts) l.all) e l.invariant.remains in
    let is : script_in c.in-Some.first.now ≡ Some c.in_ok-script_in.field-0 = ap script_in (sym c.as_bytes.ensures.value) ∙ c.in_ok-script_in.ensures in
    record {
      text = search rules;
      remains = subst (Remains whole (map script_in (parts_of c.in-Some.rest.now))) (sym c.in_ok-push.ensures.ok) (remains-next whole (script_in c.in-Some.first.now) (map script_in (parts_of c.in-Some.rest.now)) l.all c.in_ok-script_in.field-0 h is);
    }

pub script_in-requires-2 : goal.script_in-requires-2
script_in-requires-2 c =
    let l = c.loop-first in
    let whole = map script_in (parts_of c.args.word.now) in
    let e = none-cut l.left.now c.split_once.result c.split_once.ensures.cases c.in_default.is in
    let h = subst (λ parts. Remains whole (map script_in parts) l.all) e l.invariant.remains in
    subst (λ b. IsSome (script_in b)) (sym c.as_bytes-2.ensures.value) (remains-some whole (script_in l.left.now) [] l.all h)

pub returns : goal.returns
returns c =
    let l = c.loop-first in
    let whole = map script_in (parts_of c.args.word.now) in
    let e = none-cut l.left.now c.split_once.result c.split_once.ensures.cases c.in_default.is in
    let h = subst (λ parts. Remains whole (map script_in parts) l.all) e l.invariant.remains in
    let is : script_in l.left.now ≡ Some c.in_ok-script_in-2.field-0 = ap script_in (sym c.as_bytes-2.ensures.value) ∙ c.in_ok-script_in-2.ensures in
    let n = remains-next whole (script_in l.left.now) [] l.all c.in_ok-script_in-2.field-0 h is in
    remains-none whole (l.all ++ c.in_ok-script_in-2.field-0 ∷ []) n ∙ ap Some (sym c.in_ok-push-2.ensures.ok)

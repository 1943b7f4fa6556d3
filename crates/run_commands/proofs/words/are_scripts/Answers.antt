use Rattle.std.proofs.Common.{◌≡◌, ◌∙◌, true, false, is_some, rules, sym, ap}
use Rattle.run_commands.specs.Words.{script_in}
use Rattle.run_commands.proofs.Reading.{cut-not, cut-there, none-cut, some-cut, whole-there}
use Rattle.run_commands.proofs.words.are_scripts.Goals as goal

pub returns-then-not-is_script : goal.returns-then-not-is_script
returns-then-not-is_script c =
    let l = c.loop-first in
    let e = some-cut l.left.now c.split_once.result (c.in-Some.first, c.in-Some.rest) c.split_once.ensures.cases c.in-Some.is in
    let t : is_some (script_in c.in-Some.first.now) ≡ false = ap (λ b. is_some (script_in b)) (sym c.as_bytes.ensures.value) ∙ sym c.is_script.ensures ∙ c.if-not-is_script.true in
    sym (l.invariant.same ∙ cut-not l.left.now c.in-Some.first.now c.in-Some.rest.now e t)

pub loop-first-preserved : goal.loop-first-preserved
loop-first-preserved c =
    let l = c.loop-first in
    let e = some-cut l.left.now c.split_once.result (c.in-Some.first, c.in-Some.rest) c.split_once.ensures.cases c.in-Some.is in
    let t : is_some (script_in c.in-Some.first.now) ≡ true = ap (λ b. is_some (script_in b)) (sym c.as_bytes.ensures.value) ∙ sym c.is_script.ensures ∙ c.if-not-is_script.false in
    record { text = search rules; same = l.invariant.same ∙ cut-there l.left.now c.in-Some.first.now c.in-Some.rest.now e t }

pub returns : goal.returns
returns c =
    let l = c.loop-first in
    let e = none-cut l.left.now c.split_once.result c.split_once.ensures.cases c.in_default.is in
    c.is_script-2.ensures ∙ ap (λ b. is_some (script_in b)) c.as_bytes-2.ensures.value ∙ sym (whole-there l.left.now e) ∙ sym l.invariant.same

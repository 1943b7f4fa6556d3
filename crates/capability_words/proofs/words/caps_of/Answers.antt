use Rattle.std.proofs.Common.{◌≡◌, ◌∙◌, ◌∷◌, [], Some, None, length, map, rules, tests, sym, ap, false, ◌==◌}
use Rattle.std.specs.Prelude.{codes}
use Rattle.ir_values.specs.Calls.{same_text}
use Rattle.std.proofs.lemmas.Iterator.{YieldsList}
use Rattle.std.proofs.lemmas.Iterator.Consumers.{YieldsList-at, YieldsList-end, YieldsList-so_far, YieldsList-turn}
use Rattle.std.proofs.lemmas.Iterator.Splits.{YieldsList-from_slice_split}
use Rattle.std.proofs.lemmas.List.{map-append}
use Rattle.capability_words.specs.Words.{all_caps, caps_of, comma, names_of, no_caps, with_cap}
use Rattle.capability_words.proofs.Naming.{names-told, one-more, wrong-name}
use Rattle.capability_words.proofs.words.caps_of.Given as given
use Rattle.capability_words.proofs.words.caps_of.Goals as goal
use Rattle.capability_words.proofs.words.caps_of.Goals.{After-into_iter-name-iterator}

-- the loop runs over the names of the word
over-names : (c : goal.After-into_iter-name-iterator) → YieldsList (given.iterator-loop-name).next_gives (λ x. x.now) c.into_iter-name-iterator.result (names_of c.args.word.now)
over-names c =
    let split = c.split-name-items.ensures in
    YieldsList-at c.into_iter-name-iterator.ensures.into_iter_gives (YieldsList-from_slice_split _ (λ b. b == comma) c.args.word.now split.rest split.done split.closure (λ x r q k. search (rules, tests)))

-- what the word says is what its names say
told : (c : goal.After-into_iter-name-iterator) → caps_of c.args.word.now ≡ all_caps (names_of c.args.word.now) no_caps
told c = let dash : same_text c.args.word.now (codes "-") ≡ false = search rules in names-told c.args.word.now dash

pub returns-in_err-caps : goal.returns-in_err-caps
returns-in_err-caps c =
    let l = c.loop-name in
    let looped = (goal.at.returns-in_err-caps c).After-into_iter-name-iterator in
    let names = names_of c.args.word.now in
    let turn = YieldsList-turn (over-names looped) l.yielded _ l.yielded_by _ c.next.new.self c.in-Some.name c.in-Some.is c.next.ensures.steps in
    let read = ap (λ names. all_caps names no_caps) (sym (YieldsList-so_far (over-names looped) l.yielded _ l.yielded_by)) ∙ l.invariant.read in
    let wrong : with_cap c.in-Some.name.now l.caps ≡ None = search rules in
    let none : c.from_residual.result ≡ None = search rules in
    none ∙ sym (told looped ∙ wrong-name names (length l.yielded) c.in-Some.name.now no_caps l.caps turn.0 read (ap (λ name. with_cap name l.caps) (sym turn.1) ∙ wrong))

pub loop-name-preserved : goal.loop-name-preserved
loop-name-preserved c =
    let l = c.loop-name in
    let more : with_cap c.in-Some.name.now l.caps ≡ Some c.in_ok-caps.caps = search rules in
    record {
      next = search rules;
      ends = search rules;
      read = ap (λ names. all_caps names no_caps) (map-append (λ x. x.now) l.yielded (c.in-Some.name ∷ [])) ∙ one-more (map (λ x. x.now) l.yielded) c.in-Some.name.now no_caps l.caps c.in_ok-caps.caps l.invariant.read more;
    }

pub returns : goal.returns
returns c =
    let l = c.loop-name in
    let looped = (goal.at.returns c).After-into_iter-name-iterator in
    let end = YieldsList-end (over-names looped) l.yielded _ l.yielded_by _ _ c.in-None.is c.next.ensures.steps in
    sym (told looped ∙ ap (λ names. all_caps names no_caps) (sym end.0) ∙ l.invariant.read)

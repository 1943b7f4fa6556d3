use Rattle.std.proofs.Common.{◌≡◌, map, length, ◌+◌, [], ◌∷◌, sym, ap, ◌∙◌}
use Rattle.std.proofs.lemmas.Result.{IfOk-weaker}
use Rattle.ir_module.specs.Steps.{PhiAt, InstAt, TermAt, steps_of_block}
use Rattle.type_check.specs.code.Search.{or_else}
use Rattle.type_check.specs.code.Walk.{steps_of_walk}
use Rattle.type_check.proofs.Walks.{block_parts}
use Rattle.type_check.proofs.breaks.Walk.block_fault.Goals as goal

pub returns-in-Some : goal.returns-in-Some
returns-in-Some c =
    let w = c.args.self.now in
    let b = c.args.b in
    let block = c.args.block.now in
    let behind = or_else (steps_of_walk w b (length block.phis) (map InstAt block.insts)) (steps_of_walk w b (length block.phis + length block.insts) (TermAt block.term ∷ [])) in
    let phis = sym c.in-Some.is ∙ c.in_ok-found.ensures ∙ ap (λ ps. steps_of_walk w b 0 (map PhiAt ps)) c.as_slice.ensures in
    ap (λ o. or_else o behind) phis ∙ sym (block_parts w.scene.tree.now w.required w.number.0 w.scene.function.now b block)

pub returns-in-None : goal.returns-in-None
returns-in-None c =
    let w = c.args.self.now in
    let b = c.args.b in
    let block = c.args.block.now in
    let behind = or_else (steps_of_walk w b (length block.phis) (map InstAt block.insts)) (steps_of_walk w b (length block.phis + length block.insts) (TermAt block.term ∷ [])) in
    let phis = sym c.in-None.is ∙ c.in_ok-found.ensures ∙ ap (λ ps. steps_of_walk w b 0 (map PhiAt ps)) c.as_slice.ensures in
    let whole = ap (λ o. or_else o behind) phis ∙ sym (block_parts w.scene.tree.now w.required w.number.0 w.scene.function.now b block) in
    IfOk-weaker c.behind_phis.result (λ r. r ≡ behind) (λ r. r ≡ steps_of_walk w b 0 (steps_of_block block)) (λ r e. e ∙ whole) c.behind_phis.ensures

use Rattle.std.proofs.Common.{◌≡◌, ℕ, Option, None, nat_eq, option_map, refl, ◌∙◌}
use Rattle.std.proofs.lemmas.Result.{IfOk-weaker}
use Rattle.indexmap.specs.IndexMap.{get}
use Rattle.ir_module.specs.declared.tree.Operand.{Operand}
use Rattle.type_check.specs.code.Phis.{agree_from}
use Rattle.type_check.specs.Rules.{entries_agree}
use Rattle.type_check.proofs.FirstEntries.{agree, agree-by}
use Rattle.type_check.proofs.phis.entries_agree.Goals as goal

pub returns : goal.returns
returns c =
    let entries = c.args.entries.now in
    let first : ℕ → Option Operand = λ q. option_map (λ o. o.now) (get nat_eq c.new.result q) in
    let free : (q : ℕ) → first q ≡ None = λ q. rw c.new.ensures.empty refl in
    IfOk-weaker c.agree_from.result (λ r. r ≡ agree_from first entries) (λ r. r ≡ entries_agree entries) (λ r e. e ∙ agree-by first (λ q. None) entries free ∙ agree entries) c.agree_from.ensures

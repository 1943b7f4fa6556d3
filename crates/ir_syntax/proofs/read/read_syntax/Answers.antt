use Rattle.std.proofs.Common.{Err, ◌∙◌, subst}
use Rattle.grammar.specs.Answers.{Answers}
use Rattle.ir_grammar.specs.Module.{module_text}
use Rattle.ir_syntax.proofs.OneAnswer.{tree_found, found_within, fault_found}
use Rattle.ir_syntax.proofs.read.read_syntax.Goals as goal

pub returns-in-Ok : goal.returns-in-Ok
returns-in-Ok c =
    let law = c.scanned_tokens_are_one.ensures in
    tree_found law.whole law.broken c.args.text.now c.as_slice-tokens.result.now c.in-Ok.items (c.as_slice-tokens.ensures.value ∙ c.in_ok-scanned.ensures.tokens) c.in-Ok.ensures

pub told-requires : goal.told-requires
told-requires c =
    let law = c.scanned_tokens_are_one.ensures in
    let ts = c.as_slice-tokens.result.now in
    let misread = subst (λ z. Answers module_text ts (Err z)) c.in-Err-Refused.field-0-is c.in-Err-Refused.ensures in
    found_within law.whole law.broken c.args.text.now ts c.in-Err-Refused.fault c.in-Err-Refused.number (c.as_slice-tokens.ensures.value ∙ c.in_ok-scanned.ensures.tokens) misread

pub returns : goal.returns
returns c =
    let law = c.scanned_tokens_are_one.ensures in
    let ts = c.as_slice-tokens.result.now in
    let misread = subst (λ z. Answers module_text ts (Err z)) c.in-Err-Refused.field-0-is c.in-Err-Refused.ensures in
    fault_found law.whole law.broken c.args.text.now ts c.in_ok-scanned.scanned.fault c.in-Err-Refused.fault c.in-Err-Refused.number c.told.result (c.as_slice-tokens.ensures.value ∙ c.in_ok-scanned.ensures.tokens) c.in_ok-scanned.ensures.fault misread c.told.ensures

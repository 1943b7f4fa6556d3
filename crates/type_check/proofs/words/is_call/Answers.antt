use Rattle.std.proofs.Common.{◌∙◌, ap, map}
use Rattle.ir_values.specs.Calls.{same_words}
use Rattle.ir_values.specs.Types.{signature}
use Rattle.type_check.specs.code.Strip.{ends}
use Rattle.type_check.proofs.Strips.{mapped-signature}
use Rattle.type_check.proofs.SameTypes.{same_words-turned}
use Rattle.type_check.proofs.words.is_call.Goals as goal

pub returns : goal.returns
returns c =
    let called = signature c.args.ret.now (map (λ a. a.0) c.args.args.now) in
    c.ends.ensures ∙ ap ends c.after_called.ensures ∙ mapped-signature (λ a. a.0) c.args.ret.now c.args.args.now c.as_slice.result.now ∙ same_words-turned called c.as_slice.result.now ∙ ap (λ ws. same_words ws called) (c.as_slice.ensures ∙ c.words.ensures.words)

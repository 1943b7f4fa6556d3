use Rattle.ir_parts.specs.Parts.{tokens_of}
use Rattle.ir_printer.specs.Canonical.{module_parts}
use Rattle.canonical_modules.proofs.Printed.{spelled}
use Rattle.canonical_modules.proofs.laws.canonical_text_is_of_its_module.Goals as goal

pub returns : goal.returns
returns c = λ m p.
    let w = spelled m p (c.canonical_text_has_its_tokens.ensures.spellings m p) in
    (tokens_of (module_parts m), w.0, c.canonical_text_has_its_tokens.ensures.tokens m p, w.1, w.2)

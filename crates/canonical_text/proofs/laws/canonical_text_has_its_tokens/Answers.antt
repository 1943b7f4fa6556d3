use Rattle.ir_printer.specs.Canonical.{canonical, module_parts}
use Rattle.canonical_text.proofs.WholeGood.{module_good}
use Rattle.canonical_text.proofs.laws.canonical_text_has_its_tokens.Goals as goal

pub returns : goal.returns
unfolding canonical
returns c = record {
  slices = λ m p. c.parts_are_tokens.ensures.slices (module_parts m) (module_good m p);
  tokens = λ m p. c.parts_are_tokens.ensures.tokens (module_parts m) (module_good m p);
  spellings = λ m p. c.parts_are_tokens.ensures.spellings (module_parts m) (module_good m p);
}

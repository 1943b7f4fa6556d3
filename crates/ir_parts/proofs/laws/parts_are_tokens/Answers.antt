use Rattle.ir_parts.proofs.Slices.{whole, found_again}
use Rattle.ir_parts.proofs.Spaced.{all_tokens}
use Rattle.ir_parts.proofs.laws.parts_are_tokens.Goals as goal

pub returns : goal.returns
returns c = record {
  slices = all_tokens;
  tokens = whole;
  spellings = λ parts h. found_again parts h c.scanned_tokens_are_one.ensures.spelled;
}

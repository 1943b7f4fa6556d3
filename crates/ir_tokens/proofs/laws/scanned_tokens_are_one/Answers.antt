use Rattle.ir_tokens.proofs.SpelledAgain.{spelled_again}
use Rattle.ir_tokens.proofs.WholeTexts.{whole_both, broken_both}
use Rattle.ir_tokens.proofs.laws.scanned_tokens_are_one.Goals as goal

pub returns : goal.returns
returns c =
    let law = c.tokens_are_one.ensures in
    record {
      whole = λ bytes tokens. whole_both bytes tokens (law.called bytes) (law.broken bytes) (law.either bytes);
      broken = λ bytes tokens error. broken_both bytes tokens error (law.called bytes) (law.broken bytes) (law.either bytes);
      spelled = λ bytes found. spelled_again bytes found law.next;
    }

use Rattle.std.proofs.Common.{◌∙◌, map, sym}
use Rattle.run_commands.specs.Words.{digit_bit}
use Rattle.run_commands.proofs.Reading.{bits-remain}
use Rattle.run_commands.proofs.words.bits_of.Goals as goal

pub loop-digits-preserved : goal.loop-digits-preserved
loop-digits-preserved c =
    let l = c.loop-digits in
    let n = bits-remain (map digit_bit c.args.digits.now) l.digits.now l.bits c.in-Some.bit 0 c.in-len1-up.len_at_least (sym c.digit_bit.ensures ∙ c.in-Some.is) l.invariant in
    rw c.in_ok-push-in-Some.ensures.ok n

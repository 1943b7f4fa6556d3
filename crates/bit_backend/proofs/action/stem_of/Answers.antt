use Rattle.std.proofs.lemmas.Slice.Eq.{strip_prefix_is, strip_suffix_is}
use Rattle.std.proofs.lemmas.Bool.Decides.{Decides-eqb}
use Rattle.std.proofs.Common.{codes, Some}
use Rattle.bit_backend.proofs.Names.{stem_by}
use Rattle.bit_backend.proofs.action.stem_of.Goals as goal

pub returns : goal.returns
returns c =
    let rest = c.in_ok-strip_prefix.field-0 in
    let prefix = strip_prefix_is Decides-eqb c.args.name.now (codes "__quantum__qis__") (Some rest) c.in_ok-strip_prefix.ensures.cases in
    let suffix = strip_suffix_is Decides-eqb rest.now (codes "__body") c.strip_suffix.result c.strip_suffix.ensures.cases in
    stem_by c.args.name.now rest.now c.strip_suffix.result prefix suffix

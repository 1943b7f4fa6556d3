use Rattle.ir_values.proofs.TypeLemmas.{signature-tells}
use Rattle.ir_values.specs.ClassTypes.{WordsTellTypes}
use Rattle.ir_values.proofs.laws.words_tell_types.Goals as goal

pub returns : goal.returns
unfolding WordsTellTypes
returns c ret ret' params params' i i' is is' e = signature-tells ret ret' params params' i i' is is' e

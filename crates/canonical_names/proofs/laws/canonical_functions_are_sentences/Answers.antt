use Rattle.canonical_names.proofs.FunctionParts.{function_builds}
use Rattle.canonical_names.proofs.Printed.{fit_function}
use Rattle.canonical_names.proofs.laws.canonical_functions_are_sentences.Goals as goal

pub returns : goal.returns
returns c = λ spelling m p k f e. function_builds spelling m f (fit_function m p k f e)

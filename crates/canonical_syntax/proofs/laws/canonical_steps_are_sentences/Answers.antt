use Rattle.ir_module.specs.Steps.{InstAt, TermAt, steps_of}
use Rattle.canonical_syntax.proofs.Builds.{builds_weaker}
use Rattle.canonical_syntax.proofs.Instructions.{kind_builds}
use Rattle.canonical_syntax.proofs.Printed.{known, steps_fit, each_at}
use Rattle.canonical_syntax.proofs.Steps.{FitStep, kind_of_fit, term_builds}
use Rattle.canonical_syntax.proofs.laws.canonical_steps_are_sentences.Goals as goal

pub returns-clause-instructions : goal.returns-clause-instructions
returns-clause-instructions c = λ spelling m p k f e n i h.
    builds_weaker (kind_builds spelling m f (known m p k f e) i.what (kind_of_fit m f i (each_at (FitStep m f) (steps_of f) n (InstAt i) (steps_fit m p k f e) h))) (λ x w. w.means)

pub returns-clause-terminators : goal.returns-clause-terminators
returns-clause-terminators c = λ spelling m p k f e n t h.
    term_builds spelling m f (known m p k f e) t (each_at (FitStep m f) (steps_of f) n (TermAt t) (steps_fit m p k f e) h)

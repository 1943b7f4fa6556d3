use Rattle.std.proofs.Common.{◌≡◌, ◌++◌, not, length}
use Rattle.std.specs.Prelude.{filter}
use Rattle.residue.specs.Functions.{is_named}
use Rattle.residue.specs.Printed.{own_keys}
use Rattle.residue_module.proofs.attributes.add_others.Given as goal

abbrev pub invariant-loop-source : goal.invariant-loop-source
invariant-loop-source l = l.attrs ++ filter (λ a. not (is_named own_keys a.key)) l.source ≡ l.fn.attrs ++ filter (λ a. not (is_named own_keys a.key)) l.fn.source

abbrev pub decreases-loop-source : goal.decreases-loop-source
decreases-loop-source l = length l.source

use Rattle.std.proofs.Common.{◌≡◌, length}
use Rattle.std.specs.List.{list_any}
use Rattle.type_check.specs.Rules.{is_reserved}
use Rattle.type_check.proofs.reserved.any_is_reserved.Given as goal

abbrev pub invariant-loop-constants : goal.invariant-loop-constants
invariant-loop-constants l = list_any (λ c. is_reserved c.name) l.constants ≡ list_any (λ c. is_reserved c.name) l.fn.constants

abbrev pub decreases-loop-constants : goal.decreases-loop-constants
decreases-loop-constants l = length l.constants

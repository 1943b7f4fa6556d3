use Rattle.std.proofs.Common.{length, ◌≡◌, ◌++◌}
use Rattle.ir_names.specs.Functions.{params_locals, behind_params}
use Rattle.ir_names.specs.code.Held.{Holds}
use Rattle.ir_tokens.specs.Spelled.{name_at}
use Rattle.ir_names.proofs.collect.Values.params.Given as goal

abbrev pub invariant-loop-params : goal.invariant-loop-params
invariant-loop-params l =
    Holds l.self
    × (l.fn.self.list ++ params_locals (name_at l.text) l.fn.unnamed l.fn.params ≡ l.self.list ++ params_locals (name_at l.text) l.unnamed l.params)
    × (behind_params l.fn.unnamed l.fn.params ≡ behind_params l.unnamed l.params)

abbrev pub decreases-loop-params : goal.decreases-loop-params
decreases-loop-params l = length l.params

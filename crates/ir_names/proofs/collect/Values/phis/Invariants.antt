use Rattle.std.proofs.Common.{length, ◌≡◌, ◌++◌, map}
use Rattle.ir_names.specs.Functions.{phi_local}
use Rattle.ir_tokens.specs.Spelled.{name_at}
use Rattle.ir_names.specs.code.Held.{Holds}
use Rattle.ir_names.proofs.collect.Values.phis.Given as goal

abbrev pub invariant-loop-phis : goal.invariant-loop-phis
invariant-loop-phis l = Holds l.self × (l.fn.self.list ++ map (phi_local (name_at l.text)) l.fn.phis ≡ l.self.list ++ map (phi_local (name_at l.text)) l.phis)

abbrev pub decreases-loop-phis : goal.decreases-loop-phis
decreases-loop-phis l = length l.phis

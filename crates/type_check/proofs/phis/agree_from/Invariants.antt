use Rattle.std.proofs.Common.{◌≡◌, length, nat_eq, option_map}
use Rattle.indexmap.specs.IndexMap.{get}
use Rattle.type_check.specs.code.Phis.{agree_from}
use Rattle.type_check.proofs.phis.agree_from.Given as goal

abbrev pub invariant-loop-entries : goal.invariant-loop-entries
invariant-loop-entries l =
    agree_from (λ q. option_map (λ o. o.now) (get nat_eq l.firsts q)) l.entries ≡ agree_from (λ q. option_map (λ o. o.now) (get nat_eq l.fn.firsts q)) l.fn.entries

abbrev pub decreases-loop-entries : goal.decreases-loop-entries
decreases-loop-entries l = length l.entries

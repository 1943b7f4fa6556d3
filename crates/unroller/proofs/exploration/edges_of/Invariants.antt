use Rattle.std.proofs.Common.{◌≡◌, ◌++◌, length, map}
use Rattle.std.specs.Vec.Iter.{into_iter_items, into_iter_len}
use Rattle.path_search.specs.code.Steps.{target, label}
use Rattle.unroller.proofs.exploration.edges_of.Given as goal

abbrev pub invariant-loop-step : goal.invariant-loop-step
invariant-loop-step l = record {
  whole : l.yielded ++ into_iter_items l.step-iterator ≡ into_iter_items l.initial.step-iterator;
  size : into_iter_len l.step-iterator ≡ length (into_iter_items l.step-iterator);
  targets : map target l.edges.items ≡ map (λ mv. mv.to) l.yielded;
  labels : map label l.edges.items ≡ map (λ mv. mv.args) l.yielded;
}

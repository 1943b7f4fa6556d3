use Rattle.std.proofs.Common.{◌≡◌, take}
use Rattle.std.specs.Prelude.{map}
use Rattle.path_search.specs.code.Steps.{target}
use Rattle.library_tests.proofs.paths.edges_to.Given as goal

abbrev pub invariant-loop-node : goal.invariant-loop-node
invariant-loop-node l = map target l.edges ≡ take l.node-index l.nodes

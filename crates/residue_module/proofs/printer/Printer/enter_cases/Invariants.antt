use Rattle.std.proofs.Common.{◌≡◌, true, length, map}
use Rattle.std.specs.List.{list_all}
use Rattle.std.specs.Prelude.{flat_map}
use Rattle.residue_module.specs.code.Edges.{EntersTo}
use Rattle.residue_module.specs.code.Scenes.{at, is_small}
use Rattle.residue_module.proofs.printer.Printer.enter_cases.Given as goal

abbrev pub invariant-loop-case : goal.invariant-loop-case
invariant-loop-case l = record {
  small : list_all (is_small (at l.self)) (flat_map (λ j. j.args) (map (λ c. c.1) l.cases)) ≡ true;
  edges : EntersTo (at l.self) (map (λ j. (l.from, j)) (map (λ c. c.1) l.fn.cases)) (map (λ j. (l.from, j)) (map (λ c. c.1) l.cases)) l.fn.rows l.rows;
}

abbrev pub decreases-loop-case : goal.decreases-loop-case
decreases-loop-case l = length l.cases

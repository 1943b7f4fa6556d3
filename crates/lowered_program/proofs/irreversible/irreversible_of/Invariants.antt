use Rattle.std.proofs.Common.{◌≡◌, ◌++◌, length, map}
use Rattle.std.specs.Prelude.{flat_map}
use Rattle.ir_module.specs.Classes.{class_of_function}
use Rattle.lowered_program.specs.Residues.{irreversible_as, irreversible_of}
use Rattle.lowered_program.proofs.irreversible.irreversible_of.Given as goal

abbrev pub invariant-loop-functions : goal.invariant-loop-functions
invariant-loop-functions l = record {
  told : l.classes ≡ map class_of_function l.functions;
  whole : irreversible_of l.m ≡ l.names ++ flat_map (λ f. irreversible_as f (class_of_function f)) l.functions;
}

abbrev pub decreases-loop-functions : goal.decreases-loop-functions
decreases-loop-functions l = length l.functions

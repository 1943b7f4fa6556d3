use Rattle.std.proofs.Common.{◌≡◌, ◌++◌, length, map}
use Rattle.ir_module.specs.Classes.{class_of_function}
use Rattle.step_parts.proofs.scene.classes_of.Given as goal

abbrev pub invariant-loop-rest : goal.invariant-loop-rest
invariant-loop-rest l = map class_of_function l.functions ≡ l.classes ++ map class_of_function l.rest

abbrev pub decreases-loop-rest : goal.decreases-loop-rest
decreases-loop-rest l = length l.rest

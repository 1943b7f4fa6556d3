use Rattle.std.proofs.Common.{◌≡◌, ◌++◌, length, map}
use Rattle.ir_module.specs.Classes.{class_of_function}
use Rattle.qir_machine.proofs.classes.classes_of.Given as goal

abbrev pub invariant-loop-functions : goal.invariant-loop-functions
invariant-loop-functions l = l.classes ++ map class_of_function l.functions ≡ map class_of_function l.fn.functions

abbrev pub decreases-loop-functions : goal.decreases-loop-functions
decreases-loop-functions l = length l.functions

use Rattle.std.proofs.Common.{◌≡◌, ◌++◌, map, length}
use Rattle.ir_module.specs.Classes.{class_of_function}
use Rattle.admission.proofs.tables.classes.Given as goal

abbrev pub invariant-loop-funcs : goal.invariant-loop-funcs
invariant-loop-funcs l = l.classes ++ map class_of_function l.funcs ≡ map class_of_function l.fn.funcs

abbrev pub decreases-loop-funcs : goal.decreases-loop-funcs
decreases-loop-funcs l = length l.funcs

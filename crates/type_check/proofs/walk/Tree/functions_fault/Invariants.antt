use Rattle.std.proofs.Common.{◌≡◌, ◌+◌, ◌<◌, ◌^◌, true, length}
use Rattle.std.specs.List.{list_all}
use Rattle.ir_module.specs.Numbered.{are_few}
use Rattle.ir_module.specs.Tree.{blocks_of}
use Rattle.type_check.specs.code.Walk.{functions_fault}
use Rattle.type_check.proofs.walk.Tree.functions_fault.Given as goal

abbrev pub invariant-loop-funcs : goal.invariant-loop-funcs
invariant-loop-funcs l = record {
  room : l.g + length l.funcs < 2 ^ 32;
  few : list_all (λ f. are_few (blocks_of f)) l.funcs ≡ true;
  left : functions_fault l.self.module.now l.self.required l.g l.funcs ≡ functions_fault l.fn.self.module.now l.fn.self.required l.fn.g l.fn.funcs;
}

abbrev pub decreases-loop-funcs : goal.decreases-loop-funcs
decreases-loop-funcs l = length l.funcs

-- Which functions are called, as one pass finds it.
use Rattle.std.specs.Prelude.{◌≡◌, ℕ, ◌<◌, Bool, true, List, [], ◌∷◌, length, slice_get, slice_set, Option, None, Some}
use Rattle.ir_module.specs.declared.tree.Block.{Block}
use Rattle.ir_module.specs.declared.tree.Callee.{Callee}
use Rattle.ir_module.specs.declared.tree.Callee.TheVariants as callee
use Rattle.ir_module.specs.declared.tree.Function.{Function}
use Rattle.ir_module.specs.declared.tree.Inst.{Inst}
use Rattle.profile_rules.specs.Base.{calls_function}
use Rattle.profile_rules.specs.Calls.{Call, call_of_kind}

abbrev pub mark_callee : List Bool → Callee → List Bool
mark_callee on (callee.Func g) = slice_set on g.0 true
mark_callee on (callee.Local x) = on

abbrev pub mark_call : List Bool → Option Call → List Bool
mark_call on None = on
mark_call on (Some c) = mark_callee on c.callee

abbrev pub mark_insts : List Bool → List Inst → List Bool
mark_insts on [] = on
mark_insts on (i ∷ is) = mark_insts (mark_call on (call_of_kind i.what)) is

abbrev pub mark_blocks : List Bool → List Block → List Bool
mark_blocks on [] = on
mark_blocks on (b ∷ bs) = mark_blocks (mark_insts on b.insts) bs

-- of each of so many functions whether this one calls it
pub record TellsCalled (f : Function) (count : ℕ) (on : List Bool) : Type 0 where
  pub sized : length on ≡ count
  pub exact : (g : ℕ) → g < count → slice_get on g ≡ Some (calls_function f g)

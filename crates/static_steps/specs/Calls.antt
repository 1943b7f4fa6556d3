-- Calls (LLVM Language Reference, 'call Instruction').
use Rattle.std.specs.Prelude.{ℕ, suc, true, false, Option, None, Some, List, [], ◌∷◌}
use Rattle.ir_module.specs.declared.tree.Block.{Block}
use Rattle.ir_module.specs.declared.tree.Function.{Function}
use Rattle.ir_module.specs.Classes.{class_of_function}
use Rattle.ir_values.specs.declared.class.Class.{Class}
use Rattle.ir_values.specs.declared.class.Class.TheVariants as class
use Rattle.ir_values.specs.declared.ids.FuncId.{FuncId}
use Rattle.ir_values.specs.declared.ids.LocalId.{LocalId}
use Rattle.ir_values.specs.declared.ty.Ty.{Ty}
use Rattle.ir_values.specs.declared.value.Value.TheVariants as value
use Rattle.ir_values.specs.Names.{name_text}
use Rattle.qir_meaning.specs.Moves.{first_point}
use Rattle.kept_items.specs.declared.val.Val.{Val}
use Rattle.static_steps.specs.declared.turn.Turn.{Turn}
use Rattle.static_steps.specs.declared.turn.Turn.TheVariants.{Lost}
use Rattle.static_steps.specs.Operations.{is_irreversible, operates, returning_turn, typed_args}
use Rattle.static_steps.specs.Records.{count_output, int_output, result_output, value_output}
use Rattle.static_steps.specs.Results.{alloc_turn, equal_turn, read_turn, release_turn}
use Rattle.static_steps.specs.Settings.{Setting, gives_known, goes, next_here, passed, silent}
use Rattle.static_steps.specs.Values.{Names, drop_result, keep}

-- a new frame has the values of the parameters
abbrev pub parameters : ℕ → List Val → Names Val
parameters n [] = []
parameters n (v ∷ vs) = (record { 0 = n }, v) ∷ parameters (suc n) vs

module _ (s : Setting) where
  -- a call that gives nothing, of a declared function of this name and class
  abbrev pub silent_turn : Function → List ℕ → Class → List Ty → List Val → Turn
  silent_turn f name class.Release ts vs = release_turn s vs
  silent_turn f name class.Gate ts vs = operates s name false (is_irreversible f class.Gate) (typed_args ts vs)
  silent_turn f name class.Measure ts vs = operates s name true true (typed_args ts vs)
  silent_turn f name class.Tuple ts vs = count_output s class.Tuple ts vs
  silent_turn f name class.Array ts vs = count_output s class.Array ts vs
  silent_turn f name class.ResRecord ts vs = result_output s ts vs
  silent_turn f name class.BoolRecord ts vs = value_output s class.BoolRecord ts vs
  silent_turn f name class.IntRecord ts vs = int_output s ts vs
  silent_turn f name class.DoubleRecord ts vs = value_output s class.DoubleRecord ts vs
  silent_turn f name c ts vs = goes s (passed s)

  -- x is the name of what the call gives
  module _ (x : Option LocalId) where
    abbrev pub class_turn : Function → List ℕ → Class → List Ty → List Val → Turn
    class_turn f name class.Alloc ts vs = alloc_turn s x
    class_turn f name class.One ts vs = gives_known s x value.One
    class_turn f name class.Zero ts vs = gives_known s x value.Zero
    class_turn f name class.Read ts vs = read_turn s x vs
    class_turn f name class.Equal ts vs = equal_turn s x vs
    class_turn f name class.Returning ts vs = returning_turn s x (typed_args ts vs)
    class_turn f name c ts vs = silent x (silent_turn f name c ts vs)

    abbrev pub declared_turn : Function → Option Class → List Ty → List Val → Turn
    declared_turn f None ts vs = Lost
    declared_turn f (Some c) ts vs = class_turn f (name_text f.name) c ts vs

    -- a new frame; the one that waits stands at the point after the call, and keeps the names that are live there but not the call's
    abbrev pub enters : FuncId → List Val → Turn
    enters g vs =
        goes s (record s.w {
          top = record { at = first_point g; names = parameters 0 vs };
          below = (record {
            at = next_here s;
            names = keep (s.live (next_here s)) (drop_result x s.w.top.names);
          }) ∷ s.w.below;
        })

    abbrev pub body_turn : FuncId → Function → Option (List Block) → List Ty → List Val → Turn
    body_turn g f None ts vs = declared_turn f (class_of_function f) ts vs
    body_turn g f (Some blocks) ts vs = enters g vs

    -- the call of this function of the module, by the types of its arguments and their values
    abbrev pub calls_turn : FuncId → Option Function → List Ty → List Val → Turn
    calls_turn g None ts vs = Lost
    calls_turn g (Some f) ts vs = body_turn g f f.blocks ts vs

-- Constant evaluation keeps only what constants don't decide.
use Rattle.std.specs.Prelude.{◌≡◌, ℕ, Bool, true, Some, List}
use Rattle.ir_module.specs.declared.places.Point.{Point}
use Rattle.ir_module.specs.declared.tree.Function.{Function}
use Rattle.ir_module.specs.declared.tree.Module.{Module}
use Rattle.ir_values.specs.declared.ids.LocalId.{LocalId}
use Rattle.kept_items.specs.declared.target.Target.{Target}
use Rattle.lowered_program.specs.Residues.{residue_of}
use Rattle.path_search.specs.Explored.{Explored}
use Rattle.settled_adaptive.specs.Undecided.{all_undecided, is_undecided}
use Rattle.static_steps.specs.declared.config.Config.{Config}
use Rattle.static_steps.specs.declared.turn.Turn.{Turn}
use Rattle.static_steps.specs.declared.turn.Turn.TheVariants.{Goes}
use Rattle.static_steps.specs.Steps.{static_step}
use Rattle.unroller.specs.Programs.{Carries, Program, search_of}
use Rattle.fused_parts.specs.Nodes.{Node}

abbrev pub keeps_undecided : Turn → Bool
keeps_undecided (Goes moves (Some i) choice) = is_undecided i
keeps_undecided other = true

-- a static step keeps an item only where constants don't decide it
abbrev pub StepsKeepUndecided : Type 0
StepsKeepUndecided =
    (m : Module) (t : Target) (live : Point → LocalId → Bool) (g : Config) → keeps_undecided (static_step m t live g) ≡ true

-- so constants decide nothing of the program that is made of explored configurations, whatever the program that they are of
abbrev pub MadeIsUndecided : Type 0
MadeIsUndecided =
    (p : Program) (entry : Function) (budget : ℕ) (nodes : List Node)
    → Explored (search_of p budget) (Carries p) nodes
    → all_undecided (residue_of p entry nodes) ≡ true

-- Walks through a function, and the names that are live at a point.
use Rattle.std.specs.Prelude.{◌+◌, List, [], ◌∷◌, map, Contains}
use Rattle.ir_values.specs.declared.ids.BlockId.{BlockId}
use Rattle.ir_values.specs.declared.ids.LocalId.{LocalId}
use Rattle.ir_module.specs.declared.places.Point.{Point}
use Rattle.ir_module.specs.declared.tree.Function.{Function}
use Rattle.ir_module.specs.Edges.{edges}
use Rattle.ir_module.specs.Steps.{Step, PhiAt, InstAt, TermAt, NoStep, step_of_point}
use Rattle.ir_module.specs.Operands.{step_defines}
use Rattle.name_flow.specs.Uses.{step_reads}

-- the first point of a block
abbrev pub first_point : Point → BlockId → Point
first_point p b = record { func = p.func; block = b; index = 0 }

-- the points that follow p, where this step stands at p
abbrev pub successors : Point → Step → List Point
successors p (PhiAt phi) = record p { index = p.index + 1 } ∷ []
successors p (InstAt i) = record p { index = p.index + 1 } ∷ []
successors p (TermAt t) = map (first_point p) (edges t)
successors p NoStep = []

-- each of the points is a successor of the one before, and the first of p
abbrev pub IsWalk : Function → Point → List Point → Type 0
IsWalk f p [] = Unit {0}
IsWalk f p (q ∷ qs) = Contains (successors p (step_of_point f p)) q × IsWalk f q qs

-- the last point of the walk from p reads x, and no point before it defines x
abbrev pub ReadsFirst : Function → LocalId → Point → List Point → Type 0
ReadsFirst f x p [] = Contains (step_reads f p.block (step_of_point f p)) x
ReadsFirst f x p (q ∷ qs) = ¬ Contains (step_defines (step_of_point f p)) x × ReadsFirst f x q qs

-- x is live at p: some walk from p reaches a use of x before a definition of x
pub record IsLive (f : Function) (p : Point) (x : LocalId) : Type 0 where
  pub walk : List Point
  pub follows : IsWalk f p walk
  pub reads : ReadsFirst f x p walk

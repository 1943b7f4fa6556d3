-- The rules of a valid lowered program on how its parts begin, lead on and use values, for one that is made of all configurations.
use Rattle.std.specs.Prelude.{◌≡◌, ℕ, Bool, true, Option, Some, List, length, slice_get}
use Rattle.ir_module.specs.Numbered.{are_few}
use Rattle.path_search.specs.Explored.{Explored}
use Rattle.residue.specs.declared.parts.Residue.{Residue}
use Rattle.residue.specs.Valid.{constants_compared, has_start, jumps_fit, labels_below, well_scoped, well_typed}
use Rattle.fused_parts.specs.Nodes.{Node}
use Rattle.lowered_runs.specs.Made.{IsMade}
use Rattle.unroller.specs.Programs.{Carries, Program, search_of}
use Rattle.valid_lines.specs.Laws.{IsStepOf}

-- r is made of all configurations of p, whose steps are as modules without faults have them
pub record IsMadeFrom (p : Program) (budget : ℕ) (nodes : List Node) (shared : Option ℕ) (r : Residue) : Type 0 where
  pub explored : Explored (search_of p budget) (Carries p) nodes
  pub steps : (i : ℕ) (x : Node) → slice_get nodes i ≡ Some x → IsStepOf p x
  pub made : IsMade p nodes shared r

-- every lowered program that is made so keeps a rule
abbrev pub AllKeep : (Residue → Bool) → Type 0
AllKeep rule =
    (p : Program) (budget : ℕ) (nodes : List Node) (shared : Option ℕ) (r : Residue) → IsMadeFrom p budget nodes shared r → rule r ≡ true

-- part 0 has no parameters, and every jump leads to a part in range other than it
abbrev pub PartsStart : Type 0
PartsStart = AllKeep has_start

-- the arguments of jumps fit the parameters in number and width, and two jumps of one tail to one part have equal ones
abbrev pub JumpsFit : Type 0
JumpsFit = AllKeep jumps_fit

-- each Dynamic value is given once, and a part uses only what it was given before
abbrev pub ScopesHold : Type 0
ScopesHold = AllKeep well_scoped

-- each value has the type of its place
abbrev pub TypesHold : Type 0
TypesHold = AllKeep well_typed

-- one and zero stand only in comparisons
abbrev pub ConstantsHold : Type 0
ConstantsHold = AllKeep constants_compared

-- labels are in range of the constants, where these are as many as those of the program, and few
abbrev pub LabelsHold : Type 0
LabelsHold =
    (p : Program) (budget : ℕ) (nodes : List Node) (shared : Option ℕ) (r : Residue) → IsMadeFrom p budget nodes shared r
    → length r.globals ≡ length p.m.globals
    → are_few r.globals ≡ true
    → labels_below r ≡ true

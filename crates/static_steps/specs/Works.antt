-- Configurations between steps and within one.
use Rattle.std.specs.Prelude.{ℕ, ◌+◌, List, [], ◌∷◌, ◌++◌}
use Rattle.kept_items.specs.declared.val.Dyn.{Dyn}
use Rattle.static_steps.specs.declared.config.Config.{Config}
use Rattle.static_steps.specs.declared.config.Frame.{Frame}
use Rattle.static_steps.specs.declared.turn.Move.{Move}
use Rattle.static_steps.specs.declared.work.Work.{Work}
use Rattle.static_steps.specs.declared.work.WorkFrame.{WorkFrame}
use Rattle.static_steps.specs.Values.{dynamics, numbered, shape, numbers}

abbrev pub frame_dynamics : List Frame → ℕ
frame_dynamics [] = 0
frame_dynamics (f ∷ fs) = frame_dynamics fs + dynamics f.names

-- how many names of a configuration are Dynamic
abbrev pub dynamics_of : Config → ℕ
dynamics_of g = frame_dynamics g.below + dynamics g.top.names

-- Dynamic names are numbered from the bottom frame up, and in a frame by the numbers of the names
abbrev pub opened_frames : List Frame → List WorkFrame
opened_frames [] = []
opened_frames (f ∷ fs) = (record { at = f.at; names = numbered (frame_dynamics fs) f.names }) ∷ opened_frames fs

abbrev pub opened : Config → Work
opened g = record {
  top = record { at = g.top.at; names = numbered (frame_dynamics g.below) g.top.names };
  below = opened_frames g.below;
  allocated = g.allocated;
  held = g.held;
  returned = g.returned;
  phase = g.phase;
}

abbrev pub shaped : WorkFrame → Frame
shaped f = record { at = f.at; names = shape f.names }

abbrev pub shaped_frames : List WorkFrame → List Frame
shaped_frames [] = []
shaped_frames (f ∷ fs) = shaped f ∷ shaped_frames fs

abbrev pub frame_numbers : List WorkFrame → List Dyn
frame_numbers [] = []
frame_numbers (f ∷ fs) = frame_numbers fs ++ numbers f.names

-- the move to a configuration: its Dynamic names lose their numbers, which become the values that they take
abbrev pub packed : Work → Move
packed w = record {
  to = record {
    top = shaped w.top;
    below = shaped_frames w.below;
    allocated = w.allocated;
    held = w.held;
    returned = w.returned;
    phase = w.phase;
  };
  args = frame_numbers w.below ++ numbers w.top.names;
}

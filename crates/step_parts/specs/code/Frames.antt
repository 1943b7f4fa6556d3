-- Frames that wait.
use Rattle.std.specs.Prelude.{ℕ, zero, suc, Option, None, Some, List, [], ◌∷◌}
use Rattle.kept_items.specs.declared.val.Dyn.{Dyn}
use Rattle.static_steps.specs.declared.config.Frame.{Frame}
use Rattle.static_steps.specs.declared.work.WorkFrame.{WorkFrame}
use Rattle.static_steps.specs.Values.{numbered, numbers}
use Rattle.static_steps.specs.Works.{frame_dynamics}

-- a frame that begins to wait, over those that wait already
abbrev pub over : Option WorkFrame → List WorkFrame → List WorkFrame
over None fs = fs
over (Some f) fs = f ∷ fs

abbrev pub waiting_numbers : Option WorkFrame → List Dyn
waiting_numbers None = []
waiting_numbers (Some f) = numbers f.names

-- so many numbers, from n on
abbrev pub counted : ℕ → ℕ → List Dyn
counted n zero = []
counted n (suc k) = (record { 0 = n }) ∷ counted (suc n) k

-- a frame over those that wait below it
abbrev pub opened_over : List Frame → Frame → WorkFrame
opened_over fs f = record { at = f.at; names = numbered (frame_dynamics fs) f.names }

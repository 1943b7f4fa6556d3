-- The setting that a scene is.
use Rattle.static_steps.specs.Settings.{Setting}
use Rattle.static_steps.specs.Values.{numbered}
use Rattle.static_steps.specs.Works.{opened_frames}
use Rattle.step_parts.specs.declared.scene.Scene.{Scene}
use Rattle.step_parts.specs.Lives.{lives}

abbrev pub at : Scene → Setting
at s = record {
  m = s.module.now;
  t = s.target;
  live = lives s.flows.now;
  w = record {
    top = record { at = s.given.now.top.at; names = numbered s.first s.given.now.top.names };
    below = opened_frames s.given.now.below;
    allocated = s.given.now.allocated;
    held = s.given.now.held;
    returned = s.given.now.returned;
    phase = s.given.now.phase;
  };
  fresh = s.fresh;
}

use Rattle.std.proofs.Common.{refl, ap, ◌∙◌}
use Rattle.scripted_backend.specs.Script.{given}
use Rattle.scripted_backend.proofs.Given.{given-answered, keeps}
use Rattle.scripted_backend.proofs.script.ScriptBackend.gate.Goals as goal

pub returns-clause-keeps : goal.returns-clause-keeps
returns-clause-keeps c = keeps c.args.self.now _ (given-answered _ _ _ _ _ c.in_ok-push.ensures.ok refl ∙ ap given c.self.view_is)

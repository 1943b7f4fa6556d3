use Rattle.ir_values.specs.Counts.{one_more}
use Rattle.failing_backend.proofs.Counting.{counting_keeps}
use Rattle.failing_backend.proofs.flaky.FlakyBackend.gate.Goals as goal

pub returns-clause-keeps : goal.returns-clause-keeps
returns-clause-keeps c = rw (← c.self.view_is) (counting_keeps _ c.count-2.new.self c.gate.new.self (one_more c.self.inside.counted) c.gate.ensures.keeps c.count-2.ensures.grown c.count-2.ensures.counted)

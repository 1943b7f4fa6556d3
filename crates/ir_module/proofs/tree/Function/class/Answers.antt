use Rattle.ir_module.specs.Classes.{type_words}
use Rattle.ir_module.proofs.ClassLemmas.{nameless}
use Rattle.ir_module.proofs.tree.Function.class.Goals as goal

pub returns-in-Number : goal.returns-in-Number
returns-in-Number c = rw c.in-Number.is (nameless (type_words c.args.self.now))

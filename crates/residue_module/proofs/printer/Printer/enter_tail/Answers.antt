use Rattle.std.proofs.Common.{[], ◌∷◌, map, subst, sym}
use Rattle.std.proofs.lemmas.Result.{on_ok_weaker}
use Rattle.residue.specs.Scopes.{jumps}
use Rattle.residue_module.specs.code.Edges.{Enters}
use Rattle.residue_module.specs.code.Scenes.{at}
use Rattle.residue_module.proofs.Entering.{enters-two}
use Rattle.residue_module.proofs.printer.Printer.enter_tail.Goals as goal

pub returns-in_ok-enter_jump-in-Switch : goal.returns-in_ok-enter_jump-in-Switch
returns-in_ok-enter_jump-in-Switch c = on_ok_weaker c.enter_cases.result (λ e.
    subst (λ t. Enters (at c.args.self.now) (map (λ j. (c.args.from, j)) (jumps t)) c.args.rows.now c.enter_cases.new.rows) (sym c.in-Switch.is)
    (enters-two (at c.args.self.now) ((c.args.from, c.in-Switch.jump) ∷ []) (map (λ j. (c.args.from, j)) (map (λ c. c.1) c.in-Switch.cases)) c.args.rows.now c.enter_jump-in-Switch.new.rows c.enter_cases.new.rows
    c.in_ok-enter_jump-in-Switch.ensures
    (subst (λ cs. Enters (at c.args.self.now) (map (λ j. (c.args.from, j)) (map (λ c. c.1) cs)) c.enter_jump-in-Switch.new.rows c.enter_cases.new.rows) c.as_slice.ensures e))) c.enter_cases.ensures

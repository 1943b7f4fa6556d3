use Rattle.std.proofs.Common.{ap, ◌∙◌}
use Rattle.std.proofs.lemmas.Iterator.Adapters.{position_from-zero}
use Rattle.ir_values.specs.Equal.{equal_decides}
use Rattle.ir_printer.specs.Groups.{number_from}
use Rattle.ir_printer.proofs.GroupLists.{numbered_from}
use Rattle.ir_printer.proofs.groups.Groups.number.Goals as goal

pub returns : goal.returns
returns c =
    c.get_index_of.ensures.index ∙ (position_from-zero _ c.self.inside.lists.keys ∙ (numbered_from _ (equal_decides _) 0 c.args.attrs.now c.self.inside.lists.keys ∙ ap (λ g. number_from 0 c.args.attrs.now g) c.self.view_is))

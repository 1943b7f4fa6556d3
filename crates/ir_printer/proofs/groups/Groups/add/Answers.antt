use Rattle.std.proofs.Common.{◌≡◌, sym, ap, ◌∙◌}
use Rattle.std.proofs.lemmas.Bool.{false≢true}
use Rattle.ir_values.specs.Equal.{equal_decides}
use Rattle.ir_printer.specs.Groups.{with_list, number_from}
use Rattle.ir_printer.proofs.GroupLists.{inserted_some}
use Rattle.ir_printer.proofs.groups.Groups.add.Goals as goal

pub returns-in_ok-insert : goal.returns-in_ok-insert
returns-in_ok-insert c =
    let keys = c.self.inside.lists.keys in
    let whole : c.insert.new.self.keys ≡ with_list keys c.args.attrs (number_from 0 c.args.attrs keys) = c.in_ok-insert.ensures.keys ∙ inserted_some _ (equal_decides _) c.args.attrs keys (λ e. false≢true (sym c.if-not-is_empty.true ∙ c.is_empty.ensures.1 e)) in
    whole ∙ ap (λ g. with_list g c.args.attrs (number_from 0 c.args.attrs g)) c.self.view_is

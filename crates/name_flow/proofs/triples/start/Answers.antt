use Rattle.std.proofs.Common.{rules, of_calls}
use Rattle.std.proofs.lemmas.List.Sorted.{IsPartitionPoint-from_clause}
use Rattle.name_flow.specs.code.Triples.{is_below}
use Rattle.name_flow.proofs.Order.{ascending-partitioned}
use Rattle.name_flow.proofs.triples.start.Goals as goal

pub returns-clause-point : goal.returns-clause-point
returns-clause-point c =
    IsPartitionPoint-from_clause (is_below c.args.a c.args.b c.args.c) c.args.items.now c.partition_point.result c.partition_point.ensures.partitioned (ascending-partitioned c.args.items.now c.args.a c.args.b c.args.c c.requires) (λ a r f k. search (rules, of_calls))

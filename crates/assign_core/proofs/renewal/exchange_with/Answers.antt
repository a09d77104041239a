use Rattle.std.proofs.Common.{◌+◌, length, arith}
use Rattle.relation_core.specs.Operators.{subtracted, united}
use Rattle.assign_core.proofs.renewal.exchange_with.Goals as goal

pub returns-clause-cost : goal.returns-clause-cost
returns-clause-cost g c =
    let r = c.args.renewal in
    let n = length (united (subtracted r.value.now.rows r.part.now.rows) c.args.left.now.rows) + length c.args.added.now.rows in
    let same = c.lists_none.ensures.some c.if-lists_none.false n in
    let taken = c.exchange_at_points.ensures.cost in
    omega (arith, same, taken)

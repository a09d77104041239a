use Rattle.std.proofs.Common.{not, subst, arith}
use Rattle.base_core.specs.Sets.{has}
use Rattle.value_core.specs.Values.{Row, row_cmp}
use Rattle.relation_core.specs.Answers.{IsRefusal}
use Rattle.relation_core.specs.Operators.{subtracted}
use Rattle.relation_core.proofs.FilterLemmas.{length-filter_at_most}
use Rattle.assign_core.proofs.differences.rest.Goals as goal

pub unreachable-requires : goal.unreachable-requires
unreachable-requires c =
    let left = c.args.left.now.rows in
    let right = c.args.right.now.rows in
    let over = subst (IsRefusal (subtracted left right)) c.in-Err-TooMany.field-0-is c.in-Err-TooMany.ensures in
    let less = length-filter_at_most (λ (x : Row). not (has row_cmp right x)) left in
    let few = c.rows-rows.ensures.relation.few in
    omega (arith, over, less, few)

use Rattle.std.proofs.Common.{subst}
use Rattle.value_core.specs.Values.{most_rows}
use Rattle.value_core.specs.declared.refuse.RowsRefuse.TheVariants.{TooMany}
use Rattle.relation_core.specs.Answers.{IsRefusal}
use Rattle.relation_core.specs.Operators.{subtracted}
use Rattle.u_constraints.proofs.GrowthLemmas.{fewer_left}
use Rattle.u_constraints.proofs.growth.rest.Goals as goal

pub unreachable-requires : goal.unreachable-requires
unreachable-requires c =
    let left = c.args.left.now.rows in
    let right = c.args.right.now.rows in
    let refused : IsRefusal (subtracted left right) TooMany = subst (IsRefusal (subtracted left right)) c.in-Err-TooMany.field-0-is c.in-Err-TooMany.ensures in
    fewer_left most_rows left right c.requires.few refused

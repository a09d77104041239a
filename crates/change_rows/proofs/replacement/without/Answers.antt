use Rattle.std.proofs.Common.{subst}
use Rattle.value_core.specs.Values.{most_rows}
use Rattle.value_core.specs.declared.refuse.RowsRefuse.TheVariants.{TooMany}
use Rattle.relation_core.specs.Answers.{IsRefusal}
use Rattle.relation_core.specs.Operators.{subtracted}
use Rattle.u_constraints.proofs.GrowthLemmas.{fewer_left}
use Rattle.change_rows.proofs.replacement.without.Goals as goal

pub unreachable-requires : goal.unreachable-requires
unreachable-requires c =
    let ours = c.args.left.now.rows in
    let theirs = c.args.right.now.rows in
    let refused : IsRefusal (subtracted ours theirs) TooMany = subst (IsRefusal (subtracted ours theirs)) c.in-Err-TooMany.field-0-is c.in-Err-TooMany.ensures in
    fewer_left most_rows ours theirs c.rows.ensures.relation.few refused

use Rattle.std.proofs.Common.{◌≡◌, ◌≤◌, ◌+◌, length, Option, Some, option_map, sym, ap, subst}
use Rattle.value_core.specs.Values.{Relation}
use Rattle.cell_core.specs.Costs.{bound}
use Rattle.kept_views.specs.Kept.{heading_or_none, rows_or_none, left_key, right_key, of_key}
use Rattle.kept_views.proofs.groups.group.Goals as goal

pub returns-in-Some-clause-cost : goal.returns-in-Some-clause-cost
returns-in-Some-clause-cost g c =
    let rule = c.args.rule.now in
    let left = c.args.left.now in
    let is : option_map (λ r. r.now) c.args.right ≡ Some c.in-Some.other.now = ap (option_map (λ r. r.now)) c.in-Some.is in
    subst (λ (o : Option Relation). c.group_of_two.new.steps ≤ c.args.steps.now + bound (length (of_key (left_key rule.op rule.left left.heading (heading_or_none o)) c.args.key.now left.rows)
    + length (of_key (right_key rule.op rule.left left.heading (heading_or_none o)) c.args.key.now (rows_or_none o))) (length rule.left)) (sym is) c.group_of_two.ensures.cost

use Rattle.std.proofs.Common.{◌≡◌, ◌≤◌, List, Option, Some, option_map, length, sym, ap, ◌∙◌, subst}
use Rattle.value_core.specs.Values.{Row, most_rows}
use Rattle.u_constraints.specs.Near.{with_keys}
use Rattle.kept_views.specs.declared.group_moves.Moved.{Moved}
use Rattle.kept_views.specs.Parting.{HasHeading, rows_after}
use Rattle.kept_views.proofs.parting.part_after.Goals as goal

pub rest_after-requires-clause-heading : goal.rest_after-requires-clause-heading
rest_after-requires-clause-heading c =
    let is : option_map (λ m. m.now) c.args.difference ≡ Some c.in-Some.moved.now = ap (option_map (λ m. m.now)) c.in-Some.is in
    let h = subst (λ (d : Option Moved). HasHeading c.args.before.now.heading d) is c.requires.heading in
    h.1 ∙ sym c.in_ok-part.ensures.rows.0

pub rest_after-requires-clause-few : goal.rest_after-requires-clause-few
rest_after-requires-clause-few c =
    let is : option_map (λ m. m.now) c.args.difference ≡ Some c.in-Some.moved.now = ap (option_map (λ m. m.now)) c.in-Some.is in
    let few = subst (λ (d : Option Moved). length (rows_after (with_keys c.args.positions.now c.args.keys.now c.args.before.now.rows) d) ≤ most_rows) is c.requires.few in
    subst (λ (rows : List Row). length (rows_after rows (Some c.in-Some.moved.now)) ≤ most_rows) (sym c.in_ok-part.ensures.rows.1) few

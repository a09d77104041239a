use Rattle.std.proofs.Common.{map, ap, sym, ◌∙◌, subst}
use Rattle.std.specs.List.{All}
use Rattle.std.specs.Prelude.{slice_index}
use Rattle.std.specs.Ordering.{int_cmp}
use Rattle.base_core.specs.Sets.{in_order}
use Rattle.base_core.proofs.SetLemmas.{In-in_order}
use Rattle.base_core.proofs.ListLemmas.{All-In}
use Rattle.point_core.specs.Orders.{point_cmp}
use Rattle.point_core.proofs.OrderLemmas.{point_total, point_same}
use Rattle.point_core.specs.Points.{number, line_of, IsPointOf}
use Rattle.tree_core.specs.Trees.{read_sets}
use Rattle.eval_using.proofs.ItemCutLemmas.{ordered_numbers, all_in_order, all_in}
use Rattle.eval_using.proofs.items.item_cuts.Goals as goal

pub returns-clause-cuts : goal.returns-clause-cuts
returns-clause-cuts c =
    let a = slice_index c.args.commalist.now c.args.side in
    let all = c.in_ok-all.all.items in
    let span = c.requires.interval in
    let points = c.in_ok-all.ensures.points span.0 span.1 in
    ap (map number) c.in_ok-points.ensures
    ∙ ordered_numbers all (line_of span.0) (λ q m. (all_in (IsPointOf span.0) all points q m).0)
    ∙ ap (in_order int_cmp) c.in_ok-all.ensures.cuts
    ∙ all_in_order c.args.commalist.now a c.args.row.now (read_sets c.args.sets.now)

pub returns-clause-points : goal.returns-clause-points
returns-clause-points c =
    let all = c.in_ok-all.all.items in
    λ t fit.
    let points = c.in_ok-all.ensures.points t fit in
    subst (All (IsPointOf t)) (sym c.in_ok-points.ensures) (All-In (IsPointOf t) (in_order point_cmp all) (λ q m. all_in (IsPointOf t) all points q ((In-in_order point_cmp point_total point_same q all).0 m)))

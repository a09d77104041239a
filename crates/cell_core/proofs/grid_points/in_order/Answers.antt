use Rattle.std.proofs.Common.{rules, refl, ◌∙◌}
use Rattle.std.specs.Ordering.{is_lt, eq_by_cmp}
use Rattle.std.proofs.lemmas.List.Sorted.{ranks_by, answers_always}
use Rattle.std.proofs.lemmas.Fn.{dedup_same}
use Rattle.base_core.proofs.SetLemmas.{in_order_of_sorted}
use Rattle.cell_core.specs.GridPoints.{placed_cmp}
use Rattle.cell_core.proofs.OrderLemmas.{placed_total, placed_separates}
use Rattle.cell_core.proofs.grid_points.in_order.Goals as goal

pub returns : goal.returns
returns g c =
    let order = placed_cmp g.P.Label.order in
    let xs = c.args.list.items in
    let ys = c.sort_by.new.self.items in
    let sorted = c.in_ok-sort_by.ensures.sorted (λ a b. is_lt (order a b)) (ranks_by (placed_total g.met.P.Label.total) (λ x. x)) (answers_always _ _ _ (λ f a r g' h. search rules)) in
    let kept = dedup_same _ (eq_by_cmp order) _ (λ x y b f' x' y' k. search rules) ys c.dedup_by.new.self.items c.dedup_by.ensures.filtered in
    kept ∙ in_order_of_sorted order (placed_total g.met.P.Label.total) (placed_separates g.met.P.Label.separates) (eq_by_cmp order) (λ x y. refl) xs ys c.in_ok-sort_by.ensures.permutation sorted

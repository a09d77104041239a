use Rattle.std.proofs.Common.{List, ◌++◌, ap, ap₂, ◌∙◌}
use Rattle.value_core.specs.Values.{Row, rows_of}
use Rattle.value_core.proofs.RelationLemmas.{rows_from_sort}
use Rattle.kept_views.proofs.touching.touched.Goals as goal

pub returns-clause-keys : goal.returns-clause-keys
returns-clause-keys c =
    let rows = rows_from_sort c.append.new.self.items c.sort.new.self.items c.dedup.new.self.items c.sort.ensures.permutation c.in_ok-sort.ensures.sorted c.dedup.ensures.filtered in
    rows.0 ∙ ap (λ (r : List Row). rows_of r) (c.in_ok-append.ensures.items ∙ ap₂ (λ (xs ys : List Row). xs ++ ys) c.in_ok-keys.ensures c.in_ok-more.ensures)

pub returns-clause-sorted : goal.returns-clause-sorted
returns-clause-sorted c =
    let rows = rows_from_sort c.append.new.self.items c.sort.new.self.items c.dedup.new.self.items c.sort.ensures.permutation c.in_ok-sort.ensures.sorted c.dedup.ensures.filtered in
    rows.1

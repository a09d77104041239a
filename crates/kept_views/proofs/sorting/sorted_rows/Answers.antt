use Rattle.std.proofs.Common.{List, map, ap, ◌∙◌, rules}
use Rattle.std.specs.List.Sorted.{IsSortedByKey, IsStableByKey}
use Rattle.std.specs.Ordering.{is_lt}
use Rattle.std.proofs.lemmas.List.Sorted.{ranks_by, answers_always}
use Rattle.value_core.specs.Order.{row_total}
use Rattle.value_core.specs.Values.{Row, row_cmp}
use Rattle.relation_core.proofs.RunLemmas.{stable_at}
use Rattle.kept_views.specs.Sorted.{rows_behind}
use Rattle.kept_views.proofs.SortedLemmas.{behind_is}
use Rattle.kept_views.proofs.sorting.sorted_rows.Goals as goal

pub returns : goal.returns
returns c =
    let up : IsSortedByKey (λ (e : Row × Row). e.0) row_cmp c.sort_by.new.self.items =
    c.in_ok-sort_by.ensures.sorted (λ a b. is_lt (row_cmp a.0 b.0)) (ranks_by row_total (λ e. e.0)) (answers_always _ _ _ (λ f a r g' h. search rules)) in
    let stable : IsStableByKey (λ (e : Row × Row). e.0) row_cmp c.in_ok-list.list.items c.sort_by.new.self.items =
    c.sort_by.ensures.stable (λ a b. is_lt (row_cmp a.0 b.0)) (ranks_by row_total (λ e. e.0)) (answers_always _ _ _ (λ f a r g' h. search rules)) in
    record {
      ascending = up;
      complete = λ key sought.
          ap (map (λ (e : Row × Row). e.1)) (stable_at (λ (e : Row × Row). e.0) row_cmp row_total c.in_ok-list.list.items c.sort_by.new.self.items stable (key, key))
          ∙ ap (λ (zs : List (Row × Row)). rows_behind key zs) c.in_ok-list.ensures
          ∙ behind_is c.args.positions.now c.args.keys.now key sought c.args.r.now.rows;
    }

use Rattle.std.proofs.Common.{rules, ◌∙◌}
use Rattle.std.proofs.lemmas.Fn.{always_returns_same}
use Rattle.value_core.specs.Values.{Row, row_cmp}
use Rattle.value_core.specs.Order.{row_total}
use Rattle.value_core.proofs.RelationLemmas.{searched_has}
use Rattle.log_times.specs.Logs.{unstamped}
use Rattle.log_times.proofs.rows.has_rest.Goals as goal

pub returns : goal.returns
returns c =
    let sought = unstamped c.args.side c.args.row.now in
    c.is_ok.ensures.value
    ∙ searched_has row_cmp row_total c.args.rows.now sought c.binary_search_by.result c.requires.sorted c.binary_search_by.ensures.bound
    (c.binary_search_by.ensures.position (λ (key : Row). row_cmp key sought) (always_returns_same _ _ _ (λ a r q k. search rules)))

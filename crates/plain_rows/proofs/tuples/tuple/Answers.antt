use Rattle.plain_rows.proofs.WholeLemmas.{first-word, other-words, whole}
use Rattle.plain_rows.proofs.tuples.tuple.Goals as goal

pub element-requires : goal.element-requires
element-requires c = first-word _ c.in_ok-column.column.now c.in_ok-column.others.now c.in_ok-column.ensures.cases.0 c.requires

pub more_values-requires : goal.more_values-requires
more_values-requires c = other-words _ c.in_ok-column.column.now c.in_ok-column.others.now c.in_ok-column.ensures.cases.0 c.requires

pub returns : goal.returns
returns c = whole _ c.in_ok-column.column.now c.in_ok-column.others.now _ _ _ _ _ _ _ _ c.in_ok-column.ensures.cases.0 c.in_ok-opened.ensures c.in_ok-first.ensures c.past_space-more.ensures c.in_ok-values.ensures c.in_ok-rest.ensures

use Rattle.std.proofs.Common.{◌≡◌, true, sym, ap, ◌∙◌}
use Rattle.std.specs.Ordering.{is_lt}
use Rattle.value_core.specs.Values.{row_cmp}
use Rattle.value_core.proofs.AppendingLemmas.{sorted_behind}
use Rattle.row_removal.proofs.removal.are_behind.Goals as goal

pub returns : goal.returns
returns c = λ behind.
    let last = c.in-Some.last.now in
    let first = c.in-Some-split_first.first.now in
    let less : is_lt (row_cmp last first) ≡ true = sym (c.is_lt.ensures ∙ ap is_lt c.cmp.ensures) ∙ behind in
    sorted_behind c.args.rows.now c.args.more.now c.in-Some.field-0-1.now c.in-Some-split_first.field-0-1.now last first c.in-Some.ensures.cases.0 c.in-Some-split_first.ensures.cases.0 less c.requires.rows c.requires.more

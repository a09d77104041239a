use Rattle.std.proofs.Common.{ap, sym, subst, ◌∙◌}
use Rattle.value_core.specs.Values.{row_cmp}
use Rattle.base_core.specs.Sets.{in_order}
use Rattle.u_summarize.specs.Asked.{AreRanks}
use Rattle.u_summarize.specs.Groups.{labels_in}
use Rattle.u_summarize.proofs.RankLemmas.{labels_there, ranks_are}
use Rattle.u_summarize.proofs.ranks.ranks_of.Goals as goal

pub numbers_in-requires-clause-there : goal.numbers_in-requires-clause-there
numbers_in-requires-clause-there c = labels_there c.args.rows.now c.as_slice.result.now (c.as_slice.ensures.value ∙ c.in_ok-labels.ensures.labels ∙ ap (in_order row_cmp) c.in_ok-all.ensures)

pub returns : goal.returns
returns c =
    let rows = c.args.rows.now in
    let labels = c.as_slice.result.now in
    let there = labels_there rows labels (c.as_slice.ensures.value ∙ c.in_ok-labels.ensures.labels ∙ ap (in_order row_cmp) c.in_ok-all.ensures) in
    subst (AreRanks (labels_in rows)) (sym c.in_ok-ranks.ensures) (ranks_are rows labels there)

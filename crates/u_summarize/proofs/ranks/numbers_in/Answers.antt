use Rattle.std.proofs.Common.{sym, subst, ◌∙◌}
use Rattle.value_core.specs.Values.{Row}
use Rattle.cell_packing.specs.Covering.{Among}
use Rattle.cell_boxes.specs.Rows.{PlainCellBox}
use Rattle.u_summarize.proofs.ranks.numbers_in.Goals as goal

pub number_in-requires-clause-there : goal.number_in-requires-clause-there
number_in-requires-clause-there c =
    subst (λ (x : PlainCellBox Row). Among x.0 c.args.labels.now) (sym (c.row.view_is ∙ c.row-item.is)) (c.requires.there c.loop-row.row-index c.row-item.result c.loop-row-test.true)

use Rattle.std.proofs.Common.{pos, sym, ap, subst, ◌∙◌}
use Rattle.cell_boxes.specs.Totals.{IsTotal}
use Rattle.cell_boxes.proofs.TotalLemmas.{total_none}
use Rattle.u_summarize.specs.Figures.{PlainColumn, IsMeasured}
use Rattle.u_summarize.specs.declared.keeping.Kept.TheVariants.{Total}
use Rattle.u_summarize.proofs.keeping.none_kept.Goals as goal

pub returns-in-Sum : goal.returns-in-Sum
returns-in-Sum c = λ f within short none.
    let values = c.args.column.now.2 in
    let t = total_none values f within short none in
    subst (λ m. IsMeasured m values (Total (pos 0)) f) (sym c.in-Sum.is ∙ ap (λ (x : PlainColumn). x.0) c.column.view_is) (subst (λ n. IsTotal values n (pos 0) f) t.counted t)

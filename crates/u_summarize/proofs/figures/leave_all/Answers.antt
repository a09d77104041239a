use Rattle.std.proofs.Common.{◌≡◌, ◌<◌, Bool, false, List, set, length, arith, sym, subst, ◌∙◌}
use Rattle.std.proofs.lemmas.List.{get_or_default}
use Rattle.u_summarize.specs.Figures.{PlainColumn, IsKept, column_at, kept_at}
use Rattle.u_summarize.specs.declared.keeping.Kept.{Kept}
use Rattle.u_summarize.proofs.FigureLemmas.{turned_more}
use Rattle.u_summarize.proofs.figures.leave_all.Goals as goal

pub loop-j-preserved : goal.loop-j-preserved
loop-j-preserved c =
    let columns = c.args.columns.now in
    let kept = c.loop-j.kept.items in
    let j = c.loop-j.j in
    let row = c.args.row in
    let l : j < length columns = c.loop-j-test.true in
    record {
      within = omega (arith, l);
      turned = λ f is k h.
          let t = c.loop-j.invariant.turned f is k h in
          let m = t.many in
          let g : List Bool = set f row false in
          let at : column_at columns j ≡ c.index-columns-j.result = get_or_default columns j _ c.index-columns-j.result l ∙ sym c.index-columns-j.is in
          let own : kept_at kept j ≡ c.index_mut.result.now = get_or_default kept j _ c.index_mut.result.now (omega (arith, m, l)) ∙ sym c.index_mut.ensures.value in
          let made = c.leave_kept.ensures f (subst (λ (w : PlainColumn × Kept). IsKept w.0 w.1 f) (λ i. (at i, own i)) (t.rest j (omega arith) l)) k h in
          turned_more columns f g j kept c.leave_kept.new.kept t l (subst (λ (x : PlainColumn). IsKept x c.leave_kept.new.kept g) (sym at) made);
    }

use Rattle.std.proofs.Common.{◌≡◌, ◌<◌, ◌≤◌, length, arith, sym, subst, ◌∙◌}
use Rattle.std.proofs.lemmas.List.{get_or_default}
use Rattle.u_summarize.specs.Figures.{PlainColumn, IsKept, column_at}
use Rattle.u_summarize.proofs.FigureLemmas.{length_more, started_more}
use Rattle.u_summarize.proofs.figures.start_all.Goals as goal

pub loop-j-preserved : goal.loop-j-preserved
loop-j-preserved c =
    let columns = c.args.columns.now in
    let kept = c.loop-j.kept.items in
    let j = c.loop-j.j in
    let l : j < length columns = c.loop-j-test.true in
    let new = c.push.new.self.items in
    let made = c.in_ok-push.ensures.items in
    let many = c.loop-j.invariant.many in
    let at : column_at columns j ≡ c.index-columns-j.result = get_or_default columns j _ c.index-columns-j.result l ∙ sym c.index-columns-j.is in
    record {
      within = omega (arith, l);
      many = length_more kept new c.none_kept.result j many made;
      each = λ f all short none.
          let own = c.none_kept.ensures f (subst (λ (x : PlainColumn). length f ≤ length x.2) at (all j _ l)) short none in
          started_more columns f j kept new c.none_kept.result many (c.loop-j.invariant.each f all short none) (subst (λ (x : PlainColumn). IsKept x c.none_kept.result f) (sym at) own) made;
    }

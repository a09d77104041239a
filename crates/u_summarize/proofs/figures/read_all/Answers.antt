use Rattle.std.proofs.Common.{◌≡◌, ◌<◌, length, arith, sym, subst, ◌∙◌}
use Rattle.std.proofs.lemmas.List.{get_or_default}
use Rattle.u_summarize.specs.Figures.{PlainColumn, IsKept, column_at, kept_at}
use Rattle.u_summarize.specs.declared.keeping.Kept.{Kept}
use Rattle.u_summarize.proofs.FigureLemmas.{figures_more}
use Rattle.u_summarize.proofs.figures.read_all.Goals as goal

pub loop-j-preserved : goal.loop-j-preserved
loop-j-preserved c =
    let columns = c.args.columns.now in
    let kept = c.args.kept.now in
    let j = c.loop-j.j in
    let l : j < length columns = c.loop-j-test.true in
    let column = c.index-columns-j.result in
    let m = c.requires in
    let at : column_at columns j ≡ column = get_or_default columns j _ column l ∙ sym c.index-columns-j.is in
    let own : kept_at kept j ≡ c.index-kept-j.result = get_or_default kept j _ c.index-kept-j.result (omega (arith, m, l)) ∙ sym c.index-kept-j.is in
    record {
      within = omega (arith, l);
      read = λ f is.
          let held = subst (λ (w : PlainColumn × Kept). IsKept w.0 w.1 f) (λ i. (at i, own i)) (is.each j l) in
          figures_more columns f j column c.loop-j.list.items c.push.new.self.items c.figure.result l c.index-columns-j.is (c.figure.ensures f held) (c.loop-j.invariant.read f is) c.in_ok-push.ensures.items;
    }

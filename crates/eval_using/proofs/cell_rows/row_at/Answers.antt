use Rattle.std.proofs.Common.{◌≡◌, ◌+◌, suc, get_or, map, sym, ◌∙◌, subst, arith}
use Rattle.point_core.specs.Points.{number}
use Rattle.interval_core.specs.Members.{at_point}
use Rattle.value_core.specs.Attributes.{put_span}
use Rattle.value_core.specs.Plain.{plain}
use Rattle.eval_using.proofs.CellRowLemmas.{ArePut, more_put}
use Rattle.eval_using.proofs.cell_rows.row_at.Goals as goal

pub loop-j-preserved : goal.loop-j-preserved
loop-j-preserved c =
    let row = c.args.row.now in
    let commalist = c.args.commalist.now in
    let at = c.args.at.now in
    let j = c.loop-j.j in
    let old = map plain c.loop-j.values.items in
    let new = map plain c.put_first.new.values.items in
    let point = c.index-at-j.result in
    let is : new ≡ put_span old (get_or commalist j 0) (at_point (number (get_or at j point).0)) =
    c.put_first.ensures ∙ (λ t. put_span old (get_or commalist j 0) (at_point (number (c.index-at-j.is t).0))) in
    let z : suc j ≡ j + 1 = omega arith in
    subst (λ k. ArePut row commalist at k new) z (subst (ArePut row commalist at (suc j)) (sym is) (more_put row commalist at j old point c.requires.count c.loop-j-test.true c.loop-j.invariant))

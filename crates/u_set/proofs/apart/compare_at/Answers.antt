use Rattle.std.proofs.Common.{◌<◌, length, arith, sym, ◌∙◌}
use Rattle.u_set.proofs.ApartLemmas.{parts_stop, parts_go}
use Rattle.u_set.proofs.apart.compare_at.Goals as goal

pub returns-then-not-is_eq : goal.returns-then-not-is_eq
returns-then-not-is_eq c =
    let l : c.loop-position.position-index < length c.args.positions.now = omega arith in
    parts_stop c.args.positions.now c.args.x.now c.args.y.now c.values-left.result.now c.values-right.result.now c.values-left.ensures c.values-right.ensures c.loop-position.position-index c.compare_values-order.result l
    c.compare_values-order.ensures (sym c.is_eq.ensures ∙ c.if-not-is_eq.true) c.loop-position.invariant

pub loop-position-preserved : goal.loop-position-preserved
loop-position-preserved c =
    let l : c.loop-position.position-index < length c.args.positions.now = omega arith in
    parts_go c.args.positions.now c.args.x.now c.args.y.now c.values-left.result.now c.values-right.result.now c.values-left.ensures c.values-right.ensures c.loop-position.position-index c.compare_values-order.result l
    c.compare_values-order.ensures (sym c.is_eq.ensures ∙ c.if-not-is_eq.false) c.loop-position.invariant

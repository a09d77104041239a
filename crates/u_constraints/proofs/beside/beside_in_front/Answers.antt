use Rattle.u_set.specs.Apart.{span_in}
use Rattle.u_constraints.specs.Beside.{are_beside}
use Rattle.u_constraints.proofs.CoverLemmas.{spans_held}
use Rattle.u_constraints.proofs.FrontLemmas.{front_more, front_spans}
use Rattle.u_constraints.proofs.SearchLemmas.{in_order_too}
use Rattle.u_constraints.proofs.beside.beside_in_front.Goals as goal

pub with_prefix-requires : goal.with_prefix-requires
with_prefix-requires c = in_order_too c.args.r.now c.rows-given.result.now c.rows-given.ensures.rows c.rows-given.ensures.relation

pub add_beside-requires : goal.add_beside-requires
add_beside-requires c =
    front_spans c.args.at c.values-item.result c.rows-given.result.now c.with_prefix.result.now
    (spans_held c.args.r.now c.rows-given.ensures.relation c.args.at c.requires c.rows-given.result.now c.rows-given.ensures.rows) c.with_prefix.ensures

pub loop-values-preserved : goal.loop-values-preserved
loop-values-preserved c =
    front_more (λ x. are_beside (span_in c.args.at x) c.args.hull) c.args.r.now.rows c.rows-given.result.now c.args.list.now c.loop-values.values-index c.values-item.result _ _ _
    c.loop-values-test.true c.values-item.is c.rows-given.ensures.rows c.loop-values.invariant c.with_prefix.ensures c.in_ok-add_beside.ensures

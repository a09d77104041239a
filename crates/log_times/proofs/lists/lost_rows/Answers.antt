use Rattle.log_times.specs.Fronts.{has_front, is_behind}
use Rattle.log_times.proofs.FrontLemmas.{some_have, some_sorted, fewer_behind, lost_turn, lost_done}
use Rattle.log_times.proofs.lists.lost_rows.Goals as goal

pub add_lost-requires-clause-intervals : goal.add_lost-requires-clause-intervals
add_lost-requires-clause-intervals c =
    some_have (has_front c.args.side c.in-Some.first.now) c.args.side c.front.rest.now c.split_front.result.0.now c.split_front.ensures.same c.front.invariant.intervals

pub add_lost-requires-clause-sorted : goal.add_lost-requires-clause-sorted
add_lost-requires-clause-sorted c =
    some_sorted (has_front c.args.side c.in-Some.first.now) c.front.left.now c.split_front-in-Some.result.0.now c.split_front-in-Some.ensures.same c.front.invariant.gone

pub front-preserved : goal.front-preserved
front-preserved c =
    let side = c.args.side in
    let first = c.in-Some.first.now in
    let k = c.front.invariant in
    record {
      lost = lost_turn side c.front.left.now c.in-Some.field-0-1.now c.split_front-in-Some.result.0.now c.split_front-in-Some.result.1.now c.front.rest.now c.split_front.result.0.now c.split_front.result.1.now c.front.list.items _ _ first
          c.in-Some.ensures.cases.0 k.gone k.rows k.intervals c.split_front.ensures.same c.split_front.ensures.behind c.split_front-in-Some.ensures.same c.split_front-in-Some.ensures.behind k.lost c.in_ok-add_lost.ensures;
      intervals = some_have (is_behind side first) side c.front.rest.now c.split_front.result.1.now c.split_front.ensures.behind k.intervals;
      rows = some_sorted (is_behind side first) c.front.rest.now c.split_front.result.1.now c.split_front.ensures.behind k.rows;
      gone = some_sorted (is_behind side first) c.front.left.now c.split_front-in-Some.result.1.now c.split_front-in-Some.ensures.behind k.gone;
    }

pub front-smaller : goal.front-smaller
front-smaller c =
    fewer_behind c.args.side c.front.left.now c.in-Some.field-0-1.now c.split_front-in-Some.result.1.now c.in-Some.first.now c.in-Some.ensures.cases.0 c.split_front-in-Some.ensures.behind

pub returns : goal.returns
returns c = lost_done c.args.side c.front.left.now c.front.rest.now c.front.list.items _ c.in_default.ensures.cases c.front.invariant.lost

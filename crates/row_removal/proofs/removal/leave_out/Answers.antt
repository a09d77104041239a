use Rattle.std.proofs.Common.{◌≡◌, ◌<◌, length, get_or, ◌∙◌, arith}
use Rattle.base_core.specs.Sets.{has}
use Rattle.value_core.specs.Values.{row_cmp}
use Rattle.row_removal.proofs.LeavingLemmas.{goes_if, left_turn, rest_turn, same_rest, same_row}
use Rattle.row_removal.proofs.removal.leave_out.Goals as goal

pub loop-at-preserved : goal.loop-at-preserved
loop-at-preserved c =
    let old = c.args.rows.now.items in
    let gone = c.args.gone.now in
    let i = c.loop-at.at in
    let x = c.index.result.now in
    let k = c.loop-at.invariant in
    let goes = c.seek-found.result.0 in
    let kept = c.keep_unless-kept.ensures in
    let within : i < length old = omega (arith, c.loop-at-test.true, c.len-at-end.ensures) in
    let there : x ≡ get_or old i x = same_row c.loop-at.rows.items old i x k.back c.index.ensures in
    let has_it : goes ≡ has row_cmp gone x = goes_if old gone c.loop-at.rest.now i x goes within there c.seek-found.ensures.found k.same in
    record {
      len = kept.len ∙ k.len;
      kept = kept.kept;
      front = left_turn old gone _ _ i x goes within there has_it k.front (kept.front x c.index.ensures);
      back = kept.back ∙ same_rest c.loop-at.rows.items old i k.back;
      sorted = c.seek-found.ensures.sorted;
      same = rest_turn old gone c.loop-at.rest.now c.seek-found.result.1.now i x c.requires.rows within there c.seek-found.ensures.rest k.same;
    }

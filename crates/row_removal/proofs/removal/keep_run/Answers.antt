use Rattle.std.proofs.Common.{◌<◌, length, ◌∙◌, arith}
use Rattle.row_removal.proofs.CutLemmas.{run_more, seen_all}
use Rattle.row_removal.proofs.LeavingLemmas.{same_rest}
use Rattle.row_removal.proofs.removal.keep_run.Goals as goal

pub returns-then-kept-seen-clause-front : goal.returns-then-kept-seen-clause-front
returns-then-kept-seen-clause-front c = seen_all c.args.rows.now.items c.args.cut.kept c.args.cut.seen c.args.end c.if-kept-seen.true c.requires.seen

pub loop-at-preserved : goal.loop-at-preserved
loop-at-preserved c =
    let rows = c.args.rows.now.items in
    let now = c.loop-at.rows.items in
    let at = c.loop-at.at in
    let k = c.loop-at.invariant in
    let kept = c.keep_unless-kept.ensures in
    let within : at < length rows = omega (arith, c.loop-at-test.true, c.requires.end) in
    let inside : at < length now = omega (arith, c.loop-at-test.true, c.requires.end, k.len) in
    record {
      len = kept.len ∙ k.len;
      kept = kept.kept;
      seen = omega (arith, k.seen);
      front = run_more rows now c.keep_unless-kept.new.rows.items c.args.cut.kept c.loop-at.kept c.keep_unless-kept.result c.args.cut.seen at k.seen within inside k.back k.front kept.front;
      back = kept.back ∙ same_rest now rows at k.back;
    }

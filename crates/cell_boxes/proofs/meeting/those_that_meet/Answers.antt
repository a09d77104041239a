use Rattle.std.proofs.Common.{rules}
use Rattle.std.proofs.lemmas.Fn.{filter_same}
use Rattle.cell_boxes.specs.Meetings.{meets, boxes_in}
use Rattle.cell_boxes.proofs.MeetingLemmas.{kept_candidates}
use Rattle.cell_boxes.proofs.meeting.those_that_meet.Goals as goal

pub returns : goal.returns
returns g c =
    let left = c.args.left.now in
    let right = c.args.right.now in
    let kept = filter_same _ (meets (boxes_in left) (boxes_in right)) _ (λ x a f' k. search rules) _ _ c.retain.ensures.filtered in
    kept_candidates g.P.Label.order g.met.P.Label.total left right c.args.pairs.items c.retain.new.self.items kept

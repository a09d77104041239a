use Rattle.std.proofs.Common.{◌≡◌, take, flat_map}
use Rattle.cell_boxes.specs.Meetings.{met, boxes_in}
use Rattle.cell_boxes.proofs.meeting.meetings.Given as goal

abbrev pub invariant-loop-pair : goal.invariant-loop-pair
invariant-loop-pair g l = l.out.items ≡ flat_map (met (boxes_in l.left) (boxes_in l.right)) (take l.pair-index l.pairs)

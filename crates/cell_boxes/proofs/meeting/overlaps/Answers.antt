use Rattle.std.proofs.Common.{◌≡◌, ℕ, ◌<◌, ◌↔◌, List, length, flat_map, sym, subst, ◌∙◌, ap}
use Rattle.std.specs.List.{All}
use Rattle.cell_packing.specs.Covering.{Among}
use Rattle.cell_boxes.specs.Meetings.{Met, met, boxes_in, IsMeeting, StandByLeft}
use Rattle.cell_boxes.proofs.MeetingLemmas.{meeting_grid_points, alike, pairs_below, all_meetings, meetings_stand}
use Rattle.cell_boxes.proofs.SideLemmas.{sorted_candidates}
use Rattle.cell_boxes.proofs.meeting.overlaps.Goals as goal

pub meetings-requires-clause-pairs : goal.meetings-requires-clause-pairs
meetings-requires-clause-pairs g c =
    let o = g.P.Label.order in
    let t = g.met.P.Label.total in
    let left = c.args.left.now in
    let right = c.args.right.now in
    let is = sorted_candidates o t left right c.those_that_meet-kept.result.items c.sort.new.self.items c.in_ok-sort.ensures.permutation (c.those_that_meet-kept.ensures c.in_ok-pairs.ensures) in
    subst (All (λ (p : ℕ × ℕ). (p.0 < length left) × (p.1 < length right))) (sym c.as_slice.ensures.value)
    (pairs_below o t left right c.args.sides c.requires.left c.requires.right c.sort.new.self.items is)

pub meetings-requires-clause-sides : goal.meetings-requires-clause-sides
meetings-requires-clause-sides g c = alike g.P.Label.order g.met.P.Label.total c.args.left.now c.args.right.now c.args.sides c.requires.left c.requires.right

pub returns-clause-members : goal.returns-clause-members
returns-clause-members g c =
    let o = g.P.Label.order in
    let t = g.met.P.Label.total in
    let left = c.args.left.now in
    let right = c.args.right.now in
    let is = sorted_candidates o t left right c.those_that_meet-kept.result.items c.sort.new.self.items c.in_ok-sort.ensures.permutation (c.those_that_meet-kept.ensures c.in_ok-pairs.ensures) in
    let e : c.in_ok-out.out.items ≡ flat_map (met (boxes_in left) (boxes_in right)) c.sort.new.self.items = c.in_ok-out.ensures ∙ ap (flat_map (met (boxes_in left) (boxes_in right))) c.as_slice.ensures.value in
    subst (λ (ms : List Met). (m : Met) → Among m ms ↔ IsMeeting o left right m) (sym e)
    (all_meetings o t left right c.args.sides c.requires.left c.requires.right c.sort.new.self.items is)

pub returns-clause-order : goal.returns-clause-order
returns-clause-order g c =
    let o = g.P.Label.order in
    let t = g.met.P.Label.total in
    let left = c.args.left.now in
    let right = c.args.right.now in
    let is = sorted_candidates o t left right c.those_that_meet-kept.result.items c.sort.new.self.items c.in_ok-sort.ensures.permutation (c.those_that_meet-kept.ensures c.in_ok-pairs.ensures) in
    let e : c.in_ok-out.out.items ≡ flat_map (met (boxes_in left) (boxes_in right)) c.sort.new.self.items = c.in_ok-out.ensures ∙ ap (flat_map (met (boxes_in left) (boxes_in right))) c.as_slice.ensures.value in
    subst StandByLeft (sym e)
    (meetings_stand o t left right c.args.sides c.requires.left c.requires.right c.sort.new.self.items is c.requires.right_order c.in_ok-sort.ensures.sorted)

pub returns-clause-grid_points : goal.returns-clause-grid_points
returns-clause-grid_points g c = meeting_grid_points g.P.Label.order g.met.P.Label.total c.args.left.now c.args.right.now c.args.sides c.requires.left c.requires.right c.in_ok-out.out.items (returns-clause-members g c)

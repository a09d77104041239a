use Rattle.std.proofs.Common.{◌≡◌, ℕ, ◌+◌, ◌↔◌, List, ◌∷◌, ◌++◌, [], length, drop, arith, rules, subst, sym, ap, ◌∙◌}
use Rattle.std.proofs.lemmas.Iterator.Adapters.{YieldsList-from_vec}
use Rattle.std.proofs.lemmas.Iterator.Consumers.{YieldsList-turn, YieldsList-end}
use Rattle.std.proofs.lemmas.List.{length_push}
use Rattle.std.specs.List.{All}
use Rattle.cell_packing.specs.Covering.{Among}
use Rattle.cell_sweep.specs.Rows.{sides_of}
use Rattle.cell_sweep.specs.declared.inward.IndexBox.{IndexBox}
use Rattle.cell_boxes.specs.Common.{At, EndsBy}
use Rattle.cell_boxes.specs.Meetings.{Met, IsMeeting, StandByLeft}
use Rattle.cell_boxes.specs.Outside.{HasBox, IsClear}
use Rattle.cell_boxes.specs.Rows.{IsRow, PlainCellBox}
use Rattle.cell_boxes.proofs.RestLemmas.{from_more, hole_sides, hole_order, rest_turn, rest_sides, rest_ends, drop_row}
use Rattle.cell_boxes.proofs.RowLemmas.{row_there}
use Rattle.cell_boxes.proofs.SharedLemmas.{map_same}
use Rattle.cell_boxes.proofs.remaining.rest.Goals as goal

pub push_rest-requires-clause-same : goal.push_rest-requires-clause-same
push_rest-requires-clause-same g c =
    let o = g.P.Label.order in
    let t = g.met.P.Label.total in
    let s = g.met.P.Label.separates in
    let left = c.args.left.items in
    let labels = c.args.labels.items in
    let right = c.args.right.now in
    let holes = c.as_slice-holes.result.now in
    let met = subst (λ (ls : List (PlainCellBox _)). (m : Met) → Among m c.in_ok-meetings.meetings.items ↔ IsMeeting o ls right m) c.as_slice.ensures.value c.in_ok-meetings.ensures.members in
    let is = subst (λ (ms : List Met). (m : Met) → Among m ms ↔ IsMeeting o left right m) (sym c.as_slice-holes.ensures.value) met in
    let stand = subst StandByLeft (sym c.as_slice-holes.ensures.value) c.in_ok-meetings.ensures.order in
    let l0 = c.in-Some.label in
    let turn = YieldsList-turn (YieldsList-from_vec {s = c.into_iter-label-iterator.result} labels (search rules) (search rules)) c.loop-label.yielded c.loop-label.label-iterator c.loop-label.yielded_by c.next.result c.next.new.self l0 c.in-Some.is c.next.ensures.steps in
    let row : ℕ = c.loop-label.row in
    let named : IsRow labels row l0 = subst (λ n. IsRow labels n l0) (sym c.loop-label.invariant.count) (turn.0, sym turn.1) in
    let low = named.0 in
    let there = row_there left row (omega (arith, c.requires.labels)) in
    let x = there.0 in
    let at = there.1 in
    let e = c.holes_end-end.ensures in
    let own = c.next_sides-own.ensures x (drop (row + 1) left) (c.loop-label.invariant.rows ∙ drop_row left row x at) in
    let sides : c.next_sides-own.result.items ≡ x.1 = own.0 in
    λ q m h a b. hole_sides o t s left right c.args.sides c.requires.left c.requires.right holes is stand row c.loop-label.first c.holes_end-end.result c.loop-label.invariant.from e.from e.within e.same e.other x at q m h a b ∙ sym (ap length sides)

pub push_rest-requires-clause-order : goal.push_rest-requires-clause-order
push_rest-requires-clause-order g c =
    let o = g.P.Label.order in
    let t = g.met.P.Label.total in
    let s = g.met.P.Label.separates in
    let left = c.args.left.items in
    let labels = c.args.labels.items in
    let right = c.args.right.now in
    let holes = c.as_slice-holes.result.now in
    let met = subst (λ (ls : List (PlainCellBox _)). (m : Met) → Among m c.in_ok-meetings.meetings.items ↔ IsMeeting o ls right m) c.as_slice.ensures.value c.in_ok-meetings.ensures.members in
    let is = subst (λ (ms : List Met). (m : Met) → Among m ms ↔ IsMeeting o left right m) (sym c.as_slice-holes.ensures.value) met in
    let stand = subst StandByLeft (sym c.as_slice-holes.ensures.value) c.in_ok-meetings.ensures.order in
    let l0 = c.in-Some.label in
    let turn = YieldsList-turn (YieldsList-from_vec {s = c.into_iter-label-iterator.result} labels (search rules) (search rules)) c.loop-label.yielded c.loop-label.label-iterator c.loop-label.yielded_by c.next.result c.next.new.self l0 c.in-Some.is c.next.ensures.steps in
    let row : ℕ = c.loop-label.row in
    let named : IsRow labels row l0 = subst (λ n. IsRow labels n l0) (sym c.loop-label.invariant.count) (turn.0, sym turn.1) in
    let low = named.0 in
    let there = row_there left row (omega (arith, c.requires.labels)) in
    let x = there.0 in
    let at = there.1 in
    let e = c.holes_end-end.ensures in
    let own = c.next_sides-own.ensures x (drop (row + 1) left) (c.loop-label.invariant.rows ∙ drop_row left row x at) in
    let sides : c.next_sides-own.result.items ≡ x.1 = own.0 in
    hole_order o t s left right c.args.sides c.requires.left c.requires.right holes is stand row c.loop-label.first c.holes_end-end.result c.loop-label.invariant.from e.from e.within e.same e.other x at

pub loop-label-preserved : goal.loop-label-preserved
loop-label-preserved g c =
    let o = g.P.Label.order in
    let t = g.met.P.Label.total in
    let s = g.met.P.Label.separates in
    let left = c.args.left.items in
    let labels = c.args.labels.items in
    let right = c.args.right.now in
    let holes = c.as_slice-holes.result.now in
    let met = subst (λ (ls : List (PlainCellBox _)). (m : Met) → Among m c.in_ok-meetings.meetings.items ↔ IsMeeting o ls right m) c.as_slice.ensures.value c.in_ok-meetings.ensures.members in
    let is = subst (λ (ms : List Met). (m : Met) → Among m ms ↔ IsMeeting o left right m) (sym c.as_slice-holes.ensures.value) met in
    let stand = subst StandByLeft (sym c.as_slice-holes.ensures.value) c.in_ok-meetings.ensures.order in
    let l0 = c.in-Some.label in
    let turn = YieldsList-turn (YieldsList-from_vec {s = c.into_iter-label-iterator.result} labels (search rules) (search rules)) c.loop-label.yielded c.loop-label.label-iterator c.loop-label.yielded_by c.next.result c.next.new.self l0 c.in-Some.is c.next.ensures.steps in
    let row : ℕ = c.loop-label.row in
    let named : IsRow labels row l0 = subst (λ n. IsRow labels n l0) (sym c.loop-label.invariant.count) (turn.0, sym turn.1) in
    let low = named.0 in
    let there = row_there left row (omega (arith, c.requires.labels)) in
    let x = there.0 in
    let at = there.1 in
    let e = c.holes_end-end.ensures in
    let own = c.next_sides-own.ensures x (drop (row + 1) left) (c.loop-label.invariant.rows ∙ drop_row left row x at) in
    let sides : c.next_sides-own.result.items ≡ x.1 = own.0 in
    let longer : length (c.loop-label.yielded ++ l0 ∷ []) ≡ length c.loop-label.yielded + 1 = length_push c.loop-label.yielded l0 in
    let leaves = c.in_ok-push_rest.ensures in
    let parts = leaves.parts in
    let grid_points = subst (λ y. (grid_point : List ℕ) → length grid_point ≡ length y → HasBox (sides_of parts) grid_point ↔ At y grid_point × IsClear holes c.loop-label.first c.holes_end-end.result grid_point) sides leaves.grid_points in
    let lengths = subst (λ (y : List (ℕ × ℕ)). All (λ (z : IndexBox). length z.sides.items ≡ length y) parts) sides leaves.lengths in
    let ends = subst (λ y. (z : List (ℕ × ℕ)) → Among z (sides_of parts) → EndsBy y z) sides leaves.ends in
    let made = leaves.made in
    record {
      can = search rules;
      finite = search rules;
      count = omega (arith, longer, c.loop-label.invariant.count);
      rows = own.1;
      from = from_more o t s left right c.args.sides c.requires.left c.requires.right holes is stand row c.loop-label.first c.holes_end-end.result c.loop-label.invariant.from e.from e.within e.same e.other;
      grid_points = rest_turn o t s left right c.args.sides c.requires.left c.requires.right holes is stand row c.loop-label.first c.holes_end-end.result c.loop-label.invariant.from e.from e.within e.same e.other x at labels l0 named parts c.loop-label.out.items c.push_rest.new.out.items made grid_points c.loop-label.invariant.grid_points;
      box_ends = rest_ends o t s left right c.args.sides c.requires.left c.requires.right holes is stand row c.loop-label.first c.holes_end-end.result c.loop-label.invariant.from e.from e.within e.same e.other x at labels l0 named parts c.loop-label.out.items c.push_rest.new.out.items made grid_points c.loop-label.invariant.box_ends ends;
      lengths = rest_sides o t s left right c.args.sides c.requires.left c.requires.right holes is stand row c.loop-label.first c.holes_end-end.result c.loop-label.invariant.from e.from e.within e.same e.other x at labels l0 named parts c.loop-label.out.items c.push_rest.new.out.items made grid_points c.loop-label.invariant.lengths lengths;
    }

pub returns-clause-grid_points : goal.returns-clause-grid_points
returns-clause-grid_points g c = λ l grid_point f.
    let labels = c.args.labels.items in
    let t = YieldsList-end (YieldsList-from_vec {s = c.into_iter-label-iterator.result} labels (search rules) (search rules)) c.loop-label.yielded c.loop-label.label-iterator c.loop-label.yielded_by c.next.result c.next.new.self c.in-None.is c.next.ensures.steps in
    let all : length c.loop-label.yielded ≡ length labels = ap length (sym (map_same c.loop-label.yielded) ∙ t.0) in
    let v = c.loop-label.invariant.grid_points l grid_point f in (
      λ h. let w = v.0 h in (w.0, w.2, w.3, w.4, w.5, w.6),
      λ h. let w = h.2.0 in v.1 (h.0, omega (arith, all, c.loop-label.invariant.count), h.1, h.2, h.3, h.4, h.5),
    )

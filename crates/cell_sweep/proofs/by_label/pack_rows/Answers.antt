use Rattle.std.proofs.Common.{◌≡◌, ◌≢◌, ℕ, ◌<◌, ◌≤◌, ◌↔◌, List, arith, length, slice_index_or, subst, sym}
use Rattle.std.specs.List.{All}
use Rattle.std.specs.declared.cmp.Ordering.TheVariants.{Equal}
use Rattle.cell_packing.specs.Covering.{Among}
use Rattle.cell_sweep.specs.declared.inward.IndexBox.{IndexBox}
use Rattle.cell_sweep.specs.PackedRows.{IsPackedOf, IsUnitedRow}
use Rattle.cell_sweep.specs.Rows.{sides_of, AreRows}
use Rattle.cell_sweep.proofs.Turns.{AreRows-wider}
use Rattle.cell_sweep.proofs.Steps.{sorted_nil}
use Rattle.cell_sweep.proofs.UnitedLemmas.{Row}
use Rattle.cell_sweep.proofs.LabelRows.{IsAt, no_cut, none_done, group_cut, rows_turn, sorted_turn, sorted_ascends, all_done, boxes_length, boxes_sides}
use Rattle.cell_sweep.proofs.by_label.pack_rows.Goals as goal

pub returns-then-sides-eq1-clause-rows : goal.returns-then-sides-eq1-clause-rows
returns-then-sides-eq1-clause-rows g c =
    let one : 1 ≡ c.args.sides = sym c.if-sides-eq1.true in
    subst (λ n. (x : _ × List (ℕ × ℕ)) → Among x c.in_ok-whole.whole.items ↔ (length x.1 ≡ n) × IsPackedOf n c.args.rows.items x) one c.in_ok-whole.ensures.rows

pub loop-first-init : goal.loop-first-init
loop-first-init g c =
    let o = g.P.Label.order in
    let t = g.met.P.Label.total in
    let s = g.met.P.Label.separates in
    let labels = c.in_ok-labels.labels.items in
    let boxes = sides_of c.in_ok-labels.boxes.items in
    record {
      within = omega arith;
      cut = no_cut o t s labels boxes;
      rows = λ x. (λ h. absurd (subst (Among x) c.new-out.ensures.items h), λ h. absurd (none_done o t s labels boxes c.args.sides x h));
      sorted = sorted_nil o t s c.new-out.result.items c.new-out.ensures.items;
    }

pub push_packed-requires-clause-rows : goal.push_packed-requires-clause-rows
push_packed-requires-clause-rows g c =
    let n : length c.in_ok-labels.boxes.items ≡ length c.in_ok-labels.labels.items = boxes_length c.in_ok-labels.labels.items c.in_ok-labels.boxes.items c.sort.new.self.items c.in_ok-labels.ensures.labels c.in_ok-labels.ensures.boxes in
    let w : c.label_end-end.result ≤ length c.in_ok-labels.labels.items = subst (λ xs. c.label_end-end.result ≤ length xs) c.as_slice.ensures.value c.label_end-end.ensures.within in
    subst (λ (xs : List IndexBox). AreRows 0 (length xs) c.as_slice-in-loop-first-2.result.now) (sym c.as_slice-in-loop-first.ensures.value)
    (subst (AreRows 0 (length c.in_ok-labels.boxes.items)) (sym c.as_slice-in-loop-first-2.ensures.value)
    (AreRows-wider 0 c.loop-first.first c.label_end-end.result (length c.in_ok-labels.boxes.items) c.number.new.list.items (omega arith) (omega arith) c.in_ok-number.ensures.order))

pub push_packed-requires-clause-sides : goal.push_packed-requires-clause-sides
push_packed-requires-clause-sides g c =
    subst (All (λ (x : IndexBox). c.args.sides ≤ length x.sides.items)) (sym c.as_slice-in-loop-first.ensures.value)
    (boxes_sides c.in_ok-labels.labels.items c.in_ok-labels.boxes.items c.sort.new.self.items c.in_ok-labels.ensures.labels c.in_ok-labels.ensures.boxes
    g.P.Label.order g.met.P.Label.total g.met.P.Label.separates c.args.rows.items c.in_ok-sort.ensures.permutation c.args.sides c.requires.sides)

pub loop-first-preserved : goal.loop-first-preserved
loop-first-preserved g c =
    let o = g.P.Label.order in
    let t = g.met.P.Label.total in
    let s = g.met.P.Label.separates in
    let labels = c.in_ok-labels.labels.items in
    let boxes = sides_of c.in_ok-labels.boxes.items in
    let n : ℕ = c.args.sides in
    let first : ℕ = c.loop-first.first in
    let end : ℕ = c.label_end-end.result in
    let l0 = c.index.result.now in
    let v = c.as_slice.ensures.value in
    let within : end ≤ length labels = subst (λ xs. end ≤ length xs) v c.label_end-end.ensures.within in
    let after : first < end = c.label_end-end.ensures.after in
    let some : first < length labels = omega arith in
    let at0 : IsAt o t s labels boxes first l0 = (some, sym c.index.ensures) in
    let cut = c.loop-first.invariant.cut in
    let ascends = sorted_ascends o t s labels boxes c.args.rows.items c.sort.new.self.items c.in_ok-sort.ensures.permutation c.in_ok-labels.ensures.labels c.in_ok-labels.ensures.boxes c.in_ok-sort.ensures.sorted in
    let same = subst (λ xs. (j : ℕ) (d e : _) → first ≤ j → j < end → o (slice_index_or xs first d) (slice_index_or xs j e) ≡ Equal) v c.label_end-end.ensures.same in
    let other = subst (λ xs. (d e : _) → end < length xs → o (slice_index_or xs first d) (slice_index_or xs end e) ≢ Equal) v c.label_end-end.ensures.other in
    let live = c.number.new.list.items in
    let pushed = c.in_ok-push_packed.ensures in
    let packed : List Row = pushed.0 in
    let is : (x : Row) → Among x packed ↔ (length x.1 ≡ n) × IsUnitedRow n boxes live x =
    subst (λ m. (x : Row) → Among x packed ↔ (length x.1 ≡ n) × IsUnitedRow n boxes m x) c.as_slice-in-loop-first-2.ensures.value
    (subst (λ (bs : List IndexBox). (x : Row) → Among x packed ↔ (length x.1 ≡ n) × IsUnitedRow n (sides_of bs) c.as_slice-in-loop-first-2.result.now x) c.as_slice-in-loop-first.ensures.value pushed.2) in
    record {
      within = within;
      cut = group_cut o t s labels boxes first end within after l0 at0 cut ascends same other;
      rows = rows_turn o t s labels boxes first end within after l0 at0 cut ascends same other live c.in_ok-number.ensures.members n c.loop-first.out.items c.push_packed.new.out.items packed pushed.1 is c.loop-first.invariant.rows;
      sorted = sorted_turn o t s labels boxes first end within after l0 at0 cut ascends same other live c.in_ok-number.ensures.members n c.loop-first.out.items c.push_packed.new.out.items packed pushed.1 is c.loop-first.invariant.rows c.loop-first.invariant.sorted pushed.3;
    }

pub returns-clause-rows : goal.returns-clause-rows
returns-clause-rows g c =
    all_done g.P.Label.order g.met.P.Label.total g.met.P.Label.separates c.in_ok-labels.labels.items (sides_of c.in_ok-labels.boxes.items)
    c.args.rows.items c.sort.new.self.items c.in_ok-sort.ensures.permutation c.in_ok-labels.ensures.labels c.in_ok-labels.ensures.boxes
    c.args.sides c.loop-first.first (omega arith) c.loop-first.out.items c.loop-first.invariant.rows

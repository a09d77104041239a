use Rattle.std.proofs.Common.{◌≡◌, ℕ, ◌<◌, ◌≤◌, ◌↔◌, ◌-◌, List, length}
use Rattle.std.specs.List.Sorted.{IsStrictlySortedBy}
use Rattle.cell_packing.specs.Covering.{Among}
use Rattle.cell_sweep.specs.Rows.{sides_of, key_cmp}
use Rattle.cell_sweep.proofs.LabelRows.{IsAt, IsPackedAt, IsCut}
use Rattle.cell_sweep.proofs.by_label.pack_rows.Given as goal

abbrev pub decreases-loop-first : goal.decreases-loop-first
decreases-loop-first g l = length l.labels.items - l.first

abbrev pub invariant-loop-first : goal.invariant-loop-first
invariant-loop-first g l =
    let o = g.P.Label.order in
    let labels = l.labels.items in
    let boxes = sides_of l.boxes.items in
    record {
      within : l.first ≤ length labels;
      cut : IsCut o g.met.P.Label.total g.met.P.Label.separates labels boxes l.first;
      rows : (x : _ × List (ℕ × ℕ)) → Among x l.out.items ↔ (length x.1 ≡ l.sides) × IsPackedAt o g.met.P.Label.total g.met.P.Label.separates labels boxes l.sides x × ((r : ℕ) × (r < l.first) × IsAt o g.met.P.Label.total g.met.P.Label.separates labels boxes r x.0);
      sorted : IsStrictlySortedBy (key_cmp o) l.out.items;
    }

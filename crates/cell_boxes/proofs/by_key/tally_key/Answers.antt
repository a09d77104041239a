use Rattle.std.proofs.Common.{◌<◌, ◌≤◌, ℕ, List, inl, inr, sym, subst, length, get_or}
use Rattle.std.specs.List.{All}
use Rattle.cell_packing.specs.Covering.{Among}
use Rattle.cell_boxes.specs.Tallies.{span_at, AreBy}
use Rattle.cell_boxes.proofs.CellLemmas.{by_below, by_number}
use Rattle.cell_boxes.proofs.by_key.tally_key.Goals as goal

pub tally_rows-requires-clause-starts : goal.tally_rows-requires-clause-starts
tally_rows-requires-clause-starts g c =
    subst (All (λ (x : ℕ × ℕ). x.1 < length c.args.spans.now)) (sym c.as_slice-firsts.ensures.value) (by_below (λ r. (span_at c.args.spans.now r).0) c.args.rows c.in_ok-starts.starts.items (length c.args.spans.now) c.requires.within c.in_ok-starts.ensures)

pub tally_rows-requires-clause-ends : goal.tally_rows-requires-clause-ends
tally_rows-requires-clause-ends g c =
    subst (All (λ (x : ℕ × ℕ). x.1 < length c.args.spans.now)) (sym c.as_slice-lasts.ensures.value) (by_below (λ r. (span_at c.args.spans.now r).1) c.args.rows c.in_ok-ends.ends.items (length c.args.spans.now) c.requires.within c.in_ok-ends.ensures)

pub tally_rows-requires-clause-by_start : goal.tally_rows-requires-clause-by_start
tally_rows-requires-clause-by_start g c = subst (AreBy (λ r. (span_at c.args.spans.now r).0) c.args.rows) (sym c.as_slice-firsts.ensures.value) c.in_ok-starts.ensures

pub tally_rows-requires-clause-by_end : goal.tally_rows-requires-clause-by_end
tally_rows-requires-clause-by_end g c = subst (AreBy (λ r. (span_at c.args.spans.now r).1) c.args.rows) (sym c.as_slice-lasts.ensures.value) c.in_ok-ends.ensures

pub tally_rows-requires-clause-order : goal.tally_rows-requires-clause-order
tally_rows-requires-clause-order g c =
    subst (λ (cuts : List ℕ). (i j : ℕ) → i ≤ j → j < length cuts → get_or cuts i 0 ≤ get_or cuts j 0) (sym c.as_slice-cuts.ensures.value) c.in_ok-cells.ensures.order

pub tally_rows-requires-clause-cuts : goal.tally_rows-requires-clause-cuts
tally_rows-requires-clause-cuts g c = λ r w.
    let spans = c.args.spans.now in
    let rows : ℕ × ℕ = c.args.rows in
    let by_start = subst (AreBy (λ r. (span_at spans r).0) rows) (sym c.as_slice-firsts.ensures.value) c.in_ok-starts.ensures in
    let by_end = subst (AreBy (λ r. (span_at spans r).1) rows) (sym c.as_slice-lasts.ensures.value) c.in_ok-ends.ensures in
    let cells = c.in_ok-cells.ensures.cuts in
    subst (λ (cuts : List ℕ). Among (span_at spans r).0 cuts × Among (span_at spans r).1 cuts) (sym c.as_slice-cuts.ensures.value) (
      by_number (λ r. (span_at spans r).0) rows c.as_slice-firsts.result.now c.in_ok-cells.cells.items by_start (λ x m. cells x (inl m)) r w,
      by_number (λ r. (span_at spans r).1) rows c.as_slice-lasts.result.now c.in_ok-cells.cells.items by_end (λ x m. cells x (inr m)) r w,
    )

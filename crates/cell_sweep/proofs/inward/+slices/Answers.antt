use Rattle.std.proofs.Common.{arith, ◌≡◌, ℕ, suc, ◌<◌, ◌≤◌, ◌-◌, ◌+◌, ◌↔◌, ◌⊎◌, inl, inr, refl, sym, subst, ◌∙◌, List, [], map, length, get_or, Some}
use Rattle.std.specs.List.{filter}
use Rattle.std.proofs.lemmas.List.Elements.{All-same, All-nil, All-append, All-map, All-from_recursion}
use Rattle.std.proofs.lemmas.List.{nil_from_length}
use Rattle.cell_packing.specs.Covering.{Among}
use Rattle.cell_packing.specs.Pieces.{Covers}
use Rattle.cell_packing.specs.Live.{side_has, IsSliceRow, IsSomewhere}
use Rattle.cell_packing.specs.declared.Piece.{Piece}
use Rattle.point_core.specs.LeastFault.{IsLeast}
use Rattle.cell_sweep.specs.Rows.{sides_of, key_cmp, tag, AreRows, GivesLabel, GivesFault, volume, own_numbers}
use Rattle.cell_sweep.proofs.Steps.{rows_answer, rows_sorted, covers_all, covers_step, sorted_nil, leaf_sorted}
use Rattle.cell_sweep.proofs.Turns.{none_row, none_live, least_kept, rows_above, rows_below, leaf_rows, leaf_fault, least_more, least_step, cost_none, cost_within, cost_step, AreRows-filter, has_sides, none_from, not_below_zero, some_live, somewhere_more}
use Rattle.cell_sweep.proofs.Sweeping.{sweep_later, starts_below, live_below}
use Rattle.cell_sweep.proofs.inward.+slices.Goals as goal

pub returns-then-are_none-clause-rows : goal.returns-then-are_none-clause-rows
returns-then-are_none-clause-rows g t c = λ x.
    let e = c.are_none.ensures.yes c.if-are_none.true in (
      λ h. absurd (subst (Among x) c.new.ensures.items h),
      λ h. absurd (none_row c.args.sides (GivesLabel (g.O.CellOp.means c.args.op.now) c.args.split) (sides_of c.args.boxes.now) c.args.left.now c.args.right.now x.0 x.1 (nil_from_length c.args.left.now e.0) (nil_from_length c.args.right.now e.1) h.1),
    )

pub returns-then-are_none-clause-sorted : goal.returns-then-are_none-clause-sorted
returns-then-are_none-clause-sorted g t c = sorted_nil g.O.Out.Label.order g.met.O.Out.Label.total g.met.O.Out.Label.separates c.new.result.items c.new.ensures.items

pub returns-then-are_none-clause-least : goal.returns-then-are_none-clause-least
returns-then-are_none-clause-least g t c =
    let e = c.are_none.ensures.yes c.if-are_none.true in
    least_kept (IsSomewhere c.args.sides (GivesFault (g.O.CellOp.means c.args.op.now) c.args.split) (sides_of c.args.boxes.now) c.args.left.now c.args.right.now) c.args.least.now
    (λ d q. none_live (GivesFault (g.O.CellOp.means c.args.op.now) c.args.split) (sides_of c.args.boxes.now) c.args.left.now c.args.right.now d q.0 (nil_from_length c.args.left.now e.0) (nil_from_length c.args.right.now e.1) q.2)

pub leaf-requires-clause-right : goal.leaf-requires-clause-right
leaf-requires-clause-right g t c = All-from_recursion (λ r. c.args.split ≤ r) c.args.right.now (rows_above c.args.split (length c.args.boxes.now) c.args.split c.args.right.now c.requires.right (omega arith))

pub leaf-requires-clause-can : goal.leaf-requires-clause-can
leaf-requires-clause-can g t c = c.requires.can c.args.left.now c.args.right.now c.requires.left c.requires.right

pub returns-then-sides-eq0-clause-rows : goal.returns-then-sides-eq0-clause-rows
returns-then-sides-eq0-clause-rows g t c =
    leaf_rows (g.O.CellOp.means c.args.op.now) c.args.split (sides_of c.args.boxes.now) c.args.left.now c.args.right.now
    (some_live c.args.left.now c.args.right.now (c.are_none.ensures.no c.if-are_none.false)) c.args.sides (omega arith) c.in_ok-rows.rows.items c.in_ok-rows.ensures.rows

pub returns-then-sides-eq0-clause-sorted : goal.returns-then-sides-eq0-clause-sorted
returns-then-sides-eq0-clause-sorted g t c =
    leaf_sorted g.O.Out.Label.order g.met.O.Out.Label.total g.met.O.Out.Label.separates
    (g.O.CellOp.means c.args.op.now c.args.left.now (own_numbers c.args.split c.args.right.now)) c.in_ok-rows.rows.items c.in_ok-rows.ensures.rows
    (λ v e. g.met.O.CellOp.in_order c.args.op.now c.args.left.now (own_numbers c.args.split c.args.right.now) v (c.requires.can c.args.left.now c.args.right.now c.requires.left c.requires.right) e)

pub returns-then-sides-eq0-clause-least : goal.returns-then-sides-eq0-clause-least
returns-then-sides-eq0-clause-least g t c =
    let f = GivesFault (g.O.CellOp.means c.args.op.now) c.args.split in
    least_more (λ e. f e c.args.left.now c.args.right.now) (IsSomewhere c.args.sides f (sides_of c.args.boxes.now) c.args.left.now c.args.right.now) c.args.least.now c.leaf.new.least
    (leaf_fault (g.O.CellOp.means c.args.op.now) c.args.split (sides_of c.args.boxes.now) c.args.left.now c.args.right.now
    (some_live c.args.left.now c.args.right.now (c.are_none.ensures.no c.if-are_none.false)) c.args.sides (omega arith))
    c.in_ok-rows.ensures.least

pub loop-cell-init : goal.loop-cell-init
loop-cell-init g t c =
    let side : ℕ = c.args.sides - 1 in
    let b = sides_of c.args.boxes.now in
    record {
      some = All-same (λ (x : Piece _). x.begin < x.end) c.new-pieces.result.items [] c.new-pieces.ensures.items (All-nil (λ (x : Piece _). x.begin < x.end));
      covers = λ k i. (λ h. absurd (subst (λ ps. Covers (key_cmp g.O.Out.Label.order) ps k i) c.new-pieces.ensures.items h), λ h. absurd (not_below_zero i h.0));
      least = least_kept (λ e. (i : ℕ) × (i < 0) × IsSomewhere side (GivesFault (g.O.CellOp.means c.args.op.now) c.args.split) b (filter (side_has b side i) c.args.left.now) (filter (side_has b side i) c.args.right.now) e) c.args.least.now (λ e q. not_below_zero q.0 q.1);
      lefts = c.in_ok-lefts.ensures;
      rights = c.in_ok-rights.ensures;
      cost = cost_none c.args.steps.now (volume side c.args.counts.now);
    }

pub sweep_of-requires-clause-rows : goal.sweep_of-requires-clause-rows
sweep_of-requires-clause-rows g t c = All-from_recursion (λ r. r < length c.args.boxes.now) c.args.left.now (rows_below 0 c.args.split (length c.args.boxes.now) c.args.left.now c.requires.left c.requires.split)

pub sweep_of-requires-2-clause-rows : goal.sweep_of-requires-2-clause-rows
sweep_of-requires-2-clause-rows g t c = All-from_recursion (λ r. r < length c.args.boxes.now) c.args.right.now (rows_below c.args.split (length c.args.boxes.now) (length c.args.boxes.now) c.args.right.now c.requires.right (omega arith))

pub advance-requires-clause-starts : goal.advance-requires-clause-starts
advance-requires-clause-starts g t c =
    starts_below (sides_of c.args.boxes.now) (c.args.sides - 1) c.args.left.now c.loop-cell.cell c.loop-cell.lefts c.loop-cell.invariant.lefts (length c.args.boxes.now)
    (All-from_recursion (λ r. r < length c.args.boxes.now) c.args.left.now (rows_below 0 c.args.split (length c.args.boxes.now) c.args.left.now c.requires.left c.requires.split))

pub advance-requires-clause-live : goal.advance-requires-clause-live
advance-requires-clause-live g t c =
    live_below (sides_of c.args.boxes.now) (c.args.sides - 1) c.args.left.now c.loop-cell.cell c.loop-cell.lefts c.loop-cell.invariant.lefts (length c.args.boxes.now)
    (All-from_recursion (λ r. r < length c.args.boxes.now) c.args.left.now (rows_below 0 c.args.split (length c.args.boxes.now) c.args.left.now c.requires.left c.requires.split))

pub advance-requires-in-loop-cell-clause-starts : goal.advance-requires-in-loop-cell-clause-starts
advance-requires-in-loop-cell-clause-starts g t c =
    starts_below (sides_of c.args.boxes.now) (c.args.sides - 1) c.args.right.now c.loop-cell.cell c.loop-cell.rights c.loop-cell.invariant.rights (length c.args.boxes.now)
    (All-from_recursion (λ r. r < length c.args.boxes.now) c.args.right.now (rows_below c.args.split (length c.args.boxes.now) (length c.args.boxes.now) c.args.right.now c.requires.right (omega arith)))

pub advance-requires-in-loop-cell-clause-live : goal.advance-requires-in-loop-cell-clause-live
advance-requires-in-loop-cell-clause-live g t c =
    live_below (sides_of c.args.boxes.now) (c.args.sides - 1) c.args.right.now c.loop-cell.cell c.loop-cell.rights c.loop-cell.invariant.rights (length c.args.boxes.now)
    (All-from_recursion (λ r. r < length c.args.boxes.now) c.args.right.now (rows_below c.args.split (length c.args.boxes.now) (length c.args.boxes.now) c.args.right.now c.requires.right (omega arith)))

pub returns-in_err-lefts-2-clause-cost : goal.returns-in_err-lefts-2-clause-cost
returns-in_err-lefts-2-clause-cost g t c = cost_within c.args.counts.now c.args.sides c.loop-cell.cell c.args.steps.now c.loop-cell.steps (omega arith) (omega arith) c.loop-cell.invariant.cost

pub returns-in_err-rights-2-clause-cost : goal.returns-in_err-rights-2-clause-cost
returns-in_err-rights-2-clause-cost g t c = cost_within c.args.counts.now c.args.sides c.loop-cell.cell c.args.steps.now c.loop-cell.steps (omega arith) (omega arith) c.loop-cell.invariant.cost

pub slices-requires : goal.slices-requires
slices-requires g t c = λ κs within.
    let side : ℕ = c.args.sides - 1 in
    let b = sides_of c.args.boxes.now in
    let p = side_has b side c.loop-cell.cell in (
      omega arith,
      (
        within.0,
        (
          within.1.0,
          (
            within.1.1,
            (
              omega arith,
              (
                c.requires.few,
                (
                  c.requires.split,
                  (
                    subst (AreRows 0 c.args.split) (sym (c.as_slice-l.ensures.value ∙ c.in_ok-lefts-2.ensures.live 0 c.args.split c.loop-cell.cell c.args.left.now c.requires.left (omega arith) c.loop-cell.invariant.lefts)) (AreRows-filter p 0 c.args.split c.args.left.now c.requires.left),
                    (
                      subst (AreRows c.args.split (length c.args.boxes.now)) (sym (c.as_slice-r.ensures.value ∙ c.in_ok-rights-2.ensures.live c.args.split (length c.args.boxes.now) c.loop-cell.cell c.args.right.now c.requires.right (omega arith) c.loop-cell.invariant.rights)) (AreRows-filter p c.args.split (length c.args.boxes.now) c.args.right.now c.requires.right),
                      (
                        c.requires.boxes,
                        (c.requires.cells, c.requires.can),
                      ),
                    ),
                  ),
                ),
              ),
            ),
          ),
        ),
      ),
    )

pub returns-in_err-rows-2-clause-cost : goal.returns-in_err-rows-2-clause-cost
returns-in_err-rows-2-clause-cost g t c =
    cost_within c.args.counts.now c.args.sides (c.loop-cell.cell + 1) c.args.steps.now c.slices.new.steps (omega arith) (omega arith)
    (cost_step c.loop-cell.cell c.args.steps.now c.loop-cell.steps c.slices.new.steps (volume (c.args.sides - 1) c.args.counts.now) c.loop-cell.invariant.cost c.slices.ensures.cost)

pub returns-in_err-push_pieces-clause-cost : goal.returns-in_err-push_pieces-clause-cost
returns-in_err-push_pieces-clause-cost g t c =
    cost_within c.args.counts.now c.args.sides (c.loop-cell.cell + 1) c.args.steps.now c.slices.new.steps (omega arith) (omega arith)
    (cost_step c.loop-cell.cell c.args.steps.now c.loop-cell.steps c.slices.new.steps (volume (c.args.sides - 1) c.args.counts.now) c.loop-cell.invariant.cost c.slices.ensures.cost)

pub loop-cell-preserved : goal.loop-cell-preserved
loop-cell-preserved g t c =
    let side : ℕ = c.args.sides - 1 in
    let b = sides_of c.args.boxes.now in
    let m = g.O.CellOp.means c.args.op.now in
    let f = GivesLabel m c.args.split in
    let h = GivesFault m c.args.split in
    let p = side_has b side c.loop-cell.cell in
    let el = c.as_slice-l.ensures.value ∙ c.in_ok-lefts-2.ensures.live 0 c.args.split c.loop-cell.cell c.args.left.now c.requires.left (omega arith) c.loop-cell.invariant.lefts in
    let er = c.as_slice-r.ensures.value ∙ c.in_ok-rights-2.ensures.live c.args.split (length c.args.boxes.now) c.loop-cell.cell c.args.right.now c.requires.right (omega arith) c.loop-cell.invariant.rights in
    let P : Piece (g.row.O-Out.Denot × List (ℕ × ℕ)) → Type 0 = λ x. x.begin < x.end in
    let T : ℕ → g.row.O-Out.Denot × List (ℕ × ℕ) → Type 0 = λ i k. IsSliceRow side f b (filter (side_has b side i) c.args.left.now) (filter (side_has b side i) c.args.right.now) k.0 k.1 in
    let here : (k : g.row.O-Out.Denot × List (ℕ × ℕ)) → Among k c.in_ok-rows-2.rows.items ↔ (length k.1 ≡ side) × T c.loop-cell.cell k = λ k.
    subst (λ w. Among k c.in_ok-rows-2.rows.items ↔ (length k.1 ≡ side) × IsSliceRow side f b w (filter p c.args.right.now) k.0 k.1) el
    (subst (λ w. Among k c.in_ok-rows-2.rows.items ↔ (length k.1 ≡ side) × IsSliceRow side f b c.as_slice-l.result.now w k.0 k.1) er (c.in_ok-rows-2.ensures.rows k)) in
    let rows : (i : ℕ) → c.loop-cell.cell ≤ i → i < c.loop-cell.cell + 1 → (k : g.row.O-Out.Denot × List (ℕ × ℕ)) → Among k c.in_ok-rows-2.rows.items ↔ (length k.1 ≡ side) × T i k = λ i l m k.
    let e : c.loop-cell.cell ≡ i = omega arith in
    subst (λ j. Among k c.in_ok-rows-2.rows.items ↔ (length k.1 ≡ side) × T j k) e (here k) in
    let least : IsLeast (λ e. (c.loop-cell.least ≡ Some e) ⊎ IsSomewhere side h b (filter p c.args.left.now) (filter p c.args.right.now) e) c.slices.new.least =
    subst (λ w. IsLeast (λ e. (c.loop-cell.least ≡ Some e) ⊎ IsSomewhere side h b w (filter p c.args.right.now) e) c.slices.new.least) el
    (subst (λ w. IsLeast (λ e. (c.loop-cell.least ≡ Some e) ⊎ IsSomewhere side h b c.as_slice-l.result.now w e) c.slices.new.least) er c.in_ok-rows-2.ensures.least) in
    record {
      some = All-same P c.push_pieces.new.out.items _ c.in_ok-push_pieces.ensures (All-append P c.loop-cell.pieces.items (map (tag c.loop-cell.cell (c.loop-cell.cell + 1)) c.in_ok-rows-2.rows.items) c.loop-cell.invariant.some (All-map P (tag c.loop-cell.cell (c.loop-cell.cell + 1)) c.in_ok-rows-2.rows.items (λ k d l. omega arith)));
      covers = covers_step g.O.Out.Label.order g.met.O.Out.Label.total g.met.O.Out.Label.separates T side c.loop-cell.cell (c.loop-cell.cell + 1) (omega arith) c.loop-cell.pieces.items c.push_pieces.new.out.items c.in_ok-rows-2.rows.items c.in_ok-push_pieces.ensures rows c.loop-cell.invariant.covers;
      least = least_step (λ i e. IsSomewhere side h b (filter (side_has b side i) c.args.left.now) (filter (side_has b side i) c.args.right.now) e) c.loop-cell.cell c.args.least.now c.loop-cell.least c.slices.new.least c.loop-cell.invariant.least least;
      lefts = sweep_later b side c.args.left.now c.loop-cell.cell c.in_ok-lefts-2.lefts (c.in_ok-lefts-2.ensures.sweep 0 c.args.split c.loop-cell.cell c.args.left.now c.requires.left (omega arith) c.loop-cell.invariant.lefts) (c.loop-cell.cell + 1) (omega arith);
      rights = sweep_later b side c.args.right.now c.loop-cell.cell c.in_ok-rights-2.rights (c.in_ok-rights-2.ensures.sweep c.args.split (length c.args.boxes.now) c.loop-cell.cell c.args.right.now c.requires.right (omega arith) c.loop-cell.invariant.rights) (c.loop-cell.cell + 1) (omega arith);
      cost = cost_step c.loop-cell.cell c.args.steps.now c.loop-cell.steps c.slices.new.steps (volume side c.args.counts.now) c.loop-cell.invariant.cost c.slices.ensures.cost;
    }

pub join-requires : goal.join-requires
join-requires g t c = c.loop-cell.invariant.some

pub returns-in_err-runs-clause-cost : goal.returns-in_err-runs-clause-cost
returns-in_err-runs-clause-cost g t c = cost_within c.args.counts.now c.args.sides c.loop-cell.cell c.args.steps.now c.loop-cell.steps (omega arith) (omega arith) c.loop-cell.invariant.cost

pub returns-in_err-rows-3-clause-cost : goal.returns-in_err-rows-3-clause-cost
returns-in_err-rows-3-clause-cost g t c = cost_within c.args.counts.now c.args.sides c.loop-cell.cell c.args.steps.now c.loop-cell.steps (omega arith) (omega arith) c.loop-cell.invariant.cost

pub returns-clause-rows : goal.returns-clause-rows
returns-clause-rows g t c =
    let side : ℕ = c.args.sides - 1 in
    let b = sides_of c.args.boxes.now in
    let f = GivesLabel (g.O.CellOp.means c.args.op.now) c.args.split in
    let n = length c.args.counts.now in
    let r = length c.args.boxes.now in
    let e : suc side ≡ c.args.sides = omega arith in
    let below : side < n = omega arith in
    let bound : get_or c.args.counts.now side 0 ≤ c.loop-cell.cell = omega arith in
    let last : r ≤ r = omega arith in
    subst (λ s. (x : g.row.O-Out.Denot × List (ℕ × ℕ)) → Among x c.in_ok-rows-3.rows.items ↔ (length x.1 ≡ s) × IsSliceRow s f b c.args.left.now c.args.right.now x.0 x.1) e
    (rows_answer g.O.Out.Label.order g.met.O.Out.Label.total g.met.O.Out.Label.separates f b n side below c.args.left.now c.args.right.now
    (has_sides f c.args.boxes.now n c.requires.boxes 0 c.args.split c.args.left.now c.requires.left c.requires.split)
    (has_sides f c.args.boxes.now n c.requires.boxes c.args.split r c.args.right.now c.requires.right last)
    c.loop-cell.pieces.items c.in_ok-runs.runs.items c.in_ok-rows-3.rows.items
    (covers_all g.O.Out.Label.order g.met.O.Out.Label.total g.met.O.Out.Label.separates f b n side below c.args.left.now c.args.right.now
    (has_sides f c.args.boxes.now n c.requires.boxes 0 c.args.split c.args.left.now c.requires.left c.requires.split)
    (has_sides f c.args.boxes.now n c.requires.boxes c.args.split r c.args.right.now c.requires.right last)
    c.loop-cell.cell
    (none_from c.args.boxes.now c.args.counts.now c.requires.cells side c.loop-cell.cell below bound 0 c.args.split c.args.left.now c.requires.left c.requires.split)
    (none_from c.args.boxes.now c.args.counts.now c.requires.cells side c.loop-cell.cell below bound c.args.split r c.args.right.now c.requires.right last)
    c.loop-cell.pieces.items c.loop-cell.invariant.covers)
    c.in_ok-runs.ensures.apart c.in_ok-runs.ensures.covers c.in_ok-rows-3.ensures)

pub returns-clause-sorted : goal.returns-clause-sorted
returns-clause-sorted g t c =
    let side : ℕ = c.args.sides - 1 in
    let b = sides_of c.args.boxes.now in
    let f = GivesLabel (g.O.CellOp.means c.args.op.now) c.args.split in
    let n = length c.args.counts.now in
    let r = length c.args.boxes.now in
    let below : side < n = omega arith in
    let bound : get_or c.args.counts.now side 0 ≤ c.loop-cell.cell = omega arith in
    let last : r ≤ r = omega arith in
    rows_sorted g.O.Out.Label.order g.met.O.Out.Label.total g.met.O.Out.Label.separates f b n side below c.args.left.now c.args.right.now
    (has_sides f c.args.boxes.now n c.requires.boxes 0 c.args.split c.args.left.now c.requires.left c.requires.split)
    (has_sides f c.args.boxes.now n c.requires.boxes c.args.split r c.args.right.now c.requires.right last)
    c.loop-cell.pieces.items c.in_ok-runs.runs.items c.in_ok-rows-3.rows.items
    (covers_all g.O.Out.Label.order g.met.O.Out.Label.total g.met.O.Out.Label.separates f b n side below c.args.left.now c.args.right.now
    (has_sides f c.args.boxes.now n c.requires.boxes 0 c.args.split c.args.left.now c.requires.left c.requires.split)
    (has_sides f c.args.boxes.now n c.requires.boxes c.args.split r c.args.right.now c.requires.right last)
    c.loop-cell.cell
    (none_from c.args.boxes.now c.args.counts.now c.requires.cells side c.loop-cell.cell below bound 0 c.args.split c.args.left.now c.requires.left c.requires.split)
    (none_from c.args.boxes.now c.args.counts.now c.requires.cells side c.loop-cell.cell below bound c.args.split r c.args.right.now c.requires.right last)
    c.loop-cell.pieces.items c.loop-cell.invariant.covers)
    c.in_ok-runs.ensures.apart c.in_ok-runs.ensures.covers c.in_ok-rows-3.ensures

pub returns-clause-least : goal.returns-clause-least
returns-clause-least g t c =
    let side : ℕ = c.args.sides - 1 in
    let b = sides_of c.args.boxes.now in
    let f = GivesFault (g.O.CellOp.means c.args.op.now) c.args.split in
    let n = length c.args.counts.now in
    let r = length c.args.boxes.now in
    let e : suc side ≡ c.args.sides = omega arith in
    let below : side < n = omega arith in
    let bound : get_or c.args.counts.now side 0 ≤ c.loop-cell.cell = omega arith in
    let last : r ≤ r = omega arith in
    subst (λ s. IsLeast (λ d. (c.args.least.now ≡ Some d) ⊎ IsSomewhere s f b c.args.left.now c.args.right.now d) c.loop-cell.least) e
    (least_more (λ d. (i : ℕ) × (i < c.loop-cell.cell) × IsSomewhere side f b (filter (side_has b side i) c.args.left.now) (filter (side_has b side i) c.args.right.now) d) (IsSomewhere (suc side) f b c.args.left.now c.args.right.now) c.args.least.now c.loop-cell.least
    (somewhere_more f b n side c.loop-cell.cell below c.args.left.now c.args.right.now
    (has_sides f c.args.boxes.now n c.requires.boxes 0 c.args.split c.args.left.now c.requires.left c.requires.split)
    (has_sides f c.args.boxes.now n c.requires.boxes c.args.split r c.args.right.now c.requires.right last)
    (none_from c.args.boxes.now c.args.counts.now c.requires.cells side c.loop-cell.cell below bound 0 c.args.split c.args.left.now c.requires.left c.requires.split)
    (none_from c.args.boxes.now c.args.counts.now c.requires.cells side c.loop-cell.cell below bound c.args.split r c.args.right.now c.requires.right last))
    c.loop-cell.invariant.least)

pub returns-clause-cost : goal.returns-clause-cost
returns-clause-cost g t c = cost_within c.args.counts.now c.args.sides c.loop-cell.cell c.args.steps.now c.loop-cell.steps (omega arith) (omega arith) c.loop-cell.invariant.cost

pub returns-clause-idle : goal.returns-clause-idle
returns-clause-idle g t c = λ a b. elim (c.if-are_none.ensures.no refl) [ inl h ↦ absurd (omega arith) | inr h ↦ absurd (omega arith) ]

pub returns-in_err-lefts-2-clause-idle : goal.returns-in_err-lefts-2-clause-idle
returns-in_err-lefts-2-clause-idle g t c = λ a b. elim (c.if-are_none.ensures.no refl) [ inl h ↦ absurd (omega arith) | inr h ↦ absurd (omega arith) ]

pub returns-in_err-rights-2-clause-idle : goal.returns-in_err-rights-2-clause-idle
returns-in_err-rights-2-clause-idle g t c = λ a b. elim (c.if-are_none.ensures.no refl) [ inl h ↦ absurd (omega arith) | inr h ↦ absurd (omega arith) ]

pub returns-in_err-rows-2-clause-idle : goal.returns-in_err-rows-2-clause-idle
returns-in_err-rows-2-clause-idle g t c = λ a b. elim (c.if-are_none.ensures.no refl) [ inl h ↦ absurd (omega arith) | inr h ↦ absurd (omega arith) ]

pub returns-in_err-push_pieces-clause-idle : goal.returns-in_err-push_pieces-clause-idle
returns-in_err-push_pieces-clause-idle g t c = λ a b. elim (c.if-are_none.ensures.no refl) [ inl h ↦ absurd (omega arith) | inr h ↦ absurd (omega arith) ]

pub returns-in_err-runs-clause-idle : goal.returns-in_err-runs-clause-idle
returns-in_err-runs-clause-idle g t c = λ a b. elim (c.if-are_none.ensures.no refl) [ inl h ↦ absurd (omega arith) | inr h ↦ absurd (omega arith) ]

pub returns-in_err-rows-3-clause-idle : goal.returns-in_err-rows-3-clause-idle
returns-in_err-rows-3-clause-idle g t c = λ a b. elim (c.if-are_none.ensures.no refl) [ inl h ↦ absurd (omega arith) | inr h ↦ absurd (omega arith) ]

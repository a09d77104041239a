use Rattle.std.proofs.Common.{◌≡◌, ◌<◌, ◌≤◌, ◌↔◌, ◌-◌, ℕ, List, [], suc, arith, ap, sym, subst, length, get_or, ◌∙◌, map, ◌++◌, Vec, Global}
use Rattle.std.specs.List.{filter, flat_map}
use Rattle.std.proofs.lemmas.List.Elements.{All-same, All-nil, All-append, All-map}
use Rattle.std.proofs.lemmas.List.{get_or_default}
use Rattle.cell_packing.specs.Covering.{Among}
use Rattle.cell_packing.specs.Pieces.{Covers}
use Rattle.cell_packing.specs.Live.{side_has}
use Rattle.cell_packing.specs.declared.Piece.{Piece}
use Rattle.cell_sweep.specs.declared.bare.NoLabel.{NoLabel}
use Rattle.cell_sweep.specs.declared.key.CellBox.{CellBox}
use Rattle.cell_sweep.specs.PackedRows.{IsUnitedRow, cuts_of}
use Rattle.cell_sweep.specs.Rows.{sides_of, tag, AreRows}
use Rattle.cell_sweep.specs.Sweeps.{IsSweep}
use Rattle.cell_sweep.specs.declared.live.Sweep.{Sweep}
use Rattle.cell_sweep.proofs.Steps.{sorted_nil}
use Rattle.cell_sweep.proofs.Turns.{not_below_zero, all_below, AreRows-filter}
use Rattle.cell_sweep.proofs.Sweeping.{sweep_later, starts_below, live_below}
use Rattle.cell_sweep.proofs.UnitedLemmas.{Row, R, order, total, separates, none_united, is_nil, is_not_nil, one_sorted, one_row_united, united_rows, united_sorted, covers_below, united_turn, IsBeside, beside, all_passed}
use Rattle.cell_sweep.proofs.united.+united.Goals.{then-begin-end+in_ok-sweep-2+in_ok-rows-4+in_ok-push_pieces, else-begin-end}
use Rattle.cell_sweep.proofs.united.+united.Goals as goal

pub returns-then-is_empty-clause-rows : goal.returns-then-is_empty-clause-rows
returns-then-is_empty-clause-rows t c = λ x. (
  λ h. absurd (subst (Among x) c.new.ensures.items h),
  λ h. absurd (none_united c.args.sides (sides_of c.args.boxes.now) c.args.live.now x (is_nil c.args.live.now c.is_empty.result c.is_empty.ensures c.if-is_empty.true) h.1),
)

pub returns-then-is_empty-clause-sorted : goal.returns-then-is_empty-clause-sorted
returns-then-is_empty-clause-sorted t c = sorted_nil order total separates c.new.result.items c.new.ensures.items

pub returns-then-sides-eq0-clause-rows : goal.returns-then-sides-eq0-clause-rows
returns-then-sides-eq0-clause-rows t c = one_row_united (sides_of c.args.boxes.now) c.args.live.now c.in_ok-rows.rows.items c.args.sides (omega arith) (is_not_nil c.args.live.now c.is_empty.result c.is_empty.ensures c.if-is_empty.false) c.in_ok-rows.ensures

pub returns-then-sides-eq0-clause-sorted : goal.returns-then-sides-eq0-clause-sorted
returns-then-sides-eq0-clause-sorted t c = one_sorted c.in_ok-rows.rows.items c.in_ok-rows.ensures

pub loop-i-init : goal.loop-i-init
loop-i-init t c = record {
  some = All-same (λ (x : Piece Row). x.begin < x.end) c.new-pieces.result.items [] c.new-pieces.ensures.items (All-nil (λ (x : Piece Row). x.begin < x.end));
  covers = λ k i. (λ h. absurd (subst (λ ps. Covers R ps k i) c.new-pieces.ensures.items h), λ h. absurd (not_below_zero i h.0));
  sweep = c.in_ok-sweep.ensures;
  passed = λ j h. absurd (not_below_zero j h);
  ahead = λ j h l. omega arith;
}

pub cuts_at-requires-clause-rows : goal.cuts_at-requires-clause-rows
cuts_at-requires-clause-rows t c = all_below (length c.args.boxes.now) c.args.live.now c.requires.rows

pub on_one_side-requires-clause-rows : goal.on_one_side-requires-clause-rows
on_one_side-requires-clause-rows t c = all_below (length c.args.boxes.now) c.args.live.now c.requires.rows

pub sweep_of-requires-clause-rows : goal.sweep_of-requires-clause-rows
sweep_of-requires-clause-rows t c = all_below (length c.args.boxes.now) c.args.live.now c.requires.rows

pub advance-requires-clause-starts : goal.advance-requires-clause-starts
advance-requires-clause-starts t c =
    starts_below (sides_of c.args.boxes.now) (c.args.sides - 1) c.args.live.now c.loop-i.begin c.loop-i.sweep c.loop-i.invariant.sweep (length c.args.boxes.now) (all_below (length c.args.boxes.now) c.args.live.now c.requires.rows)

pub advance-requires-clause-live : goal.advance-requires-clause-live
advance-requires-clause-live t c =
    live_below (sides_of c.args.boxes.now) (c.args.sides - 1) c.args.live.now c.loop-i.begin c.loop-i.sweep c.loop-i.invariant.sweep (length c.args.boxes.now) (all_below (length c.args.boxes.now) c.args.live.now c.requires.rows)

pub united-requires : goal.united-requires
united-requires t c =
    let side : ℕ = c.args.sides - 1 in
    let n : ℕ = length c.args.boxes.now in
    let e = c.as_slice.ensures.value ∙ c.in_ok-sweep-2.ensures.live 0 n c.loop-i.begin c.args.live.now c.requires.rows (omega arith) c.loop-i.invariant.sweep in (
      omega arith,
      (
        subst (AreRows 0 n) (sym e) (AreRows-filter (side_has (sides_of c.args.boxes.now) side c.loop-i.begin) 0 n c.args.live.now c.requires.rows),
        λ k d h. let w = c.requires.sides k d h in omega arith,
      ),
    )

pub loop-i-preserved : goal.loop-i-preserved
loop-i-preserved t c =
    let side : ℕ = c.args.sides - 1 in
    let b = sides_of c.args.boxes.now in
    let live = c.args.live.now in
    let cuts = c.in_ok-cuts.cuts.items in
    let i : ℕ = c.loop-i.i in
    let a : ℕ = c.loop-i.begin in
    let z : ℕ = c.index-end.result.now in
    let l : i < length cuts = omega arith in
    let e : get_or cuts i 0 ≡ z = get_or_default cuts i 0 z l ∙ sym c.index-end.ensures in
    let order : (j k : ℕ) → j ≤ k → k < length cuts → get_or cuts j 0 ≤ get_or cuts k 0 = c.in_ok-cuts.ensures.order in
    let below : side < c.args.sides = omega arith in
    let covered : List (Piece Row) → ℕ → Type 0 = λ ps n. (k : Row) (m : ℕ) → Covers R ps k m ↔ (m < n) × (length k.1 ≡ side) × IsUnitedRow side b (filter (side_has b side m) live) k in
    let P : Piece Row → Type 0 = λ x. x.begin < x.end in
    record {
      some = elim c.if-begin-end.branch [
        | then-begin-end+in_ok-sweep-2+in_ok-rows-4+in_ok-push_pieces w ↦
            let q : c.if-begin-end.pieces.items ≡ c.loop-i.pieces.items ++ map (tag a z) w.in_ok-rows-4.rows.items = ap (λ (v : Vec (Piece (CellBox NoLabel)) Global). v.items) w.pieces-is ∙ w.in_ok-push_pieces.ensures in
            let less : a < z = w.if-begin-end.true in
            All-same P c.if-begin-end.pieces.items (c.loop-i.pieces.items ++ map (tag a z) w.in_ok-rows-4.rows.items) q
            (All-append P c.loop-i.pieces.items (map (tag a z) w.in_ok-rows-4.rows.items) c.loop-i.invariant.some (All-map P (tag a z) w.in_ok-rows-4.rows.items (λ k d m. less)))
        | else-begin-end w ↦
            let q : c.if-begin-end.pieces.items ≡ c.loop-i.pieces.items = ap (λ (v : Vec (Piece (CellBox NoLabel)) Global). v.items) w.pieces-is in
            All-same P c.if-begin-end.pieces.items c.loop-i.pieces.items q c.loop-i.invariant.some
      ];
      covers = elim c.if-begin-end.branch [
        | then-begin-end+in_ok-sweep-2+in_ok-rows-4+in_ok-push_pieces w ↦
            let q : c.if-begin-end.pieces.items ≡ c.loop-i.pieces.items ++ map (tag a z) w.in_ok-rows-4.rows.items = ap (λ (v : Vec (Piece (CellBox NoLabel)) Global). v.items) w.pieces-is ∙ w.in_ok-push_pieces.ensures in
            let less : a < z = w.if-begin-end.true in
            let cut : (m : ℕ) → Among m (flat_map (cuts_of b side) live) → IsBeside a z m = λ m h. subst (λ v. IsBeside a v m) e (beside cuts a i l order c.loop-i.invariant.passed m (c.in_ok-cuts.ensures.cuts m h)) in
            let rows : (k : Row) → Among k w.in_ok-rows-4.rows.items ↔ (length k.1 ≡ side) × IsUnitedRow side b (filter (side_has b side a) live) k = λ k.
            subst (λ m. Among k w.in_ok-rows-4.rows.items ↔ (length k.1 ≡ side) × IsUnitedRow side b m k) (w.as_slice.ensures.value ∙ w.in_ok-sweep-2.ensures.live 0 (length c.args.boxes.now) a live c.requires.rows (omega arith) c.loop-i.invariant.sweep) (w.in_ok-rows-4.ensures.rows k) in
            united_turn c.args.boxes.now c.args.sides side below live c.requires.sides (all_below (length c.args.boxes.now) c.args.live.now c.requires.rows) a z (omega arith) cut c.loop-i.pieces.items c.if-begin-end.pieces.items w.in_ok-rows-4.rows.items q rows c.loop-i.invariant.covers
        | else-begin-end w ↦
            let q : c.if-begin-end.pieces.items ≡ c.loop-i.pieces.items = ap (λ (v : Vec (Piece (CellBox NoLabel)) Global). v.items) w.pieces-is in
            let more : z ≤ a = w.if-begin-end.false in
            let less : a ≤ get_or cuts i 0 = c.loop-i.invariant.ahead i (omega arith) l in
            let same : a ≡ z = omega arith in
            subst (covered c.if-begin-end.pieces.items) same (subst (λ ps. covered ps a) (sym q) c.loop-i.invariant.covers)
      ];
      sweep = elim c.if-begin-end.branch [
        | then-begin-end+in_ok-sweep-2+in_ok-rows-4+in_ok-push_pieces w ↦
            let less : a < z = w.if-begin-end.true in
            subst (λ (s : Sweep). IsSweep b side live z s) (sym w.sweep-is)
            (sweep_later b side live a w.in_ok-sweep-2.sweep (w.in_ok-sweep-2.ensures.sweep 0 (length c.args.boxes.now) a live c.requires.rows (omega arith) c.loop-i.invariant.sweep) z (omega arith))
        | else-begin-end w ↦
            let less : a ≤ get_or cuts i 0 = c.loop-i.invariant.ahead i (omega arith) l in
            subst (λ (s : Sweep). IsSweep b side live z s) (sym w.sweep-is) (sweep_later b side live a c.loop-i.sweep c.loop-i.invariant.sweep z (omega arith))
      ];
      passed = λ j h. let w = order j i (omega arith) l in omega arith;
      ahead = λ j h m. let w = order i j (omega arith) m in omega arith;
    }

pub join-requires : goal.join-requires
join-requires t c = c.loop-i.invariant.some

pub returns-clause-rows : goal.returns-clause-rows
returns-clause-rows t c =
    let side : ℕ = c.args.sides - 1 in
    let below : side < c.args.sides = omega arith in
    let b = sides_of c.args.boxes.now in
    let cuts = c.in_ok-cuts.cuts.items in
    let e : suc side ≡ c.args.sides = omega arith in
    let end : length cuts ≤ c.loop-i.i = omega arith in
    subst (λ s. (x : Row) → Among x c.in_ok-rows-5.rows.items ↔ (length x.1 ≡ s) × IsUnitedRow s b c.args.live.now x) e
    (united_rows c.args.boxes.now c.args.sides side below c.args.live.now c.requires.sides (all_below (length c.args.boxes.now) c.args.live.now c.requires.rows) c.loop-i.pieces.items c.in_ok-runs.runs.items c.in_ok-rows-5.rows.items
    (covers_below c.args.boxes.now c.args.sides side below c.args.live.now c.requires.sides (all_below (length c.args.boxes.now) c.args.live.now c.requires.rows) c.loop-i.begin
    (λ m h. all_passed cuts c.loop-i.begin (λ j q. c.loop-i.invariant.passed j (omega arith)) m (c.in_ok-cuts.ensures.cuts m h))
    c.loop-i.pieces.items c.loop-i.invariant.covers)
    c.in_ok-runs.ensures.apart c.in_ok-runs.ensures.covers c.in_ok-rows-5.ensures)

pub returns-clause-sorted : goal.returns-clause-sorted
returns-clause-sorted t c =
    let side : ℕ = c.args.sides - 1 in
    let below : side < c.args.sides = omega arith in
    let cuts = c.in_ok-cuts.cuts.items in
    let end : length cuts ≤ c.loop-i.i = omega arith in
    united_sorted c.args.boxes.now c.args.sides side below c.args.live.now c.requires.sides (all_below (length c.args.boxes.now) c.args.live.now c.requires.rows) c.loop-i.pieces.items c.in_ok-runs.runs.items c.in_ok-rows-5.rows.items
    (covers_below c.args.boxes.now c.args.sides side below c.args.live.now c.requires.sides (all_below (length c.args.boxes.now) c.args.live.now c.requires.rows) c.loop-i.begin
    (λ m h. all_passed cuts c.loop-i.begin (λ j q. c.loop-i.invariant.passed j (omega arith)) m (c.in_ok-cuts.ensures.cuts m h))
    c.loop-i.pieces.items c.loop-i.invariant.covers)
    c.in_ok-runs.ensures.apart c.in_ok-runs.ensures.covers c.in_ok-rows-5.ensures

use Rattle.std.proofs.Common.{◌≡◌, ◌<◌, ◌≤◌, ◌↔◌, [], ℕ, List, arith, ap, sym, subst, length, get_or, ◌∙◌, map, ◌++◌, Vec, Global}
use Rattle.std.specs.List.{All, filter, flat_map}
use Rattle.std.proofs.lemmas.List.Elements.{All-same, All-nil, All-append, All-map}
use Rattle.std.proofs.lemmas.List.{get_or_default}
use Rattle.cell_packing.specs.Covering.{Among}
use Rattle.cell_packing.specs.Pieces.{Covers}
use Rattle.cell_packing.specs.Live.{side_has}
use Rattle.cell_packing.specs.declared.Piece.{Piece}
use Rattle.cell_sweep.specs.declared.bare.NoLabel.{NoLabel}
use Rattle.cell_sweep.specs.PackedRows.{IsUnitedRow, cuts_of}
use Rattle.cell_sweep.specs.Rows.{sides_of, tag, pair_cmp}
use Rattle.cell_sweep.specs.Sweeps.{IsSweep}
use Rattle.cell_sweep.specs.TwoSides.{run_row, slab, slab_row}
use Rattle.cell_sweep.specs.declared.live.Sweep.{Sweep}
use Rattle.cell_sweep.proofs.Turns.{not_below_zero, all_below}
use Rattle.cell_sweep.proofs.Sweeping.{sweep_later, starts_below, live_below}
use Rattle.cell_sweep.proofs.UnitedLemmas.{Row, R, united_rows, united_sorted, covers_below, united_turn, IsBeside, beside, all_passed, filter_below}
use Rattle.cell_sweep.proofs.TwoSidesLemmas.{lifted, span_row, same_span, covers_lifted, apart_lifted, more_slab, slab_rows}
use Rattle.cell_sweep.proofs.two_sides.on_two_sides.Goals.{then-begin-end+in_ok-sweep-2+in_ok-runs+in_ok-push_slab, else-begin-end}
use Rattle.cell_sweep.proofs.two_sides.on_two_sides.Goals as goal

pub loop-i-init : goal.loop-i-init
loop-i-init c = record {
  some = All-same (λ (x : Piece (ℕ × ℕ)). x.begin < x.end) c.in_ok-pieces.pieces.items [] c.in_ok-pieces.ensures.items (All-nil (λ (x : Piece (ℕ × ℕ)). x.begin < x.end));
  covers = λ k i. (λ h. absurd (subst (λ ps. Covers R (map (lifted span_row) ps) k i) c.in_ok-pieces.ensures.items h), λ h. absurd (not_below_zero i h.0));
  sweep = c.in_ok-sweep.ensures;
  passed = λ j h. absurd (not_below_zero j h);
  ahead = λ j h l. omega arith;
}

pub cuts_at-requires-clause-rows : goal.cuts_at-requires-clause-rows
cuts_at-requires-clause-rows c = all_below (length c.args.boxes.now) c.args.live.now c.requires.rows

pub sweep_of-requires-clause-rows : goal.sweep_of-requires-clause-rows
sweep_of-requires-clause-rows c = all_below (length c.args.boxes.now) c.args.live.now c.requires.rows

pub advance-requires-clause-starts : goal.advance-requires-clause-starts
advance-requires-clause-starts c =
    starts_below (sides_of c.args.boxes.now) 1 c.args.live.now c.loop-i.begin c.loop-i.sweep c.loop-i.invariant.sweep (length c.args.boxes.now) (all_below (length c.args.boxes.now) c.args.live.now c.requires.rows)

pub advance-requires-clause-live : goal.advance-requires-clause-live
advance-requires-clause-live c =
    live_below (sides_of c.args.boxes.now) 1 c.args.live.now c.loop-i.begin c.loop-i.sweep c.loop-i.invariant.sweep (length c.args.boxes.now) (all_below (length c.args.boxes.now) c.args.live.now c.requires.rows)

pub first_runs-requires-clause-rows : goal.first_runs-requires-clause-rows
first_runs-requires-clause-rows c =
    let n : ℕ = length c.args.boxes.now in
    let e = c.as_slice.ensures.value ∙ c.in_ok-sweep-2.ensures.live 0 n c.loop-i.begin c.args.live.now c.requires.rows (omega arith) c.loop-i.invariant.sweep in
    subst (All (λ r. r < n)) (sym e) (filter_below (side_has (sides_of c.args.boxes.now) 1 c.loop-i.begin) n c.args.live.now (all_below n c.args.live.now c.requires.rows))

pub loop-i-preserved : goal.loop-i-preserved
loop-i-preserved c =
    let b = sides_of c.args.boxes.now in
    let live = c.args.live.now in
    let cuts = c.in_ok-cuts.cuts.items in
    let i : ℕ = c.loop-i.i in
    let a : ℕ = c.loop-i.begin in
    let z : ℕ = c.index-end.result.now in
    let l : i < length cuts = omega arith in
    let e : get_or cuts i 0 ≡ z = get_or_default cuts i 0 z l ∙ sym c.index-end.ensures in
    let order : (j k : ℕ) → j ≤ k → k < length cuts → get_or cuts j 0 ≤ get_or cuts k 0 = c.in_ok-cuts.ensures.order in
    let below : 1 < 2 = omega arith in
    let old : List (Piece (ℕ × ℕ)) = c.loop-i.pieces.items in
    let now : List (Piece (ℕ × ℕ)) = c.if-begin-end.pieces.items in
    let covered : List (Piece (ℕ × ℕ)) → ℕ → Type 0 = λ ps n. (k : Row) (m : ℕ) → Covers R (map (lifted span_row) ps) k m ↔ (m < n) × (length k.1 ≡ 1) × IsUnitedRow 1 b (filter (side_has b 1 m) live) k in
    let P : Piece (ℕ × ℕ) → Type 0 = λ x. x.begin < x.end in
    record {
      some = elim c.if-begin-end.branch [
        | then-begin-end+in_ok-sweep-2+in_ok-runs+in_ok-push_slab w ↦
            let rs : List (Piece NoLabel) = w.in_ok-runs.runs.items in
            let q : now ≡ old ++ map (slab a z) rs = ap (λ (v : Vec (Piece (ℕ × ℕ)) Global). v.items) w.pieces-is ∙ w.in_ok-push_slab.ensures ∙ ap (λ xs. old ++ map (slab a z) xs) w.as_slice-then-begin-end.ensures.value in
            let less : a < z = w.if-begin-end.true in
            All-same P now (old ++ map (slab a z) rs) q
            (All-append P old (map (slab a z) rs) c.loop-i.invariant.some (All-map P (slab a z) rs (λ k d m. less)))
        | else-begin-end w ↦
            let q : now ≡ old = ap (λ (v : Vec (Piece (ℕ × ℕ)) Global). v.items) w.pieces-is in
            All-same P now old q c.loop-i.invariant.some
      ];
      covers = elim c.if-begin-end.branch [
        | then-begin-end+in_ok-sweep-2+in_ok-runs+in_ok-push_slab w ↦
            let rs : List (Piece NoLabel) = w.in_ok-runs.runs.items in
            let q : now ≡ old ++ map (slab a z) rs = ap (λ (v : Vec (Piece (ℕ × ℕ)) Global). v.items) w.pieces-is ∙ w.in_ok-push_slab.ensures ∙ ap (λ xs. old ++ map (slab a z) xs) w.as_slice-then-begin-end.ensures.value in
            let p : map (lifted span_row) now ≡ map (lifted span_row) old ++ map (tag a z) (map run_row rs) = ap (map (lifted span_row)) q ∙ more_slab a z old rs in
            let less : a < z = w.if-begin-end.true in
            let cut : (m : ℕ) → Among m (flat_map (cuts_of b 1) live) → IsBeside a z m = λ m h. subst (λ v. IsBeside a v m) e (beside cuts a i l order c.loop-i.invariant.passed m (c.in_ok-cuts.ensures.cuts m h)) in
            let rows : (k : Row) → Among k (map run_row rs) ↔ (length k.1 ≡ 1) × IsUnitedRow 1 b (filter (side_has b 1 a) live) k = λ k.
            subst (λ m. Among k (map run_row rs) ↔ (length k.1 ≡ 1) × IsUnitedRow 1 b m k) (w.as_slice.ensures.value ∙ w.in_ok-sweep-2.ensures.live 0 (length c.args.boxes.now) a live c.requires.rows (omega arith) c.loop-i.invariant.sweep) (w.in_ok-runs.ensures.rows k) in
            united_turn c.args.boxes.now 2 1 below live c.requires.sides (all_below (length c.args.boxes.now) c.args.live.now c.requires.rows) a z (omega arith) cut (map (lifted span_row) old) (map (lifted span_row) now) (map run_row rs) p rows c.loop-i.invariant.covers
        | else-begin-end w ↦
            let q : now ≡ old = ap (λ (v : Vec (Piece (ℕ × ℕ)) Global). v.items) w.pieces-is in
            let more : z ≤ a = w.if-begin-end.false in
            let less : a ≤ get_or cuts i 0 = c.loop-i.invariant.ahead i (omega arith) l in
            let same : a ≡ z = omega arith in
            subst (covered now) same (subst (λ ps. covered ps a) (sym q) c.loop-i.invariant.covers)
      ];
      sweep = elim c.if-begin-end.branch [
        | then-begin-end+in_ok-sweep-2+in_ok-runs+in_ok-push_slab w ↦
            let less : a < z = w.if-begin-end.true in
            subst (λ (s : Sweep). IsSweep b 1 live z s) (sym w.sweep-is)
            (sweep_later b 1 live a w.in_ok-sweep-2.sweep (w.in_ok-sweep-2.ensures.sweep 0 (length c.args.boxes.now) a live c.requires.rows (omega arith) c.loop-i.invariant.sweep) z (omega arith))
        | else-begin-end w ↦
            let less : a ≤ get_or cuts i 0 = c.loop-i.invariant.ahead i (omega arith) l in
            subst (λ (s : Sweep). IsSweep b 1 live z s) (sym w.sweep-is) (sweep_later b 1 live a c.loop-i.sweep c.loop-i.invariant.sweep z (omega arith))
      ];
      passed = λ j h. let w = order j i (omega arith) l in omega arith;
      ahead = λ j h m. let w = order i j (omega arith) m in omega arith;
    }

pub join-requires : goal.join-requires
join-requires c = c.loop-i.invariant.some

pub returns-clause-rows : goal.returns-clause-rows
returns-clause-rows c =
    let below : 1 < 2 = omega arith in
    let b = sides_of c.args.boxes.now in
    let cuts = c.in_ok-cuts.cuts.items in
    let end : length cuts ≤ c.loop-i.i = omega arith in
    let ps : List (Piece (ℕ × ℕ)) = c.loop-i.pieces.items in
    let rs : List (Piece (ℕ × ℕ)) = c.in_ok-packed.packed.items in
    let made = c.in_ok-rows.ensures ∙ ap (map slab_row) c.as_slice-2.ensures.value ∙ slab_rows rs in
    united_rows c.args.boxes.now 2 1 below c.args.live.now c.requires.sides (all_below (length c.args.boxes.now) c.args.live.now c.requires.rows) (map (lifted span_row) ps) (map (lifted span_row) rs) c.in_ok-rows.rows.items
    (covers_below c.args.boxes.now 2 1 below c.args.live.now c.requires.sides (all_below (length c.args.boxes.now) c.args.live.now c.requires.rows) c.loop-i.begin
    (λ m h. all_passed cuts c.loop-i.begin (λ j q. c.loop-i.invariant.passed j (omega arith)) m (c.in_ok-cuts.ensures.cuts m h))
    (map (lifted span_row) ps) c.loop-i.invariant.covers)
    (apart_lifted pair_cmp span_row same_span rs c.in_ok-packed.ensures.apart) (covers_lifted pair_cmp span_row same_span rs ps c.in_ok-packed.ensures.covers) made

pub returns-clause-sorted : goal.returns-clause-sorted
returns-clause-sorted c =
    let below : 1 < 2 = omega arith in
    let cuts = c.in_ok-cuts.cuts.items in
    let end : length cuts ≤ c.loop-i.i = omega arith in
    let ps : List (Piece (ℕ × ℕ)) = c.loop-i.pieces.items in
    let rs : List (Piece (ℕ × ℕ)) = c.in_ok-packed.packed.items in
    let made = c.in_ok-rows.ensures ∙ ap (map slab_row) c.as_slice-2.ensures.value ∙ slab_rows rs in
    united_sorted c.args.boxes.now 2 1 below c.args.live.now c.requires.sides (all_below (length c.args.boxes.now) c.args.live.now c.requires.rows) (map (lifted span_row) ps) (map (lifted span_row) rs) c.in_ok-rows.rows.items
    (covers_below c.args.boxes.now 2 1 below c.args.live.now c.requires.sides (all_below (length c.args.boxes.now) c.args.live.now c.requires.rows) c.loop-i.begin
    (λ m h. all_passed cuts c.loop-i.begin (λ j q. c.loop-i.invariant.passed j (omega arith)) m (c.in_ok-cuts.ensures.cuts m h))
    (map (lifted span_row) ps) c.loop-i.invariant.covers)
    (apart_lifted pair_cmp span_row same_span rs c.in_ok-packed.ensures.apart) (covers_lifted pair_cmp span_row same_span rs ps c.in_ok-packed.ensures.covers) made

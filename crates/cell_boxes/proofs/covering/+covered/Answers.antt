use Rattle.std.proofs.Common.{◌≡◌, ◌<◌, ◌≤◌, ◌↔◌, ◌⊎◌, ◌-◌, ℕ, List, [], ◌∷◌, suc, arith, ap, sym, refl, subst, length, get_or, ◌∙◌, map, ◌++◌, Vec, Global, Some, Option}
use Rattle.std.specs.List.{filter, flat_map}
use Rattle.std.proofs.lemmas.List.Elements.{All-same}
use Rattle.std.proofs.lemmas.List.{get_or_default}
use Rattle.cell_packing.specs.Covering.{Among}
use Rattle.cell_packing.specs.Live.{box, side_has, InLive, IsSomewhere}
use Rattle.point_core.specs.declared.fault.Fault.{Fault}
use Rattle.point_core.specs.LeastFault.{IsLeast}
use Rattle.cell_packing.proofs.AmongLemmas.{all_from_members}
use Rattle.cell_sweep.specs.PackedRows.{HasRow, cuts_of}
use Rattle.cell_sweep.specs.Rows.{sides_of, AreRows, GivesLabel, GivesFault}
use Rattle.cell_sweep.specs.Sweeps.{IsSweep}
use Rattle.cell_sweep.specs.declared.key.CellBox.{CellBox}
use Rattle.cell_sweep.specs.declared.live.Sweep.{Sweep}
use Rattle.cell_sweep.proofs.Sweeping.{sweep_later, starts_below, live_below}
use Rattle.cell_sweep.proofs.Turns.{all_below, AreRows-filter, least_more, somewhere_more}
use Rattle.cell_sweep.proofs.UnitedLemmas.{has_sides, is_not_nil, IsBeside, beside, all_passed, live_alike, none_after}
use Rattle.cell_boxes.specs.Common.{EndsBy}
use Rattle.cell_boxes.specs.Groups.{longer}
use Rattle.cell_boxes.specs.Rows.{PlainCellBox}
use Rattle.cell_boxes.proofs.CoveredLemmas.{leaf_lengths, leaf_grid_points, leaf_ends, leaf_least, turn_grid_points, turn_lengths, turn_ends, turn_least, all_grid_points}
use Rattle.cell_boxes.proofs.RowLemmas.{among_row, row_all}
use Rattle.cell_boxes.proofs.covering.+covered.Goals.{then-begin-end+in_ok-sweep-2+in_ok-rows-2+in_ok-push_longer, else-begin-end}
use Rattle.cell_boxes.proofs.covering.+covered.Goals as goal

-- ---- no sides

pub returns-then-sides-eq0-clause-grid_points : goal.returns-then-sides-eq0-clause-grid_points
returns-then-sides-eq0-clause-grid_points g t c =
    leaf_grid_points (λ a b. g.O.CellRule.means c.args.rule.now a) (sides_of c.args.boxes.now) c.args.live.now []
    (is_not_nil c.args.live.now c.is_empty.result c.is_empty.ensures c.if-is_empty.false) refl c.args.sides (omega arith) c.in_ok-rows.rows.items c.in_ok-rows.ensures.rows

pub returns-then-sides-eq0-clause-lengths : goal.returns-then-sides-eq0-clause-lengths
returns-then-sides-eq0-clause-lengths g t c =
    all_from_members (λ (x : PlainCellBox _). length x.1 ≡ c.args.sides) c.in_ok-rows.rows.items
    (leaf_lengths (λ a b. g.O.CellRule.means c.args.rule.now a) (sides_of c.args.boxes.now) c.args.live.now []
    (is_not_nil c.args.live.now c.is_empty.result c.is_empty.ensures c.if-is_empty.false) refl c.args.sides (omega arith) c.in_ok-rows.rows.items c.in_ok-rows.ensures.rows)

pub returns-then-sides-eq0-clause-ends : goal.returns-then-sides-eq0-clause-ends
returns-then-sides-eq0-clause-ends g t c =
    leaf_ends (λ a b. g.O.CellRule.means c.args.rule.now a) (sides_of c.args.boxes.now) c.args.live.now []
    (is_not_nil c.args.live.now c.is_empty.result c.is_empty.ensures c.if-is_empty.false) refl c.args.sides (omega arith) c.in_ok-rows.rows.items c.in_ok-rows.ensures.rows

pub returns-then-sides-eq0-clause-least : goal.returns-then-sides-eq0-clause-least
returns-then-sides-eq0-clause-least g t c =
    let f = GivesFault (λ a b. g.O.CellRule.means c.args.rule.now a) 0 in
    least_more (λ e. f e c.args.live.now []) (IsSomewhere c.args.sides f (sides_of c.args.boxes.now) c.args.live.now []) c.args.least.now c.labels_at.new.least
    (leaf_least (λ a b. g.O.CellRule.means c.args.rule.now a) (sides_of c.args.boxes.now) c.args.live.now []
    (is_not_nil c.args.live.now c.is_empty.result c.is_empty.ensures c.if-is_empty.false) refl c.args.sides (omega arith))
    c.in_ok-rows.ensures.least

-- ---- one side more

pub cuts_at-requires-clause-rows : goal.cuts_at-requires-clause-rows
cuts_at-requires-clause-rows g t c = all_below (length c.args.boxes.now) c.args.live.now c.requires.rows

pub sweep_of-requires-clause-rows : goal.sweep_of-requires-clause-rows
sweep_of-requires-clause-rows g t c = all_below (length c.args.boxes.now) c.args.live.now c.requires.rows

pub advance-requires-clause-starts : goal.advance-requires-clause-starts
advance-requires-clause-starts g t c =
    starts_below (sides_of c.args.boxes.now) (c.args.sides - 1) c.args.live.now c.loop-i.begin c.loop-i.sweep c.loop-i.invariant.sweep (length c.args.boxes.now) (all_below (length c.args.boxes.now) c.args.live.now c.requires.rows)

pub advance-requires-clause-live : goal.advance-requires-clause-live
advance-requires-clause-live g t c =
    live_below (sides_of c.args.boxes.now) (c.args.sides - 1) c.args.live.now c.loop-i.begin c.loop-i.sweep c.loop-i.invariant.sweep (length c.args.boxes.now) (all_below (length c.args.boxes.now) c.args.live.now c.requires.rows)

pub covered-requires : goal.covered-requires
covered-requires g t c = λ κs within.
    let side : ℕ = c.args.sides - 1 in
    let n : ℕ = length c.args.boxes.now in
    let e = c.as_slice.ensures.value ∙ c.in_ok-sweep-2.ensures.live 0 n c.loop-i.begin c.args.live.now c.requires.rows (omega arith) c.loop-i.invariant.sweep in (
      omega arith,
      (
        within.0,
        (
          within.1,
          (
            subst (AreRows 0 n) (sym e) (AreRows-filter (side_has (sides_of c.args.boxes.now) side c.loop-i.begin) 0 n c.args.live.now c.requires.rows),
            (λ k d h. let w = c.requires.sides k d h in omega arith, c.requires.can),
          ),
        ),
      ),
    )

pub loop-i-preserved : goal.loop-i-preserved
loop-i-preserved g t c =
    let side : ℕ = c.args.sides - 1 in
    let b = sides_of c.args.boxes.now in
    let live = c.args.live.now in
    let cuts = c.in_ok-cuts.cuts.items in
    let i : ℕ = c.loop-i.i in
    let a : ℕ = c.loop-i.begin in
    let z : ℕ = c.index-end.result.now in
    let f = GivesLabel (λ a b. g.O.CellRule.means c.args.rule.now a) 0 in
    let h = GivesFault (λ a b. g.O.CellRule.means c.args.rule.now a) 0 in
    let l : i < length cuts = omega arith in
    let e : get_or cuts i 0 ≡ z = get_or_default cuts i 0 z l ∙ sym c.index-end.ensures in
    let order : (j k : ℕ) → j ≤ k → k < length cuts → get_or cuts j 0 ≤ get_or cuts k 0 = c.in_ok-cuts.ensures.order in
    let S : ℕ → g.row.O-Out.Denot → List ℕ → Type 0 = λ j t grid_point. InLive f b (filter (side_has b side j) live) [] t grid_point in
    let Q : ℕ → Fault → Type 0 = λ j d. IsSomewhere side h b (filter (side_has b side j) live) [] d in
    let cut : (m : ℕ) → Among m (flat_map (cuts_of b side) live) → IsBeside a z m = λ m h. subst (λ v. IsBeside a v m) e (beside cuts a i l order c.loop-i.invariant.passed m (c.in_ok-cuts.ensures.cuts m h)) in
    let ahead : a ≤ get_or cuts i 0 = c.loop-i.invariant.ahead i (omega arith) l in
    let up : a ≤ z = omega arith in
    let alike : (j : ℕ) → a ≤ j → j < z → filter (side_has b side j) live ≡ filter (side_has b side a) live = λ j p q. live_alike b side live a z j p q cut in
    let GridPoints : List (PlainCellBox g.row.O-Out.Denot) → ℕ → Type 0 = λ out n. (t : g.row.O-Out.Denot) (grid_point : List ℕ) (j : ℕ) → length grid_point ≡ side → HasRow out t (grid_point ++ j ∷ []) ↔ (j < n) × S j t grid_point in
    let Least : Option Fault → ℕ → Type 0 = λ o n. IsLeast (λ d. (c.args.least.now ≡ Some d) ⊎ ((j : ℕ) × (j < n) × Q j d)) o in
    record {
      grid_points = elim c.if-begin-end.branch [
        | then-begin-end+in_ok-sweep-2+in_ok-rows-2+in_ok-push_longer w ↦
            let q : c.if-begin-end.out.items ≡ c.loop-i.out.items ++ map (longer (a, z)) w.in_ok-rows-2.rows.items = ap (λ (v : Vec (CellBox _) Global). v.items) w.out-is ∙ w.in_ok-push_longer.ensures in
            let s = w.as_slice.ensures.value ∙ w.in_ok-sweep-2.ensures.live 0 (length c.args.boxes.now) a live c.requires.rows (omega arith) c.loop-i.invariant.sweep in
            turn_grid_points S side a z up c.loop-i.out.items c.if-begin-end.out.items w.in_ok-rows-2.rows.items q
            (λ x m. let r = among_row w.in_ok-rows-2.rows.items x m in row_all (λ (y : PlainCellBox _). length y.1 ≡ side) w.in_ok-rows-2.rows.items w.in_ok-rows-2.ensures.lengths r.0 x r.1)
            (λ t grid_point p. subst (λ m. HasRow w.in_ok-rows-2.rows.items t grid_point ↔ InLive f b m [] t grid_point) s (w.in_ok-rows-2.ensures.grid_points t grid_point p))
            (λ t grid_point j p r. ap (λ m. InLive f b m [] t grid_point) (alike j p r))
            c.loop-i.invariant.grid_points
        | else-begin-end w ↦
            let q : c.if-begin-end.out.items ≡ c.loop-i.out.items = ap (λ (v : Vec (CellBox _) Global). v.items) w.out-is in
            let more : z ≤ a = w.if-begin-end.false in
            let same : a ≡ z = omega arith in
            subst (GridPoints c.if-begin-end.out.items) same (subst (λ ps. GridPoints ps a) (sym q) c.loop-i.invariant.grid_points)
      ];
      lengths = elim c.if-begin-end.branch [
        | then-begin-end+in_ok-sweep-2+in_ok-rows-2+in_ok-push_longer w ↦
            let q : c.if-begin-end.out.items ≡ c.loop-i.out.items ++ map (longer (a, z)) w.in_ok-rows-2.rows.items = ap (λ (v : Vec (CellBox _) Global). v.items) w.out-is ∙ w.in_ok-push_longer.ensures in
            turn_lengths side c.args.sides (a, z) (omega arith) c.loop-i.out.items c.if-begin-end.out.items w.in_ok-rows-2.rows.items q
            (λ x m. let r = among_row w.in_ok-rows-2.rows.items x m in row_all (λ (y : PlainCellBox _). length y.1 ≡ side) w.in_ok-rows-2.rows.items w.in_ok-rows-2.ensures.lengths r.0 x r.1)
            c.loop-i.invariant.lengths
        | else-begin-end w ↦
            let q : c.if-begin-end.out.items ≡ c.loop-i.out.items = ap (λ (v : Vec (CellBox _) Global). v.items) w.out-is in
            All-same (λ (x : PlainCellBox _). length x.1 ≡ c.args.sides) c.if-begin-end.out.items c.loop-i.out.items q c.loop-i.invariant.lengths
      ];
      ends = elim c.if-begin-end.branch [
        | then-begin-end+in_ok-sweep-2+in_ok-rows-2+in_ok-push_longer w ↦
            let q : c.if-begin-end.out.items ≡ c.loop-i.out.items ++ map (longer (a, z)) w.in_ok-rows-2.rows.items = ap (λ (v : Vec (CellBox _) Global). v.items) w.out-is ∙ w.in_ok-push_longer.ensures in
            let s = w.as_slice.ensures.value ∙ w.in_ok-sweep-2.ensures.live 0 (length c.args.boxes.now) a live c.requires.rows (omega arith) c.loop-i.invariant.sweep in
            turn_ends b live side a z cut c.loop-i.out.items c.if-begin-end.out.items w.in_ok-rows-2.rows.items q
            (λ x m. let r = among_row w.in_ok-rows-2.rows.items x m in row_all (λ (y : PlainCellBox _). length y.1 ≡ side) w.in_ok-rows-2.rows.items w.in_ok-rows-2.ensures.lengths r.0 x r.1)
            (λ x m. subst (λ ns. (r : ℕ) × Among r ns × EndsBy (box b r) x.1) s (w.in_ok-rows-2.ensures.ends x m))
            c.loop-i.invariant.ends
        | else-begin-end w ↦
            let q : c.if-begin-end.out.items ≡ c.loop-i.out.items = ap (λ (v : Vec (CellBox _) Global). v.items) w.out-is in
            λ x m. c.loop-i.invariant.ends x (subst (Among x) q m)
      ];
      least = elim c.if-begin-end.branch [
        | then-begin-end+in_ok-sweep-2+in_ok-rows-2+in_ok-push_longer w ↦
            let less : a < z = w.if-begin-end.true in
            let s = w.as_slice.ensures.value ∙ w.in_ok-sweep-2.ensures.live 0 (length c.args.boxes.now) a live c.requires.rows (omega arith) c.loop-i.invariant.sweep in
            let more : IsLeast (λ d. (c.loop-i.least ≡ Some d) ⊎ Q a d) w.covered.new.least = subst (λ m. IsLeast (λ d. (c.loop-i.least ≡ Some d) ⊎ IsSomewhere side h b m [] d) w.covered.new.least) s w.in_ok-rows-2.ensures.least in
            subst (λ o. Least o z) (sym w.least-is)
            (turn_least Q a z less (λ j d p r. ap (λ m. IsSomewhere side h b m [] d) (alike j p r)) c.args.least.now c.loop-i.least w.covered.new.least c.loop-i.invariant.least more)
        | else-begin-end w ↦
            let more : z ≤ a = w.if-begin-end.false in
            let same : a ≡ z = omega arith in
            subst (Least c.if-begin-end.least) same (subst (λ o. Least o a) (sym w.least-is) c.loop-i.invariant.least)
      ];
      sweep = elim c.if-begin-end.branch [
        | then-begin-end+in_ok-sweep-2+in_ok-rows-2+in_ok-push_longer w ↦
            let less : a < z = w.if-begin-end.true in
            subst (λ (s : Sweep). IsSweep b side live z s) (sym w.sweep-is)
            (sweep_later b side live a w.in_ok-sweep-2.sweep (w.in_ok-sweep-2.ensures.sweep 0 (length c.args.boxes.now) a live c.requires.rows (omega arith) c.loop-i.invariant.sweep) z (omega arith))
        | else-begin-end w ↦
            subst (λ (s : Sweep). IsSweep b side live z s) (sym w.sweep-is) (sweep_later b side live a c.loop-i.sweep c.loop-i.invariant.sweep z (omega arith))
      ];
      passed = λ j h. let w = order j i (omega arith) l in omega arith;
      ahead = λ j h m. let w = order i j (omega arith) m in omega arith;
    }

pub returns-clause-grid_points : goal.returns-clause-grid_points
returns-clause-grid_points g t c =
    let side : ℕ = c.args.sides - 1 in
    let below : side < c.args.sides = omega arith in
    let b = sides_of c.args.boxes.now in
    let live = c.args.live.now in
    let cuts = c.in_ok-cuts.cuts.items in
    let f = GivesLabel (λ a b. g.O.CellRule.means c.args.rule.now a) 0 in
    let e : suc side ≡ c.args.sides = omega arith in
    let end : length cuts ≤ c.loop-i.i = omega arith in
    let last : (i : ℕ) → c.loop-i.begin ≤ i → filter (side_has b side i) live ≡ [] = none_after b side live c.loop-i.begin (λ m h. all_passed cuts c.loop-i.begin (λ j q. c.loop-i.invariant.passed j (omega arith)) m (c.in_ok-cuts.ensures.cuts m h)) in
    λ l grid_point p.
    all_grid_points f b c.args.sides side c.loop-i.begin below live (has_sides c.args.boxes.now c.args.sides live c.requires.sides (all_below (length c.args.boxes.now) live c.requires.rows)) last
    c.loop-i.out.items c.loop-i.invariant.grid_points l grid_point (p ∙ sym e)

pub returns-clause-least : goal.returns-clause-least
returns-clause-least g t c =
    let side : ℕ = c.args.sides - 1 in
    let below : side < c.args.sides = omega arith in
    let b = sides_of c.args.boxes.now in
    let live = c.args.live.now in
    let cuts = c.in_ok-cuts.cuts.items in
    let h = GivesFault (λ a b. g.O.CellRule.means c.args.rule.now a) 0 in
    let e : suc side ≡ c.args.sides = omega arith in
    let end : length cuts ≤ c.loop-i.i = omega arith in
    let last : (i : ℕ) → c.loop-i.begin ≤ i → filter (side_has b side i) live ≡ [] = none_after b side live c.loop-i.begin (λ m h. all_passed cuts c.loop-i.begin (λ j q. c.loop-i.invariant.passed j (omega arith)) m (c.in_ok-cuts.ensures.cuts m h)) in
    subst (λ s. IsLeast (λ d. (c.args.least.now ≡ Some d) ⊎ IsSomewhere s h b live [] d) c.loop-i.least) e
    (least_more (λ d. (j : ℕ) × (j < c.loop-i.begin) × IsSomewhere side h b (filter (side_has b side j) live) [] d) (IsSomewhere (suc side) h b live []) c.args.least.now c.loop-i.least
    (somewhere_more h b c.args.sides side c.loop-i.begin below live [] (has_sides c.args.boxes.now c.args.sides live c.requires.sides (all_below (length c.args.boxes.now) live c.requires.rows)) tt last (λ i m. refl))
    c.loop-i.invariant.least)

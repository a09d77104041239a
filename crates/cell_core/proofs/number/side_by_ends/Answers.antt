use Rattle.std.proofs.Common.{◌≡◌, ◌+◌, ℕ, suc, pos, ◌+ℤ◌, ◌*◌, ◌<◌, ◌≤◌, min, map, length, get_or, arith, subst, sym}
use Rattle.std.proofs.lemmas.List.Sorted.{length_permutation}
use Rattle.std.specs.List.Sorted.{IsPermutation}
use Rattle.cell_packing.proofs.Order.{contains_among}
use Rattle.cell_core.specs.Numbering.{cut_at, AreEnds, IsCellAt}
use Rattle.cell_core.proofs.StepLemmas.{side_within}
use Rattle.cell_core.proofs.OneSide.{among_all, all_moved, spans_of, cells_within}
use Rattle.cell_core.proofs.number.side_by_ends.Goals as goal

pub sort-requires : goal.sort-requires
sort-requires g c = λ x h. among_all (λ y. g.T.PointType.IsPoint c.args.t.now y.0) c.args.list.now.items x c.requires.points (contains_among c.args.list.now.items x h)

pub cells_of-requires-clause-points : goal.cells_of-requires-clause-points
cells_of-requires-clause-points g c =
    all_moved (λ y. g.T.PointType.IsPoint c.args.t.now y.0) c.args.list.now.items c.as_slice.result.now (subst (IsPermutation c.args.list.now.items) (sym c.as_slice.ensures.value) c.in_ok-sort.ensures.same) c.requires.points

pub cells_of-requires-clause-grid_points : goal.cells_of-requires-clause-grid_points
cells_of-requires-clause-grid_points g c =
    all_moved (λ y. y.1 < 2 * c.args.count) c.args.list.now.items c.as_slice.result.now (subst (IsPermutation c.args.list.now.items) (sym c.as_slice.ensures.value) c.in_ok-sort.ensures.same) c.requires.grid_points

pub returns-clause-side : goal.returns-clause-side
returns-clause-side g c = λ spans same ends.
    let n = g.T.PointType.number_of in
    let has = g.T.PointType.IsPoint c.args.t.now in
    let high = g.T.PointType.last_number c.args.t.now in
    let top = high +ℤ pos 1 in
    let list = c.args.list.now.items in
    let sorted = c.as_slice.result.now in
    let cuts = c.cells_of.new.cuts.items in
    let table = c.as_slice-2.result.now in
    let rest : ℕ = 2 * c.args.count in
    let last = c.len-2.result in
    let moved = subst (IsPermutation list) (sym c.as_slice.ensures.value) c.in_ok-sort.ensures.same in
    let e = c.as_slice-3.ensures.value in
    let is_last : last ≡ length cuts = omega (arith, c.len-2.ensures) in
    let same_length : length sorted ≡ length list = length_permutation list sorted moved in
    let shorter = c.in_ok-table.ensures.count in
    let most = c.requires.count in
    let below : length cuts ≤ rest = omega arith in
    let all : AreEnds n has high spans (length spans) list = subst (λ m. AreEnds n has high spans m list) (sym same) ends in
    let at : (tag : ℕ) → tag < 2 * length spans → IsCellAt n cuts top rest sorted tag (get_or table tag 0) = λ tag h.
    subst (λ ts. IsCellAt n cuts top rest sorted tag (get_or ts tag 0)) (sym c.as_slice-2.ensures.value) (c.in_ok-table.ensures.cells tag (omega arith)) in
    let pairs : (r : ℕ) (d : ℕ × ℕ) → r < length spans → get_or c.in_ok-cells.cells.items r d ≡ (min (get_or table (2 * r) 0) last, min (get_or table (2 * r + 1) 0) last) = λ r d h. c.in_ok-cells.ensures.pairs r d (omega arith) in
    record {
      rises = c.in_ok-table.ensures.rises;
      points = c.in_ok-table.ensures.points;
      last_points = c.in_ok-ends.ensures.points;
      last_length = subst (λ xs. length c.in_ok-ends.ends.items ≡ length xs) e c.in_ok-ends.ensures.length;
      lasts = λ i d h. subst (λ xs. n (get_or c.in_ok-ends.ends.items i d) +ℤ pos 1 ≡ cut_at (map n xs) top (suc i)) e (c.in_ok-ends.ensures.numbers i d (subst (λ xs. i < length xs) (sym e) h));
      cells_length = let k = c.in_ok-cells.ensures.length in omega arith;
      cells = spans_of n has high spans list all sorted moved cuts table rest last is_last below at c.in_ok-cells.cells.items pairs;
      within = cells_within n has high spans list all sorted moved cuts table rest last is_last below at c.in_ok-cells.cells.items pairs;
      few = omega arith;
    }

pub returns-in_err-sort-clause-cost : goal.returns-in_err-sort-clause-cost
returns-in_err-sort-clause-cost g c =
    let m : ℕ = length c.args.list.now.items in
    side_within c.args.count m 0 c.args.steps.now c.sort.new.steps c.sort.new.steps c.sort.new.steps c.requires.count (omega arith) c.in_err-sort.ensures.cost (omega arith) (omega arith)

pub returns-in_err-table-clause-cost : goal.returns-in_err-table-clause-cost
returns-in_err-table-clause-cost g c =
    let m : ℕ = length c.args.list.now.items in
    let moved = subst (IsPermutation c.args.list.now.items) (sym c.as_slice.ensures.value) c.in_ok-sort.ensures.same in
    let l : length c.as_slice.result.now ≡ m = length_permutation c.args.list.now.items c.as_slice.result.now moved in
    let x : c.cells_of.new.steps ≤ c.sort.new.steps + m = subst (λ z. c.cells_of.new.steps ≤ c.sort.new.steps + z) l c.in_err-table.ensures.cost in
    side_within c.args.count m 0 c.args.steps.now c.sort.new.steps c.cells_of.new.steps c.cells_of.new.steps c.requires.count (omega arith) c.in_ok-sort.ensures.cost x (omega arith)

pub returns-in_err-cells-clause-cost : goal.returns-in_err-cells-clause-cost
returns-in_err-cells-clause-cost g c =
    let m : ℕ = length c.args.list.now.items in
    let moved = subst (IsPermutation c.args.list.now.items) (sym c.as_slice.ensures.value) c.in_ok-sort.ensures.same in
    let l : length c.as_slice.result.now ≡ m = length_permutation c.args.list.now.items c.as_slice.result.now moved in
    let x : c.cells_of.new.steps ≤ c.sort.new.steps + m = subst (λ z. c.cells_of.new.steps ≤ c.sort.new.steps + z) l c.in_ok-table.ensures.cost in
    side_within c.args.count m 0 c.args.steps.now c.sort.new.steps c.cells_of.new.steps c.cells_of.new.steps c.requires.count (omega arith) c.in_ok-sort.ensures.cost x (omega arith)

pub returns-in_err-ends-clause-cost : goal.returns-in_err-ends-clause-cost
returns-in_err-ends-clause-cost g c =
    let m : ℕ = length c.args.list.now.items in
    let moved = subst (IsPermutation c.args.list.now.items) (sym c.as_slice.ensures.value) c.in_ok-sort.ensures.same in
    let l : length c.as_slice.result.now ≡ m = length_permutation c.args.list.now.items c.as_slice.result.now moved in
    let x : c.cells_of.new.steps ≤ c.sort.new.steps + m = subst (λ z. c.cells_of.new.steps ≤ c.sort.new.steps + z) l c.in_ok-table.ensures.cost in
    let k : ℕ = length c.cells_of.new.cuts.items in
    let y : k ≤ m = subst (λ z. k ≤ z) l c.in_ok-table.ensures.count in
    let z : c.lasts.new.steps ≤ c.cells_of.new.steps + k = subst (λ xs. c.lasts.new.steps ≤ c.cells_of.new.steps + length xs) c.as_slice-3.ensures.value c.in_err-ends.ensures.cost in
    side_within c.args.count m k c.args.steps.now c.sort.new.steps c.cells_of.new.steps c.lasts.new.steps c.requires.count y c.in_ok-sort.ensures.cost x z

pub returns-clause-cost : goal.returns-clause-cost
returns-clause-cost g c =
    let m : ℕ = length c.args.list.now.items in
    let moved = subst (IsPermutation c.args.list.now.items) (sym c.as_slice.ensures.value) c.in_ok-sort.ensures.same in
    let l : length c.as_slice.result.now ≡ m = length_permutation c.args.list.now.items c.as_slice.result.now moved in
    let x : c.cells_of.new.steps ≤ c.sort.new.steps + m = subst (λ z. c.cells_of.new.steps ≤ c.sort.new.steps + z) l c.in_ok-table.ensures.cost in
    let k : ℕ = length c.cells_of.new.cuts.items in
    let y : k ≤ m = subst (λ z. k ≤ z) l c.in_ok-table.ensures.count in
    let z : c.lasts.new.steps ≤ c.cells_of.new.steps + k = subst (λ xs. c.lasts.new.steps ≤ c.cells_of.new.steps + length xs) c.as_slice-3.ensures.value c.in_ok-ends.ensures.cost in
    side_within c.args.count m k c.args.steps.now c.sort.new.steps c.cells_of.new.steps c.lasts.new.steps c.requires.count y c.in_ok-sort.ensures.cost x z

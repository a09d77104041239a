use Rattle.std.proofs.Common.{◌≡◌, ◌↔◌, List, length, sym, subst}
use Rattle.std.specs.Bool.{IsTrue}
use Rattle.std.proofs.lemmas.List.Elements.{All-same}
use Rattle.std.proofs.lemmas.List.Sorted.{All-permutation}
use Rattle.value_core.specs.Order.{row_total}
use Rattle.value_core.specs.Values.{Row, row_cmp}
use Rattle.cell_boxes.specs.Apartness.{AreApart}
use Rattle.cell_boxes.specs.Common.{HaveCells}
use Rattle.cell_boxes.specs.Rows.{Ascend, PlainCellBox}
use Rattle.cell_boxes.proofs.RowLemmas.{ascend_from_sorted}
use Rattle.u_set.proofs.ApartLemmas.{if_ok}
use Rattle.u_constraints.proofs.PairLemmas.{apart_moved}
use Rattle.u_constraints.proofs.apart.are_apart.Goals as goal

pub are_apart-requires-clause-sides : goal.are_apart-requires-clause-sides
are_apart-requires-clause-sides c =
    All-same (λ (x : PlainCellBox Row). length x.1 ≡ c.args.sides) c.as_slice.result.now c.sort.new.self.items c.as_slice.ensures.value
    (All-permutation (λ (x : PlainCellBox Row). length x.1 ≡ c.args.sides) c.args.rows.items c.sort.new.self.items c.in_ok-sort.ensures.permutation c.requires.sides)

pub are_apart-requires-clause-cells : goal.are_apart-requires-clause-cells
are_apart-requires-clause-cells c =
    All-same (λ (x : PlainCellBox Row). HaveCells x.1) c.as_slice.result.now c.sort.new.self.items c.as_slice.ensures.value
    (All-permutation (λ (x : PlainCellBox Row). HaveCells x.1) c.args.rows.items c.sort.new.self.items c.in_ok-sort.ensures.permutation c.requires.cells)

pub are_apart-requires-clause-order : goal.are_apart-requires-clause-order
are_apart-requires-clause-order c =
    subst (λ (rows : List (PlainCellBox Row)). Ascend row_cmp rows) (sym c.as_slice.ensures.value) (ascend_from_sorted row_cmp row_total c.sort.new.self.items c.in_ok-sort.ensures.sorted)

pub returns : goal.returns
returns c =
    let moved = apart_moved row_cmp row_total c.args.sides c.args.rows.items c.sort.new.self.items c.in_ok-sort.ensures.permutation in
    let same = c.as_slice.ensures.value in
    if_ok (λ b. IsTrue b ↔ AreApart row_cmp c.args.sides c.as_slice.result.now) (λ b. IsTrue b ↔ AreApart row_cmp c.args.sides c.args.rows.items) (λ b h. (
      λ t. moved.1 (subst (λ (rows : List (PlainCellBox Row)). AreApart row_cmp c.args.sides rows) same (h.0 t)),
      λ a. h.1 (subst (λ (rows : List (PlainCellBox Row)). AreApart row_cmp c.args.sides rows) (sym same) (moved.0 a)),
    )) c.are_apart.result c.are_apart.ensures

use Rattle.std.proofs.Common.{◌≡◌, ℕ, ◌++◌, map, ap, ◌∙◌, List}
use Rattle.std.proofs.lemmas.List.Sorted.{IsNonDecreasingBy-from_sort}
use Rattle.cell_boxes.proofs.CellLemmas.{cells_sorted}
use Rattle.cell_boxes.proofs.by_cell.cells_of.Goals as goal

pub returns-clause-order : goal.returns-clause-order
returns-clause-order c = λ i j h l. IsNonDecreasingBy-from_sort (λ x. x) c.sort.new.self.items c.in_ok-sort.ensures.sorted i j 0 h l

pub returns-clause-cuts : goal.returns-clause-cuts
returns-clause-cuts c =
    let starts = c.args.starts.now in
    let ends = c.args.ends.now in
    let first : c.push_cells.new.out.items ≡ map (λ (x : ℕ × ℕ). x.0) starts = c.in_ok-push_cells.ensures ∙ ap (λ (xs : List ℕ). xs ++ map (λ (x : ℕ × ℕ). x.0) starts) c.in_ok-cuts.ensures.items in
    let both = c.in_ok-push_cells-2.ensures ∙ ap (λ (xs : List ℕ). xs ++ map (λ (x : ℕ × ℕ). x.0) ends) first in
    cells_sorted starts ends c.push_cells-2.new.out.items c.sort.new.self.items both c.in_ok-sort.ensures.permutation

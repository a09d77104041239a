-- What figures need is there where no aggregate names a listed attribute, and columns and boxes of the rows meet it.
use Rattle.std.proofs.Common.{◌≡◌, ◌≢◌, ℕ, zero, suc, ◌^◌, ◌<◌, Bool, List, [], ◌∷◌, map, length, get_or, arith, sym, ap, ◌∙◌, subst}
use Rattle.std.specs.Bool.{IsTrue}
use Rattle.std.specs.List.{All, list_all}
use Rattle.std.proofs.lemmas.List.{length-map}
use Rattle.point_core.specs.Points.{number}
use Rattle.point_core.specs.declared.any_type.AnyPoint.{AnyPoint}
use Rattle.cell_packing.specs.Boxed.{Boxed}
use Rattle.value_core.specs.Values.{Row}
use Rattle.tree_core.specs.Trees.{PlainAggregate}
use Rattle.cell_core.specs.Cells.{row_numbers}
use Rattle.meaning_core.specs.Typing.{names_none}
use Rattle.u_set.specs.Boxes.{others, boxed}
use Rattle.u_row.proofs.LabelLemmas.{map_twice}
use Rattle.u_summarize.specs.Groups.{labels_in}
use Rattle.u_summarize.specs.Picked.{ArePicked}
use Rattle.u_summarize.specs.Figures.{PlainColumn, figures_of}
use Rattle.eval_using.specs.Columns.{AreColumns, ArePlaces, AreFigured, figures_label}
use Rattle.eval_using.specs.Labels.{group_label}
use Rattle.eval_using.proofs.AlikeColumns.{columns_alike}
use Rattle.eval_using.proofs.FigureGroups.{label_by_figures}

pub figured : (commalist places to at by : List ℕ) (aggregates : List PlainAggregate) (rows : List Row) (columns : List PlainColumn) → IsTrue (list_all (λ a. names_none commalist a.form) aggregates) → length rows < 2 ^ 63
    → AreColumns rows aggregates columns → ArePlaces places to at by (length aggregates) rows (map (others commalist) rows) → AreFigured places to at by aggregates rows (map (others commalist) rows) columns
figured commalist places to at by aggregates rows columns unnamed few are spots = record {
  columns = are;
  alike = columns_alike commalist rows aggregates unnamed columns are;
  places = spots;
  count = sym (length-map rows (others commalist));
  few = few;
}

long : (rows : List Row) (aggregates : List PlainAggregate) (columns : List PlainColumn) → AreColumns rows aggregates columns → (i : ℕ) (c : PlainColumn) → i < length columns → length (get_or columns i c).2 ≡ length rows
long rows [] [] h i c l = absurd (omega (arith, l))
long rows [] (d ∷ ds) h i c l = absurd h
long rows (a ∷ rest) [] h i c l = absurd h
long rows (a ∷ rest) (d ∷ ds) h zero c l = h.0
long rows (a ∷ rest) (d ∷ ds) h (suc i) c l = long rows rest ds h.2 i c (omega (arith, l))

-- each column has a number for each row
pub all_long : (rows : List Row) (aggregates : List PlainAggregate) (columns : List PlainColumn) (n : ℕ) → AreColumns rows aggregates columns → length rows ≡ n → All (λ (c : PlainColumn). length c.2 ≡ n) columns
all_long rows aggregates columns n h e = λ i c l. long rows aggregates columns h i c l ∙ e

-- the boxes of the rows have their labels
pub labels_of_boxes : (commalist : List ℕ) (rows : List Row) (boxes : List (Row × List (AnyPoint × AnyPoint))) → map (row_numbers number) boxes ≡ map (boxed commalist) rows → labels_in boxes ≡ map (others commalist) rows
labels_of_boxes commalist rows boxes e =
    sym (map_twice (λ (x : Boxed Row). x.0) (row_numbers number) boxes) ∙ ap (map (λ (x : Boxed Row). x.0)) e ∙ map_twice (λ (x : Boxed Row). x.0) (boxed commalist) rows

-- what groups of boxes with these labels give is what their figures give
pub fits_labels : (commalist places to at by keys : List ℕ) (aggregates : List PlainAggregate) (rows own labels : List Row) (columns : List PlainColumn) → AreFigured places to at by aggregates rows (map (others commalist) rows) columns
    → keys ≡ by → own ≡ rows → labels ≡ map (others commalist) rows → (key : Row) (a : List ℕ) (f : List Bool) → a ≢ [] → ArePicked keys labels key a f → group_label to at aggregates own a ≡ figures_label places aggregates key (figures_of columns f)
fits_labels commalist places to at by keys aggregates rows own labels columns is k o l key a f n p =
    ap (λ (rs : List Row). group_label to at aggregates rs a) o
    ∙ label_by_figures places to at by aggregates rows (map (others commalist) rows) columns is key a f n
    (subst (λ (w : List ℕ × List Row). ArePicked w.0 w.1 key a f) (λ t. (k t, l t)) p)

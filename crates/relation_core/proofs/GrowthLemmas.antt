-- Some rows of a relation are few, fit its heading, and stand in order.
use Rattle.std.proofs.Common.{◌≡◌, ◌≤◌, List, length, sym, ap, ◌∙◌, subst, arith, true}
use Rattle.std.specs.Bool.{IsTrue}
use Rattle.std.specs.List.{list_all}
use Rattle.value_core.specs.Values.{Row, Relation, IsRelation, fits_heading, rows_of, most_rows}
use Rattle.relation_core.specs.Growth.{IsSelection}
use Rattle.relation_core.proofs.FilterLemmas.{list_all-filter, length-filter_at_most, rows_of-filter, rows_ascend}

pub selection_fits : (r : Relation) (rows : List Row) → IsRelation r → IsSelection r.rows rows → IsTrue (list_all (fits_heading r.heading) rows)
selection_fits r rows is s =
    subst (λ (l : List Row). list_all (fits_heading r.heading) l ≡ true) (sym s.1) (list_all-filter (fits_heading r.heading) s.0 r.rows is.fitting)

pub selection_few : (r : Relation) (rows : List Row) → IsRelation r → IsSelection r.rows rows → length rows ≤ most_rows
selection_few r rows is s =
    let less = length-filter_at_most s.0 r.rows in
    let few = is.few in
    subst (λ (l : List Row). length l ≤ most_rows) (sym s.1) (omega (arith, less, few))

pub selection_is : (r : Relation) (rows : List Row) → IsRelation r → IsSelection r.rows rows → rows_of rows ≡ rows
selection_is r rows is s = ap (λ (l : List Row). rows_of l) s.1 ∙ (rows_of-filter s.0 r.rows (rows_ascend r is) ∙ sym s.1)

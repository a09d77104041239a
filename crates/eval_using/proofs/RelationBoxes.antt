-- The boxes of a relation: what a rule asks of them, and their sides.
use Rattle.std.proofs.Common.{◌≡◌, ℕ, ◌<◌, List, map, length, get_or, sym, ap, ◌∙◌, subst, arith}
use Rattle.std.specs.Bool.{IsTrue}
use Rattle.std.specs.List.{All}
use Rattle.std.proofs.lemmas.List.{length-map}
use Rattle.std.proofs.lemmas.List.Elements.{Contains-get_or}
use Rattle.base_core.proofs.MemberLemmas.{list_all-In}
use Rattle.base_core.proofs.SetLemmas.{In-from_Contains}
use Rattle.point_core.specs.Points.{number, IsPointOf}
use Rattle.point_core.specs.declared.any_type.AnyPoint.{AnyPoint}
use Rattle.value_core.specs.Values.{Row, Relation, IsRelation, fits_heading}
use Rattle.cell_packing.specs.Boxed.{Boxed}
use Rattle.cell_core.specs.Boxes.{IsBox}
use Rattle.cell_core.specs.Cells.{row_numbers}
use Rattle.u_set.specs.Boxes.{AreIntervals, types_at, spans_at, boxed}
use Rattle.u_row.specs.Rules.{sides_numbers}
use Rattle.u_row.proofs.LabelLemmas.{map_twice}
use Rattle.eval_using.specs.Swept.{AreBoxed}

abbrev pub are_boxed : (r : Relation) (commalist : List ℕ) → IsRelation r → AreIntervals r.heading commalist
    → (boxes : List (Row × List (AnyPoint × AnyPoint))) → map (row_numbers number) boxes ≡ map (boxed commalist) r.rows → All (λ b. IsBox IsPointOf (types_at r.heading commalist) b.1) boxes
    → (rows : List Row) → rows ≡ r.rows → (i : ℕ) → i < length boxes → AreBoxed commalist rows boxes i
are_boxed r commalist is intervals boxes same points rows e i l =
    let here : map (row_numbers number) boxes ≡ map (boxed commalist) rows = same ∙ ap (map (boxed commalist)) (sym e) in
    let many : length boxes ≡ length rows = sym (length-map boxes (row_numbers number)) ∙ ap length here ∙ length-map rows (boxed commalist) in
    record {
      heading = r.heading;
      intervals = intervals;
      fitting = subst (λ (rs : List Row). All (λ x. IsTrue (fits_heading r.heading x)) rs) (sym e) (λ j d m.
          (list_all-In (fits_heading r.heading) r.rows).0 is.fitting (get_or r.rows j d) (In-from_Contains r.rows (get_or r.rows j d) (Contains-get_or r.rows j d m)));
      same = here;
      points = points;
      below = omega (arith, l, many);
    }

pub all_sides : (commalist : List ℕ) (rows : List Row) (boxes : List (Row × List (AnyPoint × AnyPoint))) → map (row_numbers number) boxes ≡ map (boxed commalist) rows
    → sides_numbers number boxes ≡ map (spans_at commalist) rows
all_sides commalist rows boxes same =
    sym (map_twice (λ (x : Boxed Row). x.1) (row_numbers number) boxes) ∙ ap (map (λ (x : Boxed Row). x.1)) same ∙ map_twice (λ (x : Boxed Row). x.1) (boxed commalist) rows

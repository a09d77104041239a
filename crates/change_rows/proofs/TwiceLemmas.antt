-- Rows that are packed once more stay as they are.
--     packed_twice      so it is of the packed form of a set of rows
use Rattle.std.proofs.Common.{◌≡◌, ◌↔◌, ℕ, ℤ, List, length, map, sym, subst}
use Rattle.base_core.proofs.SetLemmas.{In, same_by_members}
use Rattle.value_core.specs.Order.{row_total, row_separates}
use Rattle.value_core.specs.RowPacking.{packed}
use Rattle.value_core.specs.Values.{Row, Heading, row_cmp}
use Rattle.cell_packing.specs.Boxed.{Boxed, packed_boxes}
use Rattle.cell_packing.proofs.PackedBoxes.{among_in}
use Rattle.cell_core.proofs.PackedGridPoints.{in_packed_box, from_packed_box}
use Rattle.u_set.specs.Boxes.{AreIntervals, others, boxed}
use Rattle.u_set.proofs.BridgeLemmas.{boxes_have}
use Rattle.change_rows.proofs.LabelLemmas.{IsSet, HasPlace, box_among, packed_image, packed_set, same_packed}

module _ (heading : Heading) (commalist : List ℕ) (intervals : AreIntervals heading commalist) (rows : List Row) (set : IsSet heading commalist intervals rows) where
  abbrev form : List (Boxed Row)
  form = packed_boxes row_cmp (length commalist) (map (boxed commalist) rows)

  -- the packed rows have the places of the rows
  places_packed : (l : Row) (place : List ℤ) → HasPlace heading commalist intervals (packed commalist rows) l place ↔ HasPlace heading commalist intervals rows l place
  places_packed l place =
      let have = boxes_have heading commalist intervals rows in
      let image = packed_image heading commalist intervals rows set in (
        λ h.
            let w = (box_among heading commalist intervals (packed commalist rows) l h.0).0 h.1 in
            from_packed_box row_cmp row_total row_separates (length commalist) (map (boxed commalist) rows) have l place
            (h.0, (among_in (l, h.0) form).1 (subst (λ (b : Boxed Row). In b form) (sym w.2) (image.to w.0 w.1)), h.2),
        λ h.
            let w = in_packed_box row_cmp row_total row_separates (length commalist) (map (boxed commalist) rows) have l place h in
            let v = image.from (l, w.0) ((among_in (l, w.0) form).0 w.1) in
            (w.0, (box_among heading commalist intervals (packed commalist rows) l w.0).1 (v.0, v.1, v.2), w.2),
      )

  pub packed_twice : packed commalist (packed commalist rows) ≡ packed commalist rows
  packed_twice =
      let once = packed_set heading commalist intervals rows set in
      same_by_members row_cmp row_total row_separates (packed commalist (packed commalist rows)) (packed commalist rows) (packed_set heading commalist intervals (packed commalist rows) once).0 once.0 (λ x.
      same_packed heading commalist intervals (packed commalist rows) rows once set x (places_packed (others commalist x)))

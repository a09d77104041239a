-- Rows are packed exactly where their boxes are.
--     packed_already      rows that packing leaves as they are
use Rattle.std.proofs.Common.{◌≡◌, ◌↔◌, ◌∙◌, ℕ, List, Bool, true, length, map, refl, sym, ap, subst}
use Rattle.std.specs.Bool.{IsTrue}
use Rattle.base_core.specs.Sets.{in_order}
use Rattle.base_core.proofs.SetLemmas.{In, Ascends, In-in_order, Ascends-in_order}
use Rattle.base_core.proofs.MemberLemmas.{In-map}
use Rattle.base_core.proofs.SetOperatorLemmas.{same_tests, are_same-In, are_same-≡}
use Rattle.value_core.specs.Order.{row_total, row_separates}
use Rattle.value_core.specs.RowPacking.{attribute, packed}
use Rattle.value_core.specs.Values.{Row, Heading, row_cmp, same_rows}
use Rattle.cell_packing.specs.Boxed.{Boxed, packed_boxes, sides_from}
use Rattle.u_set.specs.Boxes.{AreIntervals, IsShaped, boxed, unboxed}
use Rattle.u_set.proofs.BoxLemmas.{all_alike, unboxed-boxed}
use Rattle.u_set.proofs.BridgeLemmas.{box_cmp, box_total, box_separates}
use Rattle.u_set.proofs.ImageLemmas.{IsImage, Ascends-pack, image-pack, same_alike}
use Rattle.u_constraints.specs.Constraints.{is_packed}

-- rows that packing leaves as they are
pub packed_already : (commalist : List ℕ) (rows : List Row) → packed commalist rows ≡ rows → true ≡ is_packed commalist rows
packed_already commalist rows e = sym (ap (same_rows rows) e ∙ (are_same-In row_cmp row_total row_separates rows rows).1 (λ x. (λ i. i, λ i. i)))

module _ (heading : Heading) (commalist : List ℕ) (intervals : AreIntervals heading commalist) (rows : List Row) (up : Ascends row_cmp rows) (shaped : (x : Row) → In x rows → IsShaped heading commalist x) where
  abbrev own : List (Boxed Row)
  own = in_order box_cmp (map (boxed commalist) rows)

  abbrev form : List (Boxed Row)
  form = packed_boxes row_cmp (length commalist) (map (boxed commalist) rows)

  image : IsImage (IsShaped heading commalist) (boxed commalist) rows own
  image = record {
    shaped = shaped;
    to = λ x i. (In-in_order box_cmp box_total box_separates (boxed commalist x) (map (boxed commalist) rows)).1 ((In-map (boxed commalist) (boxed commalist x) rows).1 (x, i, refl));
    from = λ y i. (In-map (boxed commalist) y rows).0 ((In-in_order box_cmp box_total box_separates y (map (boxed commalist) rows)).0 i);
  }

  packed_image : IsImage (IsShaped heading commalist) (boxed commalist) (packed commalist rows) form
  packed_image =
      image-pack row_cmp row_total row_separates box_cmp box_total box_separates (IsShaped heading commalist) (boxed commalist) (unboxed heading commalist) (unboxed-boxed heading commalist intervals)
      (map attribute commalist) (sides_from 0 (length commalist)) (all_alike heading commalist intervals) rows own image

  -- rows are packed exactly where their boxes are
  pub packed_iff : IsTrue (is_packed commalist rows) ↔ (own ≡ form)
  packed_iff =
      let same =
      same_alike row_cmp row_total row_separates box_cmp box_total box_separates (IsShaped heading commalist) (boxed commalist) (unboxed heading commalist) (unboxed-boxed heading commalist intervals)
      rows (packed commalist rows) own form image packed_image in
      let own_up : Ascends box_cmp own = Ascends-in_order box_cmp box_total box_separates (map (boxed commalist) rows) in
      let form_up : Ascends box_cmp form = Ascends-pack box_cmp box_total box_separates (sides_from 0 (length commalist)) own own_up in
      let equal = are_same-≡ box_cmp box_total box_separates own form own_up form_up in
      (λ t. equal.0 (subst (λ b. IsTrue b) (sym same) t), λ e. subst (λ b. IsTrue b) same (equal.1 e))

  pub packed_told : (kept : Bool) → IsTrue kept ↔ (own ≡ form) → kept ≡ is_packed commalist rows
  packed_told kept h = same_tests kept (is_packed commalist rows) (λ t. packed_iff.1 (h.0 t), λ t. h.1 (packed_iff.0 t))

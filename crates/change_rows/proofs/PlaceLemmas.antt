-- An unpacked row is one of the given rows but for the values at the listed positions.
--     opened_from      the row that it comes from
use Rattle.std.proofs.Common.{◌≡◌, ℕ, ℤ, false, List, [], ◌∷◌, refl, ap, ◌∙◌}
use Rattle.base_core.proofs.SetLemmas.{In}
use Rattle.value_core.specs.Attributes.{value_at, among}
use Rattle.value_core.specs.Order.{row_total, row_separates}
use Rattle.value_core.specs.RowPacking.{attribute, unpacked}
use Rattle.value_core.specs.Values.{Row, row_cmp}
use Rattle.scalar_core.specs.AtPlaces.{at_place}
use Rattle.scalar_core.proofs.SweepLemmas.{at_place-other}
use Rattle.u_set.proofs.ImageLemmas.{In-unpack1}

-- the row at some place
opened_place : (commalist : List ℕ) (rows : List Row) (x : Row) → In x (unpacked commalist rows) → (row : Row) × (place : List ℤ) × In row rows × (x ≡ at_place commalist place row)
opened_place [] rows x i = (x, [], i, refl)
opened_place (a ∷ commalist) rows x i =
    let w = opened_place commalist (unpacked (a ∷ []) rows) x i in
    let v = (In-unpack1 row_cmp row_total row_separates (attribute a) rows w.0).0 w.2 in
    (v.0, v.1 ∷ w.1, v.2, w.3 ∙ ap (at_place commalist w.1) v.4)

pub opened_from : (commalist : List ℕ) (rows : List Row) (x : Row) → In x (unpacked commalist rows) → (row : Row) × In row rows × ((i : ℕ) → among commalist i ≡ false → value_at x i ≡ value_at row i)
opened_from commalist rows x i =
    let w = opened_place commalist rows x i in
    (w.0, w.2, λ k n. ap (λ (y : Row). value_at y k) w.3 ∙ at_place-other commalist w.1 w.0 k n)

-- What the comparisons of packed forms over numbered cells say of the rows.
use Rattle.std.proofs.Common.{◌≡◌, ℕ, Bool, List, [], ◌∷◌, ◌++◌, map, length, ◌↔◌, inl, inr, sym, ap, subst, refl, ◌∙◌, Ordering}
use Rattle.std.specs.Bool.{IsTrue}
use Rattle.std.specs.Cmp.{IsTotalOrder}
use Rattle.std.specs.List.{AllByRecursion}
use Rattle.base_core.specs.Sets.{in_order, is_within, are_same}
use Rattle.base_core.proofs.SetLemmas.{Separates}
use Rattle.base_core.proofs.SetOperatorLemmas.{same_tests}
use Rattle.cell_packing.specs.Covering.{Among}
use Rattle.cell_packing.specs.Boxed.{Boxed, boxed_cmp, packed_boxes, unpacked_boxes}
use Rattle.cell_sweep.specs.Rows.{key_cmp}
use Rattle.cell_core.proofs.OrderLemmas.{boxed_total, key_separates, all_in_order, map_in_order, one_from}
use Rattle.cell_core.proofs.PackedGridPoints.{AllHave, packed_from_same, same_from_packed, both_have, both_boxes}
use Rattle.cell_core.proofs.UnpackedLemmas.{same_iff, within_iff}

-- forms over cells, which `row` takes to boxes and whose order it keeps
module _ {L : Type 0} (order : L → L → Ordering) (o : IsTotalOrder order) (same : Separates order) (k : ℕ) (row : L × List (ℕ × ℕ) → Boxed L)
    (keeps : (x y : L × List (ℕ × ℕ)) → length x.1 ≡ k → length y.1 ≡ k → boxed_cmp order (row x) (row y) ≡ key_cmp order x y) where
  abbrev CellBox : Type 0
  CellBox = L × List (ℕ × ℕ)

  abbrev Sided : CellBox → Type 0
  Sided x = length x.1 ≡ k

  sided : (v : List CellBox) → ((x : CellBox) → Among x v → length x.1 ≡ k) → AllByRecursion Sided v
  sided [] h = tt
  sided (x ∷ xs) h = (h x (inl refl), sided xs (λ y m. h y (inr m)))

  pub packed_answer : (keys set v : List CellBox) → AllByRecursion Sided keys → set ≡ in_order (key_cmp order) keys → ((x : CellBox) → Among x v → length x.1 ≡ k) → (packed : List (Boxed L)) → map row v ≡ packed
      → (b : Bool) → IsTrue b ↔ (set ≡ v) → IsTrue b ↔ (in_order (boxed_cmp order) (map row keys) ≡ packed)
  packed_answer keys set v lk es lv packed ev b i =
      let own : AllByRecursion Sided set = subst (AllByRecursion Sided) (sym es) (all_in_order (key_cmp order) (boxed_cmp order) row Sided keeps keys lk) in
      let e : map row set ≡ in_order (boxed_cmp order) (map row keys) = ap (map row) es ∙ map_in_order (key_cmp order) (boxed_cmp order) row Sided keeps keys lk in (
        λ t. sym e ∙ ap (map row) (i.0 t) ∙ ev,
        λ q. i.1 (one_from (key_cmp order) (boxed_cmp order) row Sided keeps (boxed_total o) (key_separates same) set v own (sided v lv) (e ∙ q ∙ sym ev)),
      )

  same_forms : (v w : List CellBox) → ((x : CellBox) → Among x v → length x.1 ≡ k) → ((x : CellBox) → Among x w → length x.1 ≡ k) → (v ≡ w) ↔ (map row v ≡ map row w)
  same_forms v w hv hw = (ap (map row), one_from (key_cmp order) (boxed_cmp order) row Sided keeps (boxed_total o) (key_separates same) v w (sided v hv) (sided w hw))

  -- two forms are one where what they are the forms of packs alike
  pub same_packed : (v w : List CellBox) → ((x : CellBox) → Among x v → length x.1 ≡ k) → ((x : CellBox) → Among x w → length x.1 ≡ k) → (a b : List (Boxed L)) → map row v ≡ a → map row w ≡ b
      → (c : Bool) → IsTrue c ↔ (v ≡ w) → IsTrue c ↔ (a ≡ b)
  same_packed v w lv lw a b ev ew c i = (λ t. sym ev ∙ ap (map row) (i.0 t) ∙ ew, λ q. i.1 ((same_forms v w lv lw).1 (ev ∙ q ∙ sym ew)))

  module _ (left right : List (Boxed L)) (hl : AllHave k left) (hr : AllHave k right) (v w : List CellBox) (lv : (x : CellBox) → Among x v → length x.1 ≡ k) (lw : (x : CellBox) → Among x w → length x.1 ≡ k) where
    pub same_answer : map row v ≡ packed_boxes order k left → map row w ≡ packed_boxes order k right → (b : Bool) → IsTrue b ↔ (v ≡ w)
        → b ≡ are_same (boxed_cmp order) (unpacked_boxes order k left) (unpacked_boxes order k right)
    same_answer ev ew b i =
        let f = same_forms v w lv lw in
        let s = same_iff order o same k left right hl hr in
        same_tests b (are_same (boxed_cmp order) (unpacked_boxes order k left) (unpacked_boxes order k right)) (
          λ t. s.1 (same_from_packed order o same k left right hl hr (sym ev ∙ f.0 (i.0 t) ∙ ew)),
          λ t. i.1 (f.1 (ev ∙ packed_from_same order o same k left right hl hr (s.0 t) ∙ sym ew)),
        )

    -- the left points are among the right ones where the right rows pack as all rows do
    pub within_answer : map row v ≡ packed_boxes order k (left ++ right) → map row w ≡ packed_boxes order k right → (b : Bool) → IsTrue b ↔ (v ≡ w)
        → b ≡ is_within (boxed_cmp order) (unpacked_boxes order k left) (unpacked_boxes order k right)
    within_answer ev ew b i =
        let f = same_forms v w lv lw in
        let s = within_iff order o same k left right hl hr in
        same_tests b (is_within (boxed_cmp order) (unpacked_boxes order k left) (unpacked_boxes order k right)) (
          λ t. s.1 (λ l grid_point h. (same_from_packed order o same k (left ++ right) right (both_have k left right hl hr) hr (sym ev ∙ f.0 (i.0 t) ∙ ew) l grid_point).0 ((both_boxes left right l grid_point).1 (inl h))),
          λ t. i.1 (f.1 (ev ∙ packed_from_same order o same k (left ++ right) right (both_have k left right hl hr) hr (λ l grid_point. (
            λ h. elim ((both_boxes left right l grid_point).0 h) [ inl a ↦ s.0 t l grid_point a | inr a ↦ a ],
            λ h. (both_boxes left right l grid_point).1 (inr h),
          )) ∙ sym ew)),
        )

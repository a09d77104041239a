-- Marks of the rows of each key.
use Rattle.std.proofs.Common.{◌≡◌, ℕ, ◌<◌, ◌≤◌, Bool, true, List, [], ◌∷◌, map, length, ◌↔◌, ◌⊎◌, inl, inr, arith, sym, ap, subst, refl, ◌∙◌, Ordering, Option, Some}
use Rattle.std.specs.declared.cmp.Ordering.TheVariants.{Equal}
use Rattle.std.specs.Cmp.{IsTotalOrder}
use Rattle.std.specs.List.{All}
use Rattle.std.proofs.lemmas.Bool.{cases_lt, and_parts, and_from}
use Rattle.std.proofs.lemmas.List.{get_or_default}
use Rattle.cell_packing.specs.Covering.{Among}
use Rattle.cell_packing.specs.Live.{span_has}
use Rattle.cell_packing.specs.Packed.{no_cells}
use Rattle.point_core.specs.declared.fault.Fault.{Fault}
use Rattle.point_core.specs.LeastFault.{IsLeast}
use Rattle.cell_sweep.specs.PackedRows.{HasRow}
use Rattle.cell_boxes.specs.Common.{At, EndsBy, first_of}
use Rattle.cell_boxes.specs.Rows.{Ascend, IsRow, PlainCellBox}
use Rattle.cell_boxes.specs.Tallies.{IsIn, Within, span_at, OfTallied, IsPart, AreFlagged, OfFlagged}
use Rattle.cell_boxes.proofs.GroupLemmas.{Split, one_key, only, least_all}
use Rattle.cell_sweep.proofs.Sweeping.{cell_has, span_from}
use Rattle.cell_boxes.proofs.RowLemmas.{row_among, row_sides, row_there, map_row}

-- V holds of some key and of the flags of its rows that have the cell, and these are before n
abbrev pub DoneFlags : {P : Type 0} → List (PlainCellBox P) → ℕ → (P → List Bool → Type 0) → ℕ → Type 0
DoneFlags {P} rows n V j = (k : P) × (f : List Bool) × AreFlagged rows k (j ∷ []) f × ((r : ℕ) → IsIn f r → r < n) × V k f

-- ---- boxes of one side

at_one : (y : List (ℕ × ℕ)) (j : ℕ) → length y ≡ 1 → At y (j ∷ []) ↔ ((first_of y).0 ≤ j) × (j < (first_of y).1)
at_one [] j e = absurd (omega (arith, e))
at_one (s ∷ []) j e = (λ h. cell_has s j (and_parts (span_has s j) true h).0, λ h. and_from (span_has s j) true (span_from s j h.0 h.1) refl)
at_one (s ∷ t ∷ ys) j e = absurd (omega (arith, e))

one_side : (y : List (ℕ × ℕ)) → length y ≡ 1 → first_of y ∷ [] ≡ y
one_side [] e = absurd (omega (arith, e))
one_side (s ∷ []) e = refl
one_side (s ∷ t ∷ ys) e = absurd (omega (arith, e))

module _ {P : Type 0} (rows : List (PlainCellBox P)) (spans : List (ℕ × ℕ)) (are : spans ≡ map (λ (x : PlainCellBox P). first_of x.1) rows) (sides : All (λ (x : PlainCellBox P). length x.1 ≡ 1) rows) where
  span_is : (r : ℕ) (x : PlainCellBox P) → IsRow rows r x → span_at spans r ≡ first_of x.1
  span_is r x h =
      let w = map_row (λ (z : PlainCellBox P). first_of z.1) rows r x h in
      subst (λ ss. span_at ss r ≡ first_of x.1) (sym are) (get_or_default (map (λ (z : PlainCellBox P). first_of z.1) rows) r no_cells (first_of x.1) w.0 ∙ w.1)

  -- a row has the cell where its first side has it
  row_at : (j r : ℕ) (x : PlainCellBox P) → IsRow rows r x → At x.1 (j ∷ []) ↔ ((span_at spans r).0 ≤ j) × (j < (span_at spans r).1)
  row_at j r x h = subst (λ (s : ℕ × ℕ). At x.1 (j ∷ []) ↔ (s.0 ≤ j) × (j < s.1)) (sym (span_is r x h)) (at_one x.1 j (row_sides 1 rows sides r x h))

  pub part_of_row : {R : Type 0} (group : ℕ × ℕ) → group.1 ≤ length rows → (z : PlainCellBox R) → IsPart spans group z → (length z.1 ≡ 1) × ((x : PlainCellBox P) × Among x rows × EndsBy x.1 z.1)
  part_of_row group within z h =
      let w = h.row in
      let l = w.1.1 in
      let t = row_there rows w.0 (omega arith) in
      let e : span_at spans w.0 ∷ [] ≡ t.0.1 = ap (λ (s : ℕ × ℕ). s ∷ []) (span_is w.0 t.0 t.1) ∙ one_side t.0.1 (row_sides 1 rows sides w.0 t.0 t.1) in
      (h.side, (t.0, row_among rows w.0 t.0 t.1, subst (λ y. EndsBy y z.1) e w.2))

  -- ---- one more key

  module _ (order : P → P → Ordering) (total : IsTotalOrder order) (separates : (a b : P) → order a b ≡ Equal → a ≡ b)
      (up : Ascend order rows) (first end : ℕ) (was : Split rows first) (some : first < end) (within : end ≤ length rows)
      (x0 : PlainCellBox P) (at : IsRow rows first x0)
      (same : (q : ℕ) (y : PlainCellBox P) → IsRow rows q y → first < q → q < end → order x0.0 y.0 ≡ Equal)
      (other : (y : PlainCellBox P) → IsRow rows end y → order x0.0 y.0 ≡ Equal → ⊥) where
    abbrev pub AreHere : ℕ → List Bool → Type 0
    AreHere j f = (r : ℕ) → IsIn f r ↔ Within (first, end) r × ((span_at spans r).0 ≤ j) × (j < (span_at spans r).1)

    flagged_from : (j : ℕ) (f : List Bool) → length f ≡ length rows → AreHere j f → AreFlagged rows x0.0 (j ∷ []) f
    flagged_from j f n is = record {
      count = n;
      flags = λ r. (
        λ h.
            let w = (is r).0 h in
            let l = w.0.1 in
            let t = row_there rows r (omega arith) in
            (t.0, t.1, one_key order total separates rows up first end was some within x0 at same other r t.0 t.1 w.0.0 w.0.1, (row_at j r t.0 t.1).1 (w.1, w.2)),
        λ h.
            let v = (row_at j r h.0 h.1).0 h.3 in
            (is r).1 (only order total separates rows up first end was some within x0 at same other r h.0 h.1 h.2, v.0, v.1),
      );
    }

    here_from : (j : ℕ) (f : List Bool) → AreFlagged rows x0.0 (j ∷ []) f → AreHere j f
    here_from j f m r = (
      λ h.
          let w = (m.flags r).0 h in
          let v = (row_at j r w.0 w.1).0 w.3 in
          (only order total separates rows up first end was some within x0 at same other r w.0 w.1 w.2, v.0, v.1),
      λ h.
          let l = h.0.1 in
          let t = row_there rows r (omega arith) in
          (m.flags r).1 (t.0, t.1, one_key order total separates rows up first end was some within x0 at same other r t.0 t.1 h.0.0 h.0.1, (row_at j r t.0 t.1).1 (h.1, h.2)),
    )

    pub tallied_more : (V : P → List Bool → Type 0) → ((k : P) (f : List Bool) → V k f → (r : ℕ) × IsIn f r) → (j : ℕ)
        → (DoneFlags rows first V j ⊎ OfTallied (V x0.0) spans (first, end) (length rows) j) ↔ DoneFlags rows end V j
    tallied_more V flagged j = (
      λ h. elim h [
        | inl w ↦ (w.0, w.1, w.2, (λ r m. let l = w.3 r m in omega arith), w.4)
        | inr w ↦ (x0.0, w.0, flagged_from j w.0 w.1 w.2, (λ r m. ((w.2 r).0 m).0.1), w.3)
      ],
      λ h.
          let s = flagged h.0 h.1 h.4 in
          let w = (h.2.flags s.0).0 s.1 in
          elim (cases_lt s.0 first) [
            | inl l ↦ inl (h.0, h.1, h.2, (λ r m. let v = (h.2.flags r).0 m in elim (cases_lt r first) [ inl q ↦ q | inr q ↦ absurd (was s.0 r w.0 v.0 l q w.1 v.1 (w.2 ∙ sym v.2)) ]), h.4)
            | inr l ↦
                let k : h.0 ≡ x0.0 = sym w.2 ∙ one_key order total separates rows up first end was some within x0 at same other s.0 w.0 w.1 l (h.3 s.0 s.1) in
                let g : AreFlagged rows x0.0 (j ∷ []) h.1 = subst (λ k. AreFlagged rows k (j ∷ []) h.1) k h.2 in
                inr (h.1, g.count, here_from j h.1 g, subst (λ k. V k h.1) k h.4)
          ],
    )

    pub fault_more : (V : Fault → P → List Bool → Type 0) → ((e : Fault) (k : P) (f : List Bool) → V e k f → (r : ℕ) × IsIn f r) → (o b c : Option Fault)
        → IsLeast (λ e. (o ≡ Some e) ⊎ ((j : ℕ) × DoneFlags rows first (V e) j)) b
        → IsLeast (λ e. (b ≡ Some e) ⊎ ((j : ℕ) × OfTallied (V e x0.0) spans (first, end) (length rows) j)) c
        → IsLeast (λ e. (o ≡ Some e) ⊎ ((j : ℕ) × DoneFlags rows end (V e) j)) c
    fault_more V flagged o b c =
        least_all (λ e. (j : ℕ) × DoneFlags rows first (V e) j) (λ e. (j : ℕ) × OfTallied (V e x0.0) spans (first, end) (length rows) j) (λ e. (j : ℕ) × DoneFlags rows end (V e) j) o b c
        (λ e. (
          λ h. elim h [ inl w ↦ (w.0, (tallied_more (V e) (flagged e) w.0).0 (inl w.1)) | inr w ↦ (w.0, (tallied_more (V e) (flagged e) w.0).0 (inr w.1)) ],
          λ h. elim ((tallied_more (V e) (flagged e) h.0).1 h.1) [ inl w ↦ inl (h.0, w) | inr w ↦ inr (h.0, w) ],
        ))

-- ---- no key yet, and all keys

pub flags_none : {P : Type 0} (rows : List (PlainCellBox P)) (V : P → List Bool → Type 0) → ((k : P) (f : List Bool) → V k f → (r : ℕ) × IsIn f r) → (j : ℕ) → DoneFlags rows 0 V j → ⊥
flags_none rows V flagged j h = let s = flagged h.0 h.1 h.4 in let l = h.3 s.0 s.1 in omega arith

pub rows_none : {P R : Type 0} (rows : List (PlainCellBox P)) (out : List (PlainCellBox R)) → out ≡ [] → (V : P → List Bool → Type 0) → ((k : P) (f : List Bool) → V k f → (r : ℕ) × IsIn f r) → (l : R) (j : ℕ) → HasRow out l (j ∷ []) ↔ DoneFlags rows 0 V j
rows_none rows out e V flagged l j = (λ h. absurd (subst (Among (l, h.0)) e h.1), λ h. absurd (flags_none rows V flagged j h))

pub flags_all : {P : Type 0} (rows : List (PlainCellBox P)) (n : ℕ) → length rows ≤ n → (V : P → List Bool → Type 0) (j : ℕ) → DoneFlags rows n V j ↔ OfFlagged V rows (j ∷ [])
flags_all rows n all V j = (
  λ h. (h.0, h.1, h.2, h.4),
  λ h. (h.0, h.1, h.2, (λ r m. let w = (h.2.flags r).0 m in let l = w.1.0 in omega arith), h.3),
)

pub through : (N O D T E : Type 0) → (N ↔ O ⊎ T) → (O ↔ D) → ((D ⊎ T) ↔ E) → N ↔ E
through N O D T E p d e = (
  λ h. e.0 (elim (p.0 h) [ inl w ↦ inl (d.0 w) | inr w ↦ inr w ]),
  λ h. p.1 (elim (e.1 h) [ inl w ↦ inl (d.1 w) | inr w ↦ inr w ]),
)

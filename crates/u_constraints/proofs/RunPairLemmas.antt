-- Packed rows of one interval attribute, told by pairs: no interval has the point before, or the one after, that of a row with the same
-- values else.
--     IsClear, AreClear      two rows, and any two rows
--     packed_clear, clear_packed      packed rows are so, and rows that are so are packed
use Rattle.std.proofs.Common.{◌≡◌, ◌↔◌, ℕ, ℤ, pos, ◌+ℤ◌, ◌-ℤ◌, ◌≤ℤ◌, true, List, [], ◌∷◌, map, refl, sym, ap, subst}
use Rattle.base_core.proofs.SetLemmas.{In}
use Rattle.base_core.proofs.MemberLemmas.{In-map}
use Rattle.interval_core.specs.Members.{Span, at_point}
use Rattle.cell_packing.specs.Boxed.{Boxed, packed_boxes, InBoxes}
use Rattle.cell_packing.specs.Packed.{IsRun, Has, points_of}
use Rattle.cell_packing.proofs.PackedBoxes.{among_in}
use Rattle.cell_core.proofs.PackedGridPoints.{AllHave}
use Rattle.value_core.specs.Order.{row_total, row_separates}
use Rattle.value_core.specs.Values.{Row, Heading, row_cmp}
use Rattle.u_set.specs.Apart.{span_in}
use Rattle.u_set.specs.Boxes.{AreIntervals, others, boxed}
use Rattle.u_set.proofs.BridgeLemmas.{boxes_have}
use Rattle.u_constraints.specs.Constraints.{is_packed}
use Rattle.u_constraints.proofs.FewerLemmas.{all_packed}
use Rattle.u_constraints.proofs.GrownPackedLemmas.{own, in_packed, ArePacked, each_fixed, all_fixed, IsSet}
use Rattle.u_constraints.proofs.PackedLemmas.{packed_iff}

-- the point is one of the interval
abbrev pub HasPoint : Span → ℤ → Type 0
HasPoint i p = (i.0 ≤ℤ p) × (p ≤ℤ i.1)

-- the second has neither the point before the first nor the one after it
abbrev pub IsClear : Span → Span → Type 0
IsClear i j = (HasPoint j (i.0 -ℤ pos 1) → ⊥) × (HasPoint j (i.1 +ℤ pos 1) → ⊥)

module _ (k : ℕ) where
  abbrev commalist : List ℕ
  commalist = k ∷ []

  abbrev box : Row → Boxed Row
  box = boxed commalist

  -- rows with the same values else are clear of one another
  abbrev pub AreClear : List Row → Type 0
  AreClear rows = (x y : Row) → In x rows → In y rows → others commalist x ≡ others commalist y → IsClear (span_in k x) (span_in k y)

  -- some row with the label has the point
  in_boxes : (rows : List Row) (l : Row) (p : ℤ) → InBoxes (map box rows) l (p ∷ []) ↔ ((y : Row) × In y rows × (l ≡ others commalist y) × HasPoint (span_in k y) p)
  in_boxes rows l p = (
    λ w.
        let v = (In-map box (l, w.0) rows).0 ((among_in (l, w.0) (map box rows)).0 w.1) in
        let sides : w.0 ≡ span_in k v.0 ∷ [] = ap (λ (b : Boxed Row). b.1) v.2 in
        let has : Has (span_in k v.0 ∷ []) (p ∷ []) = subst (λ (z : List Span). Has z (p ∷ [])) sides w.2 in
        (v.0, v.1, ap (λ (b : Boxed Row). b.0) v.2, (has.0, has.1)),
    λ v.
        let i : In (l, span_in k v.0 ∷ []) (map box rows) = (In-map box (l, span_in k v.0 ∷ []) rows).1 (v.0, v.1, λ t. (v.2 t, span_in k v.0 ∷ [])) in
        (span_in k v.0 ∷ [], (among_in (l, span_in k v.0 ∷ []) (map box rows)).1 i, (v.3.0, v.3.1, tt)),
  )

  module _ (rows : List Row) (have : AllHave 1 (map box rows)) where
    abbrev boxes : List (Boxed Row)
    boxes = map box rows

    -- a number of the label
    abbrev Holds : Row → ℤ → Type 0
    Holds l p = points_of (InBoxes boxes l) (at_point p ∷ [])

    own_run : ArePacked 1 boxes → (x : Row) → In x rows → IsRun (Holds (others commalist x)) (span_in k x)
    own_run e x i =
        let here : In (box x) boxes = (In-map box (box x) rows).1 (x, i, refl) in
        let there : In (box x) (packed_boxes row_cmp 1 boxes) = (each_fixed 1 boxes e (others commalist x) (span_in k x ∷ [])).0 ((own 1 boxes (others commalist x) (span_in k x ∷ [])).1 here) in
        ((in_packed 1 boxes have (others commalist x) (span_in k x ∷ [])).0 there).1

    clear_boxes : ArePacked 1 boxes → AreClear rows
    clear_boxes e x y i j same =
        let run = own_run e x i in (
          λ h. run.before ((refl, tt), (in_boxes rows (others commalist x) ((span_in k x).0 -ℤ pos 1)).1 (y, j, same, h)),
          λ h. run.after ((refl, tt), (in_boxes rows (others commalist x) ((span_in k x).1 +ℤ pos 1)).1 (y, j, same, h)),
        )

    module _ (ordered : (x : Row) → In x rows → (span_in k x).0 ≤ℤ (span_in k x).1) (clear : AreClear rows) where
      run_there : (x : Row) → In x rows → IsRun (Holds (others commalist x)) (span_in k x)
      run_there x i = record {
        some = ordered x i;
        each = λ p a b. ((refl, tt), (in_boxes rows (others commalist x) p).1 (x, i, refl, (a, b)));
        before = λ h. let w = (in_boxes rows (others commalist x) ((span_in k x).0 -ℤ pos 1)).0 h.1 in (clear x w.0 i w.1 w.2).0 w.3;
        after = λ h. let w = (in_boxes rows (others commalist x) ((span_in k x).1 +ℤ pos 1)).0 h.1 in (clear x w.0 i w.1 w.2).1 w.3;
      }

      into : (l : Row) (z : List Span) → In (l, z) boxes → In (l, z) (packed_boxes row_cmp 1 boxes)
      into l z m =
          let w = (In-map box (l, z) rows).0 m in
          let there : In (box w.0) (packed_boxes row_cmp 1 boxes) = (in_packed 1 boxes have (others commalist w.0) (span_in k w.0 ∷ [])).1 (refl, run_there w.0 w.1) in
          subst (λ (b : Boxed Row). In b (packed_boxes row_cmp 1 boxes)) (sym w.2) there

      packed_clear_boxes : ArePacked 1 boxes
      packed_clear_boxes = all_fixed 1 boxes (λ l z. (
        λ m. into l z ((own 1 boxes l z).0 m),
        λ m. (own 1 boxes l z).1 ((among_in (l, z) boxes).0 (all_packed row_cmp row_total row_separates 1 l boxes have
            (λ y n. (among_in (l, y) (packed_boxes row_cmp 1 boxes)).1 (into l y ((among_in (l, y) boxes).0 n))) z ((among_in (l, z) (packed_boxes row_cmp 1 boxes)).1 m))),
      ))

  module _ (heading : Heading) (intervals : AreIntervals heading commalist) (rows : List Row) (set : IsSet heading commalist rows) where
    pub packed_clear : is_packed commalist rows ≡ true → AreClear rows
    packed_clear held = clear_boxes rows (boxes_have heading commalist intervals rows) ((packed_iff heading commalist intervals rows set.0 set.1).0 held)

    pub clear_packed : ((x : Row) → In x rows → (span_in k x).0 ≤ℤ (span_in k x).1) → AreClear rows → is_packed commalist rows ≡ true
    clear_packed ordered clear = (packed_iff heading commalist intervals rows set.0 set.1).1 (packed_clear_boxes rows (boxes_have heading commalist intervals rows) ordered clear)

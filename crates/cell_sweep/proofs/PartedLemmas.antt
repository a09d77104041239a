-- Boxes that are apart are their own packed form.
use Rattle.std.proofs.Common.{◌≡◌, ℕ, zero, suc, ◌<◌, ◌≤◌, Bool, true, false, cond, List, [], ◌∷◌, map, length, get_or, ◌↔◌, ◌⊎◌, inl, inr, arith, sym, ap, subst, refl, ◌∙◌, Ordering}
use Rattle.std.specs.declared.cmp.Ordering.TheVariants.{Less, Greater}
use Rattle.std.specs.Ordering.{nat_cmp, ordering_then}
use Rattle.std.specs.Cmp.Lexicographic.{slice_cmp}
use Rattle.std.specs.List.{AllByRecursion, filter}
use Rattle.std.specs.List.Sorted.{IsStrictlySortedBy}
use Rattle.std.proofs.lemmas.Bool.{cases_lt}
use Rattle.std.proofs.lemmas.Bool.Decides.{nat_tests}
use Rattle.std.proofs.lemmas.Cmp.{lists_total}
use Rattle.cell_packing.specs.Covering.{Among}
use Rattle.cell_packing.specs.Packed.{IsIndexRun, IsIndexPackedTo, no_cells}
use Rattle.cell_packing.specs.Live.{box, side_has, InLive}
use Rattle.cell_packing.proofs.Inward.{HasSides, slice_at}
use Rattle.cell_packing.proofs.Joined.{IsIndexRun-iff, IsIndexRun-one}
use Rattle.cell_packing.proofs.AmongLemmas.{among_filter, among_map, each_from_members}
use Rattle.cell_sweep.specs.declared.bare.NoLabel.{NoLabel}
use Rattle.cell_sweep.specs.PackedRows.{AnyLabel, IsUnitedRow, bare, labelled, span_of}
use Rattle.cell_sweep.specs.Rows.{pair_cmp, pair_total}
use Rattle.cell_sweep.specs.Parted.{IsGap, AreParted, HasCells, ComesBefore, EndsBefore, AreApartRows, live_row}
use Rattle.cell_sweep.proofs.Sweeping.{cell_has, span_from}
use Rattle.cell_sweep.proofs.UnitedLemmas.{Row, R, index_of, united_alone}

-- ---- lists

all_filter : {X : Type 0} (P : X → Type 0) (t : X → Bool) (xs : List X) → AllByRecursion P xs → AllByRecursion P (filter t xs)
all_filter P t [] h = tt
all_filter P t (x ∷ xs) h = elim (t x) as (λ b. AllByRecursion P (cond b (x ∷ filter t xs) (filter t xs))) [ true ↦ (h.0, all_filter P t xs h.1) | false ↦ all_filter P t xs h.1 ]

-- lists with the same elements are one
same_list : (xs ys : List (ℕ × ℕ)) → length xs ≡ length ys → ((s : ℕ) → s < length ys → get_or xs s no_cells ≡ get_or ys s no_cells) → xs ≡ ys
same_list [] [] e h = refl
same_list [] (y ∷ ys) e h = absurd (omega arith)
same_list (x ∷ xs) [] e h = absurd (omega arith)
same_list (x ∷ xs) (y ∷ ys) e h = λ t. h 0 (omega arith) t ∷ same_list xs ys (omega arith) (λ s l. h (suc s) (omega arith)) t

-- boxes with a label are those without one, labelled
pub labelled_boxes : {P : Type 0} (l : P) (boxes : List (List (ℕ × ℕ))) (rs : List ℕ) → map (λ r. (l, box boxes r)) rs ≡ map (labelled l) (map (λ r. (bare, box boxes r)) rs)
labelled_boxes l boxes [] = refl
labelled_boxes l boxes (r ∷ rs) = λ t. (l, box boxes r) ∷ labelled_boxes l boxes rs t

-- ---- gaps

gap_back : (x y : ℕ × ℕ) → IsGap x y → IsGap y x
gap_back x y g = elim g [ inl w ↦ inr w | inr w ↦ inl w ]

-- there is no gap in one span
gap_itself : (x y z : ℕ × ℕ) → z ≡ x → z ≡ y → x.0 < x.1 → IsGap x y → ⊥
gap_itself x y z e f h g =
    let q : x ≡ y = sym e ∙ f in
    let a : x.0 ≡ y.0 = ap (λ (w : ℕ × ℕ). w.0) q in
    let b : x.1 ≡ y.1 = ap (λ (w : ℕ × ℕ). w.1) q in
    elim g [ inl w ↦ omega arith | inr w ↦ omega arith ]

-- nor between two that share a cell
gap_shared : (x y : ℕ × ℕ) (i : ℕ) → x.0 ≤ i → i < x.1 → y.0 ≤ i → i < y.1 → IsGap x y → ⊥
gap_shared x y i a b c d g = elim g [ inl w ↦ omega arith | inr w ↦ omega arith ]

-- nor does the cell before x, or the one after it, lie in a span with a gap to x
gap_before : (x y : ℕ × ℕ) (i : ℕ) → x.0 < x.1 → suc i ≡ x.0 → y.0 ≤ i → i < y.1 → IsGap x y → ⊥
gap_before x y i s e c d g = elim g [ inl w ↦ omega arith | inr w ↦ omega arith ]

gap_after : (x y : ℕ × ℕ) → x.0 < x.1 → y.0 ≤ x.1 → x.1 < y.1 → IsGap x y → ⊥
gap_after x y s c d g = elim g [ inl w ↦ omega arith | inr w ↦ omega arith ]

-- ---- the packed form of boxes that are apart

module _ (boxes : List (List (ℕ × ℕ))) where
  -- the first k sides are those of the row
  abbrev pub HasFirst : ℕ → List (ℕ × ℕ) → ℕ → Type 0
  HasFirst k y r = (s : ℕ) → s < k → get_or y s no_cells ≡ span_of boxes s r

  -- the first k sides are those of a live row
  abbrev pub IsLiveRow : ℕ → List ℕ → List (ℕ × ℕ) → Type 0
  IsLiveRow k live y = (r : ℕ) × Among r live × HasFirst k y r

  -- each live row has cells on the first k sides
  abbrev pub HaveCells : ℕ → List ℕ → Type 0
  HaveCells k live = (r : ℕ) → Among r live → (s : ℕ) → s < k → (span_of boxes s r).0 < (span_of boxes s r).1

  -- any two of the live rows are parted
  abbrev pub EachParted : ℕ → List ℕ → Type 0
  EachParted k live = (r q : ℕ) → Among r live → Among q live → (r ≡ q) ⊎ AreParted boxes k r q

  -- rows that are parted are so on the last side or on those before
  by_side : (k r q : ℕ) → AreParted boxes (suc k) r q → AreParted boxes k r q ⊎ IsGap (span_of boxes k r) (span_of boxes k q)
  by_side k r q w =
      elim (cases_lt w.0 k) [
        | inl l ↦ inl (w.0, l, w.2)
        | inr l ↦
            let h : w.0 < suc k = w.1 in
            let e : w.0 ≡ k = omega arith in
            inr (subst (λ s. IsGap (span_of boxes s r) (span_of boxes s q)) e w.2)
      ]

  has_more : (k : ℕ) (y : List (ℕ × ℕ)) (r : ℕ) → HasFirst k y r → get_or y k no_cells ≡ span_of boxes k r → HasFirst (suc k) y r
  has_more k y r f e s l =
      elim (cases_lt s k) [
        | inl w ↦ f s w
        | inr w ↦ let q : k ≡ s = omega arith in subst (λ j. get_or y j no_cells ≡ span_of boxes j r) q e
      ]

  module _ (n k : ℕ) (below : k < n) (live : List ℕ) (sides : AllByRecursion (HasSides {P = NoLabel} AnyLabel boxes n) live) (cells : HaveCells (suc k) live) (parted : EachParted (suc k) live) where
    abbrev here : ℕ → List ℕ
    here i = filter (side_has boxes k i) live

    -- a live row at the cell
    at_cell : (i r : ℕ) → Among r (here i) → Among r live × ((span_of boxes k r).0 ≤ i) × (i < (span_of boxes k r).1)
    at_cell i r m =
        let a = (among_filter (side_has boxes k i) r live).0 m in
        let c = cell_has (span_of boxes k r) i a.1 in
        (a.0, c.0, c.1)

    cells_here : (i : ℕ) → HaveCells k (here i)
    cells_here i r m s l = cells r (at_cell i r m).0 s (omega arith)

    -- rows that share a cell of the last side are parted on one of the others
    parted_here : (i : ℕ) → EachParted k (here i)
    parted_here i r q m o =
        let a = at_cell i r m in
        let b = at_cell i q o in
        elim (parted r q a.0 b.0) [
          | inl e ↦ inl e
          | inr w ↦ elim (by_side k r q w) [
            | inl v ↦ inr v
            | inr g ↦ absurd (gap_shared (span_of boxes k r) (span_of boxes k q) i a.1 a.2 b.1 b.2 g)
          ]
        ]

    module _ (x : Row) (before : (i : ℕ) → IsUnitedRow k boxes (here i) x ↔ IsLiveRow k (here i) x.1) where
      abbrev IsThere : ℕ → Type 0
      IsThere i = IsLiveRow k (here i) x.1

      slice_there : (i : ℕ) → IsIndexPackedTo k (InLive {P = NoLabel} AnyLabel boxes live [] x.0) x.1 (i ∷ []) ↔ IsThere i
      slice_there i =
          let t = slice_at {P = NoLabel} AnyLabel boxes n k below live [] sides tt x.0 i x.1 in (
            λ h. (before i).0 (subst (λ U. U) t h),
            λ h. subst (λ U. U) (sym t) ((before i).1 h),
          )

      -- rows with the same first sides are parted on the last
      by_last : (r q : ℕ) → Among r live → Among q live → HasFirst k x.1 r → HasFirst k x.1 q → (r ≡ q) ⊎ IsGap (span_of boxes k r) (span_of boxes k q)
      by_last r q m o f g =
          elim (parted r q m o) [
            | inl e ↦ inl e
            | inr w ↦ elim (by_side k r q w) [
              | inl v ↦
                  let l : v.0 < k = v.1 in
                  absurd (gap_itself (span_of boxes v.0 r) (span_of boxes v.0 q) (get_or x.1 v.0 no_cells) (f v.0 l) (g v.0 l) (cells r m v.0 (omega arith)) v.2)
              | inr v ↦ inr v
            ]
          ]

      run_of : (r : ℕ) → Among r live → HasFirst k x.1 r → IsIndexRun IsThere (span_of boxes k r).0 (span_of boxes k r).1
      run_of r m f =
          let some = cells r m k (omega arith) in
          record {
            some = some;
            each = λ i a b. (r, (among_filter (side_has boxes k i) r live).1 (m, span_from (span_of boxes k r) i a b), f);
            before = λ i e q.
                let a = at_cell i q.0 q.1 in
                elim (by_last r q.0 m a.0 f q.2) [
                  | inl w ↦
                      let b : (span_of boxes k r).0 ≤ i = subst (λ j. (span_of boxes k j).0 ≤ i) (sym w) a.1 in
                      omega arith
                  | inr w ↦ gap_before (span_of boxes k r) (span_of boxes k q.0) i some e a.1 a.2 w
                ];
            after = λ q.
                let z : ℕ = (span_of boxes k r).1 in
                let a = at_cell z q.0 q.1 in
                elim (by_last r q.0 m a.0 f q.2) [
                  | inl w ↦
                      let b : z < (span_of boxes k r).1 = subst (λ j. z < (span_of boxes k j).1) (sym w) a.2 in
                      omega arith
                  | inr w ↦ gap_after (span_of boxes k r) (span_of boxes k q.0) some a.1 a.2 w
                ];
          }

      abbrev last : ℕ × ℕ
      last = get_or x.1 k no_cells

      abbrev InSlice : ℕ → Type 0
      InSlice i = IsIndexPackedTo k (InLive {P = NoLabel} AnyLabel boxes live [] x.0) x.1 (i ∷ [])

      united_more : IsUnitedRow (suc k) boxes live x ↔ IsLiveRow (suc k) live x.1
      united_more = (
        λ h.
            let run = IsIndexRun-iff InSlice IsThere slice_there last.0 last.1 h in
            let q = run.each last.0 (omega arith) run.some in
            let a = at_cell last.0 q.0 q.1 in
            let e = IsIndexRun-one IsThere last.0 last.1 (span_of boxes k q.0).0 (span_of boxes k q.0).1 last.0 run (run_of q.0 a.0 q.2) (omega arith) run.some a.1 a.2 in
            (q.0, a.0, has_more k x.1 q.0 q.2 (λ t. (e.0 t, e.1 t))),
        λ h.
            let r = run_of h.0 h.1 (λ s l. h.2 s (omega arith)) in
            let there = subst (λ (v : ℕ × ℕ). IsIndexRun IsThere v.0 v.1) (sym (h.2 k (omega arith))) r in
            IsIndexRun-iff IsThere InSlice (λ i. ((slice_there i).1, (slice_there i).0)) last.0 last.1 there,
      )

  united_is : (n k : ℕ) → k ≤ n → (live : List ℕ) → AllByRecursion (HasSides {P = NoLabel} AnyLabel boxes n) live → HaveCells k live → EachParted k live → (x : Row) → IsUnitedRow k boxes live x ↔ IsLiveRow k live x.1
  united_is n zero l live sides cells parted x =
      let u = united_alone boxes live x in (
        λ h. let w = u.0 h in (w.0, w.1, λ s m. absurd (omega arith)),
        λ h. u.1 (h.0, h.1),
      )
  united_is n (suc k) l live sides cells parted x =
      let below : k < n = omega arith in
      united_more n k below live sides cells parted x
      (λ i. united_is n k (omega arith) (filter (side_has boxes k i) live) (all_filter (HasSides {P = NoLabel} AnyLabel boxes n) (side_has boxes k i) live sides)
      (cells_here n k below live sides cells parted i) (parted_here n k below live sides cells parted i) x)

-- ---- what the tests tell

first_not_after : (xs ys : List (ℕ × ℕ)) → 0 < length xs → 0 < length ys → slice_cmp pair_cmp xs ys ≡ Less → (get_or xs 0 no_cells).0 ≤ (get_or ys 0 no_cells).0
first_not_after [] ys a b h = absurd (omega arith)
first_not_after (x ∷ xs) [] a b h = absurd (omega arith)
first_not_after (x ∷ xs) (y ∷ ys) a b h = elim (cases_lt y.0 x.0) [
  | inl l ↦ absurd (greater x.0 y.0 (nat_cmp x.1 y.1) (slice_cmp pair_cmp xs ys) l h)
  | inr l ↦ l
]
  where
    greater : (p q : ℕ) (o u : Ordering) → q < p → ordering_then (ordering_then (nat_cmp p q) o) u ≡ Less → ⊥
    greater p q o u l e =
        let g : nat_cmp p q ≡ Greater = grind (arith, nat_tests) in
        let f : Greater ≡ Less = sym (ap (λ r. ordering_then (ordering_then r o) u) g) ∙ e in
        cc

module _ (boxes : List (List (ℕ × ℕ))) (k : ℕ) (live : List ℕ) (apart : AreApartRows boxes k live) where
  some_side : 0 < k
  some_side = let h = apart.0 in omega arith

  cells_of : (r : ℕ) → Among r live → HasCells boxes k r
  cells_of r m = let w = index_of live r m in subst (HasCells boxes k) w.2 (apart.1 w.0 w.1).0

  at_least : AllByRecursion (HasSides {P = NoLabel} AnyLabel boxes k) live
  at_least = each_from_members (HasSides {P = NoLabel} AnyLabel boxes k) live (λ r m. let e = (cells_of r m).0 in omega arith)

  each_has_cells : HaveCells boxes k live
  each_has_cells r m = (cells_of r m).1

  -- the rows ascend
  ordered : (i j : ℕ) → i < j → j < length live → ComesBefore boxes (live_row live i) (live_row live j)
  ordered i zero h l = absurd (omega arith)
  ordered i (suc j) h l =
      let next = (apart.1 j (omega arith)).1 l in
      elim (cases_lt i j) [
        | inl w ↦ (lists_total pair_total).trans (box boxes (live_row live i)) (box boxes (live_row live j)) (box boxes (live_row live (suc j))) (ordered i j w (omega arith)) next
        | inr w ↦ let e : j ≡ i = omega arith in subst (λ m. ComesBefore boxes (live_row live m) (live_row live (suc j))) e next
      ]

  begins : (i j : ℕ) → i < j → j < length live → (span_of boxes 0 (live_row live i)).0 ≤ (span_of boxes 0 (live_row live j)).0
  begins i j h l =
      let a = (apart.1 i (omega arith)).0.0 in
      let b = (apart.1 j l).0.0 in
      let s = some_side in
      first_not_after (box boxes (live_row live i)) (box boxes (live_row live j)) (omega arith) (omega arith) (ordered i j h l)

  parted_after : (i j : ℕ) → i < j → j < length live → AreParted boxes k (live_row live i) (live_row live j)
  parted_after i j h l =
      let c = (apart.1 i (omega arith)).2 in
      elim (cases_lt j c.0) [
        | inl w ↦ c.1 j h w
        | inr w ↦
            let e = c.2 (omega arith) in (
              0,
              some_side,
              inl (elim (cases_lt c.0 j) [
                | inl v ↦ let b = begins c.0 j v l in omega arith
                | inr v ↦ let q : c.0 ≡ j = omega arith in subst (λ m. EndsBefore boxes (live_row live i) (live_row live m)) q e
              ]),
            )
      ]

  parted_back : (r q : ℕ) → AreParted boxes k q r → AreParted boxes k r q
  parted_back r q w = (w.0, w.1, gap_back (span_of boxes w.0 q) (span_of boxes w.0 r) w.2)

  each_parted : EachParted boxes k live
  each_parted r q m o =
      let a = index_of live r m in
      let b = index_of live q o in
      let i : ℕ = a.0 in
      let j : ℕ = b.0 in
      elim (cases_lt i j) [
        | inl w ↦ inr (subst (λ p. AreParted boxes k p q) a.2 (subst (AreParted boxes k (live_row live i)) b.2 (parted_after i j w b.1)))
        | inr w ↦ elim (cases_lt j i) [
          | inl v ↦ inr (parted_back r q (subst (λ p. AreParted boxes k p r) b.2 (subst (AreParted boxes k (live_row live j)) a.2 (parted_after j i v a.1))))
          | inr v ↦ let e : i ≡ j = omega arith in inl (sym a.2 ∙ ap (live_row live) e ∙ b.2)
        ]
      ]

  -- ---- the live boxes as rows

  abbrev pub row_of : ℕ → Row
  row_of r = (bare, box boxes r)

  is_live : (x : Row) → IsUnitedRow k boxes live x ↔ IsLiveRow boxes k live x.1
  is_live x = united_is boxes k k (omega arith) live at_least each_has_cells each_parted x

  pub copied_rows : (rows : List Row) → rows ≡ map row_of live → (x : Row) → Among x rows ↔ (length x.1 ≡ k) × IsUnitedRow k boxes live x
  copied_rows rows e x =
      let m = among_map row_of x live in
      subst (λ ys. Among x ys ↔ (length x.1 ≡ k) × IsUnitedRow k boxes live x) (sym e) (
        λ h.
            let w = m.0 h in
            let r : ℕ = w.0 in
            subst (λ (y : Row). (length y.1 ≡ k) × IsUnitedRow k boxes live y) w.2
            ((cells_of r w.1).0, (is_live (row_of r)).1 (r, w.1, λ s l. refl)),
        λ h.
            let w = (is_live x).0 h.1 in
            let r : ℕ = w.0 in
            let c : length (box boxes r) ≡ k = (cells_of r w.1).0 in
            let n : length x.1 ≡ k = h.0 in
            let same : x.1 ≡ box boxes r = same_list x.1 (box boxes r) (omega arith) (λ s l. w.2 s (omega arith)) in
            m.1 (r, w.1, λ t. (x.0, sym same t)),
      )

  pub copied_sorted : (rows : List Row) → rows ≡ map row_of live → IsStrictlySortedBy R rows
  unfolding IsStrictlySortedBy
  copied_sorted rows e = subst (IsStrictlySortedBy R) (sym e) (go live (λ i j h l. ordered i j h l))
    where
      each : (r : ℕ) (xs : List ℕ) → ((j : ℕ) → j < length xs → R (row_of r) (row_of (get_or xs j 0)) ≡ Less) → AllByRecursion (λ y. R (row_of r) y ≡ Less) (map row_of xs)
      each r [] h = tt
      each r (x ∷ xs) h = (h 0 (omega arith), each r xs (λ j l. h (suc j) (omega arith)))

      go : (xs : List ℕ) → ((i j : ℕ) → i < j → j < length xs → R (row_of (get_or xs i 0)) (row_of (get_or xs j 0)) ≡ Less) → IsStrictlySortedBy R (map row_of xs)
      go [] h = tt
      go (x ∷ xs) h = (each x xs (λ j l. h 0 (suc j) (omega arith) (omega arith)), go xs (λ i j a b. h (suc i) (suc j) (omega arith) (omega arith)))

-- Rows in the order of their labels, packed label by label.
use Rattle.std.proofs.Common.{◌≡◌, ℕ, zero, suc, ◌<◌, ◌≤◌, true, ◌≢◌, List, [], ◌∷◌, ◌++◌, map, length, get_or, ◌↔◌, ◌⊎◌, inl, inr, arith, sym, ap, subst, refl, ◌∙◌, Ordering}
use Rattle.std.specs.declared.cmp.Ordering.TheVariants.{Less, Equal, Greater}
use Rattle.std.specs.Cmp.{IsTotalOrder}
use Rattle.std.specs.Ordering.{ordering_then, ordering_reverse, is_lt}
use Rattle.std.specs.Cmp.Lexicographic.{slice_cmp}
use Rattle.std.specs.List.{All, AllByRecursion, filter}
use Rattle.std.proofs.lemmas.List.Elements.{recursion_from_All, All-from_recursion}
use Rattle.std.specs.List.Sorted.{IsStrictlySortedBy, IsSortedBy, IsPermutation}
use Rattle.std.proofs.lemmas.Bool.{cases_lt, true≢false}
use Rattle.std.proofs.lemmas.Cmp.{tied_itself, alike_right}
use Rattle.std.proofs.lemmas.List.Sorted.{sorted_far, ranks_by, Contains-permutation, IsPermutation-sym}
use Rattle.std.proofs.lemmas.List.{get_or_default}
use Rattle.cell_packing.specs.Packed.{IsIndexPackedTo, no_cells}
use Rattle.cell_packing.specs.Covering.{Among}
use Rattle.cell_packing.specs.Live.{box, has_grid_point, InLive}
use Rattle.cell_packing.proofs.Joined.{IsIndexRun-iff}
use Rattle.cell_packing.proofs.Inward.{some_grid_point}
use Rattle.cell_packing.proofs.AmongLemmas.{among_append, among_map, among_filter, each_from_members}
use Rattle.cell_packing.proofs.Order.{among_contains, contains_among}
use Rattle.cell_sweep.specs.declared.bare.NoLabel.{NoLabel}
use Rattle.cell_sweep.specs.PackedRows.{HasRow, IsPackedOf, AnyLabel, IsUnitedRow, bare, labelled}
use Rattle.cell_sweep.specs.declared.inward.IndexBox.{IndexBox}
use Rattle.cell_sweep.specs.Rows.{sides_of, pair_cmp, key_cmp, key_total}
use Rattle.cell_sweep.proofs.UnitedLemmas.{Row, R as bare_cmp}

-- ---- packed rows of equal sets

pub packed_iff : (j : ℕ) (S S' : List ℕ → Type 0) → ((ps : List ℕ) → S ps ↔ S' ps) → (y : List (ℕ × ℕ)) (rest : List ℕ) → IsIndexPackedTo j S y rest → IsIndexPackedTo j S' y rest
packed_iff zero S S' e y rest h = (e rest).0 h
packed_iff (suc j) S S' e y rest h =
    IsIndexRun-iff (λ i. IsIndexPackedTo j S y (i ∷ rest)) (λ i. IsIndexPackedTo j S' y (i ∷ rest))
    (λ i. (packed_iff j S S' e y (i ∷ rest), packed_iff j S' S (λ ps. ((e ps).1, (e ps).0)) y (i ∷ rest)))
    (get_or y j no_cells).0 (get_or y j no_cells).1 h

-- ---- sorted lists, one after the other

module _ {K : Type 0} (cmp : K → K → Ordering) where
  all_both : (P : K → Type 0) (xs ys : List K) → AllByRecursion P xs → AllByRecursion P ys → AllByRecursion P (xs ++ ys)
  all_both P [] ys a b = b
  all_both P (x ∷ xs) ys a b = (a.0, all_both P xs ys a.1 b)

  pub append_sorted : (xs ys : List K) → IsStrictlySortedBy cmp xs → IsStrictlySortedBy cmp ys → ((x y : K) → Among x xs → Among y ys → cmp x y ≡ Less) → IsStrictlySortedBy cmp (xs ++ ys)
  unfolding IsStrictlySortedBy
  append_sorted [] ys a b h = b
  append_sorted (x ∷ xs) ys a b h = (
    all_both (λ y. cmp x y ≡ Less) xs ys a.0 (each_from_members (λ y. cmp x y ≡ Less) ys (λ y m. h x y (inl refl) m)),
    append_sorted xs ys a.1 b (λ z y m n. h z y (inr m) n),
  )

pub map_at : {X Y : Type 0} (f : X → Y) (xs : List X) (i : ℕ) (d : X) (e : Y) → i < length xs → get_or (map f xs) i e ≡ f (get_or xs i d)
map_at f [] i d e h = absurd (omega arith)
map_at f (x ∷ xs) zero d e h = refl
map_at f (x ∷ xs) (suc i) d e h = map_at f xs i d e (omega arith)

pub map_length : {X Y : Type 0} (f : X → Y) (xs : List X) → length (map f xs) ≡ length xs
map_length f [] = refl
map_length f (x ∷ xs) = ap suc (map_length f xs)

pub some_of : (xs : List ℕ) → xs ≢ [] → (r : ℕ) × Among r xs
some_of [] h = absurd (h refl)
some_of (x ∷ xs) h = (x, inl refl)

not_nil : (xs : List ℕ) (r : ℕ) → Among r xs → xs ≢ []
not_nil [] r h e = h
not_nil (x ∷ xs) r h e = let n : length (x ∷ xs) ≡ 0 = ap length e in omega arith

-- ---- rows by their numbers

module _ {P : Type 0} (order : P → P → Ordering) (total : IsTotalOrder order) (separates : (a b : P) → order a b ≡ Equal → a ≡ b) (labels : List P) (boxes : List (List (ℕ × ℕ))) where
  abbrev CellBox : Type 0
  CellBox = P × List (ℕ × ℕ)

  -- the row r has the label
  abbrev pub IsAt : ℕ → P → Type 0
  IsAt r l = (r < length labels) × (get_or labels r l ≡ l)

  -- some row of the label has the place
  abbrev pub HasAt : P → List ℕ → Type 0
  HasAt l grid_point = (r : ℕ) × IsAt r l × (has_grid_point (box boxes r) grid_point ≡ true)

  abbrev pub IsPackedAt : ℕ → CellBox → Type 0
  IsPackedAt sides x = IsIndexPackedTo sides (HasAt x.0) x.1 []

  one_at : (r : ℕ) (l m : P) → IsAt r l → IsAt r m → l ≡ m
  one_at r l m a b = sym a.1 ∙ get_or_default labels r l m a.0 ∙ b.1

  not_equal : (l m : P) → order l m ≡ Less → l ≡ m → ⊥
  not_equal l m h e = let q : order l m ≡ Equal = subst (λ z. order l z ≡ Equal) e (tied_itself total l) in cc

  -- the labels do not descend
  abbrev pub Ascends : Type 0
  Ascends = (r s : ℕ) (l m : P) → r ≤ s → IsAt r l → IsAt s m → order l m ≢ Greater

  -- the labels of the rows before n come before those of the others
  abbrev pub IsCut : ℕ → Type 0
  IsCut n = (r s : ℕ) (l m : P) → r < n → n ≤ s → IsAt r l → IsAt s m → order l m ≡ Less

  -- the rows of the label l0 are those from `first` up to before `end`
  module _ (first end : ℕ) (within : end ≤ length labels) (some : first < end) (l0 : P) (at0 : IsAt first l0)
      (cut : IsCut first) (ascends : Ascends)
      (same : (j : ℕ) (d e : P) → first ≤ j → j < end → order (get_or labels first d) (get_or labels j e) ≡ Equal)
      (other : (d e : P) → end < length labels → order (get_or labels first d) (get_or labels end e) ≢ Equal) where
    in_group : (r : ℕ) → first ≤ r → r < end → IsAt r l0
    in_group r f g =
        let e : l0 ≡ get_or labels r l0 = separates l0 (get_or labels r l0) (subst (λ z. order z (get_or labels r l0) ≡ Equal) at0.1 (same r l0 l0 f g)) in
        (omega arith, sym e)

    by_order : (l m : P) → order l m ≢ Greater → order l m ≢ Equal → order l m ≡ Less
    by_order l m g e = go (order l m) refl
      where
        go : (o : Ordering) → order l m ≡ o → order l m ≡ Less
        go Less q = q
        go Equal q = absurd (e q)
        go Greater q = absurd (g q)

    less_then : (l m n : P) → order l m ≡ Less → order m n ≢ Greater → order l n ≡ Less
    less_then l m n h g = go (order m n) refl
      where
        go : (o : Ordering) → order m n ≡ o → order l n ≡ Less
        go Less q = total.trans l m n h q
        go Equal q = sym (alike_right total m n l q) ∙ h
        go Greater q = absurd (g q)

    after_group : (r : ℕ) (l : P) → end ≤ r → IsAt r l → order l0 l ≡ Less
    after_group r l f a =
        let below : end < length labels = omega (arith, a.0) in
        let le : P = get_or labels end l0 in
        let ate : IsAt end le = (below, get_or_default labels end le l0 below) in
        let not_same : order l0 le ≢ Equal = λ q. other l0 l0 below (subst (λ z. order z le ≡ Equal) (sym at0.1) q) in
        less_then l0 le l (by_order l0 le (ascends first end l0 le (omega arith) at0 ate) not_same) (ascends end r le l f ate a)

    pub group_cut : IsCut end
    group_cut r s l m f g a b =
        elim (cases_lt r first) [
          | inl w ↦ cut r s l m w (omega arith) a b
          | inr w ↦ let e : l0 ≡ l = one_at r l0 l (in_group r w f) a in subst (λ z. order z m ≡ Less) e (after_group s m g b)
        ]

    own_group : (r : ℕ) → IsAt r l0 → (first ≤ r) × (r < end)
    own_group r a = (
      elim (cases_lt r first) [ inl w ↦ absurd (not_equal l0 l0 (cut r first l0 l0 w (omega arith) a at0) refl) | inr w ↦ w ],
      elim (cases_lt r end) [ inl w ↦ w | inr w ↦ absurd (not_equal l0 l0 (after_group r l0 w a) refl) ],
    )

    module _ (live : List ℕ) (members : (r : ℕ) → Among r live ↔ (first ≤ r) × (r < end)) where
      live_has : (grid_point : List ℕ) → InLive {P = NoLabel} AnyLabel boxes live [] bare grid_point ↔ HasAt l0 grid_point
      live_has grid_point =
          let t = λ (r : ℕ). has_grid_point (box boxes r) grid_point in (
            λ h. elim h.0 [
              | inl w ↦
                  let s = some_of (filter t live) w in
                  let v = (among_filter t s.0 live).0 s.1 in
                  let m = (members s.0).0 v.0 in
                  (s.0, in_group s.0 m.0 m.1, v.1)
              | inr w ↦ absurd (w refl)
            ],
            λ h. (inl (not_nil (filter t live) h.0 ((among_filter t h.0 live).1 ((members h.0).1 (own_group h.0 h.1), h.2))), tt),
          )

      united_packed : (sides : ℕ) (y : List (ℕ × ℕ)) → IsUnitedRow sides boxes live (bare, y) ↔ IsPackedAt sides (l0, y)
      united_packed sides y = (
        packed_iff sides _ _ live_has y [],
        packed_iff sides _ _ (λ ps. ((live_has ps).1, (live_has ps).0)) y [],
      )

      abbrev Done : ℕ → ℕ → CellBox → Type 0
      Done sides n x = (length x.1 ≡ sides) × IsPackedAt sides x × ((r : ℕ) × (r < n) × IsAt r x.0)

      module _ (sides : ℕ) (old new : List CellBox) (packed : List Row) (made : new ≡ old ++ map (labelled l0) packed)
          (is : (x : Row) → Among x packed ↔ (length x.1 ≡ sides) × IsUnitedRow sides boxes live x)
          (before : (x : CellBox) → Among x old ↔ Done sides first x) where
        in_new : (x : CellBox) → Among x new ↔ Among x old ⊎ Among x (map (labelled l0) packed)
        in_new x = subst (λ xs. Among x xs ↔ Among x old ⊎ Among x (map (labelled l0) packed)) (sym made) (among_append x old (map (labelled l0) packed))

        in_packed : (x : CellBox) → Among x (map (labelled l0) packed) ↔ (l0 ≡ x.0) × (length x.1 ≡ sides) × IsPackedAt sides (l0, x.1)
        in_packed x =
            let m = among_map (labelled l0) x packed in (
              λ h.
                  let w = m.0 h in
                  let y : Row = w.0 in
                  let v = (is y).0 w.1 in
                  let q : y.1 ≡ x.1 = ap (λ (k : CellBox). k.1) w.2 in
                  (ap (λ (k : CellBox). k.0) w.2, sym (ap length q) ∙ v.0, subst (λ z. IsPackedAt sides (l0, z)) q ((united_packed sides y.1).0 v.1)),
              λ h. m.1 ((bare, x.1), (is (bare, x.1)).1 (h.1, (united_packed sides x.1).1 h.2), λ t. (h.0 t, x.1)),
            )

        pub rows_turn : (x : CellBox) → Among x new ↔ Done sides end x
        rows_turn x =
            let n = in_new x in
            let p = in_packed x in
            let b = before x in (
              λ h. elim (n.0 h) [
                | inl w ↦ let v = b.0 w in let l = v.2.1 in (v.0, v.1, (v.2.0, omega arith, v.2.2))
                | inr w ↦ let v = p.0 w in (v.1, subst (λ z. IsPackedAt sides (z, x.1)) v.0 v.2, (first, some, subst (IsAt first) v.0 at0))
              ],
              λ h. elim (cases_lt h.2.0 first) [
                | inl w ↦ n.1 (inl (b.1 (h.0, h.1, (h.2.0, w, h.2.2))))
                | inr w ↦
                    let e : l0 ≡ x.0 = one_at h.2.0 l0 x.0 (in_group h.2.0 w h.2.1) h.2.2 in
                    n.1 (inr (p.1 (e, h.0, subst (λ z. IsPackedAt sides (z, x.1)) (sym e) h.1)))
              ],
            )

        same_label : (x y : Row) → bare_cmp x y ≡ Less → key_cmp order (labelled l0 x) (labelled l0 y) ≡ Less
        same_label x y h = ap (λ o. ordering_then o (slice_cmp pair_cmp x.1 y.1)) (tied_itself total l0) ∙ h

        labelled_sorted : (xs : List Row) → IsStrictlySortedBy bare_cmp xs → IsStrictlySortedBy (key_cmp order) (map (labelled l0) xs)
        unfolding IsStrictlySortedBy
        labelled_sorted [] h = tt
        labelled_sorted (x ∷ xs) h = (each xs h.0, labelled_sorted xs h.1)
          where
            each : (ys : List Row) → AllByRecursion (λ y. bare_cmp x y ≡ Less) ys → AllByRecursion (λ y. key_cmp order (labelled l0 x) y ≡ Less) (map (labelled l0) ys)
            each [] a = tt
            each (y ∷ ys) a = (same_label x y a.0, each ys a.1)

        pub sorted_turn : IsStrictlySortedBy (key_cmp order) old → IsStrictlySortedBy bare_cmp packed → IsStrictlySortedBy (key_cmp order) new
        sorted_turn a b = subst (IsStrictlySortedBy (key_cmp order)) (sym made) (append_sorted (key_cmp order) old (map (labelled l0) packed) a (labelled_sorted packed b) (λ x y m n.
            let d = (before x).0 m in
            let e : l0 ≡ y.0 = ((in_packed y).0 n).0 in
            let l : order x.0 y.0 ≡ Less = subst (λ z. order x.0 z ≡ Less) e (cut d.2.0 first x.0 l0 d.2.1 (omega arith) d.2.2 at0) in
            ap (λ o. ordering_then o (slice_cmp pair_cmp x.1 y.1)) l))

  -- ---- before the first row, and after the last

  pub none_done : (sides : ℕ) (x : CellBox) → (length x.1 ≡ sides) × IsPackedAt sides x × ((r : ℕ) × (r < 0) × IsAt r x.0) → ⊥
  none_done sides x h = let l = h.2.1 in omega arith

  pub no_cut : IsCut 0
  no_cut r s l m f g a b = absurd (omega arith)

  -- a packed row has the label of some row
  packed_label : (sides : ℕ) (x : CellBox) → IsPackedAt sides x → (r : ℕ) × IsAt r x.0
  packed_label sides x h = let w = some_grid_point sides (HasAt x.0) x.1 [] h in (w.1.0, w.1.1)

  module _ (rows sorted : List CellBox) (moved : IsPermutation rows sorted) (ls : labels ≡ map (λ (x : CellBox). x.0) sorted) (bs : boxes ≡ map (λ (x : CellBox). x.1) sorted) where
    count : length labels ≡ length sorted
    count = ap length ls ∙ map_length (λ (x : CellBox). x.0) sorted

    label_at : (r : ℕ) (d : CellBox) (e : P) → r < length sorted → get_or labels r e ≡ (get_or sorted r d).0
    label_at r d e h = ap (λ xs. get_or xs r e) ls ∙ map_at (λ (x : CellBox). x.0) sorted r d e h

    box_at : (r : ℕ) (d : CellBox) → r < length sorted → box boxes r ≡ (get_or sorted r d).1
    box_at r d h = ap (λ xs. get_or xs r []) bs ∙ map_at (λ (x : CellBox). x.1) sorted r d [] h

    pub sorted_ascends : IsSortedBy (λ x y. is_lt (key_cmp order x y)) sorted → Ascends
    sorted_ascends s r t l m f a b g =
        let d : CellBox = (l, []) in
        let tl : t < length sorted = omega (arith, b.0, count) in
        let q = sorted_far (λ x y. is_lt (key_cmp order x y)) (ranks_by (key_total total) (λ x. x)) sorted s r t d f tl in
        let x : CellBox = get_or sorted r d in
        let y : CellBox = get_or sorted t d in
        let xl : x.0 ≡ l = sym (label_at r d l (omega arith)) ∙ a.1 in
        let ym : y.0 ≡ m = sym (label_at t d m tl) ∙ b.1 in
        let back : order m l ≡ Less = total.antisymm m l ∙ ap ordering_reverse g in
        let less : order y.0 x.0 ≡ Less = subst (λ z. order z x.0 ≡ Less) (sym ym) (subst (λ z. order m z ≡ Less) (sym xl) back) in
        true≢false (sym (ap (λ o. is_lt (ordering_then o (slice_cmp pair_cmp y.1 x.1))) less) ∙ q)

    -- rows by their numbers
    pub row_at : (r : ℕ) (l : P) → IsAt r l → Among (l, box boxes r) rows
    row_at r l a =
        let n : r < length sorted = omega (arith, a.0, count) in
        let d : CellBox = (l, []) in
        let x : CellBox = get_or sorted r d in
        let e : x ≡ (l, box boxes r) = λ t. ((sym (label_at r d l n) ∙ a.1) t, sym (box_at r d n) t) in
        let m : Among (l, box boxes r) sorted = contains_among sorted (l, box boxes r) (r, n, get_or_default sorted r (l, box boxes r) d n ∙ e) in
        contains_among rows (l, box boxes r) (Contains-permutation sorted rows (l, box boxes r) (IsPermutation-sym rows sorted moved) (among_contains sorted (l, box boxes r) m))

    pub at_row : (x : CellBox) → Among x rows → (r : ℕ) × IsAt r x.0 × (box boxes r ≡ x.1)
    at_row x h =
        let w = Contains-permutation rows sorted x moved (among_contains rows x h) in
        let r : ℕ = w.0 in
        let n : r < length sorted = w.1 in
        (r, (omega (arith, count), label_at r x x.0 n ∙ ap (λ (k : CellBox). k.0) w.2), box_at r x n ∙ ap (λ (k : CellBox). k.1) w.2)

    pub has_row : (l : P) (grid_point : List ℕ) → HasAt l grid_point ↔ HasRow rows l grid_point
    has_row l grid_point = (
      λ h. (box boxes h.0, row_at h.0 l h.1, h.2),
      λ h. let w = at_row (l, h.0) h.1 in (w.0, w.1, subst (λ y. has_grid_point y grid_point ≡ true) (sym w.2) h.2),
    )

    pub all_done : (sides n : ℕ) → length labels ≤ n → (out : List CellBox)
        → ((x : CellBox) → Among x out ↔ (length x.1 ≡ sides) × IsPackedAt sides x × ((r : ℕ) × (r < n) × IsAt r x.0))
        → (x : CellBox) → Among x out ↔ (length x.1 ≡ sides) × IsPackedOf sides rows x
    all_done sides n l out c x =
        let d = c x in
        let e = has_row x.0 in (
          λ h. let w = d.0 h in (w.0, packed_iff sides (HasAt x.0) (HasRow rows x.0) e x.1 [] w.1),
          λ h.
              let p : IsPackedAt sides x = packed_iff sides (HasRow rows x.0) (HasAt x.0) (λ ps. ((e ps).1, (e ps).0)) x.1 [] h.1 in
              let q = packed_label sides x p in
              let m = q.1.0 in
              d.1 (h.0, p, (q.0, omega arith, q.1)),
        )

    -- each box has the sides of its row
    pub boxes_all : (Q : List (ℕ × ℕ) → Type 0) → AllByRecursion (λ (x : CellBox). Q x.1) rows → AllByRecursion Q boxes
    boxes_all Q h = each_from_members Q boxes (λ y m. own y m)
      where
        at_row : (xs : List CellBox) (x : CellBox) → AllByRecursion (λ (z : CellBox). Q z.1) xs → Among x xs → Q x.1
        at_row [] x a m = absurd m
        at_row (z ∷ zs) x a m = elim m [ inl e ↦ subst (λ (k : CellBox). Q k.1) e a.0 | inr w ↦ at_row zs x a.1 w ]

        own : (y : List (ℕ × ℕ)) → Among y boxes → Q y
        own y m =
            let w = (among_map (λ (x : CellBox). x.1) y sorted).0 (subst (Among y) bs m) in
            let x : CellBox = w.0 in
            subst Q w.2 (at_row rows x h (contains_among rows x (Contains-permutation sorted rows x (IsPermutation-sym rows sorted moved) (among_contains sorted x w.1))))

-- ---- what the loop's calls require

pub live_below : (n : ℕ) (live : List ℕ) → ((r : ℕ) → Among r live → r < n) → All (λ r. r < n) live
live_below n live h = All-from_recursion (λ r. r < n) live (each_from_members (λ r. r < n) live h)

module _ {P : Type 0} (labels : List P) (boxes : List IndexBox) (sorted : List (P × List (ℕ × ℕ))) (ls : labels ≡ map (λ (x : P × List (ℕ × ℕ)). x.0) sorted) (bs : sides_of boxes ≡ map (λ (x : P × List (ℕ × ℕ)). x.1) sorted) where
  pub boxes_length : length boxes ≡ length labels
  boxes_length =
      let a = map_length (λ (x : IndexBox). x.sides.items) boxes in
      let b : length (sides_of boxes) ≡ length sorted = ap length bs ∙ map_length (λ (x : P × List (ℕ × ℕ)). x.1) sorted in
      let c : length labels ≡ length sorted = ap length ls ∙ map_length (λ (x : P × List (ℕ × ℕ)). x.0) sorted in
      omega arith

  pub boxes_sides : (order : P → P → Ordering) (total : IsTotalOrder order) (separates : (a b : P) → order a b ≡ Equal → a ≡ b) (rows : List (P × List (ℕ × ℕ))) → IsPermutation rows sorted → (n : ℕ) → All (λ (x : P × List (ℕ × ℕ)). length x.1 ≡ n) rows → All (λ x. n ≤ length x.sides.items) boxes
  boxes_sides order total separates rows moved n h =
      All-from_recursion (λ (x : IndexBox). n ≤ length x.sides.items) boxes (at_least boxes
      (boxes_all order total separates labels (sides_of boxes) rows sorted moved ls bs (λ y. length y ≡ n) (recursion_from_All (λ (x : P × List (ℕ × ℕ)). length x.1 ≡ n) rows h)))
    where
      at_least : (xs : List IndexBox) → AllByRecursion (λ y. length y ≡ n) (sides_of xs) → AllByRecursion (λ (x : IndexBox). n ≤ length x.sides.items) xs
      at_least [] a = tt
      at_least (x ∷ xs) a = (omega (arith, a.0), at_least xs a.1)

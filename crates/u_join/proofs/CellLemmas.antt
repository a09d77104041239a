-- The operators over the cells of a numbering: what they give of packed rows with keys, and what that is by its numbers.
use Rattle.std.proofs.Common.{◌≡◌, ◌↔◌, ℕ, ◌<◌, ◌≤◌, ℤ, List, map, length, get_or, sym, refl, ap, ◌∙◌, subst}
use Rattle.std.specs.List.Sorted.{IsStrictlySortedBy}
use Rattle.value_core.specs.Order.{row_total, row_separates}
use Rattle.value_core.specs.Values.{Row, row_cmp}
use Rattle.relation_core.specs.Agreement.{part_of}
use Rattle.cell_packing.specs.Boxed.{Boxed, packed_boxes, unpacked_boxes, InBoxes}
use Rattle.cell_packing.specs.Covering.{Among}
use Rattle.cell_packing.specs.Packed.{no_cells}
use Rattle.cell_packing.proofs.AmongLemmas.{among_map}
use Rattle.cell_sweep.specs.Rows.{key_cmp}
use Rattle.cell_sweep.specs.PackedRows.{HasRow}
use Rattle.cell_boxes.specs.Answers.{IsPackedCover, IsBoxOf, IsBoxOfKeyed, PlainKeyedCellBox, HasKeyed, IsMatched, IsUnmatched, IsJoined}
use Rattle.cell_core.specs.CellRows.{AreOverCells}
use Rattle.cell_core.specs.Cells.{grids_of, grid_row, row_numbers}
use Rattle.cell_core.proofs.PackedGridPoints.{AllHave}
use Rattle.u_set.proofs.KernelLemmas.{AreOn, left_on, right_on, mapped_on, left_grid_points, right_grid_points, relabelled_grid_points, fewer_on, fewer_grid_points, within, form}
use Rattle.u_set.specs.Fewer.{IsSameOrPacked}
use Rattle.u_set.proofs.CellLemmas.{numbers_have}
use Rattle.u_row.specs.Labels.{relabelled}
use Rattle.u_join.specs.KeyedCellBox.{keyed}
use Rattle.u_join.specs.Pairs.{matched_boxes, unmatched_boxes, joined_boxes, IsJoinedAt}
use Rattle.u_join.proofs.PairPlaces.{places_matched, places_unmatched, places_joined, matched_have, unmatched_have, joined_have}

-- ---- rows with their keys

abbrev pub Cells : Type 0
Cells = Row × List (ℕ × ℕ)

module _ (at : List ℕ) (rows : List Cells) where
  -- some row has the key and the label where a row has the label, of which this is the part
  keyed_has : (k l : Row) (place : List ℕ) → HasKeyed (map (keyed (part_of at)) rows) k l place ↔ (HasRow rows l place × (part_of at l ≡ k))
  keyed_has k l place = (
    λ h.
        let w = (among_map (keyed (part_of at)) (k, l, h.0) rows).0 h.1 in
        let label : (w.0).0 ≡ l = ap (λ (x : PlainKeyedCellBox Row Row). x.1) w.2 in
        let sides : (w.0).1 ≡ h.0 = ap (λ (x : PlainKeyedCellBox Row Row). x.2) w.2 in
        let key : part_of at (w.0).0 ≡ k = ap (λ (x : PlainKeyedCellBox Row Row). x.0) w.2 in
        let same : w.0 ≡ (l, h.0) = λ t. (label t, sides t) in
        ((h.0, subst (λ x. Among x rows) same w.1, h.2), ap (part_of at) (sym label) ∙ key),
    λ h.
        let e = h.1 in
        ((h.0).0, (among_map (keyed (part_of at)) (k, l, (h.0).0) rows).1 ((l, (h.0).0), (h.0).1, (λ t. (e t, l, (h.0).0))), (h.0).2),
  )

  pub boxes_keyed : (y : List (ℕ × ℕ)) → IsBoxOfKeyed (map (keyed (part_of at)) rows) y → IsBoxOf rows y
  boxes_keyed y h =
      let w = (among_map (keyed (part_of at)) (h.0, h.1, y) rows).0 h.2 in
      let label : (w.0).0 ≡ h.1 = ap (λ (x : PlainKeyedCellBox Row Row). x.1) w.2 in
      let sides : (w.0).1 ≡ y = ap (λ (x : PlainKeyedCellBox Row Row). x.2) w.2 in
      let same : w.0 ≡ (h.1, y) = λ t. (label t, sides t) in
      (h.1, subst (λ x. Among x rows) same w.1)

-- ---- at a place, where A are the left labels and B the keys of the right ones there

-- a left label with a right key, and one with none
abbrev pub HasKey : List ℕ → (Row → Type 0) → (Row → Type 0) → Row → Type 0
HasKey here A B l = A l × B (part_of here l)

abbrev pub HasNoKey : List ℕ → (Row → Type 0) → (Row → Type 0) → Row → Type 0
HasNoKey here A B l = A l × (B (part_of here l) → ⊥)

module _ (here : List ℕ) (ls rs : List Cells) where
  abbrev lefts : List (PlainKeyedCellBox Row Row)
  lefts = map (keyed (part_of here)) ls

  pub matched_cells : (l : Row) (place : List ℕ) → IsMatched lefts rs l place ↔ HasKey here (λ a. HasRow ls a place) (λ b. HasRow rs b place) l
  matched_cells l place = (
    λ h.
        let a = (keyed_has here ls h.0 l place).0 h.1 in
        (a.0, subst (λ k. HasRow rs k place) (sym a.1) h.2),
    λ h. (part_of here l, (keyed_has here ls (part_of here l) l place).1 (h.0, refl), h.1),
  )

  pub unmatched_cells : (l : Row) (place : List ℕ) → IsUnmatched lefts rs l place ↔ HasNoKey here (λ a. HasRow ls a place) (λ b. HasRow rs b place) l
  unmatched_cells l place = (
    λ h.
        let a = (keyed_has here ls h.0 l place).0 h.1 in
        (a.0, λ g. h.2 (subst (λ k. HasRow rs k place) a.1 g)),
    λ h. (part_of here l, (keyed_has here ls (part_of here l) l place).1 (h.0, refl), h.1),
  )

  pub joined_cells : (there : List ℕ) (f : Row → Row → Row) (l : Row) (place : List ℕ)
      → IsJoined f lefts (map (keyed (part_of there)) rs) l place ↔ IsJoinedAt here there f (λ a. HasRow ls a place) (λ b. HasRow rs b place) l
  joined_cells there f l place = (
    λ h.
        let a = (keyed_has here ls h.0 h.1 place).0 h.3 in
        let b = (keyed_has there rs h.0 h.2 place).0 h.4 in
        (h.1, h.2, a.0, b.0, a.1 ∙ sym b.1, sym h.5),
    λ h. (part_of here h.0, h.0, h.1, (keyed_has here ls (part_of here h.0) h.0 place).1 (h.2, refl), (keyed_has there rs (part_of here h.0) h.1 place).1 (h.3, sym h.4), sym h.5),
  )

-- ---- what they give goes along with the labels and keys at a place

module _ (here : List ℕ) where
  key_alike : (A A' B B' : Row → Type 0) → ((a : Row) → A a ↔ A' a) → ((b : Row) → B b ↔ B' b) → (l : Row) → HasKey here A B l → HasKey here A' B' l
  key_alike A A' B B' a b l h = ((a l).0 h.0, (b (part_of here l)).0 h.1)

  no_key_alike : (A A' B B' : Row → Type 0) → ((a : Row) → A a ↔ A' a) → ((b : Row) → B b ↔ B' b) → (l : Row) → HasNoKey here A B l → HasNoKey here A' B' l
  no_key_alike A A' B B' a b l h = ((a l).0 h.0, λ g. h.1 ((b (part_of here l)).1 g))

  key_some : (A B : Row → Type 0) (l : Row) → HasKey here A B l → (a : Row) × A a
  key_some A B l h = (l, h.0)

  no_key_some : (A B : Row → Type 0) (l : Row) → HasNoKey here A B l → (a : Row) × A a
  no_key_some A B l h = (l, h.0)

  joined_alike : (there : List ℕ) (f : Row → Row → Row) (A A' B B' : Row → Type 0) → ((a : Row) → A a ↔ A' a) → ((b : Row) → B b ↔ B' b) → (l : Row) → IsJoinedAt here there f A B l → IsJoinedAt here there f A' B' l
  joined_alike there f A A' B B' a b l h = (h.0, h.1, (a h.0).0 h.2, (b h.1).0 h.3, h.4, h.5)

  joined_some : (there : List ℕ) (f : Row → Row → Row) (A B : Row → Type 0) (l : Row) → IsJoinedAt here there f A B l → (a : Row) × A a
  joined_some there f A B l h = (h.0, h.2)

-- ---- over the cells of a numbering

module _ {T P : Type 0} (n : P → ℤ) (has : T → P → Type 0) (high : T → ℤ) (point : (t : T) → P) (ts : List T) (left right : List (Row × List (P × P)))
    (ss : List (List P × List P × List (ℕ × ℕ))) (ls rs : List (Row × List (ℕ × ℕ))) (over : AreOverCells n has high ts left right ss ls rs)
    (here there : List ℕ) (fewer_left : List (Row × List (ℕ × ℕ))) (left_fewer : IsSameOrPacked row_cmp (length ts) ls fewer_left)
    (lefts : List (Row × Row × List (ℕ × ℕ))) (left_keys : lefts ≡ map (keyed (part_of here)) fewer_left)
    (out : List (Row × List (ℕ × ℕ))) where
  abbrev k : ℕ
  k = length ts

  abbrev ns : List (List ℤ × ℤ)
  ns = grids_of n high ts ss

  abbrev lefts_unpacked : List (Boxed Row)
  lefts_unpacked = unpacked_boxes row_cmp k (map (row_numbers n) left)

  abbrev rights_unpacked : List (Boxed Row)
  rights_unpacked = unpacked_boxes row_cmp k (map (row_numbers n) right)

  abbrev WithinCells : Type 0
  WithinCells = (x : Row × List (ℕ × ℕ)) → Among x out → (s : ℕ) (e : List P × List P × List (ℕ × ℕ)) → s < k → ((get_or x.1 s no_cells).0 < (get_or x.1 s no_cells).1) × ((get_or x.1 s no_cells).1 ≤ length (get_or ss s e).0)

  hl : AllHave k (map (row_numbers n) left)
  hl = numbers_have n has ts left over.left_boxes

  hr : AllHave k (map (row_numbers n) right)
  hr = numbers_have n has ts right over.right_boxes

  lo : AreOn k ss fewer_left
  lo = fewer_on n has high point ts left right ss ls rs over row_cmp ls fewer_left (left_on n has high point ts left right ss ls rs over) left_fewer

  -- the left rows have at points what the left boxes have
  left_at : (p : List ℤ) (l : Row) → InBoxes (map (grid_row ns) fewer_left) l p ↔ InBoxes (map (row_numbers n) left) l p
  left_at p l =
      let a = fewer_grid_points n has high point ts left right ss ls rs over row_cmp ls fewer_left (left_on n has high point ts left right ss ls rs over) left_fewer row_total row_separates l p in
      let b = left_grid_points n has high point ts left right ss ls rs over l p in
      (λ h. b.0 (a.0 h), λ h. a.1 (b.1 h))

  -- ---- the right rows under their keys

  module _ (keys rights : List (Row × List (ℕ × ℕ))) (right_keys : keys ≡ map (relabelled (part_of there)) rs)
      (right_fewer : IsSameOrPacked row_cmp (length ts) keys rights) where
    keys_on : AreOn k ss keys
    keys_on = subst (λ (v : List (Row × List (ℕ × ℕ))). AreOn k ss v) (sym right_keys) (mapped_on k ss (relabelled (part_of there)) (λ x. refl) rs (right_on n has high point ts left right ss ls rs over))

    ro : AreOn k ss rights
    ro = fewer_on n has high point ts left right ss ls rs over row_cmp keys rights keys_on right_fewer

    -- they have a key at a point where a right box has a label with it
    keys_at : (p : List ℤ) (key : Row) → InBoxes (map (grid_row ns) rights) key p ↔ ((m : Row) × InBoxes (map (row_numbers n) right) m p × (key ≡ part_of there m))
    keys_at p key =
        let a = fewer_grid_points n has high point ts left right ss ls rs over row_cmp keys rights keys_on right_fewer row_total row_separates key p in
        let b = relabelled_grid_points ns (part_of there) rs key p in
        let under : InBoxes (map (grid_row ns) keys) key p ≡ InBoxes (map (grid_row ns) (map (relabelled (part_of there)) rs)) key p = λ t. InBoxes (map (grid_row ns) (right_keys t)) key p in (
          λ h.
              let w = b.0 (subst (λ X. X) under (a.0 h)) in
              (w.0, (right_grid_points n has high point ts left right ss ls rs over w.0 p).0 w.1, sym w.2),
          λ h. a.1 (subst (λ X. X) (sym under) (b.1 (h.0, (right_grid_points n has high point ts left right ss ls rs over h.0 p).1 h.1, sym h.2))),
        )

    module _ (cover : IsPackedCover k (IsMatched lefts rights) (IsBoxOfKeyed lefts) out) where
      matched_cover : IsPackedCover k (IsMatched (map (keyed (part_of here)) fewer_left) rights) (IsBoxOfKeyed (map (keyed (part_of here)) fewer_left)) out
      matched_cover = subst (λ (v : List (PlainKeyedCellBox Row Row)). IsPackedCover k (IsMatched v rights) (IsBoxOfKeyed v) out) left_keys cover

      pub matched_within : WithinCells
      matched_within = within n has high point ts left right ss ls rs over fewer_left rights lo ro (HasKey here) (key_alike here) (key_some here) (IsMatched (map (keyed (part_of here)) fewer_left) rights) (λ l p e. matched_cells here fewer_left rights l p)
          (IsBoxOfKeyed (map (keyed (part_of here)) fewer_left)) (boxes_keyed here fewer_left) out matched_cover

      pub matched_form : IsStrictlySortedBy (key_cmp row_cmp) out → map (grid_row (grids_of n high ts ss)) out ≡ packed_boxes row_cmp k (matched_boxes here there lefts_unpacked rights_unpacked)
      matched_form sorted =
          form n has high point ts left right ss ls rs over fewer_left rights lo ro (HasKey here) (key_alike here) (key_some here) (IsMatched (map (keyed (part_of here)) fewer_left) rights) (λ l p e. matched_cells here fewer_left rights l p)
          (IsBoxOfKeyed (map (keyed (part_of here)) fewer_left)) (boxes_keyed here fewer_left) out matched_cover row_cmp row_total row_separates sorted (matched_boxes here there lefts_unpacked rights_unpacked)
          (matched_have here there k (map (row_numbers n) left) (map (row_numbers n) right) hl hr) (λ l p.
          let w = places_matched here there k (map (row_numbers n) left) (map (row_numbers n) right) hl hr l p in
          let a = left_at p l in
          let b = keys_at p (part_of here l) in (
            λ h. let v = w.0 h in (a.1 v.0, b.1 v.1),
            λ h. w.1 (a.0 h.0, b.0 h.1),
          ))

    module _ (cover : IsPackedCover k (IsUnmatched lefts rights) (IsBoxOfKeyed lefts) out) where
      unmatched_cover : IsPackedCover k (IsUnmatched (map (keyed (part_of here)) fewer_left) rights) (IsBoxOfKeyed (map (keyed (part_of here)) fewer_left)) out
      unmatched_cover = subst (λ (v : List (PlainKeyedCellBox Row Row)). IsPackedCover k (IsUnmatched v rights) (IsBoxOfKeyed v) out) left_keys cover

      pub unmatched_within : WithinCells
      unmatched_within = within n has high point ts left right ss ls rs over fewer_left rights lo ro (HasNoKey here) (no_key_alike here) (no_key_some here) (IsUnmatched (map (keyed (part_of here)) fewer_left) rights) (λ l p e. unmatched_cells here fewer_left rights l p)
          (IsBoxOfKeyed (map (keyed (part_of here)) fewer_left)) (boxes_keyed here fewer_left) out unmatched_cover

      pub unmatched_form : IsStrictlySortedBy (key_cmp row_cmp) out → map (grid_row (grids_of n high ts ss)) out ≡ packed_boxes row_cmp k (unmatched_boxes here there lefts_unpacked rights_unpacked)
      unmatched_form sorted =
          form n has high point ts left right ss ls rs over fewer_left rights lo ro (HasNoKey here) (no_key_alike here) (no_key_some here) (IsUnmatched (map (keyed (part_of here)) fewer_left) rights) (λ l p e. unmatched_cells here fewer_left rights l p)
          (IsBoxOfKeyed (map (keyed (part_of here)) fewer_left)) (boxes_keyed here fewer_left) out unmatched_cover row_cmp row_total row_separates sorted (unmatched_boxes here there lefts_unpacked rights_unpacked)
          (unmatched_have here there k (map (row_numbers n) left) (map (row_numbers n) right) hl hr) (λ l p.
          let w = places_unmatched here there k (map (row_numbers n) left) (map (row_numbers n) right) hl hr l p in
          let a = left_at p l in
          let b = keys_at p (part_of here l) in (
            λ h. let v = w.0 h in (a.1 v.0, λ g. v.1 (b.0 g)),
            λ h. w.1 (a.0 h.0, λ q. h.1 (b.1 q)),
          ))

  -- ---- the right rows, with their keys

  module _ (f : Row → Row → Row) (fewer_right : List (Row × List (ℕ × ℕ))) (right_fewer : IsSameOrPacked row_cmp (length ts) rs fewer_right)
      (rights : List (Row × Row × List (ℕ × ℕ))) (right_keys : rights ≡ map (keyed (part_of there)) fewer_right)
      (cover : IsPackedCover k (IsJoined f lefts rights) (IsBoxOfKeyed lefts) out) where
    po : AreOn k ss fewer_right
    po = fewer_on n has high point ts left right ss ls rs over row_cmp rs fewer_right (right_on n has high point ts left right ss ls rs over) right_fewer

    right_at : (p : List ℤ) (l : Row) → InBoxes (map (grid_row ns) fewer_right) l p ↔ InBoxes (map (row_numbers n) right) l p
    right_at p l =
        let a = fewer_grid_points n has high point ts left right ss ls rs over row_cmp rs fewer_right (right_on n has high point ts left right ss ls rs over) right_fewer row_total row_separates l p in
        let b = right_grid_points n has high point ts left right ss ls rs over l p in
        (λ h. b.0 (a.0 h), λ h. a.1 (b.1 h))

    joined_cover : IsPackedCover k (IsJoined f (map (keyed (part_of here)) fewer_left) (map (keyed (part_of there)) fewer_right)) (IsBoxOfKeyed (map (keyed (part_of here)) fewer_left)) out
    joined_cover =
        let a = left_keys in
        let b = right_keys in
        subst (λ X. X) (λ t. IsPackedCover k (IsJoined f (a t) (b t)) (IsBoxOfKeyed (a t)) out) cover

    pub joined_within : WithinCells
    joined_within = within n has high point ts left right ss ls rs over fewer_left fewer_right lo po (IsJoinedAt here there f) (joined_alike here there f) (joined_some here there f) (IsJoined f (map (keyed (part_of here)) fewer_left) (map (keyed (part_of there)) fewer_right)) (λ l p e. joined_cells here fewer_left fewer_right there f l p)
        (IsBoxOfKeyed (map (keyed (part_of here)) fewer_left)) (boxes_keyed here fewer_left) out joined_cover

    pub joined_form : IsStrictlySortedBy (key_cmp row_cmp) out → map (grid_row (grids_of n high ts ss)) out ≡ packed_boxes row_cmp k (joined_boxes here there f lefts_unpacked rights_unpacked)
    joined_form sorted =
        form n has high point ts left right ss ls rs over fewer_left fewer_right lo po (IsJoinedAt here there f) (joined_alike here there f) (joined_some here there f) (IsJoined f (map (keyed (part_of here)) fewer_left) (map (keyed (part_of there)) fewer_right)) (λ l p e. joined_cells here fewer_left fewer_right there f l p)
        (IsBoxOfKeyed (map (keyed (part_of here)) fewer_left)) (boxes_keyed here fewer_left) out joined_cover row_cmp row_total row_separates sorted (joined_boxes here there f lefts_unpacked rights_unpacked)
        (joined_have here there k (map (row_numbers n) left) (map (row_numbers n) right) hl hr f) (λ l p.
        let w = places_joined here there k (map (row_numbers n) left) (map (row_numbers n) right) hl hr f l p in
        let A = λ (a : Row). InBoxes (map (row_numbers n) left) a p in
        let A' = λ (a : Row). InBoxes (map (grid_row ns) fewer_left) a p in
        let B = λ (b : Row). InBoxes (map (row_numbers n) right) b p in
        let B' = λ (b : Row). InBoxes (map (grid_row ns) fewer_right) b p in (
          λ h. joined_alike here there f A A' B B' (λ a. let e = left_at p a in (e.1, e.0)) (λ b. let e = right_at p b in (e.1, e.0)) l (w.0 h),
          λ h. w.1 (joined_alike here there f A' A B' B (left_at p) (right_at p) l h),
        ))

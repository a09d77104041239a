-- What the recursion over slices gives is the packed form, one side after the other, of the cells of the function.
use Rattle.std.proofs.Common.{◌≡◌, ℕ, zero, suc, ◌+◌, ◌<◌, ◌≤◌, Bool, true, false, cond, ◌&&◌, ◌≢◌, ℤ, List, [], ◌∷◌, ◌++◌, length, get_or, take, map, ◌↔◌, ◌⊎◌, inl, inr, arith, sym, ap, subst, refl, ◌∙◌, leb, ltb}
use Rattle.std.specs.Int.RustNames.{int_le}
use Rattle.std.specs.List.{filter, AllByRecursion}
use Rattle.interval_core.specs.Members.{Span}
use Rattle.cell_packing.specs.Packed.{packs, points_of, nowhere, no_cells, onto, sides_back}
use Rattle.cell_packing.specs.Covering.{has, passing, has_cell}
use Rattle.cell_packing.specs.Live.{span_has, box, has_grid_point, InLive, IsSliceRow}
use Rattle.cell_packing.proofs.Cells.{Cuts, OnGrid, grid_point_of, box_of}
use Rattle.cell_packing.proofs.Covered.{on_grid, at_grid_point, IsInGrid}
use Rattle.cell_packing.proofs.Slices.{has_cells}
use Rattle.cell_packing.proofs.Inward.{has_last, filter_where}
use Rattle.cell_packing.proofs.Whole.{whole_some, onto_cells, cells_back, cuts_back, length_back, length_cells_back, box_back, length_box, whole}

-- ---- a place turned round

pub onto_last : (ps rest : List ℤ) → onto ps rest ≡ onto ps [] ++ rest
onto_last [] rest = refl
onto_last (p ∷ ps) rest = onto_last ps (p ∷ rest) ∙ sym (assoc (onto ps []) (p ∷ []) rest) ∙ ap (λ qs. qs ++ rest) (sym (onto_last ps (p ∷ [])))
  where
    assoc : (a b c : List ℤ) → (a ++ b) ++ c ≡ a ++ (b ++ c)
    assoc [] b c = refl
    assoc (x ∷ a) b c = ap (λ z. x ∷ z) (assoc a b c)

none_has : (ps : List ℤ) (p : ℤ) → has [] (ps ++ p ∷ []) ≡ false
none_has [] p = refl
none_has (q ∷ ps) p = refl

and_false : (a b : Bool) → (a && (b && false)) ≡ false
and_false true true = refl
and_false true false = refl
and_false false b = refl

has_none : (xs : List Span) (x : Span) → has (xs ++ x ∷ []) [] ≡ false
has_none [] x = refl
has_none (y ∷ xs) x = refl

abbrev one_has : Span → ℤ → Bool → Bool
one_has x p b = int_le x.0 p && (int_le p x.1 && b)

move : (a b c d e : Bool) → (a && (b && (c && (d && e)))) ≡ (c && (d && (a && (b && e))))
move true true c d e = refl
move true false true true e = refl
move true false true false e = refl
move true false false d e = refl
move false b true true e = refl
move false b true false e = refl
move false b false d e = refl

-- the last of both
has_end : (xs : List Span) (x : Span) (ps : List ℤ) (p : ℤ) → has (xs ++ x ∷ []) (ps ++ p ∷ []) ≡ one_has x p (has xs ps)
has_end [] x [] p = refl
has_end [] x (q ∷ ps) p = ap (λ b. int_le x.0 q && (int_le q x.1 && b)) (none_has ps p) ∙ and_false _ _ ∙ sym (and_false _ _)
has_end (y ∷ xs) x [] p = ap (λ b. int_le y.0 p && (int_le p y.1 && b)) (has_none xs x) ∙ and_false _ _ ∙ sym (and_false _ _)
has_end (y ∷ xs) x (q ∷ ps) p = ap (one_has y q) (has_end xs x ps p) ∙ move (int_le y.0 q) (int_le q y.1) (int_le x.0 p) (int_le p x.1) (has xs ps)

pub take_last : (y : List Span) (j : ℕ) → j < length y → take (suc j) y ≡ take j y ++ get_or y j nowhere ∷ []
take_last [] j h = absurd (omega arith)
take_last (x ∷ xs) zero h = refl
take_last (x ∷ xs) (suc j) h = ap (λ zs. x ∷ zs) (take_last xs j (omega arith))

-- the first j sides have the place exactly where they have it turned round
has_back : (j : ℕ) (y : List Span) (ps : List ℤ) → j ≤ length y → has (take j y) (onto ps []) ≡ has (sides_back j y) ps
has_back zero y [] h = refl
has_back zero y (p ∷ ps) h = ap (has []) (onto_last ps (p ∷ [])) ∙ none_has (onto ps []) p
has_back (suc j) y [] h = ap (λ zs. has zs []) (take_last y j h) ∙ has_none (take j y) (get_or y j nowhere)
has_back (suc j) y (p ∷ ps) h =
    (λ t. has (take_last y j h t) (onto_last ps (p ∷ []) t))
    ∙ has_end (take j y) (get_or y j nowhere) (onto ps []) p
    ∙ ap (one_has (get_or y j nowhere) p) (has_back j y ps (omega arith))

pub take_all : (y : List Span) → take (length y) y ≡ y
take_all [] = refl
take_all (x ∷ xs) = ap (λ zs. x ∷ zs) (take_all xs)

-- the same over cells
onto_cells_last : (is rest : List ℕ) → onto_cells is rest ≡ onto_cells is [] ++ rest
onto_cells_last [] rest = refl
onto_cells_last (i ∷ is) rest = onto_cells_last is (i ∷ rest) ∙ sym (assoc (onto_cells is []) (i ∷ []) rest) ∙ ap (λ qs. qs ++ rest) (sym (onto_cells_last is (i ∷ [])))
  where
    assoc : (a b c : List ℕ) → (a ++ b) ++ c ≡ a ++ (b ++ c)
    assoc [] b c = refl
    assoc (x ∷ a) b c = ap (λ z. x ∷ z) (assoc a b c)

pub length_onto_cells : (is rest : List ℕ) → length (onto_cells is rest) ≡ length is + length rest
length_onto_cells [] rest = omega arith
length_onto_cells (i ∷ is) rest = let w = length_onto_cells is (i ∷ rest) in omega arith

swap : (a b c : Bool) → (a && (b && c)) ≡ (c && (a && b))
swap true true true = refl
swap true true false = refl
swap true false true = refl
swap true false false = refl
swap false b true = refl
swap false b false = refl

has_cells_back : (j : ℕ) (y : List (ℕ × ℕ)) (is : List ℕ) → j ≤ length y → length is ≡ j → has_cell (cells_back j y) is ≡ has_grid_point y (onto_cells is [])
has_cells_back zero y [] h e = sym (empty y)
  where
    empty : (z : List (ℕ × ℕ)) → has_grid_point z [] ≡ true
    empty [] = refl
    empty (x ∷ xs) = refl
has_cells_back zero y (i ∷ is) h e = absurd (omega arith)
has_cells_back (suc j) y [] h e = absurd (omega arith)
has_cells_back (suc j) y (i ∷ is) h e =
    let n : length (onto_cells is []) ≡ j = length_onto_cells is [] ∙ (let m : length is ≡ j = omega arith in omega arith) in
    let v : ℕ × ℕ = get_or y j no_cells in
    ap (λ b. leb v.0 i && (ltb i v.1 && b)) (has_cells_back j y is (omega arith) (omega arith))
    ∙ swap (leb v.0 i) (ltb i v.1) (has_grid_point y (onto_cells is []))
    ∙ ap (λ m. has_grid_point y (onto_cells is []) && span_has (get_or y m no_cells) i) (sym n)
    ∙ sym (has_last y (onto_cells is []) i (omega arith))
    ∙ ap (has_grid_point y) (sym (onto_cells_last is (i ∷ [])))

-- ---- rows by their numbers

abbrev pick : List ℕ → List ℕ → List ℕ
pick xs m = map (λ i. get_or xs i 0) m

get_after : (pre xs : List ℕ) (x : ℕ) → get_or (pre ++ x ∷ xs) (length pre) 0 ≡ x
get_after [] xs x = refl
get_after (y ∷ pre) xs x = get_after pre xs x

filter_is_pick : (t : ℕ → Bool) (pre xs : List ℕ) → filter t xs ≡ pick (pre ++ xs) (passing t (length pre) xs)
filter_is_pick t pre [] = refl
filter_is_pick t pre (x ∷ xs) =
    let again : pre ++ x ∷ xs ≡ (pre ++ x ∷ []) ++ xs = more pre x xs in
    let n : length (pre ++ x ∷ []) ≡ suc (length pre) = longer pre x in
    let ih : filter t xs ≡ pick (pre ++ x ∷ xs) (passing t (suc (length pre)) xs) = filter_is_pick t (pre ++ x ∷ []) xs ∙ (λ i. pick (sym again i) (passing t (n i) xs)) in
    elim (t x) as (λ b. cond b (x ∷ filter t xs) (filter t xs) ≡ pick (pre ++ x ∷ xs) (cond b (length pre ∷ passing t (suc (length pre)) xs) (passing t (suc (length pre)) xs))) [
      | true ↦ λ i. sym (get_after pre xs x) i ∷ ih i
      | false ↦ ih
    ]
  where
    more : (a : List ℕ) (x : ℕ) (b : List ℕ) → a ++ x ∷ b ≡ (a ++ x ∷ []) ++ b
    more [] x b = refl
    more (y ∷ a) x b = ap (λ z. y ∷ z) (more a x b)

    longer : (a : List ℕ) (x : ℕ) → length (a ++ x ∷ []) ≡ suc (length a)
    longer [] x = refl
    longer (y ∷ a) x = ap suc (longer a x)

module _ {P : Type 0} (d : Cuts) (gs : List Cuts) (f : P → List ℕ → List ℕ → Type 0) (boxes : List (List (ℕ × ℕ))) (left right : List ℕ) (l : P) where
  abbrev k : ℕ
  k = length gs

  abbrev back : List Cuts
  back = cuts_back d k gs

  -- the row has one span of cells for each side, below the counts
  abbrev pub Fits : ℕ → Type 0
  Fits r = (length (box boxes r) ≡ k) × IsInGrid back (cells_back k (box boxes r))

  -- what the rows that cover a place of points give
  abbrev pub InGridPoints : List ℤ → Type 0
  InGridPoints grid_point =
      let a = filter (λ r. has (box_of gs (box boxes r)) grid_point) left in
      let b = filter (λ r. has (box_of gs (box boxes r)) grid_point) right in
      ((a ≢ []) ⊎ (b ≢ [])) × f l a b

  turned : (r : ℕ) (ps : List ℤ) → Fits r → has (box_of gs (box boxes r)) (onto ps []) ≡ has (box_of back (cells_back k (box boxes r))) ps
  turned r ps fits =
      let y = box boxes r in
      let n : length (box_of gs y) ≡ k = length_box gs y fits.0 in
      ap (λ zs. has zs (onto ps [])) (sym (take_all (box_of gs y)))
      ∙ ap (λ m. has (take m (box_of gs y)) (onto ps [])) n
      ∙ has_back k (box_of gs y) ps (omega arith)
      ∙ ap (λ zs. has zs ps) (box_back d gs y k (omega arith) fits.0)

  abbrev asks : List ℕ → List ℕ → Type 0
  asks a b = ((a ≢ []) ⊎ (b ≢ [])) × f l a b

  not_nil : (xs m : List ℕ) → pick xs m ≢ [] → m ≢ []
  not_nil xs [] h e = h refl
  not_nil xs (i ∷ m) h e = cc

  module _ (fits_left : AllByRecursion Fits left) (fits_right : AllByRecursion Fits right) where
    grid_left : AllByRecursion (λ r. IsInGrid back (cells_back k (box boxes r))) left
    grid_left = weaker left fits_left
      where
        weaker : (xs : List ℕ) → AllByRecursion Fits xs → AllByRecursion (λ r. IsInGrid back (cells_back k (box boxes r))) xs
        weaker [] h = tt
        weaker (x ∷ xs) h = (h.0.1, weaker xs h.1)

    grid_right : AllByRecursion (λ r. IsInGrid back (cells_back k (box boxes r))) right
    grid_right = weaker right fits_right
      where
        weaker : (xs : List ℕ) → AllByRecursion Fits xs → AllByRecursion (λ r. IsInGrid back (cells_back k (box boxes r))) xs
        weaker [] h = tt
        weaker (x ∷ xs) h = (h.0.1, weaker xs h.1)

    as_picked : (live : List ℕ) → AllByRecursion Fits live → (ps : List ℤ) → pick live (at_grid_point (λ _. true) back (λ r. cells_back k (box boxes r)) live ps) ≡ filter (λ r. has (box_of gs (box boxes r)) (onto ps [])) live
    as_picked live a ps = sym (filter_is_pick (λ r. has (box_of back (cells_back k (box boxes r))) ps) [] live) ∙ sym (filter_where _ _ Fits live a (λ r h. turned r ps h))

    pub on : OnGrid back (λ ps. InGridPoints (onto ps []))
    on = subst (OnGrid back) (λ t ps. asks (as_picked left fits_left ps t) (as_picked right fits_right ps t))
        (on_grid (λ m n. asks (pick left m) (pick right n)) (λ m n h. elim h.0 [ inl w ↦ inl (not_nil left m w) | inr w ↦ inr (not_nil right n w) ]) back (λ _. true) (λ r. cells_back k (box boxes r)) left right grid_left grid_right)

    at_cells : (live : List ℕ) → AllByRecursion Fits live → (is : List ℕ) → length is ≡ k → filter (λ r. has (box_of gs (box boxes r)) (onto (grid_point_of back is) [])) live ≡ filter (λ r. has_grid_point (box boxes r) (onto_cells is [])) live
    at_cells live a is e = filter_where _ _ Fits live a (λ r h.
        turned r (grid_point_of back is) h
        ∙ has_cells back (cells_back k (box boxes r)) is (length_cells_back k (box boxes r) ∙ sym (length_back d k gs)) (e ∙ sym (length_back d k gs))
        ∙ has_cells_back k (box boxes r) is (omega (arith, h.0)) e)

    pub same : (is : List ℕ) → length is ≡ k → InGridPoints (onto (grid_point_of back is) []) ≡ InLive f boxes left right l (onto_cells is [])
    same is e = λ t. asks (at_cells left fits_left is e t) (at_cells right fits_right is e t)

    -- a box of points is packed, one side after the other, exactly where the slices have its cells
    pub slices_are_packed : (y : List (ℕ × ℕ)) → length y ≡ k → packs k (points_of InGridPoints) (box_of gs y) ↔ IsSliceRow k f boxes left right l y
    slices_are_packed y e = whole d gs InGridPoints (InLive f boxes left right l) on same y e

    -- and no other box is
    pub packed_some : (z : List Span) → length z ≡ k → packs k (points_of InGridPoints) z → (y : List (ℕ × ℕ)) × (length y ≡ k) × (z ≡ box_of gs y)
    packed_some z e h = whole_some d gs InGridPoints (InLive f boxes left right l) on same z e h

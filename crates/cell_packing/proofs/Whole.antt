-- From the numbered cells to the points, for places and boxes from the first side to the last.
use Rattle.std.proofs.Common.{◌≡◌, ℕ, zero, suc, ◌+◌, ◌<◌, ◌≤◌, ℤ, List, [], ◌∷◌, ◌++◌, length, get_or, drop, ◌↔◌, inl, inr, arith, sym, ap, subst, refl, ◌∙◌}
use Rattle.std.proofs.lemmas.Bool.{cases_lt}
use Rattle.std.proofs.lemmas.List.{length_push}
use Rattle.interval_core.specs.Members.{Span}
use Rattle.cell_packing.specs.Packed.{IsPacked, IsIndexRun, IsIndexPacked, IsIndexPackedTo, packs, points_of, nowhere, no_cells, onto, sides_back}
use Rattle.cell_packing.proofs.Cells.{Cuts, OnGrid, grid_point_of, box_of, span_of, cells_iff, cells_some}
use Rattle.cell_packing.proofs.Commute.{packs_is}

-- ---- over cells, by the side's number and from the last side inward

abbrev pub onto_cells : List ℕ → List ℕ → List ℕ
onto_cells [] rest = rest
onto_cells (i ∷ is) rest = onto_cells is (i ∷ rest)

abbrev pub cells_back : ℕ → List (ℕ × ℕ) → List (ℕ × ℕ)
cells_back zero y = []
cells_back (suc j) y = get_or y j no_cells ∷ cells_back j y

pub IsIndexPackedTo-is : (j : ℕ) (S : List ℕ → Type 0) (y : List (ℕ × ℕ)) (rest : List ℕ) → IsIndexPackedTo j S y rest ≡ IsIndexPacked (λ is. S (onto_cells is rest)) (cells_back j y)
IsIndexPackedTo-is zero S y rest = refl
IsIndexPackedTo-is (suc j) S y rest = λ t. IsIndexRun (λ i. IsIndexPackedTo-is j S y (i ∷ rest) t) (get_or y j no_cells).0 (get_or y j no_cells).1

-- the cuts, the last side's first
abbrev pub cuts_back : Cuts → ℕ → List Cuts → List Cuts
cuts_back d zero gs = []
cuts_back d (suc j) gs = get_or gs j d ∷ cuts_back d j gs

pub length_back : (d : Cuts) (j : ℕ) (gs : List Cuts) → length (cuts_back d j gs) ≡ j
length_back d zero gs = refl
length_back d (suc j) gs = ap suc (length_back d j gs)

pub length_cells_back : (j : ℕ) (y : List (ℕ × ℕ)) → length (cells_back j y) ≡ j
length_cells_back zero y = refl
length_cells_back (suc j) y = ap suc (length_cells_back j y)

box_at : (d : Cuts) (gs : List Cuts) (y : List (ℕ × ℕ)) (j : ℕ) → j < length gs → length y ≡ length gs → get_or (box_of gs y) j nowhere ≡ span_of (get_or gs j d) (get_or y j no_cells)
box_at d [] y j h e = absurd (omega arith)
box_at d (g ∷ gs) [] j h e = absurd (omega arith)
box_at d (g ∷ gs) (x ∷ xs) zero h e = refl
box_at d (g ∷ gs) (x ∷ xs) (suc j) h e = box_at d gs xs j (omega arith) (omega arith)

-- a box of cells turned round
pub box_back : (d : Cuts) (gs : List Cuts) (y : List (ℕ × ℕ)) (j : ℕ) → j ≤ length gs → length y ≡ length gs → sides_back j (box_of gs y) ≡ box_of (cuts_back d j gs) (cells_back j y)
box_back d gs y zero h e = refl
box_back d gs y (suc j) h e = λ t. box_at d gs y j h e t ∷ box_back d gs y j (omega arith) e t

pub length_box : (gs : List Cuts) (y : List (ℕ × ℕ)) → length y ≡ length gs → length (box_of gs y) ≡ length gs
length_box [] y e = refl
length_box (g ∷ gs) [] e = absurd (omega arith)
length_box (g ∷ gs) (x ∷ xs) e = ap suc (length_box gs xs (omega arith))

pub length_sides_back : (j : ℕ) (z : List Span) → length (sides_back j z) ≡ j
length_sides_back zero z = refl
length_sides_back (suc j) z = ap suc (length_sides_back j z)

get_prefix : {X : Type 0} (xs : List X) (x d : X) (i : ℕ) → i < length xs → get_or (xs ++ x ∷ []) i d ≡ get_or xs i d
get_prefix [] x d i h = absurd (omega arith)
get_prefix (y ∷ ys) x d zero h = refl
get_prefix (y ∷ ys) x d (suc i) h = get_prefix ys x d i (omega arith)

get_end : {X : Type 0} (xs : List X) (x d : X) (i : ℕ) → i ≡ length xs → get_or (xs ++ x ∷ []) i d ≡ x
get_end [] x d zero e = refl
get_end [] x d (suc i) e = absurd (omega arith)
get_end (y ∷ ys) x d zero e = absurd (omega arith)
get_end (y ∷ ys) x d (suc i) e = get_end ys x d i (omega arith)

-- cells that stand from the last side to the first, turned round
turned_round : (d : Cuts) (gs : List Cuts) (j : ℕ) (z : List Span) (xs : List (ℕ × ℕ)) → length xs ≡ j → sides_back j z ≡ box_of (cuts_back d j gs) xs
    → (y : List (ℕ × ℕ)) × (length y ≡ j) × ((i : ℕ) → i < j → get_or z i nowhere ≡ span_of (get_or gs i d) (get_or y i no_cells))
turned_round d gs zero z xs n e = ([], refl, λ i h. absurd (omega arith))
turned_round d gs (suc j) z [] n e = absurd (omega arith)
turned_round d gs (suc j) z (x ∷ xs) n e =
    let first : get_or z j nowhere ≡ span_of (get_or gs j d) x = ap (λ ys. get_or ys 0 nowhere) e in
    let ih = turned_round d gs j z xs (omega arith) (ap (drop 1) e) in
    let y : List (ℕ × ℕ) = ih.0 in
    let m : length y ≡ j = ih.1 in (
      y ++ x ∷ [],
      length_push y x ∙ (let w : length y + 1 ≡ suc j = omega arith in w),
      λ i h. elim (cases_lt i j) [
        | inl l ↦ ih.2 i l ∙ ap (span_of (get_or gs i d)) (sym (get_prefix y x no_cells i (omega arith)))
        | inr l ↦
            let same : i ≡ j = omega arith in
            ap (λ m. get_or z m nowhere) same ∙ first ∙ ap (λ m. span_of (get_or gs m d) x) (sym same) ∙ ap (span_of (get_or gs i d)) (sym (get_end y x no_cells i (omega arith)))
      ],
    )

pub same_box : (d : Cuts) (gs : List Cuts) (z : List Span) (y : List (ℕ × ℕ)) → length z ≡ length gs → length y ≡ length gs → ((i : ℕ) → i < length gs → get_or z i nowhere ≡ span_of (get_or gs i d) (get_or y i no_cells)) → z ≡ box_of gs y
same_box d [] [] y e n h = refl
same_box d [] (x ∷ z) y e n h = absurd (omega arith)
same_box d (g ∷ gs) [] y e n h = absurd (omega arith)
same_box d (g ∷ gs) (x ∷ z) [] e n h = absurd (omega arith)
same_box d (g ∷ gs) (x ∷ z) (v ∷ y) e n h =
    let first = h 0 (omega arith) in
    let rest = same_box d gs z y (omega arith) (omega arith) (λ i l. h (suc i) (omega arith)) in
    λ t. first t ∷ rest t

-- The packed rows of a set of places, where the set with its places turned round is on the grid and is over cells what T is
module _ (d : Cuts) (gs : List Cuts) (S : List ℤ → Type 0) (T : List ℕ → Type 0) (on : OnGrid (cuts_back d (length gs) gs) (λ ps. S (onto ps []))) (same : (is : List ℕ) → length is ≡ length gs → S (onto (grid_point_of (cuts_back d (length gs) gs) is) []) ≡ T (onto_cells is [])) where
  -- a packed box is one of cells
  pub whole_some : (z : List Span) → length z ≡ length gs → packs (length gs) (points_of S) z → (y : List (ℕ × ℕ)) × (length y ≡ length gs) × (z ≡ box_of gs y)
  whole_some z e h =
      let k = length gs in
      let a : packs k (points_of S) z ↔ IsPacked (λ ps. S (onto ps [])) (sides_back k z) =
      subst (λ n. packs n (points_of S) z ↔ IsPacked (λ ps. S (onto ps [])) (sides_back n z)) e (packs_is S z) in
      let w = cells_some (cuts_back d k gs) (λ ps. S (onto ps [])) on (sides_back k z) (length_sides_back k z ∙ sym (length_back d k gs)) (a.0 h) in
      let v = turned_round d gs k z w.0 (w.1 ∙ length_back d k gs) w.2 in
      (v.0, v.1, same_box d gs z v.0 e v.1 v.2)

  IsIndexPacked-where : (U V : List ℕ → Type 0) (xs : List (ℕ × ℕ)) → ((is : List ℕ) → length is ≡ length xs → U is ≡ V is) → IsIndexPacked U xs ≡ IsIndexPacked V xs
  IsIndexPacked-where U V [] e = e [] refl
  IsIndexPacked-where U V (x ∷ xs) e = λ t. IsIndexRun (λ i. IsIndexPacked-where (λ is. U (i ∷ is)) (λ is. V (i ∷ is)) xs (λ is l. e (i ∷ is) (ap suc l)) t) x.0 x.1

  -- packed one side after the other over points, and by the side's number over cells
  pub whole : (y : List (ℕ × ℕ)) → length y ≡ length gs → packs (length gs) (points_of S) (box_of gs y) ↔ IsIndexPackedTo (length gs) T y []
  whole y e =
      let k = length gs in
      let a : packs k (points_of S) (box_of gs y) ↔ IsPacked (λ ps. S (onto ps [])) (sides_back k (box_of gs y)) =
      subst (λ n. packs n (points_of S) (box_of gs y) ↔ IsPacked (λ ps. S (onto ps [])) (sides_back n (box_of gs y))) (length_box gs y e) (packs_is S (box_of gs y)) in
      let back = box_back d gs y k (omega arith) e in
      let c = cells_iff (cuts_back d k gs) (λ ps. S (onto ps [])) on (cells_back k y) (length_cells_back k y ∙ sym (length_back d k gs)) in
      let m : IsIndexPacked (λ is. S (onto (grid_point_of (cuts_back d k gs) is) [])) (cells_back k y) ≡ IsIndexPacked (λ is. T (onto_cells is [])) (cells_back k y) =
      IsIndexPacked-where _ _ (cells_back k y) (λ is l. same is (l ∙ length_cells_back k y)) in
      let n = IsIndexPackedTo-is k T y [] in (
        λ h. subst (λ U. U) (sym n) (subst (λ U. U) m (c.1 (subst (IsPacked (λ ps. S (onto ps []))) back (a.0 h)))),
        λ h. a.1 (subst (IsPacked (λ ps. S (onto ps []))) (sym back) (c.0 (subst (λ U. U) (sym m) (subst (λ U. U) n h)))),
      )

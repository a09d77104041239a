-- A slice of the live rows is what the live rows give at its cell.
use Rattle.std.proofs.Common.{◌≡◌, ℕ, zero, suc, ◌+◌, ◌<◌, ◌≤◌, Bool, true, false, cond, ◌&&◌, ◌≢◌, List, [], ◌∷◌, ◌++◌, length, get_or, ◌↔◌, ◌⊎◌, inl, inr, arith, sym, ap, subst, refl, ◌∙◌, Ordering}
use Rattle.std.specs.Cmp.{IsTotalOrder}
use Rattle.std.specs.List.{filter, AllByRecursion}
use Rattle.std.proofs.Math.Bool.{and-true}
use Rattle.cell_packing.specs.Packed.{IsIndexRun, IsIndexPackedTo, no_cells}
use Rattle.cell_packing.specs.Pieces.{Covers, AreApart, HasPiece}
use Rattle.cell_packing.specs.declared.Piece.{Piece}
use Rattle.cell_packing.specs.Live.{span_has, box, side_has, has_grid_point, InLive, IsSliceRow}
use Rattle.cell_packing.proofs.Slices.{slices_join}

-- ---- places

assoc : (a b c : Bool) → (a && (b && c)) ≡ ((a && b) && c)
assoc true b c = refl
assoc false b c = refl

-- the last cell of a place is looked for in the side after the others
pub has_last : (y : List (ℕ × ℕ)) (grid_point : List ℕ) (i : ℕ) → length grid_point < length y → has_grid_point y (grid_point ++ i ∷ []) ≡ (has_grid_point y grid_point && span_has (get_or y (length grid_point) no_cells) i)
has_last [] grid_point i h = absurd (omega arith)
has_last (x ∷ xs) [] i h = and-true (span_has x i)
has_last (x ∷ xs) (p ∷ ps) i h = ap (λ b. span_has x p && b) (has_last xs ps i (omega arith)) ∙ assoc (span_has x p) _ _

pub filter_where : {X : Type 0} (t u : X → Bool) (P : X → Type 0) (xs : List X) → AllByRecursion P xs → ((x : X) → P x → t x ≡ u x) → filter t xs ≡ filter u xs
filter_where t u P [] a e = refl
filter_where t u P (x ∷ xs) a e = λ i. cond (e x a.0 i) (x ∷ filter_where t u P xs a.1 e i) (filter_where t u P xs a.1 e i)

filter_twice : {X : Type 0} (t u : X → Bool) (xs : List X) → filter (λ x. t x && u x) xs ≡ filter t (filter u xs)
filter_twice t u [] = refl
filter_twice t u (x ∷ xs) =
    elim (u x) as (λ b. cond (t x && b) (x ∷ filter (λ y. t y && u y) xs) (filter (λ y. t y && u y) xs) ≡ filter t (cond b (x ∷ filter u xs) (filter u xs))) [
      | true ↦ ap (λ b. cond b (x ∷ filter (λ y. t y && u y) xs) (filter (λ y. t y && u y) xs)) (and-true (t x)) ∙ (λ i. cond (t x) (x ∷ filter_twice t u xs i) (filter_twice t u xs i))
      | false ↦ ap (λ b. cond b (x ∷ filter (λ y. t y && u y) xs) (filter (λ y. t y && u y) xs)) (no_both (t x)) ∙ filter_twice t u xs
    ]
  where
    no_both : (a : Bool) → (a && false) ≡ false
    no_both true = refl
    no_both false = refl

module _ {P : Type 0} (f : P → List ℕ → List ℕ → Type 0) (boxes : List (List (ℕ × ℕ))) (k : ℕ) where
  -- the row has k sides at least
  abbrev pub HasSides : ℕ → Type 0
  HasSides r = k ≤ length (box boxes r)

  pub live_last : (live : List ℕ) (grid_point : List ℕ) (i : ℕ) → AllByRecursion HasSides live → length grid_point < k → filter (λ r. has_grid_point (box boxes r) (grid_point ++ i ∷ [])) live ≡ filter (λ r. has_grid_point (box boxes r) grid_point) (filter (side_has boxes (length grid_point) i) live)
  live_last live grid_point i a h =
      filter_where _ (λ r. has_grid_point (box boxes r) grid_point && side_has boxes (length grid_point) i r) HasSides live a (λ r e. has_last (box boxes r) grid_point i (omega arith))
      ∙ filter_twice (λ r. has_grid_point (box boxes r) grid_point) (side_has boxes (length grid_point) i) live

  -- at a place that ends in the cell i, the live rows give what those of them that have i give before it
  pub in_live_last : (left right : List ℕ) (l : P) (grid_point : List ℕ) (i : ℕ) → AllByRecursion HasSides left → AllByRecursion HasSides right → length grid_point < k → InLive f boxes left right l (grid_point ++ i ∷ []) ≡ InLive f boxes (filter (side_has boxes (length grid_point) i) left) (filter (side_has boxes (length grid_point) i) right) l grid_point
  in_live_last left right l grid_point i a b h = λ t.
      let m : List ℕ = live_last left grid_point i a h t in
      let n : List ℕ = live_last right grid_point i b h t in
      ((m ≢ []) ⊎ (n ≢ [])) × f l m n

-- cells of further sides may be put into the set
into_set : (j : ℕ) (S : List ℕ → Type 0) (y : List (ℕ × ℕ)) (rest more : List ℕ) → IsIndexPackedTo j S y (rest ++ more) ≡ IsIndexPackedTo j (λ ps. S (ps ++ more)) y rest
into_set zero S y rest more = refl
into_set (suc j) S y rest more = λ t. IsIndexRun (λ i. into_set j S y (i ∷ rest) more t) (get_or y j no_cells).0 (get_or y j no_cells).1

-- it depends on the set's places of j and the further sides alone
packed_where : (j : ℕ) (S S' : List ℕ → Type 0) (y : List (ℕ × ℕ)) (rest : List ℕ) → ((ps : List ℕ) → length ps ≡ j + length rest → S ps ≡ S' ps) → IsIndexPackedTo j S y rest ≡ IsIndexPackedTo j S' y rest
packed_where zero S S' y rest e = e rest (omega arith)
packed_where (suc j) S S' y rest e = λ t. IsIndexRun (λ i. packed_where j S S' y (i ∷ rest) (λ ps l. e ps (omega arith)) t) (get_or y j no_cells).0 (get_or y j no_cells).1

-- a packed row has a place
pub some_grid_point : (j : ℕ) (S : List ℕ → Type 0) (y : List (ℕ × ℕ)) (rest : List ℕ) → IsIndexPackedTo j S y rest → (ps : List ℕ) × S ps
some_grid_point zero S y rest h = (rest, h)
some_grid_point (suc j) S y rest h = some_grid_point j S y _ (h.each (get_or y j no_cells).0 (omega arith) h.some)

module _ {P : Type 0} (f : P → List ℕ → List ℕ → Type 0) (boxes : List (List (ℕ × ℕ))) (k j : ℕ) (jk : j < k) (left right : List ℕ) (all_left : AllByRecursion (HasSides f boxes k) left) (all_right : AllByRecursion (HasSides f boxes k) right) where
  -- the slice of the side j at the cell i is of the live rows that have i
  pub slice_at : (l : P) (i : ℕ) (y : List (ℕ × ℕ)) → IsIndexPackedTo j (InLive f boxes left right l) y (i ∷ []) ≡ IsSliceRow j f boxes (filter (side_has boxes j i) left) (filter (side_has boxes j i) right) l y
  slice_at l i y =
      into_set j (InLive f boxes left right l) y [] (i ∷ [])
      ∙ packed_where j _ _ y [] (λ ps e.
      let n : length ps ≡ j = omega arith in
      in_live_last f boxes k left right l ps i all_left all_right (omega arith)
      ∙ ap (λ m. InLive f boxes (filter (side_has boxes m i) left) (filter (side_has boxes m i) right) l ps) n)

  -- no row of a cell that no live row has
  pub no_slice : (l : P) (i : ℕ) (y : List (ℕ × ℕ)) → filter (side_has boxes j i) left ≡ [] → filter (side_has boxes j i) right ≡ [] → IsIndexPackedTo j (InLive f boxes left right l) y (i ∷ []) → ⊥
  no_slice l i y a b h =
      let h' : IsSliceRow j f boxes [] [] l y = subst (λ m. IsSliceRow j f boxes m [] l y) a (subst (λ m. IsSliceRow j f boxes (filter (side_has boxes j i) left) m l y) b (subst (λ T. T) (slice_at l i y) h)) in
      let w = some_grid_point j (InLive f boxes [] [] l) y [] h' in
      elim w.1.0 [ inl n ↦ n refl | inr n ↦ n refl ]

  -- the loop over the cells of the side j and the join after it give the packed rows of one more side
  pub slices_give : {K : Type 0} (R : K → K → Ordering) → IsTotalOrder R → (row : P → List (ℕ × ℕ) → K → Type 0) (out : List (Piece K))
      → ((i : ℕ) (l : P) (y : List (ℕ × ℕ)) (key : K) → row l y key → length y ≡ j → Covers R out key i ↔ IsSliceRow j f boxes (filter (side_has boxes j i) left) (filter (side_has boxes j i) right) l y)
      → AreApart R out
      → (l : P) (y : List (ℕ × ℕ)) (key : K) (v : ℕ × ℕ) → row l y key → length y ≡ j → HasPiece R out key v.0 v.1 ↔ IsSliceRow (suc j) f boxes left right l (y ++ v ∷ [])
  slices_give R o row out slice apart l y key v is e =
      slices_join R o row (InLive f boxes left right) j [] out
      (λ i m z q p n. let s = slice i m z q p n in let t = slice_at m i z in (λ h. subst (λ T. T) (sym t) (s.0 h), λ h. s.1 (subst (λ T. T) t h)))
      apart l y key v is e

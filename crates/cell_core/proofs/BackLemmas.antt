-- Boxes of intervals from boxes of cells, side by side.
use Rattle.std.proofs.Common.{◌≡◌, ℕ, zero, suc, ◌+◌, ◌-◌, ◌<◌, ℤ, pos, ◌+ℤ◌, List, [], ◌∷◌, ◌++◌, map, length, get_or, inl, inr, arith, sym, ap, subst, refl, ◌∙◌}
use Rattle.std.specs.List.{All}
use Rattle.interval_core.specs.Members.{HasEndsIn}
use Rattle.cell_packing.specs.Covering.{Among}
use Rattle.cell_sweep.specs.Rows.{AreRows, own_numbers}
use Rattle.cell_core.specs.Numbering.{span_at, numbers_of}
use Rattle.cell_core.specs.Cells.{box_numbers, grids_of, grid_box}
use Rattle.cell_core.specs.Boxes.{IsBox}

pub box_back : {T P : Type 0} (n : P → ℤ) (high : T → ℤ) (ts : List T) (ss : List (List P × List P × List (ℕ × ℕ))) (xs : List (ℕ × ℕ)) (v : List (P × P))
    → length ss ≡ length ts → length xs ≡ length ts → length v ≡ length ts
    → ((j : ℕ) (t : T) (d : P × P) (e : List P × List P × List (ℕ × ℕ)) → j < length ts → numbers_of n (get_or v j d) ≡ span_at (map n (get_or ss j e).0) (high (get_or ts j t) +ℤ pos 1) (get_or xs j (0, 0)))
    → box_numbers n v ≡ grid_box (grids_of n high ts ss) xs
box_back n high [] ss xs [] a b c h = refl
box_back n high [] ss xs (i ∷ v) a b c h = absurd (omega arith)
box_back n high (t ∷ ts) [] xs v a b c h = absurd (omega arith)
box_back n high (t ∷ ts) (s ∷ ss) [] v a b c h = absurd (omega arith)
box_back n high (t ∷ ts) (s ∷ ss) (x ∷ xs) [] a b c h = absurd (omega arith)
box_back n high (t ∷ ts) (s ∷ ss) (x ∷ xs) (i ∷ v) a b c h =
    let first = h 0 t i s (omega arith) in
    let rest = box_back n high ts ss xs v (omega arith) (omega arith) (omega arith) (λ j u d e l. h (suc j) u d e (omega arith)) in
    λ k. first k ∷ rest k

module _ {T P : Type 0} (has : T → P → Type 0) where
  pub is_box : (ts : List T) (v : List (P × P)) → length v ≡ length ts → ((j : ℕ) (t : T) (d : P × P) → j < length ts → HasEndsIn has (get_or ts j t) (get_or v j d)) → IsBox has ts v
  is_box [] [] e h = tt
  is_box [] (i ∷ v) e h = absurd (omega arith)
  is_box (t ∷ ts) [] e h = absurd (omega arith)
  is_box (t ∷ ts) (i ∷ v) e h = (h 0 t i (omega arith), is_box ts v (omega arith) (λ j u d l. h (suc j) u d (omega arith)))

  pub box_length : (ts : List T) (v : List (P × P)) → IsBox has ts v → length v ≡ length ts
  box_length [] [] h = refl
  box_length [] (i ∷ v) h = absurd h
  box_length (t ∷ ts) [] h = absurd h
  box_length (t ∷ ts) (i ∷ v) h = ap suc (box_length ts v h.1)

  pub box_ends : (ts : List T) (v : List (P × P)) → IsBox has ts v → (j : ℕ) (t : T) (d : P × P) → j < length ts → HasEndsIn has (get_or ts j t) (get_or v j d)
  box_ends [] v h j t d l = absurd (omega arith)
  box_ends (u ∷ ts) [] h j t d l = absurd h
  box_ends (u ∷ ts) (i ∷ v) h zero t d l = h.0
  box_ends (u ∷ ts) (i ∷ v) h (suc j) t d l = box_ends ts v h.1 j t d (omega arith)

  pub boxes_length : (ts : List T) (xs : List (List (P × P))) → All (IsBox has ts) xs → All (λ s. length s ≡ length ts) xs
  boxes_length ts xs h = λ k d l. box_length ts (get_or xs k d) (h k d l)

  pub boxes_ends : (ts : List T) (xs : List (List (P × P))) → All (IsBox has ts) xs → All (λ s. (j : ℕ) (t : T) (d : P × P) → j < length ts → has (get_or ts j t) (get_or s j d).0 × has (get_or ts j t) (get_or s j d).1) xs
  boxes_ends ts xs h = λ k d l j t e b. box_ends ts (get_or xs k d) (h k d l) j t e b

-- ascending numbers from n + a on, counted from n
pub rows_down : (n a m : ℕ) (b : List ℕ) → AreRows (n + a) (n + m) b → AreRows a m (own_numbers n b)
rows_down n a m [] h = tt
rows_down n a m (x ∷ xs) h =
    let l = h.0 in
    let u = h.1 in
    let e : suc x ≡ n + suc (x - n) = omega arith in
    (omega arith, omega arith, rows_down n (suc (x - n)) m xs (subst (λ z. AreRows z (n + m) xs) e h.2))

pub among_get : {X : Type 0} (xs : List X) (m : ℕ) (d : X) → m < length xs → Among (get_or xs m d) xs
among_get [] m d h = absurd (omega arith)
among_get (x ∷ xs) zero d h = inl refl
among_get (x ∷ xs) (suc m) d h = inr (among_get xs m d (omega arith))

pub map_push : {X Y Z : Type 0} (f : X → Z) (h : Y → Z) (xs : List X) (ys : List Y) (x : X) (y : Y) → map f xs ≡ map h ys → f x ≡ h y → map f (xs ++ x ∷ []) ≡ map h (ys ++ y ∷ [])
map_push f h xs ys x y e d = left xs ∙ (λ i. e i ++ d i ∷ []) ∙ sym (right ys)
  where
    left : (us : List _) → map f (us ++ x ∷ []) ≡ map f us ++ f x ∷ []
    left [] = refl
    left (u ∷ us) = ap (λ zs. f u ∷ zs) (left us)

    right : (us : List _) → map h (us ++ y ∷ []) ≡ map h us ++ h y ∷ []
    right [] = refl
    right (u ∷ us) = ap (λ zs. h u ∷ zs) (right us)

-- The places of boxes.
use Rattle.std.proofs.Common.{◌≡◌, ℕ, zero, suc, ◌+◌, ◌<◌, ◌≤◌, Bool, true, false, ◌&&◌, ltb, max, min, List, [], ◌∷◌, ◌++◌, take, length, get_or, ◌↔◌, arith, sym, ap, subst, refl}
use Rattle.std.specs.List.{list_all}
use Rattle.std.proofs.lemmas.Bool.{true≢false, and_parts, and_from}
use Rattle.std.proofs.lemmas.Bool.Decides.{nat_tests}
use Rattle.std.proofs.lemmas.Int.{clamps}
use Rattle.std.proofs.lemmas.List.{take_all}
use Rattle.cell_packing.specs.Live.{span_has, has_grid_point}
use Rattle.cell_packing.specs.Packed.{no_cells}
use Rattle.cell_boxes.specs.Common.{At, EndsBy, both, common, has_cell, HaveCells, first_of}
use Rattle.cell_sweep.proofs.Sweeping.{cell_has, span_from}

-- ---- cells

both_parts : (x y : ℕ × ℕ) (i : ℕ) → span_has (both x y) i ≡ true → (span_has x i ≡ true) × (span_has y i ≡ true)
both_parts x y i h =
    let w = cell_has (both x y) i h in
    let a : max x.0 y.0 ≤ i = w.0 in
    let b : i < min x.1 y.1 = w.1 in
    (span_from x i (omega (arith, clamps)) (omega (arith, clamps)), span_from y i (omega (arith, clamps)) (omega (arith, clamps)))

both_from : (x y : ℕ × ℕ) (i : ℕ) → span_has x i ≡ true → span_has y i ≡ true → span_has (both x y) i ≡ true
both_from x y i h g =
    let a = cell_has x i h in
    let b = cell_has y i g in
    let p = a.0 in
    let q = a.1 in
    let r = b.0 in
    let s = b.1 in
    span_from (both x y) i (omega (arith, clamps)) (omega (arith, clamps))

-- ---- boxes in common

pub common_length : (xs ys : List (ℕ × ℕ)) → length xs ≡ length ys → length (common xs ys) ≡ length xs
common_length [] ys e = refl
common_length (x ∷ xs) [] e = absurd (omega (arith, e))
common_length (x ∷ xs) (y ∷ ys) e = ap suc (common_length xs ys (omega (arith, e)))

pub take_common : (xs ys : List (ℕ × ℕ)) (s : ℕ) → length xs ≡ length ys → s < length xs → take (s + 1) (common xs ys) ≡ take s (common xs ys) ++ both (get_or xs s no_cells) (get_or ys s no_cells) ∷ []
take_common xs ys s e l = let q : suc s ≡ s + 1 = omega arith in subst (λ n. take n (common xs ys) ≡ take s (common xs ys) ++ both (get_or xs s no_cells) (get_or ys s no_cells) ∷ []) q (more xs ys s e l)
  where
    more : (xs ys : List (ℕ × ℕ)) (s : ℕ) → length xs ≡ length ys → s < length xs → take (suc s) (common xs ys) ≡ take s (common xs ys) ++ both (get_or xs s no_cells) (get_or ys s no_cells) ∷ []
    more [] ys s e l = absurd (omega arith)
    more (x ∷ xs) [] s e l = absurd (omega (arith, e))
    more (x ∷ xs) (y ∷ ys) zero e l = refl
    more (x ∷ xs) (y ∷ ys) (suc s) e l = ap (λ zs. both x y ∷ zs) (more xs ys s (omega (arith, e)) (omega arith))

pub all_common : (xs ys : List (ℕ × ℕ)) (s : ℕ) → length xs ≡ length ys → length xs ≤ s → take s (common xs ys) ≡ common xs ys
all_common xs ys s e l = take_all s (common xs ys) (let f = common_length xs ys e in omega (arith, f))

common_within : (xs ys : List (ℕ × ℕ)) → length (common xs ys) ≤ min (length xs) (length ys)
common_within [] ys = omega arith
common_within (x ∷ xs) [] = omega arith
common_within (x ∷ xs) (y ∷ ys) = let h = common_within xs ys in omega (arith, clamps, h)

-- the sides that both have are all that they have in common
pub whole_common : (xs ys : List (ℕ × ℕ)) (s : ℕ) → min (length xs) (length ys) ≤ s → take s (common xs ys) ≡ common xs ys
whole_common xs ys s l = take_all s (common xs ys) (let h = common_within xs ys in omega (arith, l, h))

-- a place is in what two boxes have in common exactly where both have it
pub at_common : (xs ys : List (ℕ × ℕ)) (grid_point : List ℕ) → length xs ≡ length ys → At (common xs ys) grid_point ↔ At xs grid_point × At ys grid_point
at_common xs ys [] e = (λ h. (refl, refl), λ h. refl)
at_common [] [] (p ∷ ps) e = (λ h. absurd (true≢false (sym h)), λ h. absurd (true≢false (sym h.0)))
at_common [] (y ∷ ys) (p ∷ ps) e = absurd (omega (arith, e))
at_common (x ∷ xs) [] (p ∷ ps) e = absurd (omega (arith, e))
at_common (x ∷ xs) (y ∷ ys) (p ∷ ps) e =
    let ih = at_common xs ys ps (omega (arith, e)) in (
      λ h.
          let w = and_parts (span_has (both x y) p) (has_grid_point (common xs ys) ps) h in
          let v = both_parts x y p w.0 in
          let u = ih.0 w.1 in
          (and_from (span_has x p) (has_grid_point xs ps) v.0 u.0, and_from (span_has y p) (has_grid_point ys ps) v.1 u.1),
      λ h.
          let a = and_parts (span_has x p) (has_grid_point xs ps) h.0 in
          let b = and_parts (span_has y p) (has_grid_point ys ps) h.1 in
          and_from (span_has (both x y) p) (has_grid_point (common xs ys) ps) (both_from x y p a.0 b.0) (ih.1 (a.1, b.1)),
    )

-- it ends by both
pub common_ends : (xs ys : List (ℕ × ℕ)) → EndsBy xs (common xs ys)
common_ends [] ys s = omega arith
common_ends (x ∷ xs) [] s = omega arith
common_ends (x ∷ xs) (y ∷ ys) zero = omega (arith, clamps)
common_ends (x ∷ xs) (y ∷ ys) (suc s) = common_ends xs ys s

pub cell_from : (s : ℕ × ℕ) → s.0 < s.1 → has_cell s ≡ true
cell_from s h = within s.0 s.1 h
  where
    within : (a z : ℕ) → a < z → ltb a z ≡ true
    within a z l = grind (arith, nat_tests)

pub cell_parts : (s : ℕ × ℕ) → has_cell s ≡ true → s.0 < s.1
cell_parts s h = within s.0 s.1 h
  where
    within : (a z : ℕ) → ltb a z ≡ true → a < z
    within a z l = grind (arith, nat_tests)

-- a side without a cell in common
pub none_meet : (xs ys : List (ℕ × ℕ)) (s : ℕ) → s < length xs → s < length ys → (both (get_or xs s no_cells) (get_or ys s no_cells)).1 ≤ (both (get_or xs s no_cells) (get_or ys s no_cells)).0 → false ≡ list_all has_cell (common xs ys)
none_meet [] ys s l m h = absurd (omega arith)
none_meet (x ∷ xs) [] s l m h = absurd (omega arith)
none_meet (x ∷ xs) (y ∷ ys) zero l m h = ap (λ t. t && list_all has_cell (common xs ys)) (empty (both x y).0 (both x y).1 h)
  where
    empty : (a z : ℕ) → z ≤ a → false ≡ ltb a z
    empty a z l = grind (arith, nat_tests)
none_meet (x ∷ xs) (y ∷ ys) (suc s) l m h = later (has_cell (both x y)) (list_all has_cell (common xs ys)) (none_meet xs ys s (omega arith) (omega arith) h)
  where
    later : (a b : Bool) → false ≡ b → false ≡ (a && b)
    later true b h = h
    later false b h = refl

-- one more side with one
pub meet_more : (xs ys : List (ℕ × ℕ)) (s : ℕ) → s < length xs → s < length ys → list_all has_cell (take s (common xs ys)) ≡ true → (both (get_or xs s no_cells) (get_or ys s no_cells)).0 < (both (get_or xs s no_cells) (get_or ys s no_cells)).1 → list_all has_cell (take (s + 1) (common xs ys)) ≡ true
meet_more xs ys s l m h c = let q : suc s ≡ s + 1 = omega arith in subst (λ n. list_all has_cell (take n (common xs ys)) ≡ true) q (more xs ys s l m h c)
  where
    more : (xs ys : List (ℕ × ℕ)) (s : ℕ) → s < length xs → s < length ys → list_all has_cell (take s (common xs ys)) ≡ true → (both (get_or xs s no_cells) (get_or ys s no_cells)).0 < (both (get_or xs s no_cells) (get_or ys s no_cells)).1 → list_all has_cell (take (suc s) (common xs ys)) ≡ true
    more [] ys s l m h c = absurd (omega arith)
    more (x ∷ xs) [] s l m h c = absurd (omega arith)
    more (x ∷ xs) (y ∷ ys) zero l m h c = and_from (has_cell (both x y)) true (cell_from (both x y) c) refl
    more (x ∷ xs) (y ∷ ys) (suc s) l m h c =
        let w = and_parts (has_cell (both x y)) (list_all has_cell (take s (common xs ys))) h in
        and_from (has_cell (both x y)) (list_all has_cell (take (suc s) (common xs ys))) w.0 (more xs ys s (omega arith) (omega arith) w.1 c)

-- a box that has a place of all its sides has a cell on each
pub cells_from : (y : List (ℕ × ℕ)) (grid_point : List ℕ) → length grid_point ≡ length y → At y grid_point → HaveCells y
cells_from [] grid_point e h = refl
cells_from (x ∷ xs) [] e h = absurd (omega (arith, e))
cells_from (x ∷ xs) (p ∷ ps) e h =
    let w = and_parts (span_has x p) (has_grid_point xs ps) h in
    let v = cell_has x p w.0 in
    let a = v.0 in
    let b = v.1 in
    and_from (has_cell x) (list_all has_cell xs) (cell_from x (omega arith)) (cells_from xs ps (omega (arith, e)) w.1)

-- two rows that have a first side with a cell in common
pub first_meets : (xs ys : List (ℕ × ℕ)) → length xs ≡ length ys → HaveCells (common xs ys) → ((first_of ys).0 < (first_of xs).1) × ((first_of xs).0 < (first_of ys).1)
first_meets [] [] e h = (omega arith, omega arith)
first_meets [] (y ∷ ys) e h = absurd (omega (arith, e))
first_meets (x ∷ xs) [] e h = absurd (omega (arith, e))
first_meets (x ∷ xs) (y ∷ ys) e h =
    let w = cell_parts (both x y) (and_parts (has_cell (both x y)) (list_all has_cell (common xs ys)) h).0 in
    let l : max x.0 y.0 < min x.1 y.1 = w in
    (omega (arith, clamps), omega (arith, clamps))

-- what has a side with the later of two first cells does not begin before
pub first_common : (xs ys zs : List (ℕ × ℕ)) → length xs ≡ length ys → length xs ≡ length zs → (first_of ys).0 ≤ (first_of zs).0 → (first_of (common xs ys)).0 ≤ (first_of (common xs zs)).0
first_common [] ys zs e f h = omega arith
first_common (x ∷ xs) [] zs e f h = absurd (omega (arith, e))
first_common (x ∷ xs) (y ∷ ys) [] e f h = absurd (omega (arith, f))
first_common (x ∷ xs) (y ∷ ys) (z ∷ zs) e f h = omega (arith, clamps)

-- boxes with cells have a place
pub grid_point_of_cells : (y : List (ℕ × ℕ)) → HaveCells y → (c : List ℕ) × (length c ≡ length y) × At y c
grid_point_of_cells [] h = ([], refl, refl)
grid_point_of_cells (x ∷ xs) h =
    let w = and_parts (has_cell x) (list_all has_cell xs) h in
    let v = grid_point_of_cells xs w.1 in
    (x.0 ∷ v.0, ap suc v.1, and_from (span_has x x.0) (has_grid_point xs v.0) (span_from x x.0 (omega arith) (cell_parts x w.0)) v.2)

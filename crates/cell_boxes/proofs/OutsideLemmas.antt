-- The places of a box that are outside a hole.
use Rattle.std.proofs.Common.{◌≡◌, ℕ, zero, suc, ◌<◌, ◌≤◌, true, false, cond, ltb, max, min, List, [], ◌∷◌, ◌++◌, set, length, get_or, ◌↔◌, ◌⊎◌, inl, inr, arith, sym, subst, refl}
use Rattle.std.proofs.lemmas.Bool.{cases_lt, true≢false, and_parts, and_from}
use Rattle.std.proofs.lemmas.Bool.Decides.{nat_tests}
use Rattle.std.proofs.lemmas.Int.{clamps}
use Rattle.std.proofs.Math.ListN.{length-set}
use Rattle.cell_packing.specs.Live.{span_has, has_grid_point}
use Rattle.cell_packing.specs.Packed.{no_cells}
use Rattle.cell_packing.proofs.AmongLemmas.{among_append}
use Rattle.cell_boxes.specs.Common.{At, both, first_of}
use Rattle.cell_boxes.specs.Outside.{HasBox, part, beside, narrowed, outside_to, outside}
use Rattle.cell_sweep.proofs.Sweeping.{cell_has, span_from}

-- ---- a place side by side

pub at_side : (y : List (ℕ × ℕ)) (grid_point : List ℕ) (s : ℕ) → At y grid_point → s < length grid_point → ((get_or y s no_cells).0 ≤ get_or grid_point s 0) × (get_or grid_point s 0 < (get_or y s no_cells).1)
at_side y [] s h l = absurd (omega arith)
at_side [] (p ∷ ps) s h l = absurd (true≢false (sym h))
at_side (x ∷ xs) (p ∷ ps) zero h l = cell_has x p (and_parts (span_has x p) (has_grid_point xs ps) h).0
at_side (x ∷ xs) (p ∷ ps) (suc s) h l = at_side xs ps s (and_parts (span_has x p) (has_grid_point xs ps) h).1 (omega arith)

pub at_first : (y : List (ℕ × ℕ)) (grid_point : List ℕ) → At y grid_point → 0 < length grid_point → ((first_of y).0 ≤ get_or grid_point 0 0) × (get_or grid_point 0 0 < (first_of y).1)
at_first y [] h l = absurd (omega arith)
at_first [] (p ∷ ps) h l = absurd (true≢false (sym h))
at_first (x ∷ xs) (p ∷ ps) h l = cell_has x p (and_parts (span_has x p) (has_grid_point xs ps) h).0

pub at_all : (y : List (ℕ × ℕ)) (grid_point : List ℕ) → length grid_point ≤ length y → ((s : ℕ) → s < length grid_point → ((get_or y s no_cells).0 ≤ get_or grid_point s 0) × (get_or grid_point s 0 < (get_or y s no_cells).1)) → At y grid_point
at_all y [] e h = refl
at_all [] (p ∷ ps) e h = absurd (omega arith)
at_all (x ∷ xs) (p ∷ ps) e h =
    let w = h 0 (omega arith) in
    and_from (span_has x p) (has_grid_point xs ps) (span_from x p w.0 w.1) (at_all xs ps (omega arith) (λ s l. h (suc s) (omega arith)))

set_at : (y : List (ℕ × ℕ)) (grid_point : List ℕ) (s : ℕ) (v : ℕ × ℕ) → At y grid_point → s < length grid_point → v.0 ≤ get_or grid_point s 0 → get_or grid_point s 0 < v.1 → At (set y s v) grid_point
set_at y [] s v h l a b = absurd (omega arith)
set_at [] (p ∷ ps) s v h l a b = absurd (true≢false (sym h))
set_at (x ∷ xs) (p ∷ ps) zero v h l a b = and_from (span_has v p) (has_grid_point xs ps) (span_from v p a b) (and_parts (span_has x p) (has_grid_point xs ps) h).1
set_at (x ∷ xs) (p ∷ ps) (suc s) v h l a b =
    let w = and_parts (span_has x p) (has_grid_point xs ps) h in
    and_from (span_has x p) (has_grid_point (set xs s v) ps) w.0 (set_at xs ps s v w.1 (omega arith) a b)

at_set : (y : List (ℕ × ℕ)) (grid_point : List ℕ) (s : ℕ) (v : ℕ × ℕ) → At (set y s v) grid_point → s < length grid_point → s < length y → (get_or y s no_cells).0 ≤ v.0 → v.1 ≤ (get_or y s no_cells).1 → At y grid_point × (v.0 ≤ get_or grid_point s 0) × (get_or grid_point s 0 < v.1)
at_set y [] s v h l m a b = absurd (omega arith)
at_set [] (p ∷ ps) s v h l m a b = absurd (omega arith)
at_set (x ∷ xs) (p ∷ ps) zero v h l m a b =
    let w = and_parts (span_has v p) (has_grid_point xs ps) h in
    let u = cell_has v p w.0 in
    let c = u.0 in
    let d = u.1 in
    (and_from (span_has x p) (has_grid_point xs ps) (span_from x p (omega arith) (omega arith)) w.1, c, d)
at_set (x ∷ xs) (p ∷ ps) (suc s) v h l m a b =
    let w = and_parts (span_has x p) (has_grid_point (set xs s v) ps) h in
    let ih = at_set xs ps s v w.1 (omega arith) (omega arith) a b in
    (and_from (span_has x p) (has_grid_point xs ps) w.0 ih.0, ih.1, ih.2)

-- ---- some box of several

pub has_append : (xs ys : List (List (ℕ × ℕ))) (grid_point : List ℕ) → HasBox (xs ++ ys) grid_point ↔ HasBox xs grid_point ⊎ HasBox ys grid_point
has_append xs ys grid_point = (
  λ h. elim ((among_append h.0 xs ys).0 h.1) [ inl w ↦ inl (h.0, w, h.2) | inr w ↦ inr (h.0, w, h.2) ],
  λ h. elim h [ inl w ↦ (w.0, (among_append w.0 xs ys).1 (inl w.1), w.2) | inr w ↦ (w.0, (among_append w.0 xs ys).1 (inr w.1), w.2) ],
)

pub has_one : (y : List (ℕ × ℕ)) (grid_point : List ℕ) → HasBox (y ∷ []) grid_point ↔ At y grid_point
has_one y grid_point = (
  λ h. elim h.1 [ inl e ↦ subst (λ z. At z grid_point) (sym e) h.2 | inr w ↦ absurd w ],
  λ h. (y, inl refl, h),
)

-- ---- what is beside a hole

cells_or_none : (c : ℕ × ℕ) → (c.0 < c.1) × (ltb c.0 c.1 ≡ true) ⊎ (c.1 ≤ c.0) × (ltb c.0 c.1 ≡ false)
cells_or_none c = elim (cases_lt c.0 c.1) [ inl l ↦ inl (l, yes c.0 c.1 l) | inr l ↦ inr (l, no c.0 c.1 l) ]
  where
    yes : (a b : ℕ) → a < b → ltb a b ≡ true
    yes a b l = grind (arith, nat_tests)

    no : (a b : ℕ) → b ≤ a → ltb a b ≡ false
    no a b l = grind (arith, nat_tests)

module _ (y : List (ℕ × ℕ)) (s : ℕ) (grid_point : List ℕ) (l : s < length grid_point) (m : s < length y) where
  abbrev p : ℕ
  p = get_or grid_point s 0

  abbrev own : ℕ × ℕ
  own = get_or y s no_cells

  part_grid_points : (c : ℕ × ℕ) → own.0 ≤ c.0 → c.1 ≤ own.1 → HasBox (part y s c) grid_point ↔ At y grid_point × (c.0 ≤ p) × (p < c.1)
  part_grid_points c a b =
      elim (cells_or_none c) [
        | inl w ↦ subst (λ t. HasBox (cond t (set y s c ∷ []) []) grid_point ↔ At y grid_point × (c.0 ≤ p) × (p < c.1)) (sym w.1) (
          λ h. at_set y grid_point s c ((has_one (set y s c) grid_point).0 h) l m a b,
          λ h. (has_one (set y s c) grid_point).1 (set_at y grid_point s c h.0 l h.1 h.2),
        )
        | inr w ↦ subst (λ t. HasBox (cond t (set y s c ∷ []) []) grid_point ↔ At y grid_point × (c.0 ≤ p) × (p < c.1)) (sym w.1) (
          λ h. absurd h.1,
          λ h. absurd (let u = h.1 in let v = h.2 in let k = w.0 in omega arith),
        )
      ]

  beside_from : (c : ℕ × ℕ) → HasBox (beside y s c) grid_point → At y grid_point × ((p < c.0) ⊎ (c.1 ≤ p))
  beside_from c h =
      elim ((has_append (part y s (own.0, min own.1 c.0)) (part y s (max own.0 c.1, own.1)) grid_point).0 h) [
        | inl w ↦
            let lower : own.0 ≤ own.0 = omega arith in
            let upper : min own.1 c.0 ≤ own.1 = omega (arith, clamps) in
            let v = (part_grid_points (own.0, min own.1 c.0) lower upper).0 w in
            let u : p < min own.1 c.0 = v.2 in
            let k : p < c.0 = omega (arith, clamps) in
            (v.0, inl k)
        | inr w ↦
            let lower : own.0 ≤ max own.0 c.1 = omega (arith, clamps) in
            let upper : own.1 ≤ own.1 = omega arith in
            let v = (part_grid_points (max own.0 c.1, own.1) lower upper).0 w in
            let u : max own.0 c.1 ≤ p = v.1 in
            let k : c.1 ≤ p = omega (arith, clamps) in
            (v.0, inr k)
      ]

  beside_to : (c : ℕ × ℕ) → At y grid_point → (p < c.0) ⊎ (c.1 ≤ p) → HasBox (beside y s c) grid_point
  beside_to c h g =
      let w = at_side y grid_point s h l in
      let a : own.0 ≤ p = w.0 in
      let b : p < own.1 = w.1 in
      (has_append (part y s (own.0, min own.1 c.0)) (part y s (max own.0 c.1, own.1)) grid_point).1 (elim g [
        | inl k ↦
            let lower : own.0 ≤ own.0 = omega arith in
            let upper : min own.1 c.0 ≤ own.1 = omega (arith, clamps) in
            let u : p < min own.1 c.0 = omega (arith, clamps) in
            inl ((part_grid_points (own.0, min own.1 c.0) lower upper).1 (h, a, u))
        | inr k ↦
            let lower : own.0 ≤ max own.0 c.1 = omega (arith, clamps) in
            let upper : own.1 ≤ own.1 = omega arith in
            let u : max own.0 c.1 ≤ p = omega (arith, clamps) in
            inr ((part_grid_points (max own.0 c.1, own.1) lower upper).1 (h, u, b))
      ])

-- ---- what is outside a hole

pub narrowed_length : (s : ℕ) (y hole : List (ℕ × ℕ)) → length (narrowed s y hole) ≡ length y
narrowed_length zero y hole = refl
narrowed_length (suc s) y hole = simp length-set (narrowed_length s y hole)

module _ (y hole : List (ℕ × ℕ)) (grid_point : List ℕ) where
  abbrev at : ℕ → ℕ
  at j = get_or grid_point j 0

  abbrev of : ℕ → ℕ × ℕ
  of j = get_or hole j no_cells

  narrowed_from : (s : ℕ) → s ≤ length y → s ≤ length grid_point → At (narrowed s y hole) grid_point → At y grid_point × ((j : ℕ) → j < s → ((of j).0 ≤ at j) × (at j < (of j).1))
  narrowed_from zero a b h = (h, λ j l. absurd (omega arith))
  narrowed_from (suc s) a b h =
      let n = narrowed s y hole in
      let own : ℕ × ℕ = get_or n s no_cells in
      let len = narrowed_length s y hole in
      let low : own.0 ≤ max own.0 (of s).0 = omega (arith, clamps) in
      let high : min own.1 (of s).1 ≤ own.1 = omega (arith, clamps) in
      let w = at_set n grid_point s (both own (of s)) h (omega arith) (omega (arith, len)) low high in
      let ih = narrowed_from s (omega arith) (omega arith) w.0 in
      let u : max own.0 (of s).0 ≤ at s = w.1 in
      let v : at s < min own.1 (of s).1 = w.2 in
      let f : (of s).0 ≤ at s = omega (arith, clamps) in
      let k : at s < (of s).1 = omega (arith, clamps) in
      (ih.0, λ j l. elim (cases_lt j s) [ inl q ↦ ih.1 j q | inr q ↦ let e : s ≡ j = omega arith in subst (λ i. ((of i).0 ≤ at i) × (at i < (of i).1)) e (f, k) ])

  outside_from : (s : ℕ) → s ≤ length y → s ≤ length grid_point → HasBox (outside_to s y hole) grid_point → At y grid_point × ((j : ℕ) × (j < s) × ((at j < (of j).0) ⊎ ((of j).1 ≤ at j)))
  outside_from zero a b h = absurd h.1
  outside_from (suc s) a b h =
      let n = narrowed s y hole in
      let len = narrowed_length s y hole in
      elim ((has_append (outside_to s y hole) (beside n s (of s)) grid_point).0 h) [
        | inl w ↦ let ih = outside_from s (omega arith) (omega arith) w in let l = ih.1.1 in (ih.0, (ih.1.0, omega arith, ih.1.2))
        | inr w ↦
            let v = beside_from n s grid_point (omega arith) (omega (arith, len)) (of s) w in
            ((narrowed_from s (omega arith) (omega arith) v.0).0, (s, omega arith, v.1))
      ]

  outside_or : (s : ℕ) → s ≤ length y → s ≤ length grid_point → At y grid_point → HasBox (outside_to s y hole) grid_point ⊎ At (narrowed s y hole) grid_point
  outside_or zero a b h = inr h
  outside_or (suc s) a b h =
      let n = narrowed s y hole in
      let len = narrowed_length s y hole in
      let own : ℕ × ℕ = get_or n s no_cells in
      let here = has_append (outside_to s y hole) (beside n s (of s)) grid_point in
      elim (outside_or s (omega arith) (omega arith) h) [
        | inl w ↦ inl (here.1 (inl w))
        | inr w ↦
            let k = at_side n grid_point s w (omega arith) in
            let k0 : own.0 ≤ at s = k.0 in
            let k1 : at s < own.1 = k.1 in
            elim (cases_lt (at s) (of s).0) [
              | inl q ↦ inl (here.1 (inr (beside_to n s grid_point (omega arith) (omega (arith, len)) (of s) w (inl q))))
              | inr q ↦ elim (cases_lt (at s) (of s).1) [
                | inl r ↦
                    let low : max own.0 (of s).0 ≤ at s = omega (arith, clamps) in
                    let high : at s < min own.1 (of s).1 = omega (arith, clamps) in
                    inr (set_at n grid_point s (both own (of s)) w (omega arith) low high)
                | inr r ↦ inl (here.1 (inr (beside_to n s grid_point (omega arith) (omega (arith, len)) (of s) w (inr r))))
              ]
            ]
      ]

  -- just the places of the box that the hole has not
  pub outside_grid_points : length hole ≡ length y → length grid_point ≡ length y → HasBox (outside hole y) grid_point ↔ At y grid_point × (At hole grid_point → ⊥)
  outside_grid_points e f = (
    λ h.
        let w = outside_from (length hole) (omega arith) (omega arith) h in
        (w.0, λ g. let l = w.1.1 in let k = at_side hole grid_point w.1.0 g (omega arith) in let k0 = k.0 in let k1 = k.1 in elim w.1.2 [ inl q ↦ omega arith | inr q ↦ omega arith ]),
    λ h. elim (outside_or (length hole) (omega arith) (omega arith) h.0) [
      | inl w ↦ w
      | inr w ↦ absurd (h.1 (at_all hole grid_point (omega arith) (λ s l. (narrowed_from (length hole) (omega arith) (omega arith) w).1 s (omega arith))))
    ],
  )

-- The way back from cells to intervals.
use Rattle.std.proofs.Common.{◌≡◌, ℕ, zero, suc, ◌-◌, ◌<◌, ◌≤◌, Bool, true, cond, ◌&&◌, ◌≢◌, ℤ, pos, ◌+ℤ◌, ◌-ℤ◌, ◌≤ℤ◌, ◌<ℤ◌, List, [], ◌∷◌, ◌++◌, map, length, get_or, inl, inr, arith, sym, ap, subst, refl, ◌∙◌, leb, ltb}
use Rattle.std.proofs.lemmas.Int.{ints}
use Rattle.std.specs.List.{AllByRecursion, filter}
use Rattle.std.proofs.lemmas.Bool.{cases_lt, cases_Bool, and_parts}
use Rattle.std.proofs.lemmas.Bool.Decides.{nat_tests}
use Rattle.cell_packing.specs.Packed.{no_cells, IsIndexPackedTo}
use Rattle.cell_packing.specs.Live.{span_has, box, has_grid_point, InLive}
use Rattle.cell_core.specs.Numbering.{cut_at, Rises, span_at, IsGrid}
use Rattle.cell_core.proofs.Numbers.{rises_next, read_cut}

rises_far : (ns : List ℤ) (top : ℤ) → Rises ns top → (a z : ℕ) → a < z → cut_at ns top a <ℤ cut_at ns top z
rises_far ns top r a zero h = absurd (omega arith)
rises_far ns top r a (suc z) h =
    let l = rises_next ns top r z in
    elim (cases_lt a z) [
      | inl w ↦ let m = rises_far ns top r a z w in omega (arith, ints)
      | inr w ↦ let e : a ≡ z = omega arith in subst (λ m. cut_at ns top m <ℤ cut_at ns top (suc z)) (sym e) l
    ]

module _ {P : Type 0} (n : P → ℤ) (has : P → Type 0) (high : ℤ) (s : List P × List P × List (ℕ × ℕ)) (g : IsGrid n has high s) (a z m : ℕ) (b e : P)
    (some : a < z) (within : z ≤ length s.0) (is : suc m ≡ z) (first : b ≡ get_or s.0 a b) (last : e ≡ get_or s.1 m e) where
  begin_number : cut_at (map n s.0) (high +ℤ pos 1) a ≡ n b
  begin_number = read_cut n s.0 (high +ℤ pos 1) a b (omega arith) first

  end_number : n e +ℤ pos 1 ≡ cut_at (map n s.0) (high +ℤ pos 1) z
  end_number = ap (λ p. n p +ℤ pos 1) last ∙ g.lasts m e (omega arith) ∙ ap (cut_at (map n s.0) (high +ℤ pos 1)) is

  pub in_order : n b ≤ℤ n e
  in_order = let f = rises_far (map n s.0) (high +ℤ pos 1) g.rises a z some in let x = begin_number in let y = end_number in omega (arith, ints)

  pub numbers_back : (n b, n e) ≡ span_at (map n s.0) (high +ℤ pos 1) (a, z)
  numbers_back =
      let x = begin_number in
      let y = end_number in
      let q : n e ≡ cut_at (map n s.0) (high +ℤ pos 1) z -ℤ pos 1 = omega (arith, ints) in
      λ t. (sym x t, q t)

-- ---- the cells of a packed row are some, and within the counts

assoc : (xs : List ℕ) (x : ℕ) (ys : List ℕ) → (xs ++ x ∷ []) ++ ys ≡ xs ++ x ∷ ys
assoc [] x ys = refl
assoc (y ∷ xs) x ys = ap (λ zs. y ∷ zs) (assoc xs x ys)

longer : (xs : List ℕ) (x : ℕ) → length (xs ++ x ∷ []) ≡ suc (length xs)
longer [] x = refl
longer (y ∷ xs) x = ap suc (longer xs x)

some_grid_point_at : (j : ℕ) (S : List ℕ → Type 0) (y : List (ℕ × ℕ)) (rest : List ℕ) → IsIndexPackedTo j S y rest → (ps : List ℕ) × (length ps ≡ j) × S (ps ++ rest)
some_grid_point_at zero S y rest h = ([], refl, h)
some_grid_point_at (suc j) S y rest h =
    let i : ℕ = (get_or y j no_cells).0 in
    let w = some_grid_point_at j S y (i ∷ rest) (h.each i (omega arith) h.some) in
    (w.0 ++ i ∷ [], longer w.0 i ∙ ap suc w.1, subst S (sym (assoc w.0 i rest)) w.2)

get_here : (ps : List ℕ) (i : ℕ) (rest : List ℕ) (j : ℕ) → length ps ≡ j → get_or (ps ++ i ∷ rest) j 0 ≡ i
get_here [] i rest zero e = refl
get_here [] i rest (suc j) e = absurd (omega arith)
get_here (p ∷ ps) i rest zero e = absurd (omega arith)
get_here (p ∷ ps) i rest (suc j) e = get_here ps i rest j (omega arith)

length_here : (ps : List ℕ) (i : ℕ) (rest : List ℕ) → length ps < length (ps ++ i ∷ rest)
length_here [] i rest = omega arith
length_here (p ∷ ps) i rest = let w = length_here ps i rest in omega arith

pub cells_bound : (j : ℕ) (S : List ℕ → Type 0) (y : List (ℕ × ℕ)) (rest : List ℕ) (counts : ℕ → ℕ) → ((grid_point : List ℕ) → S grid_point → (s : ℕ) → s < length grid_point → get_or grid_point s 0 < counts s)
    → IsIndexPackedTo j S y rest → (s : ℕ) → s < j → ((get_or y s no_cells).0 < (get_or y s no_cells).1) × ((get_or y s no_cells).1 ≤ counts s)
cells_bound zero S y rest counts inside h s b = absurd (omega arith)
cells_bound (suc j) S y rest counts inside h s b =
    let a : ℕ = (get_or y j no_cells).0 in
    let z : ℕ = (get_or y j no_cells).1 in
    let l : a < z = h.some in
    elim (cases_lt s j) [
      | inl w ↦ cells_bound j S y (a ∷ rest) counts inside (h.each a (omega arith) l) s w
      | inr w ↦
          let e : j ≡ s = omega arith in
          let i : ℕ = z - 1 in
          let p = some_grid_point_at j S y (i ∷ rest) (h.each i (omega arith) (omega arith)) in
          let k = inside (p.0 ++ i ∷ rest) p.2 j (let v = length_here p.0 i rest in let u = p.1 in omega arith) in
          let q = get_here p.0 i rest j p.1 in
          subst (λ m. ((get_or y m no_cells).0 < (get_or y m no_cells).1) × ((get_or y m no_cells).1 ≤ counts m)) e (l, omega arith)
    ]

-- ---- the cells of a place that live rows have are within the counts

filter_some : (t : ℕ → Bool) (P : ℕ → Type 0) (xs : List ℕ) → AllByRecursion P xs → filter t xs ≢ [] → (x : ℕ) × (t x ≡ true) × P x
filter_some t P [] a h = absurd (h refl)
filter_some t P (x ∷ xs) a h =
    elim (cases_Bool (t x)) [
      | inl e ↦ (x, e, a.0)
      | inr e ↦ filter_some t P xs a.1 (subst (λ b. cond b (x ∷ filter t xs) (filter t xs) ≢ []) e h)
    ]

below_end : (a b i : ℕ) → (leb a i && ltb i b) ≡ true → i < b
below_end a b i e = let w = (and_parts (leb a i) (ltb i b) e).1 in grind (arith, nat_tests)

pub grid_point_in : (y : List (ℕ × ℕ)) (grid_point : List ℕ) (s : ℕ) → has_grid_point y grid_point ≡ true → s < length grid_point → get_or grid_point s 0 < (get_or y s no_cells).1
grid_point_in y [] s e h = absurd (omega arith)
grid_point_in [] (i ∷ is) s e h = cc
grid_point_in (x ∷ xs) (i ∷ is) zero e h = below_end x.0 x.1 i (and_parts (span_has x i) (has_grid_point xs is) e).0
grid_point_in (x ∷ xs) (i ∷ is) (suc s) e h = grid_point_in xs is s (and_parts (span_has x i) (has_grid_point xs is) e).1 (omega arith)

pub live_inside : {L : Type 0} (f : L → List ℕ → List ℕ → Type 0) (boxes : List (List (ℕ × ℕ))) (left right : List ℕ) (l : L) (counts : ℕ → ℕ)
    → AllByRecursion (λ r. (s : ℕ) → (get_or (box boxes r) s no_cells).1 ≤ counts s) left → AllByRecursion (λ r. (s : ℕ) → (get_or (box boxes r) s no_cells).1 ≤ counts s) right
    → (grid_point : List ℕ) → InLive f boxes left right l grid_point → (s : ℕ) → s < length grid_point → get_or grid_point s 0 < counts s
live_inside f boxes left right l counts al ar grid_point h s b =
    let Q : ℕ → Type 0 = λ r. (s : ℕ) → (get_or (box boxes r) s no_cells).1 ≤ counts s in
    elim h.0 [
      | inl ne ↦
          let w = filter_some (λ r. has_grid_point (box boxes r) grid_point) Q left al ne in
          let i = grid_point_in (box boxes w.0) grid_point s w.1 b in
          let c = w.2 s in
          omega arith
      | inr ne ↦
          let w = filter_some (λ r. has_grid_point (box boxes r) grid_point) Q right ar ne in
          let i = grid_point_in (box boxes w.0) grid_point s w.1 b in
          let c = w.2 s in
          omega arith
    ]

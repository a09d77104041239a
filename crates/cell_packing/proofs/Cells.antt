-- Points between two neighbouring cuts are alike, so runs of points are runs of cells, and packed boxes of points are packed boxes of cells.
use Rattle.std.proofs.Common.{◌≡◌, ℕ, zero, suc, ◌<◌, ◌≤◌, ℤ, pos, ◌+ℤ◌, ◌-ℤ◌, ◌≤ℤ◌, ◌<ℤ◌, List, [], ◌∷◌, length, ◌↔◌, inl, inr, arith, sym, ap, subst, refl}
use Rattle.std.proofs.lemmas.Int.{ints, by_lt_z}
use Rattle.std.proofs.lemmas.Bool.{cases_lt}
use Rattle.interval_core.specs.Members.{Span}
use Rattle.cell_packing.specs.Packed.{IsRun, IsPacked, IsIndexRun, IsIndexPacked}
use Rattle.cell_packing.proofs.Runs.{IsPacked-iff}
use Rattle.cell_packing.proofs.Joined.{IsIndexRun-iff}
use Rattle.cell_packing.proofs.Exists.{some_grid_point}

-- the cell i goes from `at i` up to before `at (i + 1)`; from `count` on no row covers a cell
pub record Cuts : Type 0 where
  pub at : ℕ → ℤ
  pub count : ℕ
  pub rises : (i : ℕ) → at i <ℤ at (suc i)

pub rises_far : (g : Cuts) (i j : ℕ) → i ≤ j → g.at i ≤ℤ g.at j
rises_far g i zero h = let e : i ≡ zero = omega arith in subst (λ n. g.at n ≤ℤ g.at zero) (sym e) (omega (arith, ints))
rises_far g i (suc j) h =
    elim (cases_lt i (suc j)) [
      | inl l ↦ let a = rises_far g i j (omega arith) in let b = g.rises j in omega (arith, ints)
      | inr l ↦ let e : i ≡ suc j = omega arith in subst (λ n. g.at n ≤ℤ g.at (suc j)) (sym e) (omega (arith, ints))
    ]

pub order_of_cells : (g : Cuts) (i j : ℕ) → g.at i <ℤ g.at j → i < j
order_of_cells g i j l = elim (cases_lt i j) [ inl w ↦ w | inr w ↦ let f = rises_far g j i w in absurd (omega (arith, ints)) ]

pub same_cell : (g : Cuts) (i j : ℕ) → g.at i ≡ g.at j → i ≡ j
same_cell g i j e =
    elim (cases_lt i j) [
      | inl w ↦ let f = rises_far g (suc i) j w in let r = g.rises i in absurd (omega (arith, ints))
      | inr w ↦ elim (cases_lt j i) [
        | inl v ↦ let f = rises_far g (suc j) i v in let r = g.rises j in absurd (omega (arith, ints))
        | inr v ↦ omega arith
      ]
    ]

-- the cell of a number
pub cell_of : (g : Cuts) (m : ℕ) (p : ℤ) → g.at 0 ≤ℤ p → p <ℤ g.at m → (i : ℕ) × (g.at i ≤ℤ p) × (p <ℤ g.at (suc i))
cell_of g zero p a b = absurd (omega (arith, ints))
cell_of g (suc m) p a b = by_lt_z p (g.at m) (λ l. cell_of g m p a l) (λ l. (m, l, b))

-- P holds of no number outside the cells, and of all numbers of a cell or none
pub record OnCells (g : Cuts) (P : ℤ → Type 0) : Type 0 where
  pub inside : (p : ℤ) → P p → (g.at 0 ≤ℤ p) × (p <ℤ g.at g.count)
  pub alike : (i : ℕ) (p q : ℤ) → g.at i ≤ℤ p → p <ℤ g.at (suc i) → g.at i ≤ℤ q → q <ℤ g.at (suc i) → P p → P q

-- the numbers from the cell x.0 up to before the cell x.1
abbrev pub span_of : Cuts → ℕ × ℕ → Span
span_of g x = (g.at x.0, g.at x.1 -ℤ pos 1)

module _ (g : Cuts) (P : ℤ → Type 0) (on : OnCells g P) where
  abbrev AtCell : ℕ → Type 0
  AtCell i = P (g.at i)

  before_cell : (a z : ℕ) → IsIndexRun AtCell a z → P (g.at a -ℤ pos 1) → ⊥
  before_cell zero z r h = let i = (on.inside _ h).0 in absurd (omega (arith, ints))
  before_cell (suc b) z r h =
      let next = g.rises b in
      r.before b refl (on.alike b (g.at (suc b) -ℤ pos 1) (g.at b) (omega (arith, ints)) (omega (arith, ints)) (omega (arith, ints)) next h)

  pub run_from_cells : (x : ℕ × ℕ) → IsIndexRun AtCell x.0 x.1 → IsRun P (span_of g x)
  run_from_cells x r =
      let a : ℕ = x.0 in
      let z : ℕ = x.1 in
      let l : a < z = r.some in
      let up = g.rises a in
      let far = rises_far g (suc a) z l in
      let low = rises_far g 0 a (omega arith) in
      record {
        some = omega (arith, ints);
        each = λ p f h.
            let w = cell_of g z p (omega (arith, ints)) (omega (arith, ints)) in
            let i : ℕ = w.0 in
            let below : g.at i ≤ℤ p = w.1 in
            let above : p <ℤ g.at (suc i) = w.2 in
            let first : a < suc i = order_of_cells g a (suc i) (omega (arith, ints)) in
            let last : i < z = order_of_cells g i z (omega (arith, ints)) in
            let next = g.rises i in
            on.alike i (g.at i) p (omega (arith, ints)) next below above (r.each i (omega arith) last);
        before = before_cell a z r;
        after = λ h. let e : g.at z -ℤ pos 1 +ℤ pos 1 ≡ g.at z = omega (arith, ints) in r.after (subst P e h);
      }

  pub cells_from_run : (i : Span) → IsRun P i → (x : ℕ × ℕ) × IsIndexRun AtCell x.0 x.1 × (i ≡ span_of g x)
  cells_from_run i r =
      let some = r.some in
      let first : P i.0 = r.each i.0 (omega (arith, ints)) some in
      let last : P i.1 = r.each i.1 some (omega (arith, ints)) in
      let low = on.inside i.0 first in
      let high = on.inside i.1 last in
      let v = cell_of g g.count i.0 low.0 low.1 in
      let w = cell_of g g.count i.1 high.0 high.1 in
      let a : ℕ = v.0 in
      let y : ℕ = w.0 in
      let a0 : g.at a ≤ℤ i.0 = v.1 in
      let a1 : i.0 <ℤ g.at (suc a) = v.2 in
      let y0 : g.at y ≤ℤ i.1 = w.1 in
      let y1 : i.1 <ℤ g.at (suc y) = w.2 in
      let begins : i.0 ≡ g.at a = by_lt_z (g.at a) i.0 (λ l. absurd (r.before (on.alike a i.0 (i.0 -ℤ pos 1) a0 a1 (omega (arith, ints)) (omega (arith, ints)) first))) (λ l. omega (arith, ints)) in
      let ends : i.1 ≡ g.at (suc y) -ℤ pos 1 = by_lt_z (i.1 +ℤ pos 1) (g.at (suc y)) (λ l. absurd (r.after (on.alike y i.1 (i.1 +ℤ pos 1) y0 y1 (omega (arith, ints)) l last))) (λ l. omega (arith, ints)) in
      let order : a < suc y = order_of_cells g a (suc y) (omega (arith, ints)) in (
        (a, suc y),
        record {
          some = order;
          each = λ j f h.
              let x = rises_far g a j f in
              let u = rises_far g j y (omega arith) in
              r.each (g.at j) (omega (arith, ints)) (omega (arith, ints));
          before = λ j e h.
              let next : g.at j <ℤ g.at a = subst (λ n. g.at j <ℤ g.at n) e (g.rises j) in
              let next' : (i.0 -ℤ pos 1) <ℤ g.at (suc j) = subst (λ n. (i.0 -ℤ pos 1) <ℤ g.at n) (sym e) (omega (arith, ints)) in
              r.before (on.alike j (g.at j) (i.0 -ℤ pos 1) (omega (arith, ints)) (g.rises j) (omega (arith, ints)) next' h);
          after = λ h. let e : g.at (suc y) ≡ i.1 +ℤ pos 1 = omega (arith, ints) in r.after (subst P e h);
        },
        λ t. (begins t, ends t),
      )

-- ---- several sides, from the last to the first

-- the place of the first numbers of cells
abbrev pub grid_point_of : List Cuts → List ℕ → List ℤ
grid_point_of [] is = []
grid_point_of (g ∷ gs) [] = []
grid_point_of (g ∷ gs) (i ∷ is) = g.at i ∷ grid_point_of gs is

abbrev pub box_of : List Cuts → List (ℕ × ℕ) → List Span
box_of [] xs = []
box_of (g ∷ gs) [] = []
box_of (g ∷ gs) (x ∷ xs) = span_of g x ∷ box_of gs xs

-- places of the same cells are both in the set or both outside, and no place outside the cells is in it
abbrev pub OnGrid : List Cuts → (List ℤ → Type 0) → Type 0
OnGrid [] S = Unit {0}
OnGrid (g ∷ gs) S = ((ps : List ℤ) → OnCells g (λ p. S (p ∷ ps))) × ((p : ℤ) → OnGrid gs (λ ps. S (p ∷ ps)))

-- what the packed form of slices is on the cells of the last side
on_slices : (g : Cuts) (S : List ℤ → Type 0) (is : List Span) → ((ps : List ℤ) → OnCells g (λ p. S (p ∷ ps))) → OnCells g (λ p. IsPacked (λ ps. S (p ∷ ps)) is)
on_slices g S is on = record {
  inside = λ p h. let w = some_grid_point _ is h in (on w.0).inside p w.1;
  alike = λ i p q a b c d. IsPacked-iff _ _ is (λ ps. ((on ps).alike i p q a b c d, (on ps).alike i q p c d a b));
}

span_one : (g : Cuts) (x y : ℕ × ℕ) → span_of g x ≡ span_of g y → x ≡ y
span_one g x y e =
    let a : x.0 ≡ y.0 = same_cell g x.0 y.0 (ap (λ (i : Span). i.0) e) in
    let f : g.at x.1 -ℤ pos 1 ≡ g.at y.1 -ℤ pos 1 = ap (λ (i : Span). i.1) e in
    let b : x.1 ≡ y.1 = same_cell g x.1 y.1 (omega (arith, ints)) in
    λ t. (a t, b t)

-- a packed box is one of cells
pub cells_some : (gs : List Cuts) (S : List ℤ → Type 0) → OnGrid gs S → (ys : List Span) → length ys ≡ length gs → IsPacked S ys → (xs : List (ℕ × ℕ)) × (length xs ≡ length gs) × (ys ≡ box_of gs xs)
cells_some [] S on [] e h = ([], refl, refl)
cells_some [] S on (y ∷ ys) e h = absurd (omega arith)
cells_some (g ∷ gs) S on [] e h = absurd (omega arith)
cells_some (g ∷ gs) S on (y ∷ ys) e h =
    let some = h.some in
    let w = cells_some gs (λ ps. S (y.0 ∷ ps)) (on.1 y.0) ys (omega arith) (h.each y.0 (omega (arith, ints)) some) in
    let v = cells_from_run g (λ p. IsPacked (λ ps. S (p ∷ ps)) ys) (on_slices g S ys on.0) y h in
    let l : length w.0 ≡ length gs = w.1 in
    (v.0 ∷ w.0, omega arith, λ t. v.2 t ∷ w.2 t)

-- a box of cells is packed exactly where the box of their points is
pub cells_iff : (gs : List Cuts) (S : List ℤ → Type 0) → OnGrid gs S → (xs : List (ℕ × ℕ)) → length xs ≡ length gs → IsIndexPacked (λ is. S (grid_point_of gs is)) xs ↔ IsPacked S (box_of gs xs)
cells_iff [] S on [] e = (λ h. h, λ h. h)
cells_iff [] S on (x ∷ xs) e = absurd (omega arith)
cells_iff (g ∷ gs) S on [] e = absurd (omega arith)
cells_iff (g ∷ gs) S on (x ∷ xs) e =
    let P : ℤ → Type 0 = λ p. IsPacked (λ ps. S (p ∷ ps)) (box_of gs xs) in
    let Q : ℕ → Type 0 = λ i. IsIndexPacked (λ is. S (g.at i ∷ grid_point_of gs is)) xs in
    let on' : OnCells g P = on_slices g S (box_of gs xs) on.0 in
    let ih : (i : ℕ) → Q i ↔ P (g.at i) = λ i. cells_iff gs (λ ps. S (g.at i ∷ ps)) (on.1 (g.at i)) xs (omega arith) in (
      λ h. run_from_cells g P on' x (IsIndexRun-iff Q (λ i. P (g.at i)) ih x.0 x.1 h),
      λ r.
          let w = cells_from_run g P on' (span_of g x) r in
          let q : w.0 ≡ x = sym (span_one g x w.0 w.2) in
          IsIndexRun-iff (λ i. P (g.at i)) Q (λ i. ((ih i).1, (ih i).0)) x.0 x.1 (subst (λ (v : ℕ × ℕ). IsIndexRun (λ i. P (g.at i)) v.0 v.1) q w.1),
    )

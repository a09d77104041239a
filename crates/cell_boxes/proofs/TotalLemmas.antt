-- Counts and sums of marked rows, as rows come and go.
use Rattle.std.proofs.Common.{◌≡◌, ℕ, zero, suc, ◌+◌, ◌*◌, ◌^◌, ◌<◌, ◌≤◌, Bool, true, false, List, [], ◌∷◌, set, length, get_or, inl, inr, arith, sym, ap, subst, refl, ◌∙◌, ℤ, pos, neg_ℤ, ◌+ℤ◌, ◌-ℤ◌, ◌≤ℤ◌, ◌<ℤ◌}
use Rattle.std.proofs.lemmas.Bool.{true≢false}
use Rattle.std.specs.Int.{w64}
use Rattle.std.proofs.lemmas.Int.{ints, to_z-of_z}
use Rattle.std.proofs.lemmas.List.{get_or-set_other, get_or-set_same, get_or_read, length-set}
use mir.Val.{SFits, to_z, of_z}
use Rattle.cell_boxes.specs.Tallies.{IsIn}
use Rattle.cell_boxes.specs.Totals.{count_of, sum_of, Fit, IsTotal, no_count}
use Rattle.cell_boxes.proofs.TallyLemmas.{equal_or}

-- ---- one row more

count_in : (f : List Bool) (row : ℕ) → row < length f → get_or f row true ≡ false → count_of (set f row true) ≡ suc (count_of f)
count_in [] row l h = absurd (omega arith)
count_in (true ∷ fs) zero l h = absurd (true≢false h)
count_in (false ∷ fs) zero l h = refl
count_in (true ∷ fs) (suc row) l h = ap suc (count_in fs row (omega arith) h)
count_in (false ∷ fs) (suc row) l h = count_in fs row (omega arith) h

sum_in : (vs : List ℤ) (f : List Bool) (row : ℕ) → row < length f → length f ≤ length vs → get_or f row true ≡ false → sum_of vs (set f row true) ≡ sum_of vs f +ℤ get_or vs row (pos 0)
sum_in [] f row l n h = absurd (omega arith)
sum_in (v ∷ vs) [] row l n h = absurd (omega arith)
sum_in (v ∷ vs) (true ∷ fs) zero l n h = absurd (true≢false h)
sum_in (v ∷ vs) (false ∷ fs) zero l n h = omega (arith, ints)
sum_in (v ∷ vs) (true ∷ fs) (suc row) l n h = let e = sum_in vs fs row (omega arith) (omega arith) h in omega (arith, ints, e)
sum_in (v ∷ vs) (false ∷ fs) (suc row) l n h = sum_in vs fs row (omega arith) (omega arith) h

-- ---- one row less

count_out : (f : List Bool) (row : ℕ) → row < length f → get_or f row false ≡ true → suc (count_of (set f row false)) ≡ count_of f
count_out [] row l h = absurd (omega arith)
count_out (true ∷ fs) zero l h = refl
count_out (false ∷ fs) zero l h = absurd (true≢false (sym h))
count_out (true ∷ fs) (suc row) l h = ap suc (count_out fs row (omega arith) h)
count_out (false ∷ fs) (suc row) l h = count_out fs row (omega arith) h

sum_out : (vs : List ℤ) (f : List Bool) (row : ℕ) → row < length f → length f ≤ length vs → get_or f row false ≡ true → sum_of vs (set f row false) ≡ sum_of vs f -ℤ get_or vs row (pos 0)
sum_out [] f row l n h = absurd (omega arith)
sum_out (v ∷ vs) [] row l n h = absurd (omega arith)
sum_out (v ∷ vs) (true ∷ fs) zero l n h = omega (arith, ints)
sum_out (v ∷ vs) (false ∷ fs) zero l n h = absurd (true≢false (sym h))
sum_out (v ∷ vs) (true ∷ fs) (suc row) l n h = let e = sum_out vs fs row (omega arith) (omega arith) h in omega (arith, ints, e)
sum_out (v ∷ vs) (false ∷ fs) (suc row) l n h = sum_out vs fs row (omega arith) (omega arith) h

-- ---- how great they can be

pub count_most : (f : List Bool) → count_of f ≤ length f
count_most [] = omega arith
count_most (true ∷ fs) = let e = count_most fs in omega arith
count_most (false ∷ fs) = let e = count_most fs in omega arith

count_less : (f : List Bool) (row : ℕ) → row < length f → get_or f row true ≡ false → count_of f < length f
count_less f row l h =
    let e = count_in f row l h in
    let m = count_most (set f row true) in
    let n : length (set f row true) ≡ length f = length-set f row true in
    omega (arith, e, n)

sum_least : (vs : List ℤ) (f : List Bool) → Fit vs f → neg_ℤ (pos (2 ^ 63 * length f)) ≤ℤ sum_of vs f
sum_least [] f h = omega (arith, ints)
sum_least (v ∷ vs) [] h = omega (arith, ints)
sum_least (v ∷ vs) (true ∷ fs) h = let e = sum_least vs fs (λ r. h (suc r)) in let m = (h 0 refl).0 in omega (arith, ints)
sum_least (v ∷ vs) (false ∷ fs) h = let e = sum_least vs fs (λ r. h (suc r)) in omega (arith, ints)

sum_most : (vs : List ℤ) (f : List Bool) → Fit vs f → sum_of vs f ≤ℤ pos (2 ^ 63 * length f)
sum_most [] f h = omega (arith, ints)
sum_most (v ∷ vs) [] h = omega (arith, ints)
sum_most (v ∷ vs) (true ∷ fs) h = let e = sum_most vs fs (λ r. h (suc r)) in let m = (h 0 refl).1 in omega (arith, ints)
sum_most (v ∷ vs) (false ∷ fs) h = let e = sum_most vs fs (λ r. h (suc r)) in omega (arith, ints)

-- the least and the greatest sum of fewer than 2 ^ 64 rows
abbrev pub InWidth : ℤ → Type 0
InWidth z = (neg_ℤ (pos (2 ^ 127)) ≤ℤ z) × (z <ℤ pos (2 ^ 127))

pub sum_fits : (vs : List ℤ) (f : List Bool) → length f < 2 ^ 64 → Fit vs f → InWidth (sum_of vs f)
sum_fits vs f short fit =
    let a = sum_least vs f fit in
    let b = sum_most vs f fit in
    (omega (arith, ints), omega (arith, ints))

-- ---- totals

pub no_sum : (vs : List ℤ) (f : List Bool) → ((r : ℕ) → IsIn f r → ⊥) → sum_of vs f ≡ pos 0
no_sum [] f h = refl
no_sum (v ∷ vs) [] h = refl
no_sum (v ∷ vs) (true ∷ fs) h = absurd (h 0 refl)
no_sum (v ∷ vs) (false ∷ fs) h = no_sum vs fs (λ r. h (suc r))

pub total_none : (vs : List ℤ) (f : List Bool) → length f ≤ length vs → length f < 2 ^ 64 → ((r : ℕ) → IsIn f r → ⊥) → IsTotal vs 0 (pos 0) f
total_none vs f within short h = record {
  within = within;
  short = short;
  fit = λ r m. absurd (h r m);
  counted = sym (no_count f h);
  summed = sym (no_sum vs f h);
}

module _ (vs : List ℤ) (count : ℕ) (sum : ℤ) (f : List Bool) (row : ℕ) (is : IsTotal vs count sum f) (inside : row < length f) where
  pub row_value : row < length vs
  row_value = let w = is.within in omega arith

  pub count_room : get_or f row true ≡ false → count + 1 < 2 ^ 64
  count_room h = let e = is.counted in let a = count_less f row inside h in let s = is.short in omega (arith, e)

  pub count_some : get_or f row false ≡ true → 0 < count
  count_some h = let e = is.counted in let a = count_out f row inside h in omega (arith, e, a)

  fit_in : (neg_ℤ (pos (2 ^ 63)) ≤ℤ get_or vs row (pos 0)) × (get_or vs row (pos 0) ≤ℤ pos (2 ^ 63)) → Fit vs (set f row true)
  fit_in own r m = elim (equal_or r row) [
    | inl e ↦ subst (λ q. (neg_ℤ (pos (2 ^ 63)) ≤ℤ get_or vs q (pos 0)) × (get_or vs q (pos 0) ≤ℤ pos (2 ^ 63))) (sym e) own
    | inr n ↦ is.fit r (sym (get_or-set_other f row r true false n) ∙ m)
  ]

  fit_out : Fit vs (set f row false)
  fit_out r m = elim (equal_or r row) [
    | inl e ↦ absurd (true≢false (sym (subst (IsIn (set f row false)) e m) ∙ get_or-set_same f row false false inside))
    | inr n ↦ is.fit r (sym (get_or-set_other f row r false false n) ∙ m)
  ]

  pub total_in : get_or f row true ≡ false → (neg_ℤ (pos (2 ^ 63)) ≤ℤ get_or vs row (pos 0)) × (get_or vs row (pos 0) ≤ℤ pos (2 ^ 63)) → (n : ℕ) (z : ℤ) → n ≡ count + 1 → z ≡ sum +ℤ get_or vs row (pos 0) → IsTotal vs n z (set f row true)
  total_in h own n z en ez = record {
    within = let w = is.within in let e : length (set f row true) ≡ length f = length-set f row true in omega (arith, e);
    short = let w = is.short in let e : length (set f row true) ≡ length f = length-set f row true in omega (arith, e);
    fit = fit_in own;
    counted = let a = count_in f row inside h in let b = is.counted in omega (arith, a, b, en);
    summed = ez ∙ ap (λ s. s +ℤ get_or vs row (pos 0)) is.summed ∙ sym (sum_in vs f row inside is.within h);
  }

  pub total_out : get_or f row false ≡ true → (n : ℕ) (z : ℤ) → n + 1 ≡ count → z ≡ sum -ℤ get_or vs row (pos 0) → IsTotal vs n z (set f row false)
  total_out h n z en ez = record {
    within = let w = is.within in let e : length (set f row false) ≡ length f = length-set f row false in omega (arith, e);
    short = let w = is.short in let e : length (set f row false) ≡ length f = length-set f row false in omega (arith, e);
    fit = fit_out;
    counted = let a = count_out f row inside h in let b = is.counted in omega (arith, a, b, en);
    summed = ez ∙ ap (λ s. s -ℤ get_or vs row (pos 0)) is.summed ∙ sym (sum_out vs f row inside is.within h);
  }

  -- the sums before and after are of 128 bits
  pub room_in : get_or f row true ≡ false → (neg_ℤ (pos (2 ^ 63)) ≤ℤ get_or vs row (pos 0)) × (get_or vs row (pos 0) ≤ℤ pos (2 ^ 63)) → InWidth (sum +ℤ get_or vs row (pos 0))
  room_in h own =
      let t = total_in h own (count + 1) (sum +ℤ get_or vs row (pos 0)) refl refl in
      subst InWidth (sym t.summed) (sum_fits vs (set f row true) t.short t.fit)

  pub room_out : get_or f row false ≡ true → (n : ℕ) → n + 1 ≡ count → InWidth (sum -ℤ get_or vs row (pos 0))
  room_out h n en =
      let t = total_out h n (sum -ℤ get_or vs row (pos 0)) en refl in
      subst InWidth (sym t.summed) (sum_fits vs (set f row false) t.short t.fit)

  module _ (v : ℤ) (fits : SFits w64 v) (read : v ≡ get_or vs row v) where
    value : to_z w64 (of_z w64 v) ≡ get_or vs row (pos 0)
    value = to_z-of_z w64 v fits ∙ get_or_read vs row v row_value read (pos 0)

    own : (neg_ℤ (pos (2 ^ 63)) ≤ℤ get_or vs row (pos 0)) × (get_or vs row (pos 0) ≤ℤ pos (2 ^ 63))
    own = subst (λ z. (neg_ℤ (pos (2 ^ 63)) ≤ℤ z) × (z ≤ℤ pos (2 ^ 63))) (get_or_read vs row v row_value read (pos 0)) (omega (arith, ints, fits), omega (arith, ints, fits))

    pub enter_room : get_or f row true ≡ false → InWidth (sum +ℤ to_z w64 (of_z w64 v))
    enter_room h = subst (λ z. InWidth (sum +ℤ z)) (sym value) (room_in h own)

    pub leave_room : get_or f row false ≡ true → InWidth (sum -ℤ to_z w64 (of_z w64 v))
    leave_room h = let n = before count (count_some h) in subst (λ z. InWidth (sum -ℤ z)) (sym value) (room_out h n.0 n.1)
      where
        before : (c : ℕ) → 0 < c → (n : ℕ) × (n + 1 ≡ c)
        before zero l = absurd (omega arith)
        before (suc n) l = (n, omega arith)

    pub entered_total : get_or f row true ≡ false → (n : ℕ) (z : ℤ) → n ≡ count + 1 → z ≡ sum +ℤ to_z w64 (of_z w64 v) → IsTotal vs n z (set f row true)
    entered_total h n z en ez = total_in h own n z en (ez ∙ ap (λ s. sum +ℤ s) value)

    pub left_total : get_or f row false ≡ true → (n : ℕ) (z : ℤ) → n + 1 ≡ count → z ≡ sum -ℤ to_z w64 (of_z w64 v) → IsTotal vs n z (set f row false)
    left_total h n z en ez = total_out h n z en (ez ∙ ap (λ s. sum -ℤ s) value)

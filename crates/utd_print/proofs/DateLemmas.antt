-- The date that is counted off from a day's number is the one that has the number.
use Rattle.std.proofs.Common.{◌≡◌, ℕ, zero, suc, ◌+◌, ◌-◌, ◌<◌, ◌≤◌, ltb, true, false, Bool, cond, ℤ, pos, ◌-ℤ◌, unsigned_abs, List, [], ◌∷◌, get_or, refl, sym, ◌∙◌, ap, subst, arith, inl, inr}
use Rattle.std.proofs.lemmas.Bool.{cases_lt, lt-ltb}
use Rattle.std.proofs.lemmas.Int.{ints}
use Rattle.std.proofs.lemmas.Bool.Decides.{nat_tests}
use Rattle.point_core.specs.Dates.{is_leap, days_of_year, month_days, days_of_month, days_of_years, days_of_months, day_place, date_number, IsCalendarDate, first_day, date_text}
use Rattle.point_core.proofs.CalendarLemmas.{epoch_place, years_rise}
use Rattle.utd_print.specs.Dates.{Date, date_in_year, date_after, date_of, day_text}

-- ---- months

-- the days of the first i of these
before : List ℕ → ℕ → ℕ
before [] i = 0
before (d ∷ ds) zero = 0
before (d ∷ ds) (suc i) = d + before ds i

before-zero : (ds : List ℕ) → before ds 0 ≡ 0
unfolding before
before-zero [] = refl
before-zero (d ∷ ds) = refl

before-suc : (ds : List ℕ) (i : ℕ) → before ds (suc i) ≡ before ds i + get_or ds i 0
unfolding before
before-suc [] i = refl
before-suc (d ∷ ds) zero = omega (arith, before-zero ds)
before-suc (d ∷ ds) (suc i) = omega (arith, before-suc ds i)

days_of_months-before : (year n : ℕ) → days_of_months year n ≡ before (month_days year) n
unfolding days_of_months
days_of_months-before year zero = sym (before-zero (month_days year))
days_of_months-before year (suc n) =
    let one : days_of_month year (suc n) ≡ get_or (month_days year) n 0 = ap (λ i. get_or (month_days year) i 0) (omega arith) in
    omega (arith, days_of_months-before year n, before-suc (month_days year) n, one)

abbrev the_date : ℕ → ℕ → ℕ → Date
the_date year month day = record { year = year; month = month; day = day }

same-date : (year m n d e : ℕ) → m ≡ n → d ≡ e → the_date year m d ≡ the_date year n e
same-date year m n d e a b = λ i. the_date year (a i) (b i)

not-less : (a b : ℕ) → b ≤ a → ltb a b ≡ false
not-less a b h = grind (arith, nat_tests)

-- the i-th month from m on, and a day that it has
in-year : (year m k : ℕ) (days : List ℕ) (i day : ℕ) → 1 ≤ day → day ≤ get_or days i 0 → k + 1 ≡ before days i + day → date_in_year year m k days ≡ the_date year (m + i) day
unfolding before date_in_year
in-year year m k [] i day low high e = absurd (omega arith)
in-year year m k (d ∷ ds) zero day low high e =
    let first : ltb k d ≡ true = lt-ltb k d (omega arith) in
    rw first (same-date year m (m + 0) (k + 1) day (omega arith) (omega arith))
in-year year m k (d ∷ ds) (suc i) day low high e =
    let later : ltb k d ≡ false = not-less k d (omega arith) in
    let rest : date_in_year year (suc m) (k - d) ds ≡ the_date year (suc m + i) day = in-year year (suc m) (k - d) ds i day low high (omega arith) in
    rw later (rest ∙ same-date year (suc m + i) (m + suc i) day day (omega arith) refl)

-- ---- years

-- the days of all
all_of : List ℕ → ℕ
all_of [] = 0
all_of (d ∷ ds) = d + all_of ds

before-all : (ds : List ℕ) (i : ℕ) → before ds i + get_or ds i 0 ≤ all_of ds
unfolding before all_of
before-all [] i = omega arith
before-all (d ∷ ds) zero = omega arith
before-all (d ∷ ds) (suc i) = omega (arith, before-all ds i)

twelve-months : (leap : Bool) → all_of (31 ∷ cond leap 29 28 ∷ 31 ∷ 30 ∷ 31 ∷ 30 ∷ 31 ∷ 31 ∷ 30 ∷ 31 ∷ 30 ∷ 31 ∷ []) ≡ cond leap 366 365
unfolding all_of
twelve-months true = refl
twelve-months false = refl

-- the months before a month, and its days, do not leave the year
within-year : (year i : ℕ) → before (month_days year) i + get_or (month_days year) i 0 ≤ days_of_year year
within-year year i = omega (arith, before-all (month_days year) i, twelve-months (is_leap year))

-- a day of the (q + 1)-th year, counted from the beginning of an earlier one
in-years : (years p q k i day : ℕ) → p ≤ q → q ≤ p + years → 1 ≤ day → day ≤ get_or (month_days (suc q)) i 0
    → k + days_of_years p + 1 ≡ days_of_years q + before (month_days (suc q)) i + day → date_after years (suc p) k ≡ the_date (suc q) (1 + i) day
unfolding date_after days_of_years
in-years zero p q k i day low high first last e =
    let same : p ≡ q = omega arith in
    let here : date_in_year (suc q) 1 k (month_days (suc q)) ≡ the_date (suc q) (1 + i) day =
    in-year (suc q) 1 k (month_days (suc q)) i day first last (omega (arith, ap days_of_years same)) in
    ap (λ y. date_in_year (suc y) 1 k (month_days (suc y))) same ∙ here
in-years (suc years) p q k i day low high first last e = elim (cases_lt p q) [
  | inl lt ↦ (
      let rise : days_of_years (suc p) ≤ days_of_years q = years_rise (suc p) q (omega arith) in
      let later : ltb k (days_of_year (suc p)) ≡ false = not-less k (days_of_year (suc p)) (omega (arith, rise)) in
      rw later (in-years years (suc p) q (k - days_of_year (suc p)) i day (omega arith) (omega arith) first last (omega (arith, rise)))
      )
  | inr le ↦ (
      let same : q ≡ p = omega arith in
      let number : k + 1 ≡ before (month_days (suc q)) i + day = omega (arith, ap days_of_years same) in
      let inside : k < days_of_year (suc q) = omega (arith, within-year (suc q) i, number) in
      let here : date_in_year (suc q) 1 k (month_days (suc q)) ≡ the_date (suc q) (1 + i) day = in-year (suc q) 1 k (month_days (suc q)) i day first last number in
      let now : ltb k (days_of_year (suc p)) ≡ true = subst (λ y. ltb k (days_of_year (suc y)) ≡ true) same (lt-ltb k (days_of_year (suc q)) inside) in
      rw now (subst (λ y. date_in_year (suc y) 1 k (month_days (suc y)) ≡ the_date (suc q) (1 + i) day) same here)
      )
]

counted : (n : ℤ) (place : ℕ) → 1 ≤ place → pos place -ℤ pos 719163 ≡ n → unsigned_abs (n -ℤ first_day) + 1 ≡ place
counted n place low is = omega (arith, ints)

-- the date that has the number
pub date_of-known : (n : ℤ) (year month day : ℕ) → IsCalendarDate year month day → date_number year month day ≡ n → date_of n ≡ record { year = year; month = month; day = day }
unfolding date_of date_number day_place days_of_years
date_of-known n zero month day date is = absurd (omega (arith, date.0))
date_of-known n (suc q) zero day date is = absurd (omega (arith, date.2))
date_of-known n (suc q) (suc i) day date is =
    let k : ℕ = unsigned_abs (n -ℤ first_day) in
    let year-index : suc q - 1 ≡ q = omega arith in
    let month-index : suc i - 1 ≡ i = omega arith in
    let last : day ≤ get_or (month_days (suc q)) i 0 = subst (λ j. day ≤ get_or (month_days (suc q)) j 0) month-index date.5 in
    let place : day_place (suc q) (suc i) day ≡ days_of_years q + before (month_days (suc q)) i + day =
    ap (λ j. days_of_years j + days_of_months (suc q) (suc i - 1) + day) year-index ∙ ap (λ j. days_of_years q + days_of_months (suc q) j + day) month-index
    ∙ ap (λ d. days_of_years q + d + day) (days_of_months-before (suc q) i) in
    let one : pos (days_of_years q + before (month_days (suc q)) i + day) -ℤ pos 719163 ≡ n =
    ap (λ a. pos a -ℤ pos 719163) (sym place) ∙ ap (λ b. pos (day_place (suc q) (suc i) day) -ℤ pos b) (sym epoch_place) ∙ is in
    let number : k + days_of_years 0 + 1 ≡ days_of_years q + before (month_days (suc q)) i + day =
    let h = counted n (days_of_years q + before (month_days (suc q)) i + day) (omega (arith, date.4)) one in omega (arith, h) in
    let found : date_after 9998 1 k ≡ the_date (suc q) (1 + i) day = in-years 9998 0 q k i day (omega arith) (omega (arith, date.1)) date.4 last number in
    found ∙ same-date (suc q) (1 + i) (suc i) day day (omega arith) refl

-- the text of the date that has the number
pub day_text-known : (n : ℤ) (year month day : ℕ) → IsCalendarDate year month day → date_number year month day ≡ n → date_text year month day ≡ day_text n
unfolding day_text
day_text-known n year month day date is = sym (ap (λ (d : Date). date_text d.year d.month d.day) (date_of-known n year month day date is))

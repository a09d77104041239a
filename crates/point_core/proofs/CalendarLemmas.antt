-- The numbers of dates are those of the library that computes them.
use Rattle.std.proofs.Common.{◌≡◌, ℕ, zero, suc, ◌+◌, ◌-◌, ◌≤◌, ℤ, pos, negsuc, ◌-ℤ◌, ◌≤ℤ◌, refl, ap, ◌∙◌, arith, inl, inr}
use Rattle.std.proofs.lemmas.Int.{ints}
use Rattle.jiff_core.specs.Calendar as core
use Rattle.jiff_core.proofs.CalendarLemmas.{day_count-lt_year}
use Rattle.std.proofs.lemmas.Bool.{cases_lt}
use Rattle.point_core.specs.Dates.{days_of_year, days_of_month, days_of_years, days_of_months, day_place, date_number, IsCalendarDate, first_day, IsDay}

month_same : (year month : ℕ) → 1 ≤ month → month ≤ 12 → core.days_in_month (pos year) month ≡ days_of_month year month
month_same y zero low high = absurd (omega arith)
month_same y (suc zero) low high = refl
month_same y (suc (suc zero)) low high = refl
month_same y (suc (suc (suc zero))) low high = refl
month_same y (suc (suc (suc (suc zero)))) low high = refl
month_same y (suc (suc (suc (suc (suc zero))))) low high = refl
month_same y (suc (suc (suc (suc (suc (suc zero)))))) low high = refl
month_same y (suc (suc (suc (suc (suc (suc (suc zero))))))) low high = refl
month_same y (suc (suc (suc (suc (suc (suc (suc (suc zero)))))))) low high = refl
month_same y (suc (suc (suc (suc (suc (suc (suc (suc (suc zero))))))))) low high = refl
month_same y (suc (suc (suc (suc (suc (suc (suc (suc (suc (suc zero)))))))))) low high = refl
month_same y (suc (suc (suc (suc (suc (suc (suc (suc (suc (suc (suc zero))))))))))) low high = refl
month_same y (suc (suc (suc (suc (suc (suc (suc (suc (suc (suc (suc (suc zero)))))))))))) low high = refl
month_same y (suc (suc (suc (suc (suc (suc (suc (suc (suc (suc (suc (suc (suc n))))))))))))) low high = absurd (omega arith)

months_same : (year n : ℕ) → n ≤ 12 → core.days_of_months (pos year) n ≡ days_of_months year n
unfolding core.days_of_months days_of_months
months_same y zero high = refl
months_same y (suc n) high = omega (arith, months_same y n (omega arith), month_same y (suc n) (omega arith) high)

-- the library counts the years from one long before the year 1
years_same : (n k : ℕ) → k ≡ n + 10001 → core.days_of_years k ≡ core.days_of_years 10001 + days_of_years n
unfolding core.days_of_years days_of_years
years_same zero k e = ap core.days_of_years e
years_same (suc n) zero e = absurd (omega arith)
years_same (suc n) (suc k) e =
    let year : pos k -ℤ pos 10000 ≡ pos (suc n) = omega (arith, ints) in
    let days : core.days_in_year (pos k -ℤ pos 10000) ≡ days_of_year (suc n) = ap core.days_in_year year in
    omega (arith, years_same n k (omega arith), days)

place_same : (year month day : ℕ) → 1 ≤ year → 1 ≤ month → month ≤ 12 → 1 ≤ day
    → core.day_count (pos year) month day + 1 ≡ core.days_of_years 10001 + day_place year month day
unfolding core.day_count day_place
place_same y m d year low high day =
    omega (arith, years_same (y - 1) (y + 10000) (omega arith), months_same y (m - 1) (omega arith))

pub number_same : (year month day : ℕ) → 1 ≤ year → 1 ≤ month → month ≤ 12 → 1 ≤ day
    → core.days_from_civil (pos year) month day ≡ date_number year month day
unfolding core.days_from_civil date_number
number_same y m d year low high day =
    let here = place_same y m d year low high day in
    let epoch = place_same 1970 1 1 (omega arith) (omega arith) (omega arith) (omega arith) in
    omega (arith, ints, here, epoch)

pub calendar_date : (year month day : ℕ) → 1 ≤ year → core.IsCivilDate (pos year) month day → IsCalendarDate year month day
calendar_date year month day first date =
    (first, omega (arith, ints, date.0.1), date.1.0, date.1.1, date.2.0, omega (arith, date.2.1, month_same year month date.1.0 date.1.1))

pub epoch_place : day_place 1970 1 1 ≡ 719163
unfolding day_place days_of_years days_of_months
epoch_place = refl

-- a date from the year 1 on has the number of a day
pub date_is_day : (year month day : ℕ) (n : ℤ) → 1 ≤ day → n ≡ date_number year month day → core.IsEpochDay n → IsDay n
unfolding date_number day_place
date_is_day y m d n first is range = (omega (arith, ints, epoch_place, range.0), range.1)

-- what is known of a date of the library, by its year, month and day as natural numbers
pub known_date : (y : ℤ) (m d year month day : ℕ) (n : ℤ) → y ≡ pos year → m ≡ month → d ≡ day → 1 ≤ year → core.IsCivilDate y m d
    → n ≡ core.days_from_civil y m d → core.IsEpochDay n → IsCalendarDate year month day × (n ≡ date_number year month day) × IsDay n
known_date y m d year month day n ey em ed first date is range =
    let civil : core.IsCivilDate (pos year) month day = rw (ey, em, ed) at date in
    let same : core.days_from_civil y m d ≡ core.days_from_civil (pos year) month day = cc in
    let calendar : IsCalendarDate year month day = calendar_date year month day first civil in
    let number : n ≡ date_number year month day = is ∙ same ∙ number_same year month day first calendar.2 calendar.3 calendar.4 in
    (calendar, number, date_is_day year month day n calendar.4 number range)

first_place : day_place 1 1 1 ≡ 1
unfolding day_place days_of_years days_of_months
first_place = refl

-- a day from the first on is of a year from 1 on
pub year_from_1 : (y : ℤ) (m d : ℕ) → core.IsCivilDate y m d → first_day ≤ℤ core.days_from_civil y m d → pos 1 ≤ℤ y
unfolding core.days_from_civil
year_from_1 (pos (suc k)) m d date low = omega (arith, ints)
year_from_1 (pos zero) m d date low =
    let before = day_count-lt_year (pos 0) m d (pos 1) 1 1 date (omega arith) (omega (arith, ints)) in
    let first = place_same 1 1 1 (omega arith) (omega arith) (omega arith) (omega arith) in
    let epoch = place_same 1970 1 1 (omega arith) (omega arith) (omega arith) (omega arith) in
    absurd (omega (arith, ints, before, first, epoch, first_place, epoch_place))
year_from_1 (negsuc k) m d date low =
    let before = day_count-lt_year (negsuc k) m d (pos 1) 1 1 date (omega arith) (omega (arith, ints)) in
    let first = place_same 1 1 1 (omega arith) (omega arith) (omega arith) (omega arith) in
    let epoch = place_same 1970 1 1 (omega arith) (omega arith) (omega arith) (omega arith) in
    absurd (omega (arith, ints, before, first, epoch, first_place, epoch_place))

pub years_rise : (p q : ℕ) → p ≤ q → days_of_years p ≤ days_of_years q
unfolding days_of_years
years_rise p zero h = let same : p ≡ 0 = omega arith in omega (arith, ap days_of_years same)
years_rise p (suc q) h = elim (cases_lt q p) [
  | inl lt ↦ (let same : p ≡ suc q = omega arith in let e : days_of_years p ≡ days_of_years (suc q) = ap days_of_years same in omega (arith, e))
  | inr le ↦ (let rest : days_of_years p ≤ days_of_years q = years_rise p q le in omega (arith, rest))
]

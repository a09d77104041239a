-- A date of the calendar has the number of a day, and a moment that of a second of the days.
use Rattle.std.specs.Prelude.{◌≡◌, ℕ, zero, suc, ◌+◌, ◌-◌, ◌*◌, ◌≤◌, ℤ, pos, ◌+ℤ◌, ◌*ℤ◌, Bool, true, false, if◌then◌else◌, refl}
use Rattle.std.proofs.Common.{arith}
use Rattle.std.proofs.lemmas.Int.{ints}
use Rattle.point_core.specs.Dates.{is_leap, days_of_year, days_of_month, days_of_years, days_of_months, day_place, date_number, IsCalendarDate, IsDay}
use Rattle.point_core.specs.Moments.{IsClock, IsSecond, clock_number, moment_number}
use Rattle.point_core.proofs.CalendarLemmas.{epoch_place, years_rise}

leap-year : (b : Bool) → (if b then 29 else 28) + 337 ≡ (if b then 366 else 365)
leap-year true = refl
leap-year false = refl

-- the days up to the end of a month are days of its year
months-within : (year month : ℕ) → 1 ≤ month → month ≤ 12 → days_of_months year (month - 1) + days_of_month year month ≤ days_of_year year
unfolding days_of_months
months-within year zero low high = absurd (omega arith)
months-within year (suc zero) low high = omega (arith, leap-year (is_leap year))
months-within year (suc (suc zero)) low high = omega (arith, leap-year (is_leap year))
months-within year (suc (suc (suc zero))) low high = omega (arith, leap-year (is_leap year))
months-within year (suc (suc (suc (suc zero)))) low high = omega (arith, leap-year (is_leap year))
months-within year (suc (suc (suc (suc (suc zero))))) low high = omega (arith, leap-year (is_leap year))
months-within year (suc (suc (suc (suc (suc (suc zero)))))) low high = omega (arith, leap-year (is_leap year))
months-within year (suc (suc (suc (suc (suc (suc (suc zero))))))) low high = omega (arith, leap-year (is_leap year))
months-within year (suc (suc (suc (suc (suc (suc (suc (suc zero)))))))) low high = omega (arith, leap-year (is_leap year))
months-within year (suc (suc (suc (suc (suc (suc (suc (suc (suc zero))))))))) low high = omega (arith, leap-year (is_leap year))
months-within year (suc (suc (suc (suc (suc (suc (suc (suc (suc (suc zero)))))))))) low high = omega (arith, leap-year (is_leap year))
months-within year (suc (suc (suc (suc (suc (suc (suc (suc (suc (suc (suc zero))))))))))) low high = omega (arith, leap-year (is_leap year))
months-within year (suc (suc (suc (suc (suc (suc (suc (suc (suc (suc (suc (suc zero)))))))))))) low high = omega (arith, leap-year (is_leap year))
months-within year (suc (suc (suc (suc (suc (suc (suc (suc (suc (suc (suc (suc (suc more))))))))))))) low high = absurd (omega arith)

whole-year : (year : ℕ) → 1 ≤ year → days_of_years (year - 1) + days_of_year year ≡ days_of_years year
unfolding days_of_years
whole-year zero low = absurd (omega arith)
whole-year (suc year) low =
    let before : suc year - 1 ≡ year = omega arith in
    rw before

all-years : days_of_years 9999 ≡ 3652059
unfolding days_of_years
all-years = refl

pub is-day : (year month day : ℕ) → IsCalendarDate year month day → IsDay (date_number year month day)
unfolding date_number day_place
is-day year month day h =
    let months = months-within year month h.2 h.3 in
    let whole = whole-year year h.0 in
    let below = years_rise year 9999 h.1 in
    (omega (arith, ints, epoch_place, h.4), omega (arith, ints, epoch_place, months, whole, below, all-years, h.5))

-- the second of a day that a clock shows
second-within : (hour minute second : ℕ) → IsClock hour minute second → clock_number hour minute second ≤ 86399
second-within hour minute second h = omega (arith, h.0, h.1, h.2)

second-of-day : (day : ℤ) (clock : ℕ) → IsDay day → clock ≤ 86399 → IsSecond (day *ℤ pos 86400 +ℤ pos clock)
second-of-day day clock h low = (omega (arith, ints, h.0, low), omega (arith, ints, h.1, low))

pub is-second : (year month day hour minute second : ℕ) → IsCalendarDate year month day → IsClock hour minute second → IsSecond (moment_number year month day hour minute second)
is-second year month day hour minute second date clock =
    second-of-day (date_number year month day) (clock_number hour minute second) (is-day year month day date) (second-within hour minute second clock)

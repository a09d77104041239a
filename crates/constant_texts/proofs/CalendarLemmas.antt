-- Each day of the years 1 to 9999 is that of a date, and each second of them that of a moment.
--     Dated, day-dated      the date that has the number
--     day-text, second-text      the texts of a date and a moment
--     day-read, second-read      they are read as these
use Rattle.std.proofs.Common.{◌≡◌, ℕ, zero, suc, ◌+◌, ◌-◌, ◌/◌, ◌%◌, ◌<◌, ◌≤◌, Bool, true, false, cond, ℤ, pos, ◌+ℤ◌, ◌-ℤ◌, ◌*ℤ◌, unsigned_abs, refl, sym, ◌∙◌, ap, arith, inl, inr, Some}
use Rattle.std.proofs.lemmas.Bool.{cases_lt}
use Rattle.std.proofs.lemmas.Int.{ints}
use Rattle.point_core.specs.Dates.{is_leap, days_of_year, days_of_month, days_of_years, days_of_months, day_place, date_number, IsCalendarDate, IsDateText, IsDay, first_day}
use Rattle.point_core.specs.Moments.{IsClock, clock_number, moment_number, IsMomentText, IsSecond, first_second}
use Rattle.point_core.proofs.CalendarLemmas.{epoch_place}
use Rattle.utd_print.specs.Dates.{day_text}
use Rattle.utd_print.specs.Moments.{second_text}
use Rattle.utd_print.proofs.DateLemmas.{day_text-known}
use Rattle.utd_print.proofs.MomentLemmas.{second_text-known}
use Rattle.scalar_typing.specs.Literals.{date_of, moment_of}
use Rattle.scalar_typing.proofs.LiteralLemmas.{date-some, moment-some}

-- ---- the month and the day of it

record MonthFound (year n k : ℕ) : Type 0 where
  month : ℕ
  day : ℕ
  within : month < n
  low : 1 ≤ day
  high : day ≤ days_of_month year (suc month)
  at : k + 1 ≡ days_of_months year month + day

month-found : (year n k : ℕ) → k < days_of_months year n → MonthFound year n k
unfolding days_of_months
month-found year zero k h = absurd (omega (arith, h))
month-found year (suc n) k h = elim (cases_lt k (days_of_months year n)) [
  | inl lt ↦ (let f = month-found year n k lt in record { month = f.month; day = f.day; within = omega (arith, f.within); low = f.low; high = f.high; at = f.at })
  | inr le ↦ record { month = n; day = k + 1 - days_of_months year n; within = omega arith; low = omega (arith, le); high = omega (arith, le, h); at = omega (arith, le) }
]

-- ---- the year

record YearFound (n k : ℕ) : Type 0 where
  year : ℕ
  within : year < n
  low : days_of_years year ≤ k
  high : k < days_of_years year + days_of_year (suc year)

year-found : (n k : ℕ) → k < days_of_years n → YearFound n k
unfolding days_of_years
year-found zero k h = absurd (omega (arith, h))
year-found (suc n) k h = elim (cases_lt k (days_of_years n)) [
  | inl lt ↦ (let f = year-found n k lt in record { year = f.year; within = omega (arith, f.within); low = f.low; high = f.high })
  | inr le ↦ record { year = n; within = omega arith; low = le; high = h }
]

twelve : (leap : Bool) → 31 + cond leap 29 28 + 31 + 30 + 31 + 30 + 31 + 31 + 30 + 31 + 30 + 31 ≡ cond leap 366 365
twelve true = refl
twelve false = refl

twelve-months : (year : ℕ) → days_of_months year 12 ≡ days_of_year year
unfolding days_of_months
twelve-months year = twelve (is_leap year)

-- ---- the date

pub record Dated (n : ℤ) : Type 0 where
  pub year : ℕ
  pub month : ℕ
  pub day : ℕ
  pub date : IsCalendarDate year month day
  pub number : date_number year month day ≡ n

all-days : days_of_years 9999 + 1 ≡ 3652060
unfolding days_of_years
all-days = refl

counted : (n : ℤ) (place epoch : ℕ) → IsDay n → epoch ≡ 719163 → unsigned_abs (n -ℤ first_day) + 1 ≡ place → pos place -ℤ pos epoch ≡ n
counted n place epoch h from e = omega (arith, ints, h.0, from, e)

few-days : (n : ℤ) → IsDay n → unsigned_abs (n -ℤ first_day) < days_of_years 9999
few-days n h = omega (arith, ints, h.0, h.1, all-days)

place-is : (q i day k : ℕ) → k ≡ days_of_years q + (k - days_of_years q) → (k - days_of_years q) + 1 ≡ days_of_months (suc q) i + day → k + 1 ≡ day_place (suc q) (suc i) day
unfolding day_place
place-is q i day k e f =
    let year-index : suc q - 1 ≡ q = omega arith in
    let month-index : suc i - 1 ≡ i = omega arith in
    let place : days_of_years (suc q - 1) + days_of_months (suc q) (suc i - 1) + day ≡ days_of_years q + days_of_months (suc q) i + day =
    ap (λ j. days_of_years j + days_of_months (suc q) (suc i - 1) + day) year-index ∙ ap (λ j. days_of_years q + days_of_months (suc q) j + day) month-index in
    omega (arith, e, f, place)

pub day-dated : (n : ℤ) → IsDay n → Dated n
unfolding date_number
day-dated n h =
    let k : ℕ = unsigned_abs (n -ℤ first_day) in
    let y = year-found 9999 k (few-days n h) in
    let within : k - days_of_years y.year < days_of_months (suc y.year) 12 = omega (arith, y.low, y.high, twelve-months (suc y.year)) in
    let m = month-found (suc y.year) 12 (k - days_of_years y.year) within in
    let place = place-is y.year m.month m.day k (omega (arith, y.low)) m.at in
    record {
      year = suc y.year;
      month = suc m.month;
      day = m.day;
      date = (omega arith, omega (arith, y.within), omega arith, omega (arith, m.within), m.low, m.high);
      number = counted n (day_place (suc y.year) (suc m.month) m.day) (day_place 1970 1 1) h epoch_place place;
    }

pub day-text : (n : ℤ) → IsDay n → IsDateText (day_text n) n
day-text n h = let d = day-dated n h in (d.year, d.month, d.day, d.date, sym (day_text-known n d.year d.month d.day d.date d.number), sym d.number)

pub day-read : (n : ℤ) → IsDay n → date_of (day_text n) ≡ Some n
day-read n h = date-some (day_text n) n (day-text n h)

-- ---- the clock

clock-of : (k : ℕ) → k < 86400 → IsClock (k / 3600) (k / 60 % 60) (k % 60) × (clock_number (k / 3600) (k / 60 % 60) (k % 60) ≡ k)
clock-of k h = ((omega (arith, h), omega arith, omega arith), omega arith)

-- ---- the moment

day-of : (n : ℤ) → IsSecond n → IsDay (first_day +ℤ pos (unsigned_abs (n -ℤ first_second) / 86400))
day-of n h = (omega (arith, ints), omega (arith, ints, h.0, h.1))

split-again : (n : ℤ) → IsSecond n → (first_day +ℤ pos (unsigned_abs (n -ℤ first_second) / 86400)) *ℤ pos 86400 +ℤ pos (unsigned_abs (n -ℤ first_second) % 86400) ≡ n
split-again n h = omega (arith, ints, h.0)

pub second-text : (n : ℤ) → IsSecond n → IsMomentText (second_text n) n
second-text n h =
    let e : ℕ = unsigned_abs (n -ℤ first_second) in
    let k : ℕ = e % 86400 in
    let d = day-dated (first_day +ℤ pos (e / 86400)) (day-of n h) in
    let c = clock-of k (omega arith) in
    let number : moment_number d.year d.month d.day (k / 3600) (k / 60 % 60) (k % 60) ≡ n =
    ap (λ z. z *ℤ pos 86400 +ℤ pos (clock_number (k / 3600) (k / 60 % 60) (k % 60))) d.number ∙ (ap (λ z. (first_day +ℤ pos (e / 86400)) *ℤ pos 86400 +ℤ pos z) c.1 ∙ split-again n h) in
    (d.year, d.month, d.day, k / 3600, k / 60 % 60, k % 60, d.date, c.0, sym (second_text-known n d.year d.month d.day (k / 3600) (k / 60 % 60) (k % 60) d.date c.0 number), sym number)

pub second-read : (n : ℤ) → IsSecond n → moment_of (second_text n) ≡ Some n
second-read n h = moment-some (second_text n) n (second-text n h)

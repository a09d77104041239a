-- Dates, their numbers and their texts, in the Gregorian calendar carried back to the year 1.
--     IsCalendarDate       the calendar has the date
--     date_number          how many days the date comes after 1970-01-01, which has the number 0
--     date_text            the date as YYYY-MM-DD
use Rattle.std.specs.Prelude.{◌≡◌, ℕ, zero, suc, ◌+◌, ◌-◌, ◌/◌, ◌%◌, ◌≤◌, ℤ, pos, negsuc, ◌-ℤ◌, ◌≤ℤ◌, Bool, not, ◌&&◌, ◌||◌, nat_eq, List, [], ◌∷◌, ◌++◌, slice_index_or, if◌then◌else◌}

-- every fourth year is a leap year, but of those that end a century only every fourth
abbrev pub is_leap : ℕ → Bool
is_leap year = nat_eq (year % 4) 0 && (not (nat_eq (year % 100) 0) || nat_eq (year % 400) 0)

abbrev pub days_of_year : ℕ → ℕ
days_of_year year = if is_leap year then 366 else 365

-- the days of the twelve months of a year
abbrev pub month_days : ℕ → List ℕ
month_days year = 31 ∷ (if is_leap year then 29 else 28) ∷ 31 ∷ 30 ∷ 31 ∷ 30 ∷ 31 ∷ 31 ∷ 30 ∷ 31 ∷ 30 ∷ 31 ∷ []

-- the days of the month of that number, from 1
abbrev pub days_of_month : ℕ → ℕ → ℕ
days_of_month year month = slice_index_or (month_days year) (month - 1) 0

-- the days of the years 1 to n
unfoldable pub days_of_years : ℕ → ℕ
days_of_years zero = 0
days_of_years (suc n) = days_of_years n + days_of_year (suc n)

-- the days of the first n months of a year
unfoldable pub days_of_months : ℕ → ℕ → ℕ
days_of_months year zero = 0
days_of_months year (suc n) = days_of_months year n + days_of_month year (suc n)

-- the calendar has the date
abbrev pub IsCalendarDate : ℕ → ℕ → ℕ → Type 0
IsCalendarDate year month day =
    (1 ≤ year) × (year ≤ 9999) × (1 ≤ month) × (month ≤ 12) × (1 ≤ day) × (day ≤ days_of_month year month)

-- the place of a date among the days from 0001-01-01 on, which is at the place 1
unfoldable pub day_place : ℕ → ℕ → ℕ → ℕ
day_place year month day = days_of_years (year - 1) + days_of_months year (month - 1) + day

-- how many days the date comes after 1970-01-01; below 0 for earlier dates
unfoldable pub date_number : ℕ → ℕ → ℕ → ℤ
date_number year month day = pos (day_place year month day) -ℤ pos (day_place 1970 1 1)

-- the numbers of 0001-01-01 and of 9999-12-31
abbrev pub first_day : ℤ
first_day = negsuc 719161

abbrev pub last_day : ℤ
last_day = pos 2932896

-- the number is that of a day of the years 1 to 9999
abbrev pub IsDay : ℤ → Type 0
IsDay n = (first_day ≤ℤ n) × (n ≤ℤ last_day)

-- two decimal digits of a number below 100, and four of one below 10,000
abbrev pub two_digits : ℕ → List ℕ
two_digits n = (48 + n / 10) ∷ (48 + n % 10) ∷ []

abbrev pub four_digits : ℕ → List ℕ
four_digits n = two_digits (n / 100) ++ two_digits (n % 100)

-- the date as YYYY-MM-DD
abbrev pub date_text : ℕ → ℕ → ℕ → List ℕ
date_text year month day = four_digits year ++ 45 ∷ two_digits month ++ 45 ∷ two_digits day

-- the text is that of a date that has the number
abbrev pub IsDateText : List ℕ → ℤ → Type 0
IsDateText text n =
    (year : ℕ) × (month : ℕ) × (day : ℕ) × IsCalendarDate year month day × (text ≡ date_text year month day) × (n ≡ date_number year month day)

-- Moments, each a date and a second of its day, with their numbers and their texts.
--     IsClock              a clock shows the hour, the minute and the second
--     moment_number        how many seconds the moment comes after 1970-01-01T00:00:00, where each day has 86,400
--     moment_text          the moment as YYYY-MM-DDTHH:MM:SS
use Rattle.std.specs.Prelude.{◌≡◌, ℕ, ◌+◌, ◌*◌, ◌≤◌, ℤ, pos, negsuc, ◌+ℤ◌, ◌*ℤ◌, ◌≤ℤ◌, List, ◌∷◌, ◌++◌}
use Rattle.point_core.specs.Dates.{IsCalendarDate, date_number, date_text, two_digits}

-- a clock shows the hour, the minute and the second
abbrev pub IsClock : ℕ → ℕ → ℕ → Type 0
IsClock hour minute second = (hour ≤ 23) × (minute ≤ 59) × (second ≤ 59)

-- how many seconds of the day come before
abbrev pub clock_number : ℕ → ℕ → ℕ → ℕ
clock_number hour minute second = hour * 3600 + minute * 60 + second

-- how many seconds the moment comes after 1970-01-01T00:00:00; below 0 for earlier moments
abbrev pub moment_number : ℕ → ℕ → ℕ → ℕ → ℕ → ℕ → ℤ
moment_number year month day hour minute second =
    date_number year month day *ℤ pos 86400 +ℤ pos (clock_number hour minute second)

-- the numbers of 0001-01-01T00:00:00 and of 9999-12-31T23:59:59
abbrev pub first_second : ℤ
first_second = negsuc 62135596799

abbrev pub last_second : ℤ
last_second = pos 253402300799

-- the number is that of a second of the years 1 to 9999
abbrev pub IsSecond : ℤ → Type 0
IsSecond n = (first_second ≤ℤ n) × (n ≤ℤ last_second)

-- the clock as HH:MM:SS
abbrev pub clock_text : ℕ → ℕ → ℕ → List ℕ
clock_text hour minute second = two_digits hour ++ 58 ∷ two_digits minute ++ 58 ∷ two_digits second

-- the text is that of a clock that shows the second of that number
abbrev pub IsClockText : List ℕ → ℕ → Type 0
IsClockText text n =
    (hour : ℕ) × (minute : ℕ) × (second : ℕ) × IsClock hour minute second × (text ≡ clock_text hour minute second) × (n ≡ clock_number hour minute second)

-- the moment as YYYY-MM-DDTHH:MM:SS
abbrev pub moment_text : ℕ → ℕ → ℕ → ℕ → ℕ → ℕ → List ℕ
moment_text year month day hour minute second = date_text year month day ++ 84 ∷ clock_text hour minute second

-- the text is that of a moment that has the number
abbrev pub IsMomentText : List ℕ → ℤ → Type 0
IsMomentText text n =
    (year : ℕ) × (month : ℕ) × (day : ℕ) × (hour : ℕ) × (minute : ℕ) × (second : ℕ) × IsCalendarDate year month day × IsClock hour minute second
    × (text ≡ moment_text year month day hour minute second) × (n ≡ moment_number year month day hour minute second)

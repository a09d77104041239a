-- What the bytes of literals write: numbers, dates, moments and texts.
use Rattle.std.specs.Prelude.{ℕ, ℤ, pos, ◌+◌, ◌-◌, ◌*◌, ◌+ℤ◌, ◌*ℤ◌, List, [], ◌∷◌, take, drop, Bool, true, false, ◌&&◌, ◌||◌, ◌==◌, nat_lt, nat_le}
use Rattle.point_core.specs.Dates.{date_number, days_of_month}

-- the number that decimal digits write
abbrev pub value_after : ℕ → List ℕ → ℕ
value_after n [] = n
value_after n (d ∷ ds) = value_after (10 * n + (d - 48)) ds

abbrev pub value_of : List ℕ → ℕ
value_of digits = value_after 0 digits

abbrev pub is_digit : ℕ → Bool
is_digit c = nat_le 48 c && nat_le c 57

abbrev pub are_digits : List ℕ → Bool
are_digits [] = true
are_digits (c ∷ cs) = is_digit c && are_digits cs

-- the calendar has the day
abbrev pub is_day : ℕ → ℕ → ℕ → Bool
is_day year month day = nat_le 1 year && nat_le 1 month && nat_le month 12 && nat_le 1 day && nat_le day (days_of_month year month)

-- YYYY-MM-DD of a day that exists, from 0001-01-01 to 9999-12-31
abbrev pub is_date : List ℕ → Bool
is_date (a ∷ b ∷ c ∷ d ∷ dash ∷ e ∷ f ∷ dash' ∷ g ∷ h ∷ []) =
    are_digits (a ∷ b ∷ c ∷ d ∷ e ∷ f ∷ g ∷ h ∷ []) && (dash == 45) && (dash' == 45) &&
    is_day (value_of (a ∷ b ∷ c ∷ d ∷ [])) (value_of (e ∷ f ∷ [])) (value_of (g ∷ h ∷ []))
is_date _ = false

-- the number of the date that is written as YYYY-MM-DD
abbrev pub number_of_date : List ℕ → ℤ
number_of_date (a ∷ b ∷ c ∷ d ∷ dash ∷ e ∷ f ∷ dash' ∷ g ∷ h ∷ []) =
    date_number (value_of (a ∷ b ∷ c ∷ d ∷ [])) (value_of (e ∷ f ∷ [])) (value_of (g ∷ h ∷ []))
number_of_date _ = pos 0

-- a clock has the hour, the minute and the second
abbrev pub is_time : ℕ → ℕ → ℕ → Bool
is_time hour minute second = nat_le hour 23 && nat_le minute 59 && nat_le second 59

-- THH:MM:SS, from T00:00:00 to T23:59:59
abbrev pub is_clock : List ℕ → Bool
is_clock (letter ∷ a ∷ b ∷ colon ∷ c ∷ d ∷ colon' ∷ e ∷ f ∷ []) =
    are_digits (a ∷ b ∷ c ∷ d ∷ e ∷ f ∷ []) && (letter == 84) && (colon == 58) && (colon' == 58) &&
    is_time (value_of (a ∷ b ∷ [])) (value_of (c ∷ d ∷ [])) (value_of (e ∷ f ∷ []))
is_clock _ = false

-- the second of the day that is written as THH:MM:SS
abbrev pub second_of_clock : List ℕ → ℕ
second_of_clock (letter ∷ a ∷ b ∷ colon ∷ c ∷ d ∷ colon' ∷ e ∷ f ∷ []) =
    value_of (a ∷ b ∷ []) * 3600 + value_of (c ∷ d ∷ []) * 60 + value_of (e ∷ f ∷ [])
second_of_clock _ = 0

-- YYYY-MM-DDTHH:MM:SS of a second that exists: a date, and a clock behind its ten characters
abbrev pub is_moment : List ℕ → Bool
is_moment text = is_date (take 10 text) && is_clock (drop 10 text)

-- the number of the moment that is written as YYYY-MM-DDTHH:MM:SS
abbrev pub number_of_moment : List ℕ → ℤ
number_of_moment text = number_of_date (take 10 text) *ℤ pos 86400 +ℤ pos (second_of_clock (drop 10 text))

-- The date and the clock of a moment.
--     day_of_second, second_of_day      the day that has a second of this number, and the number of the second within it
--     second_text      the moment as YYYY-MM-DDTHH:MM:SS
use Rattle.std.specs.Prelude.{ℕ, ◌/◌, ◌%◌, ℤ, pos, ◌+ℤ◌, ◌-ℤ◌, unsigned_abs, List, ◌∷◌, ◌++◌}
use Rattle.point_core.specs.Dates.{first_day}
use Rattle.point_core.specs.Moments.{first_second, clock_text}
use Rattle.utd_print.specs.Dates.{day_text}

-- how many seconds come between the first moment and this one
abbrev pub seconds_since_first : ℤ → ℕ
seconds_since_first n = unsigned_abs (n -ℤ first_second)

-- the day that has the second, each day with its 86,400
unfoldable pub day_of_second : ℤ → ℤ
day_of_second n = first_day +ℤ pos (seconds_since_first n / 86400)

-- how many seconds of the day come before
unfoldable pub second_of_day : ℤ → ℕ
second_of_day n = seconds_since_first n % 86400

-- the clock as HH:MM:SS when so many seconds of the day have gone
unfoldable pub clock_of : ℕ → List ℕ
clock_of k = clock_text (k / 3600) (k / 60 % 60) (k % 60)

-- the moment as YYYY-MM-DDTHH:MM:SS
unfoldable pub second_text : ℤ → List ℕ
second_text n = day_text (day_of_second n) ++ 84 ∷ clock_of (second_of_day n)

-- The text of a moment is that of the date and the clock that have its number.
use Rattle.std.proofs.Common.{◌≡◌, ℕ, ◌+◌, ◌*◌, ◌/◌, ◌%◌, ◌<◌, ℤ, pos, ◌+ℤ◌, ◌-ℤ◌, ◌*ℤ◌, ◌≤ℤ◌, unsigned_abs, List, [], ◌∷◌, ◌++◌, sym, ◌∙◌, ap, ap₂, append_assoc, arith}
use Rattle.std.proofs.lemmas.Int.{ints}
use Rattle.point_core.specs.Dates.{day_place, date_number, date_text, IsCalendarDate, first_day}
use Rattle.point_core.specs.Moments.{IsClock, clock_number, clock_text, moment_number, moment_text, first_second}
use Rattle.point_core.proofs.CalendarLemmas.{epoch_place}
use Rattle.utd_print.specs.Dates.{day_text}
use Rattle.utd_print.specs.Moments.{day_of_second, second_of_day, clock_of, second_text}
use Rattle.utd_print.proofs.DateLemmas.{day_text-known}

-- the clock that shows that second of the day
clock_of-known : (hour minute second : ℕ) → IsClock hour minute second → clock_of (clock_number hour minute second) ≡ clock_text hour minute second
unfolding clock_of
clock_of-known hour minute second clock =
    let k : ℕ = clock_number hour minute second in
    let h : k / 3600 ≡ hour = omega (arith, clock.0, clock.1, clock.2) in
    let m : k / 60 % 60 ≡ minute = omega (arith, clock.0, clock.1, clock.2) in
    let s : k % 60 ≡ second = omega (arith, clock.0, clock.1, clock.2) in
    λ i. clock_text (h i) (m i) (s i)

-- no date comes before the first day
date-late : (year month day : ℕ) → IsCalendarDate year month day → first_day ≤ℤ date_number year month day
unfolding date_number day_place
date-late year month day date = omega (arith, ints, epoch_place, date.4)

-- so many whole days since the first, and so many seconds
split : (d : ℤ) (k : ℕ) → first_day ≤ℤ d → k < 86400 → (day_of_second (d *ℤ pos 86400 +ℤ pos k) ≡ d) × (second_of_day (d *ℤ pos 86400 +ℤ pos k) ≡ k)
unfolding day_of_second second_of_day
split d k late few =
    let e : ℕ = unsigned_abs (d -ℤ first_day) in
    let whole : unsigned_abs (d *ℤ pos 86400 +ℤ pos k -ℤ first_second) ≡ e * 86400 + k = omega (arith, ints) in
    let days : unsigned_abs (d *ℤ pos 86400 +ℤ pos k -ℤ first_second) / 86400 ≡ e = omega (arith, whole) in
    let rest : unsigned_abs (d *ℤ pos 86400 +ℤ pos k -ℤ first_second) % 86400 ≡ k = omega (arith, whole) in
    (ap (λ n. first_day +ℤ pos n) days ∙ omega (arith, ints), rest)

clock-within : (hour minute second : ℕ) → IsClock hour minute second → clock_number hour minute second < 86400
clock-within hour minute second clock = omega (arith, clock.0, clock.1, clock.2)

-- the text of the moment that has the number
pub second_text-known : (n : ℤ) (year month day hour minute second : ℕ) → IsCalendarDate year month day → IsClock hour minute second
    → moment_number year month day hour minute second ≡ n → moment_text year month day hour minute second ≡ second_text n
unfolding second_text
second_text-known n year month day hour minute second date clock is =
    let parts = split (date_number year month day) (clock_number hour minute second) (date-late year month day date) (clock-within hour minute second clock) in
    let on : day_of_second n ≡ date_number year month day = ap (λ m. day_of_second m) (sym is) ∙ parts.0 in
    let at : second_of_day n ≡ clock_number hour minute second = ap (λ m. second_of_day m) (sym is) ∙ parts.1 in
    let front : date_text year month day ≡ day_text (day_of_second n) = day_text-known (day_of_second n) year month day date (sym on) in
    let back : clock_text hour minute second ≡ clock_of (second_of_day n) = sym (ap (λ k. clock_of k) at ∙ clock_of-known hour minute second clock) in
    ap₂ (λ (a b : List ℕ). a ++ 84 ∷ b) front back

-- the date, the letter and then the clock are written behind what was there
pub behind_date : (old dated marked date clock : List ℕ) → dated ≡ old ++ date → marked ≡ dated ++ 84 ∷ [] → marked ++ clock ≡ old ++ (date ++ 84 ∷ clock)
behind_date old dated marked date clock d m =
    ap (λ (l : List ℕ). l ++ clock) (m ∙ ap (λ (l : List ℕ). l ++ 84 ∷ []) d) ∙ append_assoc (old ++ date) (84 ∷ []) clock ∙ append_assoc old date (84 ∷ clock)

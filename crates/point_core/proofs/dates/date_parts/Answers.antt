use Rattle.std.proofs.Common.{◌≡◌, pos, ◌≤ℤ◌, unsigned_abs, refl, sym, ◌∙◌, rules, arith, w16, w32, w64, to_z, of_z}
use Rattle.std.proofs.lemmas.Int.{to_z-of_z, ints}
use Rattle.jiff_core.specs.Calendar.{IsEpochDay}
use Rattle.jiff_core.specs.Date.{epoch_day}
use Rattle.point_core.specs.Dates.{IsCalendarDate, date_number, IsDay}
use Rattle.point_core.proofs.CalendarLemmas.{known_date, year_from_1}
use Rattle.point_core.proofs.dates.date_parts.Goals as goal

-- the library's date has the number of the day
value : (c : goal.After-struct_told-2-1) → epoch_day c.unwrap-date.result ≡ c.args.day.number
value c =
    let same = rw c.unwrap-date.ensures at c.from_unix_epoch_day.ensures.value in
    let day : to_z w32 (of_z w32 c.args.day.number) ≡ c.args.day.number = to_z-of_z w32 _ (search rules) in
    let from : c.from.result ≡ c.args.day.number = c.from.ensures ∙ day in
    same ∙ to_z-of_z w64 c.from.result (search rules) ∙ from

positive : (c : goal.After-struct_told-2-1) → pos 1 ≤ℤ c.unwrap-date.result.year
positive c =
    let date = c.unwrap-date.result in
    year_from_1 date.year date.month date.day (date.year_in, date.month_in, date.day_in) (rw (value c) c.requires.0)

known : (c : goal.After-struct_told-2-1) → IsCalendarDate (unsigned_abs c.unwrap-date.result.year) c.unwrap-date.result.month c.unwrap-date.result.day
    × (c.args.day.number ≡ date_number (unsigned_abs c.unwrap-date.result.year) c.unwrap-date.result.month c.unwrap-date.result.day) × IsDay c.args.day.number
known c =
    let date = c.unwrap-date.result in
    let year : date.year ≡ pos (unsigned_abs date.year) = omega (arith, ints, positive c) in
    let range : IsEpochDay c.args.day.number = (omega (arith, ints, c.requires.0), c.requires.1) in
    known_date date.year date.month date.day (unsigned_abs date.year) date.month date.day c.args.day.number year refl refl (omega (arith, ints, positive c))
    (date.year_in, date.month_in, date.day_in) (sym (value c)) range

-- the year comes back from its bits
back : (c : goal.After-struct_told-2-1) → to_z w16 (of_z w16 c.unwrap-date.result.year) ≡ c.unwrap-date.result.year
back c = let in_range = c.unwrap-date.result.year_in in to_z-of_z w16 c.unwrap-date.result.year (search rules)

pub overflow_cast-result : goal.overflow_cast-result
overflow_cast-result c =
    let in_range = c.unwrap-date.result.year_in in
    let from_1 = positive c in
    rw (back c) (search rules, search rules)

pub returns-clause-date : goal.returns-clause-date
returns-clause-date c = rw (back c) (known c).0

pub returns-clause-number : goal.returns-clause-number
returns-clause-number c = rw (back c) (sym (known c).1)

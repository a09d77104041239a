use Rattle.std.proofs.Common.{◌≡◌, pos, unsigned_abs, refl, rules, ap, ◌∙◌, arith, w8, w16, w32, to_z, of_z}
use Rattle.std.proofs.lemmas.Int.{to_z_pos, to_z-of_z}
use Rattle.jiff_core.specs.Date.{epoch_day}
use Rattle.point_core.specs.Dates.{IsCalendarDate, date_number, IsDay}
use Rattle.point_core.proofs.CalendarLemmas.{known_date}
use Rattle.point_core.proofs.dates.day_of_date.Goals as goal

known : (c : goal.After-to_unix_epoch_day) → IsCalendarDate c.args.year c.args.month c.args.day
    × (c.to_unix_epoch_day.result ≡ date_number c.args.year c.args.month c.args.day) × IsDay c.to_unix_epoch_day.result
known c =
    let date = c.in-Ok.date in
    let ymd = c.in-Ok.ensures.value in
    let year : date.year ≡ pos c.args.year = ymd.0 ∙ to_z_pos w16 c.args.year (omega (arith, c.requires.year)) in
    let month : date.month ≡ c.args.month = ap unsigned_abs (ymd.1 ∙ to_z_pos w8 c.args.month (omega (arith, c.requires.month))) in
    let day : date.day ≡ c.args.day = ap unsigned_abs (ymd.2 ∙ to_z_pos w8 c.args.day (omega (arith, c.requires.day))) in
    let is = c.to_unix_epoch_day.ensures.value ∙ ap epoch_day c.to_plain.ensures in
    known_date date.year date.month date.day c.args.year c.args.month c.args.day c.to_unix_epoch_day.result year month day (omega (arith, c.if-year-lt1.false))
    (date.year_in, date.month_in, date.day_in) is c.to_unix_epoch_day.ensures.bound

-- the number comes back from its bits
back : (c : goal.After-to_unix_epoch_day) → to_z w32 (of_z w32 c.to_unix_epoch_day.result) ≡ c.to_unix_epoch_day.result
back c = to_z-of_z w32 c.to_unix_epoch_day.result (search rules)

pub returns-in-Ok-clause-exists : goal.returns-in-Ok-clause-exists
returns-in-Ok-clause-exists c = (λ _. (known c).0, λ _. refl)

pub returns-in-Ok-clause-number : goal.returns-in-Ok-clause-number
returns-in-Ok-clause-number c = back c ∙ (known c).1

pub returns-in-Ok-clause-point : goal.returns-in-Ok-clause-point
returns-in-Ok-clause-point c = rw (back c) (known c).2

use Rattle.std.proofs.Common.{rules, arith, ◌≡◌, ◌+◌, ◌*◌, length, refl, ap, ◌∙◌}
use Rattle.point_core.specs.Dates.{date_text}
use Rattle.point_core.proofs.DateTextLemmas.{text_from_bytes}
use Rattle.point_core.proofs.dates.read_date.Goals as goal

pub returns-clause-date : goal.returns-clause-date
returns-clause-date c =
    let long : length c.args.text.now ≡ 10 = omega (arith, c.in-45.len_at_least, c.in-45.len_below) in
    let h = c.in_ok-hundreds.ensures.number in
    let y = c.in_ok-years.ensures.number in
    let m = c.in_ok-month.ensures.number in
    let d = c.in_ok-day.ensures.number in
    let is = c.in_ok-found.ensures in
    let text = text_from_bytes c.args.text.now c.in_ok-hundreds.hundreds c.in_ok-years.years c.in_ok-month.month c.in_ok-day.day long y.0 (h.1, h.2) (y.1, y.2) (search rules) (m.1, m.2) (search rules) (d.1, d.2) in
    let year : 100 * c.in_ok-hundreds.hundreds + c.in_ok-years.years ≡ 100 * c.from.result + c.from-2.result = omega (arith, c.from.ensures, c.from-2.ensures) in
    (_, _, _, is.exists.0 refl, text ∙ ap (λ n. date_text n c.in_ok-month.month c.in_ok-day.day) year, is.number)

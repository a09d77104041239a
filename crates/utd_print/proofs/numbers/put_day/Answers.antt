use Rattle.std.proofs.Common.{◌≡◌, ◌++◌, OnOk, subst}
use Rattle.utd_print.proofs.DateLemmas.{day_text-known}
use Rattle.utd_print.proofs.numbers.put_day.Goals as goal

pub returns : goal.returns
returns c =
    let year = c.date_parts-year.result in
    subst (λ text. OnOk c.put_date.result (c.put_date.new.out.items ≡ c.args.out.now.items ++ text))
    (day_text-known c.args.day.number year.0 year.1 year.2 c.date_parts-year.ensures.date c.date_parts-year.ensures.number) c.put_date.ensures

use Rattle.std.proofs.Common.{refl, subst}
use Rattle.point_core.specs.Dates.{IsDateText}
use Rattle.plain_rows.proofs.IntegerLemmas.{dated}
use Rattle.plain_rows.proofs.dates.date.Goals as goal

pub past_word-requires : goal.past_word-requires
past_word-requires c = refl

pub returns-clause-date : goal.returns-clause-date
returns-clause-date c = dated _ _ _ _ _ _ c.in_ok-behind.ensures c.past_space-quote.ensures c.in_ok-written.ensures (subst (λ z. IsDateText z c.in_ok-day.day.number) c.as_bytes.ensures.value c.in_ok-day.ensures.date)

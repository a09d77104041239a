use Rattle.std.proofs.Common.{refl, subst}
use Rattle.point_core.specs.Moments.{IsMomentText}
use Rattle.plain_rows.proofs.IntegerLemmas.{timed}
use Rattle.plain_rows.proofs.dates.moment.Goals as goal

pub past_word-requires : goal.past_word-requires
past_word-requires c = refl

pub returns-clause-moment : goal.returns-clause-moment
returns-clause-moment c = timed _ _ _ _ _ _ c.in_ok-behind.ensures c.past_space-quote.ensures c.in_ok-written.ensures (subst (λ z. IsMomentText z c.in_ok-second.second.number) c.as_bytes.ensures.value c.in_ok-second.ensures.moment)

use Rattle.std.proofs.Common.{refl, sym, subst}
use Rattle.point_core.specs.Dates.{IsDateText}
use Rattle.point_core.specs.Moments.{IsClockText}
use Rattle.point_core.proofs.MomentTextLemmas.{date_in, clock_in, behind_mark}
use Rattle.point_core.proofs.moments.read_moment.Goals as goal

pub returns-in_err-day-clause-none : goal.returns-in_err-day-clause-none
returns-in_err-day-clause-none c _ n text =
    let (day, is) = date_in c.args.text.now n text in
    c.in_err-day.ensures.none refl day (subst (λ t. IsDateText t day) (sym c.split_at.ensures.front) is)

pub returns-in_err-seconds-clause-none : goal.returns-in_err-seconds-clause-none
returns-in_err-seconds-clause-none c _ n text =
    let (seconds, is) = clock_in c.args.text.now n text in
    c.in_err-seconds.ensures.none refl seconds (subst (λ t. IsClockText t seconds) (sym (behind_mark c.args.text.now c.split_at.result.1.now c.in_ok-mark.mark.now c.in_ok-mark.clock.now c.split_at.ensures.back c.in_ok-mark.ensures.cases)) is)

use Rattle.std.proofs.Common.{◌≡◌, ◌++◌, OnOk, ap, ◌∙◌, subst}
use Rattle.point_core.specs.Dates.{date_text}
use Rattle.point_core.specs.Moments.{clock_text}
use Rattle.utd_print.proofs.MomentLemmas.{behind_date, second_text-known}
use Rattle.utd_print.proofs.numbers.put_moment.Goals as goal

pub returns : goal.returns
returns c =
    let m = c.moment_parts-year.result in
    let text = second_text-known c.args.moment.number m.0 m.1 m.2 m.3 m.4 m.5
    c.moment_parts-year.ensures.parts.0 c.moment_parts-year.ensures.parts.1
    c.moment_parts-year.ensures.number in
    let joined = behind_date c.args.out.now.items c.put_date.new.out.items c.push.new.self.items (date_text m.0 m.1 m.2) (clock_text m.3 m.4 m.5) c.in_ok-put_date.ensures c.in_ok-push.ensures.items in
    subst (λ bytes. OnOk c.put_clock.result (c.put_clock.new.out.items ≡ bytes)) (joined ∙ ap (λ bytes. c.args.out.now.items ++ bytes) text) c.put_clock.ensures

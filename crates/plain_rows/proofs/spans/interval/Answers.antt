use Rattle.std.proofs.Common.{◌≡◌, Ok, subst}
use Rattle.point_core.specs.Points.{number, first_of, last_of}
use Rattle.interval_core.specs.Members.{span}
use Rattle.interval_core.specs.Selector.{selected}
use Rattle.plain_rows.proofs.IntervalLemmas.{interval}
use Rattle.plain_rows.proofs.spans.interval.Goals as goal

pub returns-clause-begins : goal.returns-clause-begins
returns-clause-begins c =
    let found = subst (λ z. selected (first_of c.args.of) (last_of c.args.of) z (number c.in_ok-b.b) (number c.in_ok-e.e) ≡ Ok (span number c.in_ok-found.found)) c.brackets_of.ensures c.in_ok-found.ensures.selects in
    interval _ _ _ _ _ _ _ _ _ _ _ _ _ _ _ c.in_ok-begin.ensures c.past_space-first.ensures c.in_ok-b.ensures.begins c.past_space-middle.ensures c.in_ok-parted.ensures c.past_space-second.ensures c.in_ok-e.ensures.begins _ c.past_space-last.ensures c.in_ok-end.ensures found

use Rattle.std.proofs.Common.{◌∙◌, ap, false}
use Rattle.value_core.specs.declared.constraint.HistoryRule.{HistoryRule}
use Rattle.u_constraints.proofs.HistoryLemmas.{over_at, told_of_rows}
use Rattle.u_constraints.proofs.histories.is_overrun.Goals as goal

pub sorted_ends-requires-clause-interval : goal.sorted_ends-requires-clause-interval
sorted_ends-requires-clause-interval c = over_at _ _ _ _ (ap (λ (h : HistoryRule). h.span_here) c.rule.view_is) c.requires.8

pub returns-clause-answer : goal.returns-clause-answer
returns-clause-answer c =
    told_of_rows _ _ _ _ _ _ _ _ false c.args.of.now.rows c.args.other.now.rows _ _ _ _ _
    (c.as_slice-here.ensures.value ∙ ap (λ (h : HistoryRule). h.key_here) c.rule.view_is)
    (c.as_slice-there.ensures.value ∙ ap (λ (h : HistoryRule). h.key_there) c.rule.view_is)
    (ap (λ (h : HistoryRule). h.span_here) c.rule.view_is)
    (ap (λ (h : HistoryRule). h.point_there) c.rule.view_is)
    c.in_ok-ends.ensures.hashes c.in_ok-begins.ensures.hashes c.as_slice.ensures.value c.as_slice-2.ensures.value c.is_any_reached.ensures

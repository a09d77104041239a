use Rattle.std.proofs.Common.{◌≡◌, ◌++◌, OnOk, ap, ◌∙◌, subst}
use Rattle.point_core.specs.Points.{line, number}
use Rattle.utd_print.specs.Tables.{point_text, interval_text}
use Rattle.utd_print.proofs.IntervalLemmas.{text_by_ends}
use Rattle.utd_print.proofs.values.put_interval.Goals as goal

pub returns : goal.returns
returns c =
    let types = c.args.types.now in
    let begin = ap (λ p. point_text types (line p) (number p)) c.begin.ensures.point in
    let end = ap (λ p. point_text types (line p) (number p)) c.end.ensures.point in
    let text = ap (λ t. interval_text t (point_text types (line c.end.result) (number c.end.result))) begin
    ∙ ap (λ t. interval_text (point_text types (line c.args.interval.now.0) (number c.args.interval.now.0)) t) end
    ∙ text_by_ends types c.args.interval.now c.requires in
    subst (λ bytes. OnOk c.put_ends.result (c.put_ends.new.out.items ≡ bytes)) (ap (λ bytes. c.args.out.now.items ++ bytes) text) c.put_ends.ensures

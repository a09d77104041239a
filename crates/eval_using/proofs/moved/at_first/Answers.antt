use Rattle.std.proofs.Common.{◌≡◌, ap, sym, ◌∙◌, subst}
use Rattle.point_core.specs.Points.{number, IsPointOf}
use Rattle.point_core.specs.declared.any_type.AnyPoint.{AnyPoint}
use Rattle.value_core.specs.Attributes.{put_span}
use Rattle.relation_core.specs.Parts.{kind_at}
use Rattle.cell_core.specs.Numbering.{numbers_of}
use Rattle.interval_core.specs.Members.{at_point}
use Rattle.u_set.specs.Boxes.{type_of}
use Rattle.eval_using.proofs.MovedLemmas.{moved_within, moved_line, moved_put}
use Rattle.eval_using.proofs.moved.at_first.Goals as goal

pub with_interval-requires-clause-within : goal.with_interval-requires-clause-within
with_interval-requires-clause-within c =
    let w = c.requires in
    moved_within w.0 c.args.at w.1 c.args.row w.2 w.3 w.4

pub with_interval-requires-clause-first : goal.with_interval-requires-clause-first
with_interval-requires-clause-first c =
    let w = c.requires in
    let same : c.of.result.0 ≡ c.args.part.now.0 = ap (λ (x : AnyPoint × AnyPoint). x.0) c.of.ensures ∙ c.begin-p.ensures.point in
    moved_line w.0 c.args.at w.1 c.args.row w.2 w.3 w.4 c.of.result.0 (subst (IsPointOf (type_of (kind_at w.0 c.args.at))) (sym same) w.5.0)

pub returns : goal.returns
returns c = λ own m.
    let p = c.args.part.now.0 in
    let is : c.of.result ≡ (p, p) = c.of.ensures ∙ (λ t. (c.begin-p.ensures.point t, c.begin-p.ensures.point t)) in
    c.with_interval.ensures.row ∙ ap (λ x. put_span c.args.row c.args.at (numbers_of number x)) is ∙ moved_put c.args.at own c.args.row m (at_point (number p))

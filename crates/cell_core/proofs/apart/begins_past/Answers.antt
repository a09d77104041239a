use Rattle.std.proofs.Common.{◌≡◌, ◌+ℤ◌, ◌<ℤ◌, pos, sym, subst}
use Rattle.interval_core.specs.Members.{Span}
use Rattle.cell_core.specs.Apart.{first_side}
use Rattle.cell_core.specs.Cells.{row_numbers}
use Rattle.cell_core.proofs.ApartLemmas.{one_box, first_is}
use Rattle.cell_core.proofs.apart.begins_past.Goals as goal

pub ends_of-before-requires : goal.ends_of-before-requires
ends_of-before-requires g c = (one_box g.T.PointType.IsPoint c.args.t.now c.args.x.now.1 c.requires.x).0

pub ends_of-next-requires : goal.ends_of-next-requires
ends_of-next-requires g c = (one_box g.T.PointType.IsPoint c.args.t.now c.args.y.now.1 c.requires.y).0

pub is_past-requires-clause-end : goal.is_past-requires-clause-end
is_past-requires-clause-end g c =
    let e = c.ends_of-before.result in
    subst (λ p. g.T.PointType.IsPoint c.args.t.now p.1) (sym (c.ends_of-before.ensures.ends e)) ((one_box g.T.PointType.IsPoint c.args.t.now c.args.x.now.1 c.requires.x).1 e).1

pub is_past-requires-clause-begin : goal.is_past-requires-clause-begin
is_past-requires-clause-begin g c =
    let e = c.ends_of-next.result in
    subst (λ p. g.T.PointType.IsPoint c.args.t.now p.0) (sym (c.ends_of-next.ensures.ends e)) ((one_box g.T.PointType.IsPoint c.args.t.now c.args.y.now.1 c.requires.y).1 e).0

pub returns-clause-answer : goal.returns-clause-answer
returns-clause-answer g c = λ t.
    let n = g.T.PointType.number_of in
    let x = first_is n c.args.x.now.1 c.ends_of-before.result (one_box g.T.PointType.IsPoint c.args.t.now c.args.x.now.1 c.requires.x).0 c.ends_of-before.ensures.ends in
    let y = first_is n c.args.y.now.1 c.ends_of-next.result (one_box g.T.PointType.IsPoint c.args.t.now c.args.y.now.1 c.requires.y).0 c.ends_of-next.ensures.ends in
    subst (λ (z : Span). (z.1 +ℤ pos 1) <ℤ (first_side (row_numbers n c.args.y.now)).0) (sym x) (subst (λ (z : Span). (n c.ends_of-before.result.1 +ℤ pos 1) <ℤ z.0) (sym y) (c.is_past.ensures.answer t))

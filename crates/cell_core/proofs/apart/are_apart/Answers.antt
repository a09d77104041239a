use Rattle.std.proofs.Common.{◌≡◌, ◌≤◌, ◌+◌, ◌*◌, [], ◌∷◌, length, arith, subst}
use Rattle.cell_core.specs.Boxes.{IsBox}
use Rattle.cell_core.specs.Cells.{row_numbers}
use Rattle.cell_core.proofs.OrderLemmas.{boxed_total, boxed_separates}
use Rattle.cell_core.proofs.ApartLemmas.{moved_all, moved_count, whole_packed}
use Rattle.cell_core.proofs.apart.are_apart.Goals as goal

pub stand_apart-requires : goal.stand_apart-requires
stand_apart-requires g c =
    moved_all (λ r. IsBox g.T.PointType.IsPoint (c.args.t.now ∷ []) r.1) (λ r. r.now) c.args.rows.now c.in_ok-list.list.items c.as_slice.result.now c.as_slice.ensures.value c.in_ok-list.ensures c.requires

pub returns-clause-answer : goal.returns-clause-answer
returns-clause-answer g c = λ t.
    whole_packed g.P.Label.order g.met.P.Label.total (boxed_total g.met.P.Label.total) (boxed_separates g.met.P.Label.separates) (λ r. r.now) (row_numbers g.T.PointType.number_of) c.args.rows.now c.in_ok-list.list.items c.as_slice.result.now c.as_slice.ensures.value c.in_ok-list.ensures (c.stand_apart.ensures.answer t)

pub returns-clause-cost : goal.returns-clause-cost
returns-clause-cost g c =
    let e : length c.as_slice.result.now ≡ length c.args.rows.now = moved_count (λ r. r.now) c.args.rows.now c.in_ok-list.list.items c.as_slice.result.now c.as_slice.ensures.value c.in_ok-list.ensures in
    subst (λ n. c.stand_apart.new.steps ≤ c.args.steps.now + 2 * n) e c.stand_apart.ensures.cost

use Rattle.std.proofs.Common.{ap}
use Rattle.cell_core.proofs.Gather.{row_within, side_read}
use Rattle.cell_core.proofs.row_sides.row_ends.Goals as goal

pub ends_at-requires : goal.ends_at-requires
ends_at-requires g c = row_within c.args.side c.args.rows.now c.args.r c.index-rows-r.result c.row.inside.sides c.requires.sides c.requires.within c.index-rows-r.is (ap (λ x. x.1) c.row.view_is)

pub returns : goal.returns
returns g c = λ d. side_read c.args.side d c.args.rows.now c.args.r c.index-rows-r.result c.row.inside.sides c.ends_at.result c.requires.within c.index-rows-r.is (ap (λ x. x.1) c.row.view_is) (c.ends_at.ensures d)

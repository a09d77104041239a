use Rattle.eval_using.proofs.CellRowLemmas.{side_below, has_span, fits_there}
use Rattle.eval_using.proofs.conditions.ConditionRowRuleAnyType.cuts.Goals as goal

pub cuts-requires-clause-side : goal.cuts-requires-clause-side
cuts-requires-clause-side c =
    let rule = c.args.self.now in
    side_below rule.commalist.now rule.rows.now rule.boxes.now c.args.row c.requires.can.boxed c.args.side c.requires.side

pub cuts-requires-clause-interval : goal.cuts-requires-clause-interval
cuts-requires-clause-interval c =
    let rule = c.args.self.now in
    has_span rule.commalist.now rule.rows.now rule.boxes.now c.args.row c.requires.can.boxed c.args.side c.index-self-row.result c.requires.side

pub returns-clause-points : goal.returns-clause-points
returns-clause-points c =
    let rule = c.args.self.now in
    λ t d ends. c.in_ok-points.ensures.points t
    (fits_there rule.commalist.now rule.rows.now rule.boxes.now c.args.row c.requires.can.boxed t c.args.side d c.index-self-row.result c.requires.side ends)

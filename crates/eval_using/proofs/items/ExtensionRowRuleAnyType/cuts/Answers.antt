use Rattle.std.proofs.Common.{get_or, ap, ◌∙◌}
use Rattle.std.specs.Prelude.{slice_index}
use Rattle.value_core.specs.Values.{Row}
use Rattle.tree_core.specs.Trees.{read_sets}
use Rattle.eval_using.specs.Cells.{scalars_of, cuts_of_all}
use Rattle.eval_using.proofs.CellRowLemmas.{side_below, has_span, fits_there, own_row, own_is}
use Rattle.eval_using.proofs.items.ExtensionRowRuleAnyType.cuts.Goals as goal

pub item_cuts-requires-clause-typed : goal.item_cuts-requires-clause-typed
item_cuts-requires-clause-typed c =
    let rule = c.args.self.now in
    let h = c.requires.can in
    h.items.typed (get_or rule.rows.now c.args.row c.index-self-row.result) (own_row rule.items.commalist.now rule.rows.now rule.boxes.now c.args.row h.boxed c.index-self-row.result)

pub item_cuts-requires-clause-sweepable : goal.item_cuts-requires-clause-sweepable
item_cuts-requires-clause-sweepable c = c.requires.can.items.sweepable

pub item_cuts-requires-clause-side : goal.item_cuts-requires-clause-side
item_cuts-requires-clause-side c =
    let rule = c.args.self.now in
    side_below rule.items.commalist.now rule.rows.now rule.boxes.now c.args.row c.requires.can.boxed c.args.side c.requires.side

pub item_cuts-requires-clause-interval : goal.item_cuts-requires-clause-interval
item_cuts-requires-clause-interval c =
    let rule = c.args.self.now in
    has_span rule.items.commalist.now rule.rows.now rule.boxes.now c.args.row c.requires.can.boxed c.args.side c.index-self-row.result c.requires.side

pub returns-clause-cuts : goal.returns-clause-cuts
returns-clause-cuts c =
    let rule = c.args.self.now in
    let a = slice_index rule.items.commalist.now c.args.side in
    c.in_ok-points.ensures.cuts
    ∙ ap (λ (x : Row). cuts_of_all rule.items.commalist.now (scalars_of (read_sets rule.items.sets.now)) x a) (own_is rule.items.commalist.now rule.rows.now rule.boxes.now c.args.row c.requires.can.boxed c.index-self-row.result)

pub returns-clause-points : goal.returns-clause-points
returns-clause-points c =
    let rule = c.args.self.now in
    λ t d ends.
    c.in_ok-points.ensures.points t (fits_there rule.items.commalist.now rule.rows.now rule.boxes.now c.args.row c.requires.can.boxed t c.args.side d c.index-self-row.result c.requires.side ends)

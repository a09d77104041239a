use Rattle.std.proofs.Common.{rules}
use Rattle.std.specs.Int.{w64}
use mir.Val.{SFits}
use Rattle.cell_boxes.proofs.TotalLemmas.{count_room, enter_room, entered_total}
use Rattle.cell_boxes.proofs.total.TotalsTally.enter.Goals as goal

pub with-requires-clause-count : goal.with-requires-clause-count
with-requires-clause-count g c = let r = c.requires in count_room c.args.self.now.values.items c.args.state.count c.args.state.sum r.0 c.args.row r.1 r.2 r.3

pub with-requires-clause-least : goal.with-requires-clause-least
with-requires-clause-least g c =
    let r = c.requires in
    let v = c.index-value.result.now in
    let fits : SFits w64 v = search rules in
    (enter_room c.args.self.now.values.items c.args.state.count c.args.state.sum r.0 c.args.row r.1 r.2 v fits c.index-value.ensures r.3).0

pub with-requires-clause-most : goal.with-requires-clause-most
with-requires-clause-most g c =
    let r = c.requires in
    let v = c.index-value.result.now in
    let fits : SFits w64 v = search rules in
    (enter_room c.args.self.now.values.items c.args.state.count c.args.state.sum r.0 c.args.row r.1 r.2 v fits c.index-value.ensures r.3).1

pub returns : goal.returns
returns g c = λ f is l h.
    let v = c.index-value.result.now in
    let fits : SFits w64 v = search rules in
    entered_total c.args.self.now.values.items c.args.state.count c.args.state.sum f c.args.row is l v fits c.index-value.ensures h c.with.result.count c.with.result.sum c.with.ensures.count c.with.ensures.sum

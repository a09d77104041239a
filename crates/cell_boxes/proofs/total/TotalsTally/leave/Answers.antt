use Rattle.std.proofs.Common.{rules}
use Rattle.std.specs.Int.{w64}
use mir.Val.{SFits}
use Rattle.cell_boxes.proofs.TotalLemmas.{count_some, leave_room, left_total}
use Rattle.cell_boxes.proofs.total.TotalsTally.leave.Goals as goal

pub without-requires-clause-count : goal.without-requires-clause-count
without-requires-clause-count g c = let r = c.requires in count_some c.args.self.now.values.items c.args.state.count c.args.state.sum r.0 c.args.row r.1 r.2 r.3

pub without-requires-clause-least : goal.without-requires-clause-least
without-requires-clause-least g c =
    let r = c.requires in
    let v = c.index-value.result.now in
    let fits : SFits w64 v = search rules in
    (leave_room c.args.self.now.values.items c.args.state.count c.args.state.sum r.0 c.args.row r.1 r.2 v fits c.index-value.ensures r.3).0

pub without-requires-clause-most : goal.without-requires-clause-most
without-requires-clause-most g c =
    let r = c.requires in
    let v = c.index-value.result.now in
    let fits : SFits w64 v = search rules in
    (leave_room c.args.self.now.values.items c.args.state.count c.args.state.sum r.0 c.args.row r.1 r.2 v fits c.index-value.ensures r.3).1

pub returns : goal.returns
returns g c = λ f is l h.
    let v = c.index-value.result.now in
    let fits : SFits w64 v = search rules in
    left_total c.args.self.now.values.items c.args.state.count c.args.state.sum f c.args.row is l v fits c.index-value.ensures h c.without.result.count c.without.result.sum c.without.ensures.count c.without.ensures.sum

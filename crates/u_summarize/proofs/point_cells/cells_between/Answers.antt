use Rattle.std.proofs.Common.{FitsSigned, w64, rules, arith}
use Rattle.std.proofs.lemmas.Int.{ints}
use Rattle.u_summarize.proofs.PointCellLemmas.{pair_is}
use Rattle.u_summarize.proofs.point_cells.cells_between.Goals as goal

pub overflow_cast-result-2 : goal.overflow_cast-result-2
overflow_cast-result-2 c =
    let first : FitsSigned w64 c.args.first = search rules in
    let last : FitsSigned w64 c.args.ends.1 = search rules in
    let a = c.from-before.ensures in
    let b = c.from-2.ensures in
    let low = c.requires.low in
    let ordered = c.requires.ordered in
    let few = c.requires.few in
    grind (arith, ints)

pub returns : goal.returns
returns c =
    let first : FitsSigned w64 c.args.first = search rules in
    let begin : FitsSigned w64 c.args.ends.0 = search rules in
    let end : FitsSigned w64 c.args.ends.1 = search rules in
    let a = c.from-before.ensures in
    let d = c.from.ensures in
    let b = c.from-2.ensures in
    let low = c.requires.low in
    let ordered = c.requires.ordered in
    pair_is (omega (arith, ints)) (omega (arith, ints))

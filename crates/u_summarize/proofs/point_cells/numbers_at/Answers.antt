use Rattle.std.proofs.Common.{FitsSigned, w64, rules, arith}
use Rattle.std.proofs.lemmas.Int.{ints}
use Rattle.u_summarize.proofs.PointCellLemmas.{pair_is}
use Rattle.u_summarize.proofs.point_cells.numbers_at.Goals as goal

pub returns : goal.returns
returns c =
    let first : FitsSigned w64 c.args.all.0 = search rules in
    let last : FitsSigned w64 c.args.all.1 = search rules in
    let a = c.from-before.ensures in
    let some = c.requires.some in
    let within = c.requires.within in
    pair_is (omega (arith, ints)) (omega (arith, ints))

use Rattle.std.proofs.Common.{◌<◌, length, arith}
use Rattle.u_constraints.proofs.MarkLemmas.{none_marked, marks_more}
use Rattle.u_constraints.proofs.marks.marks_for.Goals as goal

pub returns-then-hashes-le-FEW_SOUGHT : goal.returns-then-hashes-le-FEW_SOUGHT
returns-then-hashes-le-FEW_SOUGHT c = none_marked c.new.result.items c.args.hashes.now c.new.ensures.items

pub loop-hash-preserved : goal.loop-hash-preserved
loop-hash-preserved c =
    let within : c.loop-hash.hash-index < length c.args.hashes.now = omega arith in
    marks_more c.args.hashes.now c.loop-hash.hash-index c.loop-hash.marks.items c.set_mark.new.marks.items within c.loop-hash.invariant c.set_mark.ensures.own c.set_mark.ensures.others

-- The ends tell what the members tell.
use Rattle.std.proofs.Common.{arith}
use Rattle.std.proofs.lemmas.Int.{ints, clamps}
use Rattle.std.proofs.lemmas.Bool.{both_ways}
use Rattle.interval_core.proofs.OperatorLemmas.{intersect_some, intersect_none}
use Rattle.interval_core.proofs.operators.ends_of_common.Goals as goal

pub returns-then-do_overlap-clause-members : goal.returns-then-do_overlap-clause-members
returns-then-do_overlap-clause-members c =
    let near = c.do_overlap.ensures.0 c.if-do_overlap.true in
    let a = near.0 in let b = near.1 in
    intersect_some c.args.i c.args.j _ _ c.requires.i c.requires.j (omega (arith, ints)) (omega (arith, ints)) (omega (arith, ints, clamps)) (omega (arith, ints, clamps))

pub returns-then-do_overlap-clause-ends : goal.returns-then-do_overlap-clause-ends
returns-then-do_overlap-clause-ends c =
    let near = c.do_overlap.ensures.0 c.if-do_overlap.true in
    let a = near.0 in let b = near.1 in
    (omega (arith, ints, clamps), omega (arith, ints, clamps), omega (arith, ints, clamps))

pub returns-else-do_overlap-clause-members : goal.returns-else-do_overlap-clause-members
returns-else-do_overlap-clause-members c =
    intersect_none c.args.i c.args.j (λ u v. both_ways c.do_overlap.result c.if-do_overlap.false (c.do_overlap.ensures.1 (omega (arith, ints), omega (arith, ints))))

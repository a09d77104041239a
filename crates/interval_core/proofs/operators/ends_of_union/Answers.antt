-- The ends tell what the members tell.
use Rattle.std.proofs.Common.{arith}
use Rattle.std.proofs.lemmas.Int.{ints, clamps}
use Rattle.std.proofs.lemmas.Bool.{both_ways}
use Rattle.interval_core.proofs.OperatorLemmas.{union_some, union_none}
use Rattle.interval_core.proofs.operators.ends_of_union.Goals as goal

pub returns-then-do_merge-clause-members : goal.returns-then-do_merge-clause-members
returns-then-do_merge-clause-members c =
    let near = c.do_merge.ensures.0 c.if-do_merge.true in
    let a = near.0 in let b = near.1 in
    union_some c.args.i c.args.j _ _ c.requires.i c.requires.j (omega (arith, ints)) (omega (arith, ints)) (omega (arith, ints, clamps)) (omega (arith, ints, clamps))

pub returns-then-do_merge-clause-ends : goal.returns-then-do_merge-clause-ends
returns-then-do_merge-clause-ends c =
    let near = c.do_merge.ensures.0 c.if-do_merge.true in
    let a = near.0 in let b = near.1 in
    (omega (arith, ints, clamps), omega (arith, ints, clamps), omega (arith, ints, clamps))

pub returns-else-do_merge-clause-members : goal.returns-else-do_merge-clause-members
returns-else-do_merge-clause-members c =
    union_none c.args.i c.args.j c.requires.i c.requires.j (λ u v. both_ways c.do_merge.result c.if-do_merge.false (c.do_merge.ensures.1 (omega (arith, ints), omega (arith, ints))))

-- The ends tell what the members tell.
use Rattle.std.proofs.Common.{arith}
use Rattle.std.proofs.lemmas.Int.{ints, clamps}
use Rattle.std.proofs.lemmas.Bool.{both_ways}
use Rattle.interval_core.proofs.OperatorLemmas.{minus_whole, minus_first_part, minus_last_part, minus_none_inside, minus_none_over}
use Rattle.interval_core.proofs.operators.ends_of_rest.Goals as goal

pub returns-then-not-do_overlap-clause-members : goal.returns-then-not-do_overlap-clause-members
returns-then-not-do_overlap-clause-members c =
    minus_whole c.args.i c.args.j c.requires.i (λ u v. both_ways c.do_overlap.result c.if-not-do_overlap.true (c.do_overlap.ensures.1 (omega (arith, ints), omega (arith, ints))))

pub returns-then-i-j-2-clause-members : goal.returns-then-i-j-2-clause-members
returns-then-i-j-2-clause-members c =
    let near = c.do_overlap.ensures.0 c.if-not-do_overlap.false in
    let a = near.0 in let b = near.1 in
    minus_first_part c.args.i c.args.j _ _ (omega (arith, ints)) (omega (arith, ints)) (omega (arith, ints)) (omega (arith, ints)) (omega (arith, ints))

pub returns-then-i-j-2-clause-ends : goal.returns-then-i-j-2-clause-ends
returns-then-i-j-2-clause-ends c =
    let near = c.do_overlap.ensures.0 c.if-not-do_overlap.false in
    let a = near.0 in let b = near.1 in
    (omega (arith, ints, clamps), omega (arith, ints), omega (arith, ints, clamps))

pub returns-else-i-j-2-clause-members : goal.returns-else-i-j-2-clause-members
returns-else-i-j-2-clause-members c =
    let near = c.do_overlap.ensures.0 c.if-not-do_overlap.false in
    let a = near.0 in let b = near.1 in
    minus_none_inside c.args.i c.args.j c.requires.j (omega (arith, ints)) (omega (arith, ints))

pub returns-then-j-i-clause-members : goal.returns-then-j-i-clause-members
returns-then-j-i-clause-members c =
    let near = c.do_overlap.ensures.0 c.if-not-do_overlap.false in
    let a = near.0 in let b = near.1 in
    minus_last_part c.args.i c.args.j _ _ (omega (arith, ints)) (omega (arith, ints)) (omega (arith, ints)) (omega (arith, ints)) (omega (arith, ints))

pub returns-then-j-i-clause-ends : goal.returns-then-j-i-clause-ends
returns-then-j-i-clause-ends c =
    let near = c.do_overlap.ensures.0 c.if-not-do_overlap.false in
    let a = near.0 in let b = near.1 in
    (omega (arith, ints, clamps), omega (arith, ints), omega (arith, ints, clamps))

pub returns-else-j-i-clause-members : goal.returns-else-j-i-clause-members
returns-else-j-i-clause-members c =
    let near = c.do_overlap.ensures.0 c.if-not-do_overlap.false in
    let a = near.0 in let b = near.1 in
    minus_none_over c.args.i c.args.j (omega (arith, ints)) (omega (arith, ints))

use Rattle.meaning_core.proofs.IntervalLemmas.{intervals_of_list}
use Rattle.u_constraints.proofs.PackedLemmas.{packed_already}
use Rattle.u_constraints.proofs.packed.is_packed.Goals as goal

pub is_apart-requires : goal.is_apart-requires
is_apart-requires g c = intervals_of_list c.args.r.now.heading c.args.commalist.now c.requires

pub returns-then-branch-clause-answer : goal.returns-then-branch-clause-answer
returns-then-branch-clause-answer g c = packed_already c.args.commalist.now c.args.r.now.rows (c.in_ok-is_apart.ensures c.if-branch.true)

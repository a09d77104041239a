use Rattle.std.proofs.Common.{◌∙◌, length, rules}
use Rattle.std.proofs.lemmas.Bool.{le-ltb}
use Rattle.u_constraints.proofs.HashLemmas.{found, none_left, first_tells}
use Rattle.u_constraints.proofs.hashes.is_reached.Goals as goal

pub returns-in-Ok : goal.returns-in-Ok
returns-in-Ok c = found c.args.ends.now c.args.begin.now c.in-Ok.field-0 c.in-Ok.ensures.bound c.in-Ok.ensures.position

pub returns-then-at-ends : goal.returns-then-at-ends
returns-then-at-ends c =
    first_tells c.args.ends.now c.args.begin.now c.requires c.in-Err.at c.in-Err.ensures.position c.if-at-ends.true c.index-ends-at.result c.index-ends-at.is c.eq.result (search rules)

pub returns-else-at-ends : goal.returns-else-at-ends
returns-else-at-ends c =
    le-ltb c.in-Err.at (length c.args.ends.now) c.if-at-ends.false ∙ none_left c.args.ends.now c.args.begin.now c.requires c.in-Err.at c.in-Err.ensures.position c.if-at-ends.false

use Rattle.std.proofs.Common.{◌∙◌}
use Rattle.u_constraints.proofs.CounterpartLemmas.{counterpart_next}
use Rattle.u_constraints.proofs.references.counterpart.Goals as goal

pub loop-at-preserved : goal.loop-at-preserved
loop-at-preserved c =
    counterpart_next c.args.here.now c.args.there.now c.loop-at.at c.args.position c.loop-at-test.true c.requires c.if-own-position.false ∙ c.loop-at.invariant

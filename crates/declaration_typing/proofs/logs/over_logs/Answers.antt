use Rattle.std.proofs.Common.{map}
use Rattle.declaration_typing.proofs.OverLemmas.{over-told}
use Rattle.declaration_typing.proofs.logs.over_logs.Goals as goal

pub returns : goal.returns
returns c = over-told (map (λ n. n.now) c.loop-name.names.items) c.loop-name.name-iterator c.args.relvars.now.list.entries c.names_differ.ensures c.in-None.ensures.steps.0 c.loop-name.invariant.2

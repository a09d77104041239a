use Rattle.std.proofs.Common.{[]}
use Rattle.plain_rows.proofs.BeginLemmas.{begins-nothing, begins-then}
use Rattle.plain_rows.proofs.scan.past_space.Goals as goal

pub space-init : goal.space-init
space-init c = begins-nothing c.args.text.now

pub space-preserved : goal.space-preserved
space-preserved c = begins-then _ _ _ [] [] c.space.invariant c.in-Some.ensures.begins

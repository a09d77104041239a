use Rattle.meaning_core.proofs.LookupLemmas.{heading_read}
use Rattle.node_typing.proofs.trees.heading.Goals as goal

pub returns : goal.returns
returns c = heading_read c.args.t.now

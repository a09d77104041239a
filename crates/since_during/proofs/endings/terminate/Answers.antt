use Rattle.tree_core.specs.Relvars.{read_relvars}
use Rattle.since_during.proofs.JoinableLemmas.{joinable}
use Rattle.since_during.proofs.endings.terminate.Goals as goal

pub ended_in-requires : goal.ended_in-requires
ended_in-requires c = joinable (read_relvars c.args.relvars.now) c.requires.made c.args.item.now.target

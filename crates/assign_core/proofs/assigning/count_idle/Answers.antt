use Rattle.tree_core.specs.Relvars.{read_relvars}
use Rattle.assign_core.proofs.LogLemmas.{none_ready}
use Rattle.assign_core.proofs.assigning.count_idle.Goals as goal

pub count-requires-clause-next : goal.count-requires-clause-next
count-requires-clause-next c =
    let s = read_relvars c.args.relvars.now in
    none_ready s.accepted s.relvars s.relvars c.requires.step

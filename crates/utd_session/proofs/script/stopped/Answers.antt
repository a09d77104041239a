use Rattle.std.proofs.Common.{refl}
use Rattle.utd_session.proofs.script.stopped.Goals as goal

pub returns-clause-early : goal.returns-clause-early
returns-clause-early c = (refl, c.status_of_fault.ensures.early)

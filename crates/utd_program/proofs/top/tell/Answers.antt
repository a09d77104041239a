use Rattle.utd_session.proofs.RunLemmas.{either}
use Rattle.utd_program.proofs.top.tell.Goals as goal

pub returns : goal.returns
returns g c = rw (← c.line.ensures) (either c.write_all.result _ _ _ c.write_all.ensures.bytes c.write_all.ensures.failed c.write_all.ensures.cause)

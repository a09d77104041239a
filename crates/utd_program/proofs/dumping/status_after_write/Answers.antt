use Rattle.std.proofs.Common.{inl, inr, refl}
use Rattle.utd_program.proofs.dumping.status_after_write.Goals as goal

pub returns-in-Ok : goal.returns-in-Ok
returns-in-Ok g c = inl (refl, c.in-Ok.ensures.bytes)

pub returns-in-Err : goal.returns-in-Err
returns-in-Err g c = inr (refl, c.in-Err.ensures.cause, c.in-Err.ensures.failed)

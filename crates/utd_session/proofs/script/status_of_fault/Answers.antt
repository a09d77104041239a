use Rattle.std.proofs.Common.{arith}
use Rattle.utd_session.proofs.EndLemmas.{not_at_end}
use Rattle.utd_session.proofs.script.status_of_fault.Goals as goal

pub returns-in-Write-clause-early : goal.returns-in-Write-clause-early
returns-in-Write-clause-early c = not_at_end 4 (omega arith)

pub returns-in-Memory-clause-early : goal.returns-in-Memory-clause-early
returns-in-Memory-clause-early c = not_at_end 5 (omega arith)

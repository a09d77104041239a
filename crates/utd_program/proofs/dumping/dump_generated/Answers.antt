use Rattle.std.proofs.Common.{ap}
use Rattle.utd_session.specs.Status.{number_of}
use Rattle.utd_program.proofs.BackLemmas.{memory_no_end}
use Rattle.utd_program.proofs.GeneratedLemmas.{dumps_no_generated, generates_free}
use Rattle.utd_program.proofs.dumping.dump_generated.Goals as goal

pub returns-in-Err-clause-run : goal.returns-in-Err-clause-run
returns-in-Err-clause-run g c =
    let nothing = c.without_memory in
    dumps_no_generated c.args.number (g.K.Sink.written c.args.out.now) nothing.result.database (number_of nothing.result.status) (ap number_of nothing.ensures.status) nothing.ensures.empty

pub returns-in-Err-clause-cost : goal.returns-in-Err-clause-cost
returns-in-Err-clause-cost g c = generates_free c.args.number c.args.steps.now

pub returns-in-Err-clause-again : goal.returns-in-Err-clause-again
returns-in-Err-clause-again g c at_end = absurd (memory_no_end (number_of c.without_memory.result.status) (ap number_of c.without_memory.ensures.status) at_end)

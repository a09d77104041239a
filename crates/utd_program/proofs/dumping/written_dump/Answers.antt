use Rattle.std.proofs.Common.{◌∙◌, Some, sym, ap}
use Rattle.dump_core.specs.Dumps.{script_of}
use Rattle.utd_session.specs.Databases.{state_of}
use Rattle.utd_session.proofs.DumpLemmas.{dump_logless}
use Rattle.utd_program.proofs.BackLemmas.{no_dump_no_end, sound}
use Rattle.utd_program.proofs.WritingLemmas.{wrote, wrote_nothing}
use Rattle.utd_program.proofs.dumping.written_dump.Goals as goal

pub returns-in-Ok-clause-ends : goal.returns-in-Ok-clause-ends
returns-in-Ok-clause-ends g c =
    let texts = c.args.texts.now in
    wrote texts (state_of c.args.database.now) c.args.status c.status_after_write.result (g.K.Sink.faults c.args.out.now) (g.K.Sink.faults c.status_after_write.new.out) (g.K.Sink.written c.args.out.now) (g.K.Sink.written c.status_after_write.new.out) c.as_slice.result.now
    (dump_logless texts (state_of c.args.database.now) c.requires ∙ ap (script_of texts) (sym c.relvars.ensures.state) ∙ c.in-Ok.ensures.dumped ∙ ap Some (sym c.as_slice.ensures.value)) c.status_after_write.ensures

pub returns-in-Err-clause-ends : goal.returns-in-Err-clause-ends
returns-in-Err-clause-ends g c =
    let texts = c.args.texts.now in
    wrote_nothing texts (state_of c.args.database.now) c.args.status c.status_without_dump.result (g.K.Sink.faults c.args.out.now) (g.K.Sink.written c.args.out.now) c.in-Err.refuse
    (λ e. dump_logless texts (state_of c.args.database.now) c.requires ∙ ap (script_of texts) (sym c.relvars.ensures.state) ∙ c.in-Err.ensures.too_long e) c.status_without_dump.ensures.long c.status_without_dump.ensures.memory

pub returns-in-Ok-clause-sound : goal.returns-in-Ok-clause-sound
returns-in-Ok-clause-sound g c at_end = sound c.args.database.now c.relvars.result.now c.relvars.ensures.state c.relvars.ensures.kept c.in-Ok.ensures.relations c.relvars.ensures.beside

pub returns-in-Err-clause-sound : goal.returns-in-Err-clause-sound
returns-in-Err-clause-sound g c at_end = absurd (no_dump_no_end c.in-Err.refuse c.status_without_dump.result c.status_without_dump.ensures.long c.status_without_dump.ensures.memory at_end)

use Rattle.std.proofs.Common.{arith}
use Rattle.utd_session.specs.Databases.{state_of}
use Rattle.utd_session.proofs.DumpLemmas.{may_dump, status_stays, write_failed}
use Rattle.utd_program.proofs.BackLemmas.{may_give_back}
use Rattle.utd_program.proofs.SinkLemmas.{never_rose}
use Rattle.utd_program.proofs.dumping.run_dumped.Goals as goal

pub returns-clause-run : goal.returns-clause-run
returns-clause-run g c =
    let ran = c.run_script-ran.result in
    may_dump (g.S.Source.left c.args.input.now) (g.S.Source.left c.run_script-ran.new.input) (g.K.Sink.written c.args.out.now) (g.K.Sink.written c.status_after_dump-status.new.out) ran.texts ran.database ran.status c.status_after_dump-status.result _ _
    (λ e. never_rose (c.run_script-ran.ensures.write e)) c.run_script-ran.ensures.dump c.run_script-ran.ensures.end c.run_script-ran.ensures.run c.run_script-ran.ensures.texts c.status_after_dump-status.ensures.ends

pub returns-clause-usage : goal.returns-clause-usage
returns-clause-usage g c e =
    let ran = c.run_script-ran.result in
    c.run_script-ran.ensures.usage (status_stays ran.texts (state_of ran.database) ran.status c.status_after_dump-status.result _ _ _ _ 2 c.status_after_dump-status.ensures.ends (λ k. omega arith) (λ k. omega arith) (λ k. omega arith) e)

pub returns-clause-read : goal.returns-clause-read
returns-clause-read g c e =
    let ran = c.run_script-ran.result in
    c.run_script-ran.ensures.read (status_stays ran.texts (state_of ran.database) ran.status c.status_after_dump-status.result _ _ _ _ 3 c.status_after_dump-status.ensures.ends (λ k. omega arith) (λ k. omega arith) (λ k. omega arith) e)

pub returns-clause-write : goal.returns-clause-write
returns-clause-write g c e =
    let ran = c.run_script-ran.result in
    write_failed ran.texts (state_of ran.database) ran.status c.status_after_dump-status.result _ _ _ _ c.status_after_dump-status.ensures.ends (λ k. never_rose (c.run_script-ran.ensures.write k)) e

pub returns-clause-again : goal.returns-clause-again
returns-clause-again g c =
    let ran = c.run_script-ran.result in
    may_give_back (g.S.Source.left c.args.input.now) (g.S.Source.left c.run_script-ran.new.input) (g.K.Sink.written c.args.out.now) (g.K.Sink.written c.status_after_dump-status.new.out) ran.texts ran.database ran.status c.status_after_dump-status.result _ _
    c.run_script-ran.ensures.end c.run_script-ran.ensures.run c.run_script-ran.ensures.texts c.status_after_dump-status.ensures.ends c.status_after_dump-status.ensures.sound

use Rattle.std.proofs.Common.{Some}
use Rattle.utd_session.proofs.RunLemmas.{finished_at_end, ended_at_end}
use Rattle.utd_session.proofs.EndLemmas.{early_end, early_texts, texts_at_end}
use Rattle.utd_session.proofs.script.finished.Goals as goal

pub returns-in-Ok-clause-run : goal.returns-in-Ok-clause-run
returns-in-Ok-clause-run g c all before paid h =
    finished_at_end all before _ _ c.args.session c.in-Ok.finished.all_accepted c.in-Ok.finished.database _ paid _ c.args.session.few h c.status_at_end.ensures.number c.in-Ok.ensures.finished

pub returns-in-Err-clause-run : goal.returns-in-Err-clause-run
returns-in-Err-clause-run g c all before paid h =
    ended_at_end all before _ _ c.args.session c.in-Err.ended.why c.in-Err.ended.database c.stopped.result.database c.stopped.result.status paid _ c.stopped.ensures.database c.args.session.few h c.in-Err.ensures.memory c.in-Err.ensures.write c.stopped.ensures.write c.stopped.ensures.memory

pub returns-in-Ok-clause-texts : goal.returns-in-Ok-clause-texts
returns-in-Ok-clause-texts g c all before paid h =
    texts_at_end all before _ c.args.session c.in-Ok.finished.texts paid _ c.args.session.few h c.in-Ok.ensures.texts

pub returns-in-Ok-clause-end : goal.returns-in-Ok-clause-end
returns-in-Ok-clause-end g c = c.status_at_end.ensures.end

pub returns-in-Err-clause-texts : goal.returns-in-Err-clause-texts
returns-in-Err-clause-texts g c all before paid h = early_texts (Some all) c.stopped.result c.stopped.ensures.early

pub returns-in-Err-clause-end : goal.returns-in-Err-clause-end
returns-in-Err-clause-end g c = early_end c.stopped.result c.stopped.ensures.early

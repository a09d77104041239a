use Rattle.std.proofs.Common.{◌≡◌, ap, sym, subst, ◌∙◌, length, Option}
use Rattle.value_core.specs.Values.{Relation, IsRelation}
use Rattle.log_times.specs.Kept.{PlainLog, log_relation}
use Rattle.tree_core.specs.declared.relvar.Relvar.{Relvar}
use Rattle.tree_core.specs.Relvars.{log, read_relvar}
use Rattle.meaning_core.specs.Logs.{IsInStep}
use Rattle.relvar_logs.specs.Room.{IsCountedAs}
use Rattle.relvar_logs.specs.Turning.{IsNext}
use Rattle.relvar_logs.proofs.CountLemmas.{idle_counted}
use Rattle.relvar_logs.proofs.counting.rows_of.Goals as goal

pub returns-in-None : goal.returns-in-None
returns-in-None g c =
    let l = c.in-Log.log in
    let step : IsInStep g.behind.0 g.behind.1 (log c.in-Log.of l.side l.last (log_relation l)) =
    subst (λ (o : Option PlainLog). IsNext g.behind.0 g.behind.1 o (log c.in-Log.of l.side l.last (log_relation l))) c.in-None.is
    (subst (λ (r : Relvar). IsNext g.behind.0 g.behind.1 c.args.next.now (read_relvar r)) c.in-Log.is c.requires.1) in
    let relation : IsRelation l.stored = subst IsRelation c.stored-in-None.ensures.rows c.rows-in-None.ensures.relation in
    let count : length c.rows-in-None.result.now ≡ length l.stored.rows =
    ap length c.rows-in-None.ensures.rows ∙ ap (λ (r : Relation). length r.rows) c.stored-in-None.ensures.rows in
    subst (λ (r : Relvar). IsCountedAs g.behind.1 (length c.rows-in-None.result.now) (read_relvar r)) (sym c.in-Log.is)
    (idle_counted g.behind.0 g.behind.1 c.in-Log.of l (length c.rows-in-None.result.now) c.stored-in-None.ensures.log relation c.requires.0 step count)

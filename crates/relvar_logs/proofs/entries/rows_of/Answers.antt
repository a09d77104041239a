use Rattle.std.proofs.Common.{◌≡◌, ap, sym, subst, ◌∙◌, length}
use Rattle.value_core.specs.Values.{Relation, IsRelation}
use Rattle.tree_core.specs.declared.relvar.Relvar.{Relvar}
use Rattle.tree_core.specs.Relvars.{read_relvar}
use Rattle.relvar_logs.specs.Fitting.{IsCounted}
use Rattle.relvar_logs.proofs.ChangedLemmas.{rows_counted}
use Rattle.relvar_logs.proofs.entries.rows_of.Goals as goal

pub returns-in-Log : goal.returns-in-Log
returns-in-Log c =
    let l = c.in-Log.log in
    let relation : IsRelation l.stored = subst IsRelation c.stored.ensures.rows c.rows.ensures.relation in
    let count : length c.rows.result.now ≡ length l.stored.rows = ap length c.rows.ensures.rows ∙ ap (λ (r : Relation). length r.rows) c.stored.ensures.rows in
    subst (λ (r : Relvar). IsCounted (length c.rows.result.now) (read_relvar r)) (sym c.in-Log.is) (rows_counted c.in-Log.of l (length c.rows.result.now) c.stored.ensures.log relation count)

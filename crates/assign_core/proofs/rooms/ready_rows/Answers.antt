use Rattle.std.proofs.Common.{map, refl, subst}
use Rattle.tree_core.specs.Relvars.{read_entry}
use Rattle.relvar_logs.specs.Changes.{changed}
use Rattle.stored_views.specs.NextRows.{AreTooMany}
use Rattle.assign_core.proofs.CrowdLemmas.{crowded_view}
use Rattle.assign_core.proofs.rooms.ready_rows.Goals as goal

pub returns-in-Err-TooMany-clause-refused : goal.returns-in-Err-TooMany-clause-refused
returns-in-Err-TooMany-clause-refused g c =
    let es = map read_entry c.args.relvars.now.list.entries in
    (refl, crowded_view (changed c.args.changes.now es) (subst (AreTooMany (changed c.args.changes.now es)) c.in-Err-TooMany.field-0-is c.in-Err-TooMany.ensures.few))

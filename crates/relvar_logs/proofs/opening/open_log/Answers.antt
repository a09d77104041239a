use Rattle.std.proofs.Common.{◌∷◌, [], refl}
use Rattle.tree_core.specs.Relvars.{heading_if, read_relvars, relvar_named}
use Rattle.meaning_core.specs.Logs.{new_log}
use Rattle.meaning_core.specs.WellMade.{sizes_of}
use Rattle.relvar_logs.proofs.OpeningLemmas.{new_name, stays}
use Rattle.relvar_logs.proofs.opening.open_log.Goals as goal

pub fitting_log-requires : goal.fitting_log-requires
fitting_log-requires c =
    let s = read_relvars c.args.relvars.now in
    let d = c.args.declared in
    let new = new_log (heading_if (relvar_named s.relvars d.of)) s.accepted d in
    (refl, (c.requires.typed, (c.requires.room, stays (sizes_of s.ordinals) s.accepted s.relvars ((d.name, new) ∷ []) c.requires.made.relvars c.requires.step)))

pub begin-requires-clause-next : goal.begin-requires-clause-next
begin-requires-clause-next c =
    let s = read_relvars c.args.relvars.now in
    let d = c.args.declared in
    let new = new_log (heading_if (relvar_named s.relvars d.of)) s.accepted d in
    stays (sizes_of s.ordinals) s.accepted s.relvars ((d.name, new) ∷ []) c.requires.made.relvars c.requires.step

pub begin-requires-clause-different : goal.begin-requires-clause-different
begin-requires-clause-different c =
    let s = read_relvars c.args.relvars.now in
    let d = c.args.declared in
    new_name s c.args.relvars.now.list.entries d.name (new_log (heading_if (relvar_named s.relvars d.of)) s.accepted d) c.requires.typed.made

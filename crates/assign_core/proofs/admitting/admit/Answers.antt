use Rattle.std.proofs.Common.{map, ◌∙◌}
use Rattle.tree_core.specs.Relvars.{read_entry}
use Rattle.relvar_logs.proofs.EntryLemmas.{entries_length}
use Rattle.assign_core.proofs.ChangeLemmas.{same_length}
use Rattle.assign_core.proofs.admitting.admit.Goals as goal

pub are_few-requires : goal.are_few-requires
are_few-requires g c =
    let raw = c.args.relvars.now.list.entries in
    same_length c.args.changes.now (map read_entry raw) c.requires.changes ∙ entries_length raw

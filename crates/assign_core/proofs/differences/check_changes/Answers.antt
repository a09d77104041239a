use Rattle.std.proofs.Common.{map, ◌∙◌}
use Rattle.tree_core.specs.Relvars.{read_entry, read_relvars}
use Rattle.assign_core.proofs.AssignedLemmas.{kept_checked}
use Rattle.relvar_logs.proofs.EntryLemmas.{entries_length}
use Rattle.assign_core.proofs.ChangeLemmas.{same_length}
use Rattle.assign_core.proofs.differences.check_changes.Goals as goal

pub only_one-requires : goal.only_one-requires
only_one-requires g c =
    let raw = c.args.new.relvars.now.list.entries in
    same_length c.args.new.changes.now (map read_entry raw) c.requires.changes ∙ entries_length raw

pub check-requires-clause-checked : goal.check-requires-clause-checked
check-requires-clause-checked g c = kept_checked (read_relvars c.args.new.relvars.now) c.args.new.changes.now c.requires.kept c.requires.changes

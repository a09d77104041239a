use Rattle.std.proofs.Common.{◌≡◌, ◌≤◌, false, length, map, arith}
use Rattle.tree_core.specs.Relvars.{read_entry}
use Rattle.relvar_logs.specs.LoggedChanges.{is_log_of}
use Rattle.relvar_logs.proofs.EntryLemmas.{entries_length}
use Rattle.relvar_logs.proofs.TurningLemmas.{all_there}
use Rattle.relvar_logs.proofs.changing.log_place.Goals as goal

pub returns : goal.returns
returns c =
    let raw = c.args.relvars.now.list.entries in
    let read = entries_length raw in
    let len = c.len-at-end.ensures.len in
    let end : length raw ≤ c.loop-at.at = omega (arith, len) in
    all_there (λ r. is_log_of c.args.name.now r ≡ false) (map read_entry raw) (λ i l. c.loop-at.invariant i (omega (arith, l, read, end)))

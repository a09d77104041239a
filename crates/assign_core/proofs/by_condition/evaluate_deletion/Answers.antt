use Rattle.std.proofs.Common.{map}
use Rattle.tree_core.specs.Relvars.{read_entry}
use Rattle.assign_core.proofs.HashedLemmas.{hashes_of_first}
use Rattle.assign_core.proofs.by_condition.evaluate_deletion.Goals as goal

pub deleted_part-requires-clause-hashed : goal.deleted_part-requires-clause-hashed
deleted_part-requires-clause-hashed g c =
    let es = map read_entry c.args.relvars.now.list.entries in
    let k = c.deletion_at-at.ensures in
    hashes_of_first es c.args.deletion.assignment.now.target c.deletion_at-at.result.0 c.deletion_at-at.result.1.now k.constraints c.hashes_at-hashes.result.now k.first (c.hashes_at-hashes.ensures es c.requires.hashed)

pub pending_reduction-requires-clause-hashed : goal.pending_reduction-requires-clause-hashed
pending_reduction-requires-clause-hashed g c =
    let es = map read_entry c.args.relvars.now.list.entries in
    let k = c.deletion_at-at.ensures in
    hashes_of_first es c.args.deletion.assignment.now.target c.deletion_at-at.result.0 c.deletion_at-at.result.1.now k.constraints c.hashes_at-hashes.result.now k.first (c.hashes_at-hashes.ensures es c.requires.hashed)

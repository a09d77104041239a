use Rattle.std.proofs.Common.{map}
use Rattle.tree_core.specs.Relvars.{read_entry}
use Rattle.assign_core.proofs.HashedLemmas.{hashes_entry, hashes_put}
use Rattle.assign_core.proofs.filling.fill_target.Goals as goal

pub fill_relvar-result-requires : goal.fill_relvar-result-requires
fill_relvar-result-requires c =
    let es = c.args.relvars.now.list.entries in
    hashes_entry es c.in-Some.at c.in-Some.field-0-1.now c.in-Some.relvar.now c.take_hashes-list.result.items c.in-Some.ensures.entry
    (c.take_hashes-list.ensures.list (map read_entry es) c.requires)

pub returns-else-not-has_hashes : goal.returns-else-not-has_hashes
returns-else-not-has_hashes c =
    let es = c.args.relvars.now.list.entries in
    c.put_hashes.ensures (map read_entry es) (c.take_hashes-list.ensures.left (map read_entry es) c.requires)
    (hashes_put es c.in-Some.at c.in-Some.field-0-1.now c.in-Some.relvar.now c.fill_relvar-result.new.hashes.items c.in-Some.ensures.entry c.fill_relvar-result.ensures)

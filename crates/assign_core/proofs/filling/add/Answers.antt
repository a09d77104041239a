use Rattle.std.proofs.Common.{rules}
use Rattle.assign_core.proofs.filling.add.Goals as goal

pub add_hashes-requires-clause-within : goal.add_hashes-requires-clause-within
add_hashes-requires-clause-within c = c.are_within.ensures (search rules)

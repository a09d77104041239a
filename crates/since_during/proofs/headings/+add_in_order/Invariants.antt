use Rattle.std.proofs.Common.{length}
use Rattle.since_during.proofs.headings.+add_in_order.Given as goal

abbrev pub decreases-add_in_order : goal.decreases-add_in_order
decreases-add_in_order l = length l.attributes.now

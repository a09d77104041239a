use Rattle.std.proofs.Common.{length}
use Rattle.plain_rows.proofs.columns.+all_continue.Given as goal

abbrev pub decreases-all_continue : goal.decreases-all_continue
decreases-all_continue l = length l.bytes.now

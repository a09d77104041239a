use Rattle.std.proofs.Common.{length}
use Rattle.plain_rows.proofs.headings.+ascend.Given as goal

abbrev pub decreases-ascend : goal.decreases-ascend
decreases-ascend l = length l.columns.now

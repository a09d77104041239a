use Rattle.std.proofs.Common.{length}
use Rattle.plain_rows.specs.Comments.{IsLinePart}
use Rattle.plain_rows.proofs.comments.past_line.Given as goal

abbrev pub invariant-line : goal.invariant-line
invariant-line l = IsLinePart l.text l.rest

abbrev pub decreases-line : goal.decreases-line
decreases-line l = length l.rest

use Rattle.std.proofs.Common.{length}
use Rattle.plain_rows.specs.Comments.{IsBlockPart}
use Rattle.plain_rows.proofs.comments.past_block.Given as goal

abbrev pub invariant-block : goal.invariant-block
invariant-block l = IsBlockPart l.text l.rest

abbrev pub decreases-block : goal.decreases-block
decreases-block l = length l.rest

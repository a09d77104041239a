use Rattle.std.proofs.Common.{length}
use Rattle.relation_typing.proofs.shapes.+elements_like.Given as goal

abbrev pub decreases-elements_like : goal.decreases-elements_like
decreases-elements_like l = length l.shape.now

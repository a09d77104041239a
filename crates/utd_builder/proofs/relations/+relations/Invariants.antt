use Rattle.std.proofs.Common.{◌≤◌, ◌+◌, ◌*◌, length}
use Rattle.utd_syntax.specs.Read.{read_term, read_terms}
use Rattle.utd_syntax.specs.Table.{TheTerm, MorePostfix, TheTerms, MoreInfix}
use Rattle.utd_builder.specs.Building.{left}
use Rattle.utd_builder.proofs.Paths.{Path}
use Rattle.utd_builder.proofs.relations.+relations.Given as goal

abbrev pub decreases-used_otherwise : goal.decreases-used_otherwise
decreases-used_otherwise l = 16 * length (left l.cursor) + 2

abbrev pub decreases-rel : goal.decreases-rel
decreases-rel l = 16 * length (left l.cursor) + 9

abbrev pub decreases-terms : goal.decreases-terms
decreases-terms l = 16 * length (left l.cursor) + 8

abbrev pub decreases-joined : goal.decreases-joined
decreases-joined l = 16 * length (left l.cursor) + 7

abbrev pub decreases-term : goal.decreases-term
decreases-term l = 16 * length (left l.cursor) + 7

abbrev pub decreases-rel_primary : goal.decreases-rel_primary
decreases-rel_primary l = 16 * length (left l.cursor) + 6

abbrev pub decreases-using : goal.decreases-using
decreases-using l = 16 * length (left l.cursor) + 6

abbrev pub decreases-using_part : goal.decreases-using_part
decreases-using_part l = 16 * length (left l.cursor) + 5

abbrev pub decreases-extend : goal.decreases-extend
decreases-extend l = 16 * length (left l.cursor) + 4

abbrev pub decreases-summarize : goal.decreases-summarize
decreases-summarize l = 16 * length (left l.cursor) + 4

abbrev pub decreases-operand : goal.decreases-operand
decreases-operand l = 16 * length (left l.cursor) + 4

abbrev pub decreases-used : goal.decreases-used
decreases-used l = 16 * length (left l.cursor) + 3

abbrev pub decreases-packed : goal.decreases-packed
decreases-packed l = 16 * length (left l.cursor) + 3

abbrev pub decreases-enclosed : goal.decreases-enclosed
decreases-enclosed l = 16 * length (left l.cursor) + 3

abbrev pub invariant-terms-chain : goal.invariant-terms-chain
invariant-terms-chain l = Path TheTerms MoreInfix (λ f. f (read_terms l.so_far.0)) (left l.fn.cursor) (left l.so_far.1) × (length (left l.so_far.1) ≤ length (left l.fn.cursor))

abbrev pub decreases-terms-chain : goal.decreases-terms-chain
decreases-terms-chain l = length (left l.so_far.1)

abbrev pub invariant-term-chain : goal.invariant-term-chain
invariant-term-chain l = Path TheTerm MorePostfix (λ f. f (read_term l.so_far.0)) (left l.fn.cursor) (left l.so_far.1) × (length (left l.so_far.1) ≤ length (left l.fn.cursor))

abbrev pub decreases-term-chain : goal.decreases-term-chain
decreases-term-chain l = length (left l.so_far.1)

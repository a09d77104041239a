use Rattle.std.proofs.Common.{◌≤◌, ◌+◌, ◌*◌, length}
use Rattle.utd_syntax.specs.Read.{read_scalar, read_conj, read_sum, read_prod}
use Rattle.utd_syntax.specs.Table.{TheProd, MoreProd, TheSum, MoreSum, TheConj, MoreAnd, TheScalar, MoreOr}
use Rattle.utd_builder.specs.Building.{left}
use Rattle.utd_builder.proofs.Paths.{Path}
use Rattle.utd_builder.proofs.scalars.+scalars.Given as goal

abbrev pub decreases-scalar : goal.decreases-scalar
decreases-scalar l = 16 * length (left l.cursor) + 10

abbrev pub decreases-disjunction : goal.decreases-disjunction
decreases-disjunction l = 16 * length (left l.cursor) + 9

abbrev pub decreases-conjunction : goal.decreases-conjunction
decreases-conjunction l = 16 * length (left l.cursor) + 8

abbrev pub decreases-negation : goal.decreases-negation
decreases-negation l = 16 * length (left l.cursor) + 7

abbrev pub decreases-comparison : goal.decreases-comparison
decreases-comparison l = 16 * length (left l.cursor) + 6

abbrev pub decreases-sum : goal.decreases-sum
decreases-sum l = 16 * length (left l.cursor) + 5

abbrev pub decreases-product : goal.decreases-product
decreases-product l = 16 * length (left l.cursor) + 4

abbrev pub decreases-sign : goal.decreases-sign
decreases-sign l = 16 * length (left l.cursor) + 3

abbrev pub decreases-minus : goal.decreases-minus
decreases-minus l = 16 * length (left l.cursor) + 2

abbrev pub decreases-primary : goal.decreases-primary
decreases-primary l = 16 * length (left l.cursor) + 2

abbrev pub decreases-parenthesized : goal.decreases-parenthesized
decreases-parenthesized l = 16 * length (left l.cursor) + 1

abbrev pub decreases-bracketed : goal.decreases-bracketed
decreases-bracketed l = 16 * length (left l.cursor) + 1

abbrev pub decreases-function : goal.decreases-function
decreases-function l = 16 * length (left l.cursor) + 1

abbrev pub decreases-pair : goal.decreases-pair
decreases-pair l = 16 * length (left l.cursor) + 1

abbrev pub decreases-disjoined : goal.decreases-disjoined
decreases-disjoined l = 16 * length (left l.cursor) + 8

abbrev pub invariant-disjunction-chain : goal.invariant-disjunction-chain
invariant-disjunction-chain l = Path TheScalar MoreOr (λ f. f (read_scalar l.so_far.0.value)) (left l.fn.cursor) (left l.so_far.1) × (length (left l.so_far.1) ≤ length (left l.fn.cursor))

abbrev pub decreases-disjunction-chain : goal.decreases-disjunction-chain
decreases-disjunction-chain l = length (left l.so_far.1)

abbrev pub decreases-conjoined : goal.decreases-conjoined
decreases-conjoined l = 16 * length (left l.cursor) + 7

abbrev pub invariant-conjunction-chain : goal.invariant-conjunction-chain
invariant-conjunction-chain l = Path TheConj MoreAnd (λ f. f (read_conj l.so_far.0)) (left l.fn.cursor) (left l.so_far.1) × (length (left l.so_far.1) ≤ length (left l.fn.cursor))

abbrev pub decreases-conjunction-chain : goal.decreases-conjunction-chain
decreases-conjunction-chain l = length (left l.so_far.1)

abbrev pub decreases-added : goal.decreases-added
decreases-added l = 16 * length (left l.cursor) + 4

abbrev pub invariant-sum-chain : goal.invariant-sum-chain
invariant-sum-chain l = Path TheSum MoreSum (λ f. f (read_sum l.so_far.0)) (left l.fn.cursor) (left l.so_far.1) × (length (left l.so_far.1) ≤ length (left l.fn.cursor))

abbrev pub decreases-sum-chain : goal.decreases-sum-chain
decreases-sum-chain l = length (left l.so_far.1)

abbrev pub decreases-multiplied : goal.decreases-multiplied
decreases-multiplied l = 16 * length (left l.cursor) + 3

abbrev pub invariant-product-chain : goal.invariant-product-chain
invariant-product-chain l = Path TheProd MoreProd (λ f. f (read_prod l.so_far.0)) (left l.fn.cursor) (left l.so_far.1) × (length (left l.so_far.1) ≤ length (left l.fn.cursor))

abbrev pub decreases-product-chain : goal.decreases-product-chain
decreases-product-chain l = length (left l.so_far.1)

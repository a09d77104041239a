use Rattle.std.proofs.Common.{ℕ, map, take, slice_index_or, []}
use Rattle.scalar_core.specs.Expressions.{read}
use Rattle.scalar_core.specs.ScalarValues.{value}
use Rattle.row_making.proofs.IntegerLemmas.{Summed}
use Rattle.row_making.proofs.integers.sum_over.Given as goal

abbrev pub invariant-loop-number : goal.invariant-loop-number
invariant-loop-number l = Summed (map (λ (i : ℕ). value (read l.e) (slice_index_or l.rows i [])) (take l.number-index l.numbers)) l.sum

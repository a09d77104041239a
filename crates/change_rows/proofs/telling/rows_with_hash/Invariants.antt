use Rattle.std.proofs.Common.{◌≡◌, take}
use Rattle.std.specs.List.{filter}
use Rattle.scalar_core.specs.Expressions.{read}
use Rattle.meaning_core.specs.Meanings.{condition}
use Rattle.change_rows.specs.RowFilters.{stays}
use Rattle.change_rows.proofs.telling.rows_with_hash.Given as goal

abbrev pub invariant-loop-at : goal.invariant-loop-at
invariant-loop-at l = l.kept.items ≡ filter (λ row. stays (condition (read l.g) row)) (take l.at l.given)

use Rattle.std.proofs.Common.{◌≡◌, take}
use Rattle.std.specs.List.{filter}
use Rattle.scalar_core.specs.Expressions.{read}
use Rattle.meaning_core.specs.Meanings.{condition}
use Rattle.change_rows.specs.RowFilters.{stays}
use Rattle.change_rows.proofs.telling.rows_that_stay.Given as goal

abbrev pub invariant-loop-row : goal.invariant-loop-row
invariant-loop-row l = l.kept.items ≡ filter (λ row. stays (condition (read l.g) row)) (take l.row-index l.rows)

use Rattle.scalar_core.specs.Expressions.{read}
use Rattle.meaning_core.specs.Meanings.{condition}
use Rattle.change_rows.specs.RowFilters.{stays}
use Rattle.change_rows.proofs.telling.suspects.Goals as goal

pub selection-requires : goal.selection-requires
selection-requires c = ((λ row. stays (condition (read c.args.g.now) row)), c.in_ok-rows.ensures)

use Rattle.tree_core.specs.Trees.{read_sets}
use Rattle.meaning_core.specs.Rows.{extended_at}
use Rattle.row_making.specs.contracts.plain_rows.fn.extended_at.f as closure
use Rattle.row_making.proofs.plain_rows.extended_at.Given as goal

abbrev pub ghost-extend : goal.ghost-extend
ghost-extend a = extended_at (closure.captures a.f.now).at.now (read_sets (closure.captures a.f.now).sets.now)

use Rattle.scalar_core.specs.Expressions.{read}
use Rattle.meaning_core.specs.Meanings.{condition}
use Rattle.row_making.specs.contracts.plain_rows.fn.restricted.test as closure
use Rattle.row_making.proofs.plain_rows.restricted.Given as goal

abbrev pub ghost-restrict : goal.ghost-restrict
ghost-restrict a = condition (read (closure.captures a.f.now).c.now)

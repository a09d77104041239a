use Rattle.value_core.specs.declared.kind.Kind.TheVariants.{Truth}
use Rattle.scalar_core.specs.Expressions.{read}
use Rattle.change_rows.proofs.PartLemmas.{all_over}
use Rattle.change_rows.proofs.telling.rows_by_some.Goals as goal

pub required_row-requires : goal.required_row-requires
required_row-requires c = (c.args.value.now.heading, Truth, c.requires.typed)

pub rows_that_stay-requires : goal.rows_that_stay-requires
rows_that_stay-requires c = all_over c.args.value.now c.rows.result.now (read c.args.g.now) c.rows.ensures.relation c.rows.ensures.rows c.requires.typed

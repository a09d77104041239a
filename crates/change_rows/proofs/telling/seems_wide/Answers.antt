use Rattle.value_core.specs.declared.kind.Kind.TheVariants.{Truth}
use Rattle.scalar_core.specs.Expressions.{read}
use Rattle.change_rows.proofs.PartLemmas.{all_over}
use Rattle.change_rows.proofs.telling.seems_wide.Goals as goal

pub are_sought-requires : goal.are_sought-requires
are_sought-requires c = (c.args.value.now.heading, Truth, c.requires)

pub seem_many-requires : goal.seem_many-requires
seem_many-requires c = all_over c.args.value.now c.rows.result.now (read c.args.g.now) c.rows.ensures.relation c.rows.ensures.rows c.requires

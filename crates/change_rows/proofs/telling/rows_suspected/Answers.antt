use Rattle.value_core.specs.declared.kind.Kind.TheVariants.{Truth}
use Rattle.change_rows.proofs.telling.rows_suspected.Goals as goal

pub required-requires : goal.required-requires
required-requires c = (c.args.value.now.heading, Truth, c.requires.typed)

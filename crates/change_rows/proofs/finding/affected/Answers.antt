use Rattle.std.proofs.Common.{option_map}
use Rattle.std.proofs.lemmas.Option.{IfSome_then}
use Rattle.value_core.specs.declared.kind.Kind.TheVariants.{Truth}
use Rattle.scalar_core.specs.Expressions.{read}
use Rattle.relation_core.specs.Operators.{subtracted}
use Rattle.change_rows.proofs.PartLemmas.{row_filter_typed, told_false}
use Rattle.change_rows.proofs.finding.affected.Goals as goal

pub row_filter-requires : goal.row_filter-requires
row_filter-requires c = (c.args.value.now.heading, Truth, c.requires.typed)

pub affected_part-requires-clause-typed : goal.affected_part-requires-clause-typed
affected_part-requires-clause-typed c =
    row_filter_typed c.args.commalist.now c.args.value.now.heading (read c.args.c.now) c.in_ok-g.g c.in_ok-g.ensures c.requires.typed

pub returns-clause-others : goal.returns-clause-others
returns-clause-others c =
    IfSome_then c.in_ok-part.part c.in_ok-part.ensures.others (λ p told.
    told_false c.args.commalist.now (read c.args.c.now) (option_map read c.in_ok-g.g) (subtracted c.args.value.now.rows p.rows) c.in_ok-g.ensures told)

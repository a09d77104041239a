use Rattle.std.proofs.Common.{Option, option_map, ap₂, ◌∙◌}
use Rattle.std.proofs.lemmas.Option.{IfSome_then}
use Rattle.value_core.specs.declared.kind.Kind.TheVariants.{Truth}
use Rattle.scalar_core.specs.Expressions.{Expr, read}
use Rattle.relation_core.specs.Operators.{subtracted}
use Rattle.change_rows.specs.RowFilters.{row_filter_of_both}
use Rattle.change_rows.proofs.PartLemmas.{both_typed, told_both}
use Rattle.change_rows.proofs.finding.affected_by_both.Goals as goal

pub row_filter-requires : goal.row_filter-requires
row_filter-requires c = (c.args.value.now.heading, Truth, c.requires.first)

pub row_filter-requires-2 : goal.row_filter-requires-2
row_filter-requires-2 c = (c.args.value.now.heading, Truth, c.requires.second)

pub affected_part-requires-clause-typed : goal.affected_part-requires-clause-typed
affected_part-requires-clause-typed c =
    both_typed c.args.commalist.now c.args.value.now.heading c.args.c.now.place (read c.args.c.now) (read c.args.d.now) c.in_ok-g.g
    (c.in_ok-g.ensures ∙ ap₂ (λ (f g : Option Expr). row_filter_of_both c.args.c.now.place f g) c.in_ok-first.ensures c.in_ok-second.ensures) c.requires.first c.requires.second

pub returns-clause-others : goal.returns-clause-others
returns-clause-others c =
    IfSome_then c.in_ok-part.part c.in_ok-part.ensures.others (λ p told.
    told_both c.args.commalist.now c.args.c.now.place (read c.args.c.now) (read c.args.d.now) (option_map read c.in_ok-g.g) (subtracted c.args.value.now.rows p.rows)
    (c.in_ok-g.ensures ∙ ap₂ (λ (f g : Option Expr). row_filter_of_both c.args.c.now.place f g) c.in_ok-first.ensures c.in_ok-second.ensures) told)

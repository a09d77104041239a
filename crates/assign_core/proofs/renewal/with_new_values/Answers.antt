use Rattle.std.proofs.Common.{ℕ, List, sym, subst, arith}
use Rattle.value_core.specs.Values.{Heading}
use Rattle.relation_core.specs.Answers.{Answers, under}
use Rattle.relation_core.specs.Operators.{extended}
use Rattle.base_core.specs.Outcomes.{then_give}
use Rattle.tree_core.specs.Trees.{read_sets}
use Rattle.meaning_core.specs.Meanings.{limited}
use Rattle.meaning_core.specs.Rows.{extended_row}
use Rattle.meaning_core.specs.Typing.{IsExtension}
use Rattle.eval_using.specs.Cells.{cells_of_all, scalars_of}
use Rattle.assign_core.specs.Revisions.{changed_rows}
use Rattle.assign_core.proofs.renewal.with_new_values.Goals as goal

pub extended-requires : goal.extended-requires
extended-requires g c =
    let k = c.requires in
    (k.sizes, subst (λ (h : Heading). IsExtension k.sizes c.args.of.now.heading h (read_sets c.args.changed.sets.now)) (sym c.heading.ensures.heading) k.extension)

pub returns-then-lists_none-clause-value : goal.returns-then-lists_none-clause-value
returns-then-lists_none-clause-value g c =
    let x = c.args.changed in
    let of = c.args.of.now in
    subst (λ (l : List ℕ). Answers c.extended.result (under of.heading (changed_rows of.heading x.place l (read_sets x.sets.now) of.rows))) (sym (c.lists_none.ensures.none c.if-lists_none.true))
    (subst (λ (h : Heading). Answers c.extended.result (under h (then_give (extended (extended_row of.heading h (read_sets x.sets.now)) of.rows) (limited x.place)))) c.heading.ensures.heading
    (c.extended.ensures x.place))

pub returns-clause-cost : goal.returns-clause-cost
returns-clause-cost g c =
    let x = c.args.changed in
    let of = c.args.of.now in
    let same = c.lists_none.ensures.some c.if-lists_none.false (cells_of_all x.commalist.now (scalars_of (read_sets x.sets.now)) of.rows) in
    let taken = c.new_values_at_points.ensures.cost in
    omega (arith, same, taken)

use Rattle.std.proofs.Common.{ℕ, List, [], ◌∷◌, sym, subst, ◌∙◌}
use Rattle.value_core.specs.Values.{Heading}
use Rattle.scalar_core.specs.Expressions.{read}
use Rattle.relation_core.specs.Operators.{restricted}
use Rattle.meaning_core.specs.Meanings.{condition}
use Rattle.meaning_core.specs.Typing.{IsList}
use Rattle.eval_using.specs.Using.{IsSweptBy}
use Rattle.assign_core.proofs.DeletionLemmas.{portion_told, portion_taken}
use Rattle.assign_core.proofs.reduction.rows_at_points.Goals as goal

pub using_restriction-requires-clause-restriction : goal.using_restriction-requires-clause-restriction
using_restriction-requires-clause-restriction g c =
    let k = c.requires in
    (k.sizes, record { condition = k.condition; headed = c.heading-heading.ensures.heading })

pub using_restriction-requires-clause-list : goal.using_restriction-requires-clause-list
using_restriction-requires-clause-list g c =
    let same = c.as_slice-list.ensures.value ∙ c.commalist.view_is in
    subst (λ (h : Heading). IsList h c.as_slice-list.result.now) (sym c.heading-heading.ensures.heading)
    (subst (λ (l : List ℕ). IsList c.args.of.now.heading l) (sym same) c.requires.list)

pub using_restriction-requires-clause-swept : goal.using_restriction-requires-clause-swept
using_restriction-requires-clause-swept g c =
    let same = c.as_slice-list.ensures.value ∙ c.commalist.view_is in
    let e = read c.args.portion.condition.now in
    let from = c.args.of.now.heading in
    subst (λ (h : Heading). IsSweptBy h c.as_slice-list.result.now from e) (sym c.heading-heading.ensures.heading)
    (subst (λ (l : List ℕ). IsSweptBy from l from e) (sym same) c.requires.swept)

pub returns-clause-value : goal.returns-clause-value
returns-clause-value g c =
    let p = c.args.portion in
    let of = c.args.of.now in
    portion_told c.using_restriction.result p.place of.heading c.heading-heading.result.now p.commalist.now c.as_slice-list.result.now (restricted (condition (read p.condition.now))) of.rows
    c.heading-heading.ensures.relation.headed c.requires.list c.heading-heading.ensures.heading (c.as_slice-list.ensures.value ∙ c.commalist.view_is) c.using_restriction.ensures.value

pub returns-clause-cost : goal.returns-clause-cost
returns-clause-cost g c =
    let p = c.args.portion in
    let of = c.args.of.now in
    portion_taken c.args.steps.now c.using_restriction.new.steps of.heading c.heading-heading.result.now p.commalist.now c.as_slice-list.result.now (read p.condition.now ∷ []) of.rows
    c.heading-heading.ensures.relation.headed c.requires.list c.heading-heading.ensures.heading (c.as_slice-list.ensures.value ∙ c.commalist.view_is) c.using_restriction.ensures.cost

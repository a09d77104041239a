use Rattle.std.proofs.Common.{ℕ, List, sym, subst, ◌∙◌}
use Rattle.value_core.specs.Values.{Heading}
use Rattle.relation_core.specs.Operators.{extended}
use Rattle.tree_core.specs.Trees.{read_sets}
use Rattle.meaning_core.specs.Rows.{extended_row}
use Rattle.meaning_core.specs.Typing.{IsExtension, IsList}
use Rattle.eval_using.specs.Cells.{scalars_of}
use Rattle.eval_using.specs.Using.{HasList, AreSweptBy}
use Rattle.assign_core.proofs.DeletionLemmas.{portion_taken}
use Rattle.assign_core.proofs.RenewalLemmas.{changed_told}
use Rattle.assign_core.proofs.renewal.new_values_at_points.Goals as goal

pub using_extension-requires-clause-extension : goal.using_extension-requires-clause-extension
using_extension-requires-clause-extension g c =
    let k = c.requires in
    (k.sizes, subst (λ (h : Heading). IsExtension k.sizes c.args.of.now.heading h (read_sets c.args.changed.sets.now)) (sym c.heading-heading.ensures.heading) k.extension)

pub using_extension-requires-clause-list : goal.using_extension-requires-clause-list
using_extension-requires-clause-list g c =
    let same = c.as_slice-list.ensures.value ∙ c.commalist.view_is in
    subst (λ (h : Heading). IsList h c.as_slice-list.result.now) (sym c.heading-heading.ensures.heading)
    (subst (λ (l : List ℕ). IsList c.args.of.now.heading l) (sym same) c.requires.list)

pub using_extension-requires-clause-listed : goal.using_extension-requires-clause-listed
using_extension-requires-clause-listed g c =
    let same = c.as_slice-list.ensures.value ∙ c.commalist.view_is in
    let from = c.args.of.now.heading in
    subst (λ (h : Heading). HasList h c.as_slice-list.result.now from) (sym c.heading-heading.ensures.heading)
    (subst (λ (l : List ℕ). HasList from l from) (sym same) c.requires.listed)

pub using_extension-requires-clause-swept : goal.using_extension-requires-clause-swept
using_extension-requires-clause-swept g c =
    let same = c.as_slice-list.ensures.value ∙ c.commalist.view_is in
    let from = c.args.of.now.heading in
    let sets = read_sets c.args.changed.sets.now in
    subst (λ (h : Heading). AreSweptBy h c.as_slice-list.result.now from sets) (sym c.heading-heading.ensures.heading)
    (subst (λ (l : List ℕ). AreSweptBy from l from sets) (sym same) c.requires.swept)

pub returns-clause-value : goal.returns-clause-value
returns-clause-value g c =
    let x = c.args.changed in
    let of = c.args.of.now in
    changed_told c.using_extension.result x.place of.heading c.heading-heading.result.now x.commalist.now c.as_slice-list.result.now
    (λ (h : Heading). extended (extended_row of.heading h (read_sets x.sets.now))) of.rows
    c.heading-heading.ensures.relation.headed c.requires.list c.heading-heading.ensures.heading (c.as_slice-list.ensures.value ∙ c.commalist.view_is) c.using_extension.ensures.value

pub returns-clause-cost : goal.returns-clause-cost
returns-clause-cost g c =
    let x = c.args.changed in
    let of = c.args.of.now in
    portion_taken c.args.steps.now c.using_extension.new.steps of.heading c.heading-heading.result.now x.commalist.now c.as_slice-list.result.now (scalars_of (read_sets x.sets.now)) of.rows
    c.heading-heading.ensures.relation.headed c.requires.list c.heading-heading.ensures.heading (c.as_slice-list.ensures.value ∙ c.commalist.view_is) c.using_extension.ensures.cost

use Rattle.std.proofs.Common.{◌++◌, ◌≤◌, ◌+◌, List, ℕ, length, sym, ap, ap₂, ◌∙◌, subst}
use Rattle.base_core.specs.Outcomes.{then_give}
use Rattle.point_core.specs.Faults.{OrFault}
use Rattle.value_core.specs.RowPacking.{packed, unpacked}
use Rattle.value_core.specs.Values.{Name, Heading, Relation}
use Rattle.scalar_core.specs.declared.tree.Scalar.{Scalar}
use Rattle.relation_core.specs.Agreement.{names_of}
use Rattle.relation_core.specs.Answers.{Answers, under}
use Rattle.relation_core.specs.Operators.{extended}
use Rattle.tree_core.specs.Trees.{read_sets}
use Rattle.cell_core.specs.Costs.{bound}
use Rattle.meaning_core.specs.Meanings.{limited}
use Rattle.meaning_core.specs.Places.{places}
use Rattle.meaning_core.specs.Rows.{set_names, extended_at}
use Rattle.eval_using.specs.Cells.{cells_of_all, scalars_of}
use Rattle.eval_using.specs.Extended.{AreItems}
use Rattle.eval_using.specs.Using.{listed}
use Rattle.eval_using.proofs.ItemLemmas.{items_of}
use Rattle.eval_using.proofs.ListLemmas.{positions_back}
use Rattle.eval_using.proofs.rules.using_extension.Goals as goal

pub extended_by_boxes-requires : goal.extended_by_boxes-requires
extended_by_boxes-requires g c =
    let h = c.args.node.heading.now in
    let from = c.args.r.now.heading in
    let commalist = c.args.node.commalist.now in
    let sets = c.as_slice-list.ensures.value ∙ c.sets.view_is in
    let there = c.as_slice.ensures.value ∙ c.in_ok-commalist_there.ensures ∙ ap₂ (λ (u v : Heading). listed u commalist v) c.attributes-attributes.ensures.list (c.attributes-from.ensures.list ∙ c.heading.ensures.heading) in
    let at = c.as_slice-2.ensures.value ∙ c.in_ok-places.ensures
    ∙ (λ t. places (set_names (read_sets (sets t)) ++ names_of ((c.attributes-from.ensures.list ∙ c.heading.ensures.heading) t)) (c.attributes-attributes.ensures.list t)) in
    let given = items_of h commalist c.attributes-attributes.ensures.heading c.requires.list from c.heading.ensures.relation.headed c.requires.listed (read_sets c.args.sets.now) c.requires.swept c.requires.extension.0 c.requires.extension.1 in
    record { items = subst (λ (w : List ℕ × List ℕ × List (Name × Scalar)). AreItems from h w.0 commalist (read_sets w.2) w.1) (λ t. (sym there t, sym at t, sym sets t)) given }

pub returns-clause-value : goal.returns-clause-value
returns-clause-value g c =
    let h = c.args.node.heading.now in
    let from = c.args.r.now.heading in
    let commalist = c.args.node.commalist.now in
    let sets = c.as_slice-list.ensures.value ∙ c.sets.view_is in
    let there = c.as_slice.ensures.value ∙ c.in_ok-commalist_there.ensures ∙ ap₂ (λ (u v : Heading). listed u commalist v) c.attributes-attributes.ensures.list (c.attributes-from.ensures.list ∙ c.heading.ensures.heading) in
    let at = c.as_slice-2.ensures.value ∙ c.in_ok-places.ensures
    ∙ (λ t. places (set_names (read_sets (sets t)) ++ names_of ((c.attributes-from.ensures.list ∙ c.heading.ensures.heading) t)) (c.attributes-attributes.ensures.list t)) in
    let back = positions_back h commalist c.attributes-attributes.ensures.heading c.requires.list in
    subst (λ (m : OrFault Relation). Answers c.extended_by_boxes.result m)
    (λ t. under h (then_give (extended (extended_at (at t) (read_sets (sets t))) (unpacked (there t) c.args.r.now.rows)) (λ rows. limited c.args.node.place (packed (sym back t) rows)))) c.extended_by_boxes.ensures.value

pub returns-clause-cost : goal.returns-clause-cost
returns-clause-cost g c =
    let h = c.args.node.heading.now in
    let from = c.args.r.now.heading in
    let commalist = c.args.node.commalist.now in
    let sets = c.as_slice-list.ensures.value ∙ c.sets.view_is in
    let there = c.as_slice.ensures.value ∙ c.in_ok-commalist_there.ensures ∙ ap₂ (λ (u v : Heading). listed u commalist v) c.attributes-attributes.ensures.list (c.attributes-from.ensures.list ∙ c.heading.ensures.heading) in
    let given = items_of h commalist c.attributes-attributes.ensures.heading c.requires.list from c.heading.ensures.relation.headed c.requires.listed (read_sets c.args.sets.now) c.requires.swept c.requires.extension.0 c.requires.extension.1 in
    let many = ap length there ∙ sym given.count in
    subst (λ (w : ℕ × ℕ). c.extended_by_boxes.new.steps ≤ c.args.steps.now + bound w.0 w.1) (λ t. (cells_of_all (there t) (scalars_of (read_sets (sets t))) c.args.r.now.rows, many t)) c.extended_by_boxes.ensures.cost

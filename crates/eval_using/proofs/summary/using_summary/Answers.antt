use Rattle.std.proofs.Common.{◌≡◌, ◌++◌, List, ap₂, ◌∙◌, subst, map}
use Rattle.base_core.specs.Outcomes.{then_give}
use Rattle.value_core.specs.Values.{Heading}
use Rattle.relation_core.specs.Agreement.{names_of}
use Rattle.relation_core.specs.Answers.{Answers, under}
use Rattle.relation_core.specs.Groups.{rows_at, summarized}
use Rattle.tree_core.specs.Trees.{read_aggregate}
use Rattle.tree_core.specs.declared.tree.Aggregate.{Aggregate}
use Rattle.meaning_core.specs.Meanings.{opened, closed}
use Rattle.meaning_core.specs.Places.{places}
use Rattle.meaning_core.specs.Rows.{aggregate_names, group_row}
use Rattle.eval_using.specs.Using.{around, listed}
use Rattle.eval_using.proofs.summary.using_summary.Goals as goal

pub summarized_by_boxes-requires-clause-here : goal.summarized_by_boxes-requires-clause-here
summarized_by_boxes-requires-clause-here g c =
    c.as_slice.ensures.value ∙ c.in_ok-here.ensures
    ∙ ap₂ (λ (u v : Heading). listed u c.args.node.commalist.now v) c.attributes-attributes.ensures.list (c.attributes-from.ensures.list ∙ c.heading.ensures.heading)

pub summarized_by_boxes-requires-clause-places : goal.summarized_by_boxes-requires-clause-places
summarized_by_boxes-requires-clause-places g c =
    c.as_slice-2.ensures.value ∙ c.in_ok-at.ensures
    ∙ ap₂ (λ (u v : Heading). places (aggregate_names (map read_aggregate c.as_slice-list.result.now) ++ names_of u) v) (c.attributes-from.ensures.list ∙ c.heading.ensures.heading) c.attributes-attributes.ensures.list

pub returns-clause-value : goal.returns-clause-value
returns-clause-value g c =
    let r = c.args.r.now in
    let h = c.args.node.heading.now in
    let commalist = c.args.node.commalist.now in
    let list : c.as_slice-list.result.now ≡ c.args.aggregates.now = c.as_slice-list.ensures.value ∙ c.aggregates.view_is in
    subst (λ (l : List Aggregate). Answers c.summarized_by_boxes.result (under h
    (then_give (summarized c.args.by.now (λ numbers. group_row r.heading h (map read_aggregate l) (rows_at (opened (around c.args.node.place h commalist) r.heading r.rows) numbers)) (opened (around c.args.node.place h commalist) r.heading r.rows))
    (closed (around c.args.node.place h commalist) c.args.node.place h)))) list c.summarized_by_boxes.ensures.value

use Rattle.std.proofs.Common.{List, [], map, ap, ap₂, ◌∙◌}
use Rattle.value_core.specs.Values.{Heading}
use Rattle.tree_core.specs.declared.tree.Aggregate.{Aggregate}
use Rattle.tree_core.specs.Trees.{PlainAggregate, read_aggregate}
use Rattle.relation_core.proofs.HeadingLemmas.{heading_ascends}
use Rattle.node_typing.specs.Headings.{with_all}
use Rattle.node_typing.proofs.HeadingLemmas.{with_both, in-order-already}
use Rattle.node_typing.proofs.summaries.none_summed.Goals as goal

pub returns : goal.returns
returns c =
    let groups = c.args.groups.now in
    ap₂ (λ (l : List PlainAggregate) (h : Heading). (l, h)) (ap (λ (l : List Aggregate). map read_aggregate l) c.new-aggregates.ensures.items)
    (c.in_ok-put_all.ensures ∙ (ap₂ (λ (u v : Heading). with_all u v) c.new-attributes.ensures.empty c.attributes.ensures.list
    ∙ (with_both [] groups ∙ in-order-already groups (heading_ascends groups c.attributes.ensures.heading))))

use Rattle.std.proofs.Common.{◌≡◌, ◌≤◌, length, ap, subst, sym, ◌∙◌}
use Rattle.value_core.specs.Limits.{most_attributes}
use Rattle.value_core.specs.Values.{Heading}
use Rattle.relation_core.specs.Parts.{renamed}
use Rattle.relation_core.proofs.HeadingLemmas.{few_attributes}
use Rattle.relation_core.proofs.RenamingLemmas.{length-renamed}
use Rattle.node_typing.proofs.renamings.renamed_heading.Goals as goal

pub heading_of_list-requires : goal.heading_of_list-requires
heading_of_list-requires c =
    let made : c.as_slice.result.now ≡ renamed c.args.names.now c.args.heading.now =
    c.as_slice.ensures.value ∙ (c.in_ok-list.ensures ∙ ap (λ (h : Heading). renamed c.args.names.now h) c.attributes.ensures.list) in
    subst (λ (l : Heading). length l ≤ most_attributes) (sym made)
    (subst (λ n. n ≤ most_attributes) (sym (length-renamed c.args.names.now c.args.heading.now c.requires)) (few_attributes c.args.heading.now c.attributes.ensures.heading))

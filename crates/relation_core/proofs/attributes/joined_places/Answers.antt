use Rattle.std.proofs.Common.{◌≡◌, ◌++◌, ap, ap₂, ◌∙◌}
use Rattle.value_core.specs.Values.{Heading}
use Rattle.relation_core.specs.Parts.{positions_in}
use Rattle.relation_core.proofs.AttributeLemmas.{none_known}
use Rattle.relation_core.proofs.attributes.joined_places.Goals as goal

pub returns : goal.returns
returns c =
    let first : c.append_new.new.list.items ≡ c.args.left.now = c.in_ok-append_new.ensures ∙ ap₂ (λ (u v : Heading). u ++ v) c.new-list.ensures.items (none_known c.args.left.now) in
    let both : c.append_new-2.new.list.items ≡ c.args.left.now ++ c.args.right.now = c.in_ok-append_new-2.ensures ∙ ap₂ (λ (u v : Heading). u ++ v) first (none_known c.args.right.now) in
    c.in_ok-places.ensures ∙ ap (λ (l : Heading). positions_in l c.args.heading.now) (c.as_slice.ensures.value ∙ both)

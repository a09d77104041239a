use Rattle.std.proofs.Common.{◌≡◌, length, Some, None, ap, subst, ◌∙◌, arith}
use Rattle.std.specs.List.Sorted.{IsPermutation}
use Rattle.base_core.specs.Sets.{put}
use Rattle.value_core.specs.Headings.{first_repeat, IsHeadingRefusal}
use Rattle.value_core.specs.Values.{Heading, attribute_cmp}
use Rattle.relation_core.proofs.HeadingLemmas.{heading_in_order, no_repeat}
use Rattle.meaning_core.specs.Histories.{with_attribute}
use Rattle.since_during.proofs.HeadingLemmas.{put-in-order, more-ascends}
use Rattle.since_during.proofs.headings.with_attribute.Goals as goal

pub unreachable-requires : goal.unreachable-requires
unreachable-requires c =
    let h : first_repeat c.in_ok-list.list.items ≡ Some c.in-Err-Repeated.field-0-0 = subst (IsHeadingRefusal c.in_ok-list.list.items) c.in-Err-Repeated.field-0-is c.in-Err-Repeated.ensures in
    let list : c.in_ok-list.list.items ≡ with_attribute c.args.heading.now c.args.name.now c.args.kind =
    c.in_ok-list.ensures ∙ (ap (λ (l : Heading). put attribute_cmp (c.args.name.now, c.args.kind) l) c.attributes.ensures.list ∙ put-in-order c.args.heading.now c.args.name.now c.args.kind c.attributes.ensures.heading) in
    let k : first_repeat (with_attribute c.args.heading.now c.args.name.now c.args.kind) ≡ None = no_repeat _ (more-ascends c.args.heading.now c.args.name.now c.args.kind) in
    let m : first_repeat c.in_ok-list.list.items ≡ None = ap (λ (l : Heading). first_repeat l) list ∙ k in
    cc

pub unreachable-requires-in-Err-TooMany : goal.unreachable-requires-in-Err-TooMany
unreachable-requires-in-Err-TooMany c =
    let h = subst (IsHeadingRefusal c.in_ok-list.list.items) c.in-Err-TooMany.field-0-is c.in-Err-TooMany.ensures in
    let list : c.in_ok-list.list.items ≡ with_attribute c.args.heading.now c.args.name.now c.args.kind =
    c.in_ok-list.ensures ∙ (ap (λ (l : Heading). put attribute_cmp (c.args.name.now, c.args.kind) l) c.attributes.ensures.list ∙ put-in-order c.args.heading.now c.args.name.now c.args.kind c.attributes.ensures.heading) in
    let same : length c.in_ok-list.list.items ≡ length (with_attribute c.args.heading.now c.args.name.now c.args.kind) = ap (λ (l : Heading). length l) list in
    omega (arith, h.1, same, c.requires)

pub returns-in-Ok : goal.returns-in-Ok
returns-in-Ok c =
    let list : c.in_ok-list.list.items ≡ with_attribute c.args.heading.now c.args.name.now c.args.kind =
    c.in_ok-list.ensures ∙ (ap (λ (l : Heading). put attribute_cmp (c.args.name.now, c.args.kind) l) c.attributes.ensures.list ∙ put-in-order c.args.heading.now c.args.name.now c.args.kind c.attributes.ensures.heading) in
    let moved : IsPermutation (with_attribute c.args.heading.now c.args.name.now c.args.kind) c.in-Ok.to = subst (λ (l : Heading). IsPermutation l c.in-Ok.to) list c.in-Ok.ensures.same in
    heading_in_order (with_attribute c.args.heading.now c.args.name.now c.args.kind) c.in-Ok.to (more-ascends c.args.heading.now c.args.name.now c.args.kind) moved c.in-Ok.ensures.ordered

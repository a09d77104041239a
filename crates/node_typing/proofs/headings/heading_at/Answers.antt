use Rattle.std.proofs.Common.{◌≡◌, length, Some, None, ap, subst, ◌∙◌, arith}
use Rattle.std.specs.List.Sorted.{IsPermutation}
use Rattle.value_core.specs.Headings.{first_repeat, IsHeadingRefusal}
use Rattle.value_core.specs.Values.{Heading}
use Rattle.relation_core.specs.Parts.{attributes_at}
use Rattle.relation_core.proofs.HeadingLemmas.{heading_in_order, no_repeat, part_ascends, part_is_few}
use Rattle.node_typing.proofs.headings.heading_at.Goals as goal

pub unreachable-requires : goal.unreachable-requires
unreachable-requires c =
    let h : first_repeat c.in_ok-list.list.items ≡ Some c.in-Err-Repeated.field-0-0 = subst (IsHeadingRefusal c.in_ok-list.list.items) c.in-Err-Repeated.field-0-is c.in-Err-Repeated.ensures in
    let list : c.in_ok-list.list.items ≡ attributes_at c.args.positions.now c.args.heading.now = c.in_ok-list.ensures ∙ ap (λ (l : Heading). attributes_at c.args.positions.now l) c.attributes.ensures.list in
    let k : first_repeat (attributes_at c.args.positions.now c.args.heading.now) ≡ None =
    no_repeat (attributes_at c.args.positions.now c.args.heading.now) (part_ascends c.args.heading.now c.args.positions.now c.attributes.ensures.heading c.requires.ascending c.requires.within) in
    let m : first_repeat c.in_ok-list.list.items ≡ None = ap (λ (l : Heading). first_repeat l) list ∙ k in
    cc

pub unreachable-requires-in-Err-TooMany : goal.unreachable-requires-in-Err-TooMany
unreachable-requires-in-Err-TooMany c =
    let h = subst (IsHeadingRefusal c.in_ok-list.list.items) c.in-Err-TooMany.field-0-is c.in-Err-TooMany.ensures in
    let list : c.in_ok-list.list.items ≡ attributes_at c.args.positions.now c.args.heading.now = c.in_ok-list.ensures ∙ ap (λ (l : Heading). attributes_at c.args.positions.now l) c.attributes.ensures.list in
    let few = part_is_few c.args.heading.now c.args.positions.now c.attributes.ensures.heading c.requires.ascending c.requires.within in
    let same : length c.in_ok-list.list.items ≡ length (attributes_at c.args.positions.now c.args.heading.now) = ap (λ (l : Heading). length l) list in
    omega (arith, h.1, few, same)

pub returns-in-Ok : goal.returns-in-Ok
returns-in-Ok c =
    let list : c.in_ok-list.list.items ≡ attributes_at c.args.positions.now c.args.heading.now = c.in_ok-list.ensures ∙ ap (λ (l : Heading). attributes_at c.args.positions.now l) c.attributes.ensures.list in
    let moved : IsPermutation (attributes_at c.args.positions.now c.args.heading.now) c.in-Ok.to = subst (λ (l : Heading). IsPermutation l c.in-Ok.to) list c.in-Ok.ensures.same in
    heading_in_order (attributes_at c.args.positions.now c.args.heading.now) c.in-Ok.to
    (part_ascends c.args.heading.now c.args.positions.now c.attributes.ensures.heading c.requires.ascending c.requires.within) moved c.in-Ok.ensures.ordered

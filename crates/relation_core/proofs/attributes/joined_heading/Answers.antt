use Rattle.std.proofs.Common.{◌≡◌, ◌≤◌, [], ◌++◌, not, length, None, sym, subst, ap₂, ◌∙◌}
use Rattle.std.specs.List.{filter}
use Rattle.value_core.specs.Headings.{has_name, first_repeat, most_attributes}
use Rattle.value_core.specs.Values.{Heading}
use Rattle.relation_core.proofs.AttributeLemmas.{none_known, heading_is_joined, few_listed, listed_apart, apart_no_repeat}
use Rattle.relation_core.proofs.HeadingLemmas.{heading_ascends}
use Rattle.relation_core.proofs.attributes.joined_heading.Goals as goal

-- the attributes of both, each once
is_listed : (left right o t first both empty : Heading) → empty ≡ [] → o ≡ left → t ≡ right → first ≡ empty ++ filter (λ a. not (has_name [] a.0)) o → both ≡ first ++ filter (λ a. not (has_name o a.0)) t
    → both ≡ left ++ filter (λ a. not (has_name left a.0)) right
is_listed left right o t first both empty n ours theirs e f =
    let one : first ≡ left = e ∙ (ap₂ (λ (u v : Heading). u ++ v) n (none_known o) ∙ ours) in
    f ∙ ap₂ (λ (u v : Heading). u ++ v) one (ap₂ (λ (u v : Heading). filter (λ a. not (has_name u a.0)) v) ours theirs)

pub heading_of-requires : goal.heading_of-requires
heading_of-requires c =
    let l = c.args.left.now in
    let r = c.args.right.now in
    let list : c.append_new-2.new.list.items ≡ c.args.left.now ++ filter (λ a. not (has_name c.args.left.now a.0)) c.args.right.now =
    is_listed l r _ _ _ _ _ c.new-list.ensures.items c.attributes-ours.ensures.list c.attributes-theirs.ensures.list c.in_ok-append_new.ensures c.in_ok-append_new-2.ensures in
    let first = heading_ascends l c.attributes-ours.ensures.heading in
    let second = heading_ascends r c.attributes-theirs.ensures.heading in
    record {
      different = subst (λ (h : Heading). first_repeat h ≡ None) (sym list) (apart_no_repeat (l ++ filter (λ a. not (has_name l a.0)) r) (listed_apart l r first second c.requires.kinds));
      few = subst (λ (h : Heading). length h ≤ most_attributes) (sym list) (few_listed l r first second c.requires.kinds c.requires.few);
    }

pub returns : goal.returns
returns c =
    let l = c.args.left.now in
    let r = c.args.right.now in
    let list : c.append_new-2.new.list.items ≡ c.args.left.now ++ filter (λ a. not (has_name c.args.left.now a.0)) c.args.right.now =
    is_listed l r _ _ _ _ _ c.new-list.ensures.items c.attributes-ours.ensures.list c.attributes-theirs.ensures.list c.in_ok-append_new.ensures c.in_ok-append_new-2.ensures in
    heading_is_joined l r (heading_ascends l c.attributes-ours.ensures.heading) (heading_ascends r c.attributes-theirs.ensures.heading) c.requires.kinds c.append_new-2.new.list.items c.in_ok-heading.heading list
    c.in_ok-heading.ensures.same c.in_ok-heading.ensures.ordered

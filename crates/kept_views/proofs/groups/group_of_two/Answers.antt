use Rattle.std.proofs.Common.{◌<◌, ℕ, List, length, map, sym, ap, ◌∙◌, subst}
use Rattle.std.specs.List.{All}
use Rattle.value_core.specs.Headings.{position_of}
use Rattle.kept_views.specs.declared.rule.KeptRule.{KeptRule}
use Rattle.kept_views.specs.Kept.{key_names, of_key}
use Rattle.kept_views.proofs.AnswerLemmas.{pair_answered, pair_cost}
use Rattle.kept_views.proofs.GroupLemmas.{left_within, right_within, told_pair}
use Rattle.kept_views.proofs.groups.group_of_two.Goals as goal

pub rows_of_key-requires : goal.rows_of_key-requires
rows_of_key-requires g c =
    let rule = c.args.rule.now in
    let left = c.args.left.now in
    let right = c.args.right.now in
    let ours = c.attributes-ours.ensures.list ∙ c.heading.ensures.heading in
    let theirs = c.attributes-theirs.ensures.list ∙ c.heading-2.ensures.heading in
    let here = c.as_slice.ensures.value ∙ c.in_ok-here.ensures ∙ (λ t. map (position_of (ours t)) (key_names rule.op rule.left (ours t) (theirs t))) in
    subst (All (λ (i : ℕ). i < length left.heading)) (sym here) (left_within rule.op rule.left left.heading right.heading (told_pair rule.op rule.left rule.right left.heading right.heading c.requires))

pub rows_of_key-requires-2 : goal.rows_of_key-requires-2
rows_of_key-requires-2 g c =
    let rule = c.args.rule.now in
    let left = c.args.left.now in
    let right = c.args.right.now in
    let ours = c.attributes-ours.ensures.list ∙ c.heading.ensures.heading in
    let theirs = c.attributes-theirs.ensures.list ∙ c.heading-2.ensures.heading in
    let there = c.as_slice-2.ensures.value ∙ c.in_ok-there.ensures ∙ (λ t. map (position_of (theirs t)) (key_names rule.op rule.left (ours t) (theirs t))) in
    subst (All (λ (i : ℕ). i < length right.heading)) (sym there) (right_within rule.op rule.left rule.right left.heading right.heading c.requires)

pub returns-clause-rows : goal.returns-clause-rows
returns-clause-rows g c =
    let rule = c.args.rule.now in
    let left = c.args.left.now in
    let right = c.args.right.now in
    let ours = c.attributes-ours.ensures.list ∙ c.heading.ensures.heading in
    let theirs = c.attributes-theirs.ensures.list ∙ c.heading-2.ensures.heading in
    let here = c.as_slice.ensures.value ∙ c.in_ok-here.ensures ∙ (λ t. map (position_of (ours t)) (key_names rule.op rule.left (ours t) (theirs t))) in
    let there = c.as_slice-2.ensures.value ∙ c.in_ok-there.ensures ∙ (λ t. map (position_of (theirs t)) (key_names rule.op rule.left (ours t) (theirs t))) in
    let l = c.in_ok-l.ensures.rows ∙ ap (λ ps. of_key ps c.args.key.now left.rows) here in
    let r = c.in_ok-r.ensures.rows ∙ ap (λ ps. of_key ps c.args.key.now right.rows) there in
    pair_answered rule.op rule.left rule.right left right c.args.key.now c.heading.ensures.relation c.heading-2.ensures.relation c.requires _ _ _ _ _ _ _ (ap (λ (k : KeptRule). k.op) c.rule.view_is)
    (c.as_slice-commalist.ensures.value ∙ ap (λ (k : KeptRule). k.left) c.rule.view_is) (c.as_slice-other.ensures.value ∙ ap (λ (k : KeptRule). k.right) c.rule.view_is)
    c.in_ok-l.ensures.heading c.in_ok-r.ensures.heading l r c.of_two.result c.of_two.ensures.rows

pub returns-clause-cost : goal.returns-clause-cost
returns-clause-cost g c =
    let rule = c.args.rule.now in
    let left = c.args.left.now in
    let right = c.args.right.now in
    let ours = c.attributes-ours.ensures.list ∙ c.heading.ensures.heading in
    let theirs = c.attributes-theirs.ensures.list ∙ c.heading-2.ensures.heading in
    let here = c.as_slice.ensures.value ∙ c.in_ok-here.ensures ∙ (λ t. map (position_of (ours t)) (key_names rule.op rule.left (ours t) (theirs t))) in
    let there = c.as_slice-2.ensures.value ∙ c.in_ok-there.ensures ∙ (λ t. map (position_of (theirs t)) (key_names rule.op rule.left (ours t) (theirs t))) in
    let l = c.in_ok-l.ensures.rows ∙ ap (λ ps. of_key ps c.args.key.now left.rows) here in
    let r = c.in_ok-r.ensures.rows ∙ ap (λ ps. of_key ps c.args.key.now right.rows) there in
    pair_cost c.of_two.new.steps c.args.steps.now _ _ _ _ _ _ (ap (λ (ps : List ℕ). length ps) (c.as_slice-commalist.ensures.value ∙ ap (λ (k : KeptRule). k.left) c.rule.view_is)) l r c.of_two.ensures.cost

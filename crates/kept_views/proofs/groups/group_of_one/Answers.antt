use Rattle.std.proofs.Common.{◌<◌, ℕ, List, [], length, map, sym, ap, ◌∙◌, subst}
use Rattle.std.specs.List.{All}
use Rattle.value_core.specs.Headings.{position_of}
use Rattle.kept_views.specs.declared.rule.KeptRule.{KeptRule}
use Rattle.kept_views.specs.Kept.{key_names, of_key}
use Rattle.kept_views.proofs.AnswerLemmas.{alone_answered, alone_cost, alone_places}
use Rattle.kept_views.proofs.GroupLemmas.{left_within, told_alone}
use Rattle.kept_views.proofs.groups.group_of_one.Goals as goal

pub rows_of_key-requires : goal.rows_of_key-requires
rows_of_key-requires g c =
    let rule = c.args.rule.now in
    let r = c.args.r.now in
    let own = c.attributes-own.ensures.list ∙ c.heading.ensures.heading in
    let places = c.as_slice.ensures.value ∙ c.in_ok-places.ensures ∙ (λ t. map (position_of (own t)) (key_names rule.op rule.left (own t) (own t))) ∙ alone_places rule.op rule.left r.heading r.heading c.requires in
    subst (All (λ (i : ℕ). i < length r.heading)) (sym places) (left_within rule.op rule.left r.heading [] (told_alone rule.op rule.left r.heading c.requires))

pub returns-clause-rows : goal.returns-clause-rows
returns-clause-rows g c =
    let rule = c.args.rule.now in
    let r = c.args.r.now in
    let own = c.attributes-own.ensures.list ∙ c.heading.ensures.heading in
    let places = c.as_slice.ensures.value ∙ c.in_ok-places.ensures ∙ (λ t. map (position_of (own t)) (key_names rule.op rule.left (own t) (own t))) ∙ alone_places rule.op rule.left r.heading r.heading c.requires in
    let rows = c.in_ok-rows.ensures.rows ∙ ap (λ ps. of_key ps c.args.key.now r.rows) places in
    alone_answered rule.op rule.left rule.right r c.args.key.now c.heading.ensures.relation c.requires _ _ _ _ (ap (λ (k : KeptRule). k.op) c.rule.view_is)
    (c.as_slice-2.ensures.value ∙ ap (λ (k : KeptRule). k.left) c.rule.view_is) c.in_ok-rows.ensures.heading rows c.of_one.result (c.of_one.ensures.rows rule.right)

pub returns-clause-cost : goal.returns-clause-cost
returns-clause-cost g c =
    let rule = c.args.rule.now in
    let r = c.args.r.now in
    let own = c.attributes-own.ensures.list ∙ c.heading.ensures.heading in
    let places = c.as_slice.ensures.value ∙ c.in_ok-places.ensures ∙ (λ t. map (position_of (own t)) (key_names rule.op rule.left (own t) (own t))) ∙ alone_places rule.op rule.left r.heading r.heading c.requires in
    let rows = c.in_ok-rows.ensures.rows ∙ ap (λ ps. of_key ps c.args.key.now r.rows) places in
    alone_cost c.of_one.new.steps c.args.steps.now _ _ _ _ (ap (λ (ps : List ℕ). length ps) (c.as_slice-2.ensures.value ∙ ap (λ (k : KeptRule). k.left) c.rule.view_is)) rows c.of_one.ensures.cost

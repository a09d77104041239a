use Rattle.std.proofs.Common.{◌<◌, ℕ, length, map, sym, ◌∙◌, subst}
use Rattle.std.specs.List.{All}
use Rattle.std.proofs.lemmas.Result.{IfOk-weaker}
use Rattle.value_core.specs.Headings.{position_of}
use Rattle.kept_views.specs.Kept.{key_names}
use Rattle.kept_views.proofs.GroupLemmas.{right_within}
use Rattle.kept_views.proofs.touching.right_places.Goals as goal

pub returns-clause-within : goal.returns-clause-within
returns-clause-within c =
    let rule = c.args.rule.now in
    let left = c.args.left.now in
    let right = c.args.right.now in
    let ours = c.attributes-ours.ensures.list ∙ c.heading.ensures.heading in
    let theirs = c.attributes-theirs.ensures.list ∙ c.heading-2.ensures.heading in
    IfOk-weaker c.key_places.result _ _ (λ v e.
    subst (All (λ (i : ℕ). i < length right.heading)) (sym (e ∙ (λ t. map (position_of (theirs t)) (key_names rule.op rule.left (ours t) (theirs t)))))
    (right_within rule.op rule.left rule.right left.heading right.heading c.requires)) c.key_places.ensures

use Rattle.std.proofs.Common.{◌≡◌, ◌<◌, ℕ, Option, None, Some, option_map, length, [], map, sym, ap, ◌∙◌, subst}
use Rattle.std.specs.List.{All}
use Rattle.std.proofs.lemmas.Result.{IfOk-weaker}
use Rattle.value_core.specs.Headings.{position_of}
use Rattle.value_core.specs.Values.{Relation}
use Rattle.kept_views.specs.Kept.{Fits, key_names}
use Rattle.kept_views.proofs.AnswerLemmas.{alone_places}
use Rattle.kept_views.proofs.GroupLemmas.{left_within, told_pair, told_alone}
use Rattle.kept_views.proofs.touching.left_places.Goals as goal

pub returns-in-Some-clause-within : goal.returns-in-Some-clause-within
returns-in-Some-clause-within c =
    let rule = c.args.rule.now in
    let left = c.args.left.now in
    let other = c.in-Some.other.now in
    let is : option_map (λ r. r.now) c.args.right ≡ Some other = ap (option_map (λ r. r.now)) c.in-Some.is in
    let fits = subst (λ (o : Option Relation). Fits rule left o) is c.requires in
    let own = c.attributes-own.ensures.list ∙ c.heading.ensures.heading in
    let theirs = c.attributes.ensures.list ∙ c.heading-in-Some.ensures.heading in
    IfOk-weaker c.key_places.result _ _ (λ v e.
    subst (All (λ (i : ℕ). i < length left.heading)) (sym (e ∙ (λ t. map (position_of (own t)) (key_names rule.op rule.left (own t) (theirs t)))))
    (left_within rule.op rule.left left.heading other.heading (told_pair rule.op rule.left rule.right left.heading other.heading fits))) c.key_places.ensures

pub returns-in-None-clause-within : goal.returns-in-None-clause-within
returns-in-None-clause-within c =
    let rule = c.args.rule.now in
    let left = c.args.left.now in
    let is : option_map (λ r. r.now) c.args.right ≡ None = ap (option_map (λ r. r.now)) c.in-None.is in
    let fits = subst (λ (o : Option Relation). Fits rule left o) is c.requires in
    let own = c.attributes-own.ensures.list ∙ c.heading.ensures.heading in
    IfOk-weaker c.key_places-in-None.result _ _ (λ v e.
    subst (All (λ (i : ℕ). i < length left.heading)) (sym (e ∙ (λ t. map (position_of (own t)) (key_names rule.op rule.left (own t) (own t))) ∙ alone_places rule.op rule.left left.heading left.heading fits))
    (left_within rule.op rule.left left.heading [] (told_alone rule.op rule.left left.heading fits))) c.key_places-in-None.ensures

use Rattle.std.proofs.Common.{◌≡◌, ◌<◌, ℕ, Option, None, Some, option_map, length, map, sym, ap, ◌∙◌, subst}
use Rattle.std.specs.Bool.{IsTrue}
use Rattle.std.specs.List.{All}
use Rattle.std.proofs.lemmas.Result.{IfOk-weaker}
use Rattle.value_core.specs.Headings.{position_of}
use Rattle.value_core.specs.Values.{Heading, Relation, is_heading}
use Rattle.kept_views.specs.Kept.{Fits, kept_heading, key_names}
use Rattle.kept_views.proofs.AnswerLemmas.{alone_places}
use Rattle.kept_views.proofs.GroupLemmas.{view_within}
use Rattle.kept_views.proofs.group_moves.view_places.Goals as goal

pub returns-in-Some-clause-within : goal.returns-in-Some-clause-within
returns-in-Some-clause-within c =
    let rule = c.args.rule.now in
    let left = c.args.left.now in
    let view = c.args.view.now.heading in
    let other = c.in-Some.other.now in
    let is : option_map (λ r. r.now) c.args.right ≡ Some other = ap (option_map (λ r. r.now)) c.in-Some.is in
    let fits = subst (λ (o : Option Relation). Fits rule left o) is c.requires.fits in
    let same = c.requires.heading ∙ ap (λ (o : Option Relation). kept_heading rule left o) is in
    let own = c.attributes-own.ensures.list ∙ c.heading.ensures.heading in
    let to = c.attributes-to.ensures.list ∙ c.heading-2.ensures.heading in
    let theirs = c.attributes.ensures.list ∙ c.heading-in-Some.ensures.heading in
    let headed = subst (λ (h : Heading). IsTrue (is_heading h)) c.heading.ensures.heading c.attributes-own.ensures.heading in
    let headed' = subst (λ (h : Heading). IsTrue (is_heading h)) c.heading-in-Some.ensures.heading c.attributes.ensures.heading in
    IfOk-weaker c.key_places.result _ _ (λ v e.
    subst (All (λ (i : ℕ). i < length view)) (sym (e ∙ (λ t. map (position_of (to t)) (key_names rule.op rule.left (own t) (theirs t))))) (view_within rule left (Some other) view same headed headed' fits)) c.key_places.ensures

pub returns-in-None-clause-within : goal.returns-in-None-clause-within
returns-in-None-clause-within c =
    let rule = c.args.rule.now in
    let left = c.args.left.now in
    let view = c.args.view.now.heading in
    let is : option_map (λ r. r.now) c.args.right ≡ None = ap (option_map (λ r. r.now)) c.in-None.is in
    let fits = subst (λ (o : Option Relation). Fits rule left o) is c.requires.fits in
    let same = c.requires.heading ∙ ap (λ (o : Option Relation). kept_heading rule left o) is in
    let own = c.attributes-own.ensures.list ∙ c.heading.ensures.heading in
    let to = c.attributes-to.ensures.list ∙ c.heading-2.ensures.heading in
    let headed = subst (λ (h : Heading). IsTrue (is_heading h)) c.heading.ensures.heading c.attributes-own.ensures.heading in
    IfOk-weaker c.key_places-in-None.result _ _ (λ v e.
    subst (All (λ (i : ℕ). i < length view)) (sym (e ∙ (λ t. map (position_of (to t)) (key_names rule.op rule.left (own t) (own t))) ∙ alone_places rule.op rule.left left.heading view fits)) (view_within rule left None view same headed tt fits)) c.key_places-in-None.ensures

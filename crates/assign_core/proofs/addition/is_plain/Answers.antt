use Rattle.std.proofs.Common.{◌≡◌, ℕ, List, Bool, true, Option, Some, option_map, sym, ap, subst, ◌∙◌}
use Rattle.std.specs.Prelude.{IfOk}
use Rattle.relation_core.specs.Operators.{united}
use Rattle.meaning_core.specs.Typing.{IsListIf}
use Rattle.meaning_core.proofs.IntervalLemmas.{intervals_of_list}
use Rattle.assign_core.specs.Insertions.{list_under, united_in}
use Rattle.assign_core.proofs.addition.is_plain.Goals as goal

pub stay_apart-requires-clause-intervals : goal.stay_apart-requires-clause-intervals
stay_apart-requires-clause-intervals c =
    let a = c.args.addition in
    let heading = a.target.value.now.heading in
    let is : list_under a ≡ Some c.as_slice.result.now = (λ t. option_map (λ l. l.now) (c.in-Some.is t)) ∙ ap Some (sym (c.as_slice.ensures.value ∙ c.commalist.view_is)) in
    intervals_of_list heading c.as_slice.result.now (subst (λ (l : Option (List ℕ)). IsListIf heading l) is c.requires.listed)

pub returns-in-Some : goal.returns-in-Some
returns-in-Some c =
    let a = c.args.addition in
    let is : list_under a ≡ Some c.as_slice.result.now = (λ t. option_map (λ l. l.now) (c.in-Some.is t)) ∙ ap Some (sym (c.as_slice.ensures.value ∙ c.commalist.view_is)) in
    subst (λ (l : Option (List ℕ)). IfOk c.stay_apart.result (λ (b : Bool). b ≡ true → united_in l a.target.value.now.rows a.operand.now.rows ≡ united a.target.value.now.rows a.operand.now.rows)) (sym is)
    c.stay_apart.ensures

use Rattle.std.proofs.Common.{◌≡◌, Some, ap, ◌∙◌, option_map}
use Rattle.u_constraints.proofs.ConstraintLemmas.{referenced}
use Rattle.u_constraints.proofs.constraints.holds.Goals as goal

pub returns-in_ok-kept-in-Foreign-Some-clause-answer : goal.returns-in_ok-kept-in-Foreign-Some-clause-answer
returns-in_ok-kept-in-Foreign-Some-clause-answer g c =
    let named : option_map (λ r. r.now) c.args.other ≡ Some c.in-Foreign-Some.other.now = ap (option_map (λ r. r.now)) c.in-Foreign-Some.is-1 in
    referenced c.args.c.now _ _ _ _ _ _ _ _ _ _ _ _ c.in-Foreign-Some.is-0 named (c.as_slice-commalist-in-Foreign-Some.ensures.value ∙ c.commalist-in-Foreign-Some.view_is) (c.as_slice-here.ensures.value ∙ c.here.view_is) (c.as_slice-there.ensures.value ∙ c.there.view_is) c.in_ok-kept-in-Foreign-Some.ensures.answer c.unless-in-Foreign-Some.ensures

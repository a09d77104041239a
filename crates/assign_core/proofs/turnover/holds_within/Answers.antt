use Rattle.std.proofs.Common.{◌≡◌, ◌≤◌, ◌+◌, Option, sym, ap, subst, Bor, IfOk, IfSome}
use Rattle.std.specs.Result.{result_err}
use Rattle.value_core.specs.Values.{Heading, Relation}
use Rattle.meaning_core.specs.WellMade.{FitsHeadings}
use Rattle.u_constraints.specs.Constraints.{broken, names_relvar, rows_or_none}
use Rattle.u_constraints.specs.Growth.{exchanged}
use Rattle.u_constraints.specs.Costs.{constraint_cost}
use Rattle.assign_core.specs.Turnovers.{renewed}
use Rattle.assign_core.proofs.TurnoverLemmas.{named_heading, value_after}
use Rattle.assign_core.proofs.turnover.holds_within.Goals as goal

pub holds-requires-clause-fits : goal.holds-requires-clause-fits
holds-requires-clause-fits g c =
    let made : c.in-Some.all.now ≡ renewed c.args.turnover.value.now c.args.turnover.rows.now = subst (λ (o : Option (Bor Relation)). IfSome o (λ v. v.now ≡ renewed c.args.turnover.value.now c.args.turnover.rows.now)) c.in-Some.is c.requires.made in
    let h : c.in-Some.all.now.heading ≡ c.args.turnover.value.now.heading = ap (λ (r : Relation). r.heading) made in
    let there = named_heading c.args.turnover c.requires.turnover (names_relvar c.args.constraint.now) c.requires.names in
    let fits = subst (λ (x : Heading). FitsHeadings c.args.turnover.value.now.heading x c.args.constraint.now) there c.requires.checked.fits in
    subst (λ (x : Heading). FitsHeadings x x c.args.constraint.now) (sym h) fits

pub returns-in-Some-clause-answer : goal.returns-in-Some-clause-answer
returns-in-Some-clause-answer g c =
    let k = c.args.constraint.now in
    let made : c.in-Some.all.now ≡ renewed c.args.turnover.value.now c.args.turnover.rows.now = subst (λ (o : Option (Bor Relation)). IfSome o (λ v. v.now ≡ renewed c.args.turnover.value.now c.args.turnover.rows.now)) c.in-Some.is c.requires.made in
    let all = exchanged c.args.turnover.value.now.rows c.args.turnover.rows.now.gone.rows c.args.turnover.rows.now.come.rows in
    let named = value_after c.args.turnover c.requires.turnover (names_relvar k) c.requires.names in
    subst (λ (o : Option Relation). IfOk c.holds.result (λ answer. result_err answer ≡ broken k all (rows_or_none o))) (sym named)
    (subst (λ (r : Relation). IfOk c.holds.result (λ answer. result_err answer ≡ broken k r.rows r.rows)) made c.holds.ensures.answer)

pub returns-in-Some-clause-cost : goal.returns-in-Some-clause-cost
returns-in-Some-clause-cost g c =
    let k = c.args.constraint.now in
    let made : c.in-Some.all.now ≡ renewed c.args.turnover.value.now c.args.turnover.rows.now = subst (λ (o : Option (Bor Relation)). IfSome o (λ v. v.now ≡ renewed c.args.turnover.value.now c.args.turnover.rows.now)) c.in-Some.is c.requires.made in
    let all = exchanged c.args.turnover.value.now.rows c.args.turnover.rows.now.gone.rows c.args.turnover.rows.now.come.rows in
    let named = value_after c.args.turnover c.requires.turnover (names_relvar k) c.requires.names in
    subst (λ (o : Option Relation). c.holds.new.steps ≤ c.args.steps.now + constraint_cost k all (rows_or_none o)) (sym named)
    (subst (λ (r : Relation). c.holds.new.steps ≤ c.args.steps.now + constraint_cost k r.rows r.rows) made c.holds.ensures.cost)

pub holds-requires-in-None-clause-fits : goal.holds-requires-in-None-clause-fits
holds-requires-in-None-clause-fits g c =
    let h : c.in_ok-all-in-None.all.heading ≡ c.args.turnover.value.now.heading = ap (λ (r : Relation). r.heading) c.in_ok-all-in-None.ensures in
    let there = named_heading c.args.turnover c.requires.turnover (names_relvar c.args.constraint.now) c.requires.names in
    let fits = subst (λ (x : Heading). FitsHeadings c.args.turnover.value.now.heading x c.args.constraint.now) there c.requires.checked.fits in
    subst (λ (x : Heading). FitsHeadings x x c.args.constraint.now) (sym h) fits

pub returns-in_ok-all-in-None-clause-answer : goal.returns-in_ok-all-in-None-clause-answer
returns-in_ok-all-in-None-clause-answer g c =
    let k = c.args.constraint.now in
    let all = exchanged c.args.turnover.value.now.rows c.args.turnover.rows.now.gone.rows c.args.turnover.rows.now.come.rows in
    let named = value_after c.args.turnover c.requires.turnover (names_relvar k) c.requires.names in
    subst (λ (o : Option Relation). IfOk c.holds-in-None.result (λ answer. result_err answer ≡ broken k all (rows_or_none o))) (sym named)
    (subst (λ (r : Relation). IfOk c.holds-in-None.result (λ answer. result_err answer ≡ broken k r.rows r.rows)) c.in_ok-all-in-None.ensures c.holds-in-None.ensures.answer)

pub returns-in_ok-all-in-None-clause-cost : goal.returns-in_ok-all-in-None-clause-cost
returns-in_ok-all-in-None-clause-cost g c =
    let k = c.args.constraint.now in
    let all = exchanged c.args.turnover.value.now.rows c.args.turnover.rows.now.gone.rows c.args.turnover.rows.now.come.rows in
    let named = value_after c.args.turnover c.requires.turnover (names_relvar k) c.requires.names in
    subst (λ (o : Option Relation). c.holds-in-None.new.steps ≤ c.args.steps.now + constraint_cost k all (rows_or_none o)) (sym named)
    (subst (λ (r : Relation). c.holds-in-None.new.steps ≤ c.args.steps.now + constraint_cost k r.rows r.rows) c.in_ok-all-in-None.ensures c.holds-in-None.ensures.cost)

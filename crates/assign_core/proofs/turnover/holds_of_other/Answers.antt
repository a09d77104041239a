use Rattle.std.proofs.Common.{◌≡◌, ◌≤◌, ◌+◌, None, Option, sym, subst, IfOk}
use Rattle.std.specs.Result.{result_err}
use Rattle.value_core.specs.Values.{Heading, Relation}
use Rattle.meaning_core.specs.WellMade.{FitsHeadings}
use Rattle.u_constraints.specs.Constraints.{broken, names_relvar, rows_or_none}
use Rattle.u_constraints.specs.Costs.{constraint_cost}
use Rattle.assign_core.proofs.TurnoverLemmas.{named_heading, named_value, value_after}
use Rattle.assign_core.proofs.turnover.holds_of_other.Goals as goal

pub holds_across-requires-clause-fits : goal.holds_across-requires-clause-fits
holds_across-requires-clause-fits g c =
    let there = named_heading c.args.turnover c.requires.turnover (names_relvar c.args.constraint.now) c.requires.names in
    subst (λ (x : Heading). FitsHeadings c.args.of.now.heading x c.args.constraint.now) there c.requires.checked.fits

pub holds_across-requires-clause-held : goal.holds_across-requires-clause-held
holds_across-requires-clause-held g c =
    let there = named_value c.args.turnover c.requires.turnover (names_relvar c.args.constraint.now) c.requires.names in
    subst (λ (o : Option Relation). broken c.args.constraint.now c.args.of.now.rows (rows_or_none o) ≡ None) there c.requires.held

pub returns-clause-answer : goal.returns-clause-answer
returns-clause-answer g c =
    let k = c.args.constraint.now in
    let named = value_after c.args.turnover c.requires.turnover (names_relvar k) c.requires.names in
    subst (λ (o : Option Relation). IfOk c.holds_across.result (λ answer. result_err answer ≡ broken k c.args.of.now.rows (rows_or_none o))) (sym named) c.holds_across.ensures.answer

pub returns-clause-cost : goal.returns-clause-cost
returns-clause-cost g c =
    let k = c.args.constraint.now in
    let named = value_after c.args.turnover c.requires.turnover (names_relvar k) c.requires.names in
    subst (λ (o : Option Relation). c.holds_across.new.steps ≤ c.args.steps.now + constraint_cost k c.args.of.now.rows (rows_or_none o)) (sym named) c.holds_across.ensures.cost

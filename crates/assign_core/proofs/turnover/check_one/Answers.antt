use Rattle.std.proofs.Common.{◌≡◌, ◌≤◌, ◌+◌, true, false, None, option_map, refl, sym, subst, ◌∙◌, IfOk}
use Rattle.std.specs.List.{All}
use Rattle.std.specs.Result.{result_err}
use Rattle.value_core.specs.Values.{Relation}
use Rattle.relation_core.specs.Hashes.{AreHashesOf}
use Rattle.u_constraints.specs.Constraints.{broken, names_relvar}
use Rattle.u_constraints.specs.Costs.{constraint_cost}
use Rattle.assign_core.specs.Breaches.{value_at}
use Rattle.assign_core.specs.Turnovers.{after_turnover, before_turnover}
use Rattle.assign_core.proofs.TurnoverLemmas.{other_value, after_exchange}
use Rattle.assign_core.proofs.turnover.check_one.Goals as goal

pub returns-in-true-false-2-clause-answer : goal.returns-in-true-false-2-clause-answer
returns-in-true-false-2-clause-answer g c =
    let k = c.args.constraint.now in
    let there = c.named-other.ensures ∙ sym (other_value c.args.turnover c.requires.turnover (names_relvar k) (sym c.in-true-false.ensures)) in
    after_exchange (λ rows others. IfOk c.holds_with.result (λ answer. result_err answer ≡ broken k rows others)) c.args.turnover c.args.own.changes true c.args.own.of.now.rows
    (option_map (λ v. v.now) c.named-other.result) (value_at (after_turnover c.args.turnover) (names_relvar k)) c.in-true-false.is-0 there c.holds_with.ensures.answer

pub returns-in-true-false-2-clause-cost : goal.returns-in-true-false-2-clause-cost
returns-in-true-false-2-clause-cost g c =
    let k = c.args.constraint.now in
    let there = c.named-other.ensures ∙ sym (other_value c.args.turnover c.requires.turnover (names_relvar k) (sym c.in-true-false.ensures)) in
    after_exchange (λ rows others. c.holds_with.new.steps ≤ c.args.steps.now + constraint_cost k rows others) c.args.turnover c.args.own.changes true c.args.own.of.now.rows
    (option_map (λ v. v.now) c.named-other.result) (value_at (after_turnover c.args.turnover) (names_relvar k)) c.in-true-false.is-0 there c.holds_with.ensures.cost

pub returns-in-false-true-clause-answer : goal.returns-in-false-true-clause-answer
returns-in-false-true-clause-answer g c =
    let k = c.args.constraint.now in
    let there = value_at (after_turnover c.args.turnover) (names_relvar k) in
    after_exchange (λ rows others. IfOk c.holds_of_other.result (λ answer. result_err answer ≡ broken k rows others)) c.args.turnover c.args.own.changes false c.args.own.of.now.rows
    there there c.in-false-true.is-0 refl c.holds_of_other.ensures.answer

pub returns-in-false-true-clause-cost : goal.returns-in-false-true-clause-cost
returns-in-false-true-clause-cost g c =
    let k = c.args.constraint.now in
    let there = value_at (after_turnover c.args.turnover) (names_relvar k) in
    after_exchange (λ rows others. c.holds_of_other.new.steps ≤ c.args.steps.now + constraint_cost k rows others) c.args.turnover c.args.own.changes false c.args.own.of.now.rows
    there there c.in-false-true.is-0 refl c.holds_of_other.ensures.cost

pub returns-in-false-false-clause-answer : goal.returns-in-false-false-clause-answer
returns-in-false-false-clause-answer g c =
    let k = c.args.constraint.now in
    let there = other_value c.args.turnover c.requires.turnover (names_relvar k) (sym c.in-false-false.ensures) in
    after_exchange (λ rows others. None ≡ broken k rows others) c.args.turnover c.args.own.changes false c.args.own.of.now.rows
    (value_at (before_turnover c.args.turnover) (names_relvar k)) (value_at (after_turnover c.args.turnover) (names_relvar k)) c.in-false-false.is-0 (sym there) (sym c.requires.held)

pub holds_with-requires-clause-hashes : goal.holds_with-requires-clause-hashes
holds_with-requires-clause-hashes g c =
    subst (λ (r : Relation). All (AreHashesOf r.rows) c.args.turnover.known.hashes.now) (sym (c.requires.own c.in-true-false.is-0)) c.requires.known.hashed

use Rattle.std.proofs.Common.{◌≤◌, ◌+◌, ℕ, subst}
use Rattle.std.proofs.lemmas.Result.{err_from_is_err_and}
use Rattle.assign_core.proofs.PreparedLemmas.{cost_in_place, prepared, refused_in_place}
use Rattle.assign_core.proofs.in_place.prepare_in_place.Goals as goal

pub admit_rows-requires-clause-turnover : goal.admit_rows-requires-clause-turnover
admit_rows-requires-clause-turnover g c =
    let k = c.requires.target in
    let x = c.requires.exchange in
    record { constraints = k.constraints; first = k.first; come = x.come; gone = x.gone; few = c.requires.may.room }

pub returns-in_err-admit_rows-clause-refused : goal.returns-in_err-admit_rows-clause-refused
returns-in_err-admit_rows-clause-refused g c list meant =
    let refuse = c.in_err-admit_rows.field-0.0 in
    let p = err_from_is_err_and c.from_residual-in_err-admit_rows.result c.from_residual-in_err-admit_rows.ensures.1 in
    rw (p.1, p.2) (refused_in_place c.args.target c.args.rows c.requires.target c.requires.kept c.requires.exchange c.requires.may c.requires.step list meant refuse c.in_err-admit_rows.ensures.admitted)

pub returns-in_err-admit_rows-clause-cost : goal.returns-in_err-admit_rows-clause-cost
returns-in_err-admit_rows-clause-cost g c =
    subst (λ (n : ℕ). c.admit_rows.new.steps ≤ c.args.steps.now + n) (cost_in_place c.args.target c.args.rows c.requires.target c.requires.kept c.requires.exchange c.requires.may)
    c.admit_rows.ensures.cost

pub returns-in_err-differ-clause-cost : goal.returns-in_err-differ-clause-cost
returns-in_err-differ-clause-cost g c =
    subst (λ (n : ℕ). c.admit_rows.new.steps ≤ c.args.steps.now + n) (cost_in_place c.args.target c.args.rows c.requires.target c.requires.kept c.requires.exchange c.requires.may)
    c.admit_rows.ensures.cost

pub returns-in_err-name-clause-cost : goal.returns-in_err-name-clause-cost
returns-in_err-name-clause-cost g c =
    subst (λ (n : ℕ). c.admit_rows.new.steps ≤ c.args.steps.now + n) (cost_in_place c.args.target c.args.rows c.requires.target c.requires.kept c.requires.exchange c.requires.may)
    c.admit_rows.ensures.cost

pub returns-clause-prepared : goal.returns-clause-prepared
returns-clause-prepared g c list meant =
    prepared c.args.target c.args.rows c.requires.target c.requires.kept c.requires.exchange c.requires.may c.requires.step list meant c.in_ok-name.name c.in_ok-differ.differ c.in_ok-name.ensures c.in_ok-differ.ensures
    c.in_ok-admit_rows.ensures.admitted

pub returns-clause-cost : goal.returns-clause-cost
returns-clause-cost g c =
    subst (λ (n : ℕ). c.admit_rows.new.steps ≤ c.args.steps.now + n) (cost_in_place c.args.target c.args.rows c.requires.target c.requires.kept c.requires.exchange c.requires.may)
    c.admit_rows.ensures.cost

use Rattle.std.proofs.Common.{◌≡◌, ◌≤◌, ◌+◌, List, ap, sym, subst, ◌∙◌, Ok}
use Rattle.std.proofs.lemmas.Result.{err_from_is_err_and}
use Rattle.point_core.specs.Faults.{OrFault}
use Rattle.value_core.specs.Values.{most_rows}
use Rattle.tree_core.specs.Relvars.{Entries, read_relvars}
use Rattle.assign_core.specs.Assignments.{of_values, IsRefusedFor}
use Rattle.assign_core.specs.Costs.{constraints_cost_of}
use Rattle.assign_core.specs.Targets.{entries_before}
use Rattle.assign_core.specs.Exchanges.{exchanged_by, with_ready, ArePrepared}
use Rattle.assign_core.specs.declared.exchange.Change.{Change}
use Rattle.assign_core.specs.Turnovers.{renewed_at}
use Rattle.assign_core.proofs.AdditionLemmas.{exchange_ready}
use Rattle.assign_core.proofs.NameLemmas.{relvars_differ}
use Rattle.assign_core.proofs.PackingLemmas.{few_left}
use Rattle.assign_core.proofs.TurnoverLemmas.{is_exchange_at}
use Rattle.assign_core.proofs.admitting.admit_exchange.Goals as goal

pub admit_rows-requires-clause-turnover : goal.admit_rows-requires-clause-turnover
admit_rows-requires-clause-turnover g c =
    let k = c.requires.target in
    let x = c.requires.exchange in
    record {
      constraints = k.constraints;
      first = k.first;
      come = x.come;
      gone = x.gone;
      few = c.have_room.ensures c.if-not-have_room.false;
    }

pub returns-in_err-admit_rows-clause-refused : goal.returns-in_err-admit_rows-clause-refused
returns-in_err-admit_rows-clause-refused g c =
    let t = c.args.target in
    let x = c.args.rows in
    let made = exchange_ready t c.requires.target (relvars_differ (read_relvars t.relvars.now) c.requires.kept.well_made) x
    (few_left t.value.now.rows x.gone.rows x.come.rows most_rows (c.have_room.ensures c.if-not-have_room.false)) in
    let refuse = c.in_err-admit_rows.field-0.0 in
    let p = err_from_is_err_and c.from_residual-in_err-admit_rows.result c.from_residual-in_err-admit_rows.ensures.1 in
    rw (p.1, p.2) (subst (λ (v : OrFault Entries). IsRefusedFor refuse (of_values v)) (sym made) c.in_err-admit_rows.ensures.admitted)

pub returns-in_err-admit_rows-clause-cost : goal.returns-in_err-admit_rows-clause-cost
returns-in_err-admit_rows-clause-cost g c =
    let t = c.args.target in
    let x = c.args.rows in
    let made = exchange_ready t c.requires.target (relvars_differ (read_relvars t.relvars.now) c.requires.kept.well_made) x
    (few_left t.value.now.rows x.gone.rows x.come.rows most_rows (c.have_room.ensures c.if-not-have_room.false)) in
    subst (λ (v : OrFault Entries). c.admit_rows.new.steps ≤ c.args.steps.now + constraints_cost_of v) (sym made) c.admit_rows.ensures.cost

pub returns-in_err-ready-clause-cost : goal.returns-in_err-ready-clause-cost
returns-in_err-ready-clause-cost g c =
    let t = c.args.target in
    let x = c.args.rows in
    let made = exchange_ready t c.requires.target (relvars_differ (read_relvars t.relvars.now) c.requires.kept.well_made) x
    (few_left t.value.now.rows x.gone.rows x.come.rows most_rows (c.have_room.ensures c.if-not-have_room.false)) in
    subst (λ (v : OrFault Entries). c.admit_rows.new.steps ≤ c.args.steps.now + constraints_cost_of v) (sym made) c.admit_rows.ensures.cost

pub returns-clause-ready : goal.returns-clause-ready
returns-clause-ready g c =
    let t = c.args.target in
    let k = c.requires.target in
    subst (λ (l : List Change). ArePrepared l (entries_before t)) (sym c.in_ok-ready.ensures)
    (is_exchange_at (entries_before t) t.name.now t.at t.value.now k.constraints c.args.rows k.first c.requires.exchange.come (c.have_room.ensures c.if-not-have_room.false), tt, tt)

pub returns-clause-meant : goal.returns-clause-meant
returns-clause-meant g c =
    let t = c.args.target in
    let x = c.args.rows in
    let made = exchange_ready t c.requires.target (relvars_differ (read_relvars t.relvars.now) c.requires.kept.well_made) x
    (few_left t.value.now.rows x.gone.rows x.come.rows most_rows (c.have_room.ensures c.if-not-have_room.false)) in
    subst (λ (v : OrFault Entries). of_values v ≡ Ok (renewed_at t.at x (entries_before t))) (sym made) c.in_ok-admit_rows.ensures.admitted
    ∙ ap Ok (sym (ap (λ (l : List Change). exchanged_by l (entries_before t)) c.in_ok-ready.ensures))

pub returns-clause-cost : goal.returns-clause-cost
returns-clause-cost g c =
    let t = c.args.target in
    let x = c.args.rows in
    let made = exchange_ready t c.requires.target (relvars_differ (read_relvars t.relvars.now) c.requires.kept.well_made) x
    (few_left t.value.now.rows x.gone.rows x.come.rows most_rows (c.have_room.ensures c.if-not-have_room.false)) in
    subst (λ (v : OrFault Entries). c.admit_rows.new.steps ≤ c.args.steps.now + constraints_cost_of v) (sym made) c.admit_rows.ensures.cost

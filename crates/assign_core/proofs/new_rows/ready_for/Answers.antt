use Rattle.std.proofs.Common.{◌≡◌, ◌≤◌, ◌+◌, length, ap, sym, subst, arith, Ok, option_map}
use Rattle.std.specs.Prelude.{IfErr, IfOk}
use Rattle.point_core.specs.Faults.{OrFault}
use Rattle.value_core.specs.Values.{most_rows}
use Rattle.tree_core.specs.Relvars.{Entries}
use Rattle.assign_core.specs.declared.new_rows.Coming.{Coming}
use Rattle.assign_core.specs.Arrivals.{entries_then, way_of}
use Rattle.relvar_logs.specs.Changes.{changed}
use Rattle.assign_core.specs.Assignments.{kept_or_refused, of_values, with_target, IsRefusedFor}
use Rattle.assign_core.specs.Costs.{constraints_cost, constraints_cost_of}
use Rattle.assign_core.specs.Insertions.{united_cost}
use Rattle.assign_core.specs.NewRows.{replacing, joined_cost, rows_then, IsListFor}
use Rattle.assign_core.specs.Targets.{entries_before}
use Rattle.assign_core.specs.Exchanges.{with_ready}
use Rattle.assign_core.proofs.NewRowLemmas.{sum_fits}
use Rattle.assign_core.proofs.PendingLemmas.{values_admitted}
use Rattle.assign_core.proofs.new_rows.ready_for.Goals as goal

pub alone-requires-clause-target : goal.alone-requires-clause-target
alone-requires-clause-target g c =
    record { constraints = c.requires.base.constraints; first = c.requires.base.first }

pub join-requires-clause-target : goal.join-requires-clause-target
join-requires-clause-target g c =
    record { constraints = c.requires.base.constraints; first = c.requires.base.first }

pub returns-in_ok-changes-in-Set-clause-meant : goal.returns-in_ok-changes-in-Set-clause-meant
returns-in_ok-changes-in-Set-clause-meant g c =
    let t = c.args.target in
    let es = entries_before t in
    subst (λ (w : Coming). IfOk c.admit_values.result (λ r. kept_or_refused (entries_then es (way_of w) t.name.now t.value.now.rows c.args.rows) ≡ Ok (with_ready r es))) (sym c.in-Set.is)
    (values_admitted c.admit_values.result es (changed c.in_ok-changes-in-Set.changes.items es) (Ok (with_target es t.name.now c.args.rows)) (ap Ok (sym c.in_ok-changes-in-Set.ensures.made)) c.admit_values.ensures.made c.admit_values.ensures.admitted)

pub returns-in_ok-changes-in-Set-clause-refused : goal.returns-in_ok-changes-in-Set-clause-refused
returns-in_ok-changes-in-Set-clause-refused g c =
    let t = c.args.target in
    let es = entries_before t in
    subst (λ (w : Coming). IfErr c.admit_values.result (λ refuse. IsRefusedFor refuse (kept_or_refused (entries_then es (way_of w) t.name.now t.value.now.rows c.args.rows)))) (sym c.in-Set.is)
    (subst (λ (z : Entries). IfErr c.admit_values.result (λ refuse. IsRefusedFor refuse (kept_or_refused z))) c.in_ok-changes-in-Set.ensures.made c.admit_values.ensures.refused)

pub returns-in_ok-changes-in-Set-clause-cost : goal.returns-in_ok-changes-in-Set-clause-cost
returns-in_ok-changes-in-Set-clause-cost g c =
    let t = c.args.target in
    let es = entries_before t in
    let taken : c.admit_values.new.steps ≤ c.args.steps.now + constraints_cost (with_target es t.name.now c.args.rows) =
    subst (λ (z : Entries). c.admit_values.new.steps ≤ c.args.steps.now + constraints_cost z) c.in_ok-changes-in-Set.ensures.made c.admit_values.ensures.cost in
    let all : c.admit_values.new.steps ≤ c.args.steps.now + (joined_cost replacing t.value.now.rows c.args.rows.rows + constraints_cost (entries_then es replacing t.name.now t.value.now.rows c.args.rows)) = omega (arith, taken) in
    subst (λ (w : Coming). c.admit_values.new.steps ≤ c.args.steps.now + (joined_cost (way_of w) t.value.now.rows c.args.rows.rows + constraints_cost (entries_then es (way_of w) t.name.now t.value.now.rows c.args.rows)))
    (sym c.in-Set.is) all

pub join-requires-clause-listed : goal.join-requires-clause-listed
join-requires-clause-listed g c =
    subst (λ (w : Coming). IsListFor c.args.rows.heading (way_of w)) c.in-Insert.is c.requires.listed

pub returns-in-Insert-clause-meant : goal.returns-in-Insert-clause-meant
returns-in-Insert-clause-meant g c =
    let t = c.args.target in
    let es = entries_before t in
    let list = option_map (λ l. l.now) c.in-Insert.commalist in
    let fits = subst (λ (w : Coming). length (rows_then (way_of w) t.value.now.rows c.args.rows.rows) ≤ most_rows) c.in-Insert.is c.requires.base.fits in
    let sum = sum_fits t list c.args.rows c.requires.base.headed fits in
    subst (λ (w : Coming). IfOk c.join.result (λ r. kept_or_refused (entries_then es (way_of w) t.name.now t.value.now.rows c.args.rows) ≡ Ok (with_ready r es))) (sym c.in-Insert.is)
    (subst (λ (v : OrFault Entries). IfOk c.join.result (λ r. of_values v ≡ Ok (with_ready r es))) sum c.join.ensures.meant)

pub returns-in-Insert-clause-refused : goal.returns-in-Insert-clause-refused
returns-in-Insert-clause-refused g c =
    let t = c.args.target in
    let es = entries_before t in
    let list = option_map (λ l. l.now) c.in-Insert.commalist in
    let fits = subst (λ (w : Coming). length (rows_then (way_of w) t.value.now.rows c.args.rows.rows) ≤ most_rows) c.in-Insert.is c.requires.base.fits in
    let sum = sum_fits t list c.args.rows c.requires.base.headed fits in
    subst (λ (w : Coming). IfErr c.join.result (λ refuse. IsRefusedFor refuse (kept_or_refused (entries_then es (way_of w) t.name.now t.value.now.rows c.args.rows)))) (sym c.in-Insert.is)
    (subst (λ (v : OrFault Entries). IfErr c.join.result (λ refuse. IsRefusedFor refuse (of_values v))) sum c.join.ensures.refused)

pub returns-in-Insert-clause-cost : goal.returns-in-Insert-clause-cost
returns-in-Insert-clause-cost g c =
    let t = c.args.target in
    let es = entries_before t in
    let list = option_map (λ l. l.now) c.in-Insert.commalist in
    let fits = subst (λ (w : Coming). length (rows_then (way_of w) t.value.now.rows c.args.rows.rows) ≤ most_rows) c.in-Insert.is c.requires.base.fits in
    let sum = sum_fits t list c.args.rows c.requires.base.headed fits in
    subst (λ (w : Coming). c.join.new.steps ≤ c.args.steps.now + (joined_cost (way_of w) t.value.now.rows c.args.rows.rows + constraints_cost (entries_then es (way_of w) t.name.now t.value.now.rows c.args.rows))) (sym c.in-Insert.is)
    (subst (λ (v : OrFault Entries). c.join.new.steps ≤ c.args.steps.now + (united_cost list (length t.value.now.rows + length c.args.rows.rows) + constraints_cost_of v)) sum c.join.ensures.cost)

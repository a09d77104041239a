use Rattle.std.proofs.Common.{◌≡◌, ◌≤◌, ◌+◌, map, sym, subst, Ok}
use Rattle.std.specs.Prelude.{IfErr, IfOk}
use Rattle.point_core.specs.Faults.{OrFault}
use Rattle.tree_core.specs.declared.relvar.Relvars.{Relvars}
use Rattle.tree_core.specs.Relvars.{Entries, read_entry, read_relvars}
use Rattle.relvar_logs.specs.Changes.{changed}
use Rattle.assign_core.specs.declared.pending.Pending.{Pending}
use Rattle.assign_core.specs.Assignments.{of_values, IsRefusedFor}
use Rattle.assign_core.specs.Costs.{constraints_cost_of}
use Rattle.assign_core.specs.Databases.{IsKept}
use Rattle.assign_core.specs.Exchanges.{with_ready, IsReady}
use Rattle.assign_core.specs.Pendings.{IsPending}
use Rattle.assign_core.specs.Targets.{entries_after}
use Rattle.assign_core.proofs.PendingLemmas.{values_admitted}
use Rattle.assign_core.proofs.admitting.admit_pending.Goals as goal

-- ---- rows that are exchanged

pub admit_exchange-requires-clause-kept : goal.admit_exchange-requires-clause-kept
admit_exchange-requires-clause-kept g c =
    let h = subst (IsPending c.args.relvars.now c.requires.pending.0) c.in-Rows.is c.requires.pending.1 in
    subst (λ (r : Relvars). IsKept (read_relvars r)) (sym h.0) c.requires.kept

pub admit_exchange-requires-clause-target : goal.admit_exchange-requires-clause-target
admit_exchange-requires-clause-target g c =
    let h = subst (IsPending c.args.relvars.now c.requires.pending.0) c.in-Rows.is c.requires.pending.1 in
    h.1

pub admit_exchange-requires-clause-exchange : goal.admit_exchange-requires-clause-exchange
admit_exchange-requires-clause-exchange g c =
    let h = subst (IsPending c.args.relvars.now c.requires.pending.0) c.in-Rows.is c.requires.pending.1 in
    h.2

pub admit_exchange-requires-clause-known : goal.admit_exchange-requires-clause-known
admit_exchange-requires-clause-known g c =
    let h = subst (IsPending c.args.relvars.now c.requires.pending.0) c.in-Rows.is c.requires.pending.1 in
    h.3

pub returns-in-Rows-clause-ready : goal.returns-in-Rows-clause-ready
returns-in-Rows-clause-ready g c =
    let h = subst (IsPending c.args.relvars.now c.requires.pending.0) c.in-Rows.is c.requires.pending.1 in
    subst (λ (r : Relvars). IfOk c.admit_exchange.result (λ z. IsReady z (read_relvars r).relvars)) h.0 c.admit_exchange.ensures.ready

pub returns-in-Rows-clause-meant : goal.returns-in-Rows-clause-meant
returns-in-Rows-clause-meant g c = λ meant is.
    let h = subst (IsPending c.args.relvars.now meant) c.in-Rows.is is in
    subst (λ (v : OrFault Entries). IfOk c.admit_exchange.result (λ z. of_values v ≡ Ok (with_ready z (read_relvars c.args.relvars.now).relvars))) (sym h.4)
    (subst (λ (r : Relvars). IfOk c.admit_exchange.result (λ z. of_values (entries_after c.in-Rows.target c.in-Rows.rows) ≡ Ok (with_ready z (read_relvars r).relvars))) h.0 c.admit_exchange.ensures.meant)

pub returns-in-Rows-clause-refused : goal.returns-in-Rows-clause-refused
returns-in-Rows-clause-refused g c = λ meant is.
    let h = subst (IsPending c.args.relvars.now meant) c.in-Rows.is is in
    subst (λ (v : OrFault Entries). IfErr c.admit_exchange.result (λ refuse. IsRefusedFor refuse (of_values v))) (sym h.4) c.admit_exchange.ensures.refused

pub returns-in-Rows-clause-cost : goal.returns-in-Rows-clause-cost
returns-in-Rows-clause-cost g c = λ meant is.
    let h = subst (IsPending c.args.relvars.now meant) c.in-Rows.is is in
    subst (λ (v : OrFault Entries). c.admit_exchange.new.steps ≤ c.args.steps.now + constraints_cost_of v) (sym h.4) c.admit_exchange.ensures.cost

-- ---- values

pub admit_values-requires-clause-changes : goal.admit_values-requires-clause-changes
admit_values-requires-clause-changes g c =
    let h = subst (IsPending c.args.relvars.now c.requires.pending.0) c.in-Values.is c.requires.pending.1 in
    h.0

pub returns-in-Values-clause-meant : goal.returns-in-Values-clause-meant
returns-in-Values-clause-meant g c = λ meant is.
    let es = map read_entry c.args.relvars.now.list.entries in
    let h = subst (IsPending c.args.relvars.now meant) c.in-Values.is is in
    values_admitted c.admit_values.result es (changed c.in-Values.changes.items es) meant h.1 c.admit_values.ensures.made c.admit_values.ensures.admitted

pub returns-in-Values-clause-refused : goal.returns-in-Values-clause-refused
returns-in-Values-clause-refused g c = λ meant is.
    let h = subst (IsPending c.args.relvars.now meant) c.in-Values.is is in
    subst (λ (v : OrFault Entries). IfErr c.admit_values.result (λ refuse. IsRefusedFor refuse (of_values v))) (sym h.1) c.admit_values.ensures.refused

pub returns-in-Values-clause-cost : goal.returns-in-Values-clause-cost
returns-in-Values-clause-cost g c = λ meant is.
    let h = subst (IsPending c.args.relvars.now meant) c.in-Values.is is in
    subst (λ (v : OrFault Entries). c.admit_values.new.steps ≤ c.args.steps.now + constraints_cost_of v) (sym h.1) c.admit_values.ensures.cost

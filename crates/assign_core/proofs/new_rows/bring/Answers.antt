use Rattle.std.proofs.Common.{◌≡◌, Bool, true, Option, Result, Ok, Err, refl, sym, subst, arith}
use Rattle.std.proofs.lemmas.Result.{err_from_is_err_and}
use Rattle.value_core.specs.declared.refuse.Refuse.{Refuse}
use Rattle.tree_core.specs.Relvars.{read_relvars}
use Rattle.assign_core.specs.declared.exchange.Ready.{Ready}
use Rattle.assign_core.specs.Arrivals.{entries_then, way_of, IsReadied}
use Rattle.assign_core.specs.Assignments.{kept_or_refused, IsRefusedFor}
use Rattle.assign_core.specs.NewRows.{IsFoundIf}
use Rattle.assign_core.specs.Exchanges.{with_ready}
use Rattle.assign_core.proofs.NewRowLemmas.{brought_of, paid_of, refused_so, refused_rule, entered, entered_keeps, rules_price}
use Rattle.assign_core.proofs.LogLemmas.{settled_logs}
use Rattle.assign_core.proofs.new_rows.bring.Goals as goal

pub returns-in_err-found-clause-brought : goal.returns-in_err-found-clause-brought
returns-in_err-found-clause-brought g c =
    let s = read_relvars c.args.relvars.now in
    let refuse = c.in_err-found.field-0.0 in
    let k = c.in_err-found.ensures.readied in
    let p = err_from_is_err_and c.from_residual.result c.from_residual.ensures.1 in
    rw (p.1, p.2) (brought_of s (way_of c.args.way) c.args.target.now c.args.rows (IsRefusedFor refuse) c.args.steps.now c.ready_rows.new.steps k (Err refuse) s
    (refused_so refuse s.rules (entries_then s.relvars (way_of c.args.way) c.args.target.now k.base.old.rows c.args.rows) k.told, refl))

pub returns-in_err-found-clause-found : goal.returns-in_err-found-clause-found
returns-in_err-found-clause-found g c =
    let p = err_from_is_err_and c.from_residual.result c.from_residual.ensures.1 in
    subst (λ (r : Result Bool Refuse). IsFoundIf r (read_relvars c.args.relvars.now) c.args.target.now c.args.rows.heading) (sym p.1) c.in_err-found.ensures.readied.base

pub returns-in_err-found-clause-cost : goal.returns-in_err-found-clause-cost
returns-in_err-found-clause-cost g c =
    let s = read_relvars c.args.relvars.now in
    paid_of s (way_of c.args.way) c.args.target.now c.args.rows (IsRefusedFor c.in_err-found.field-0.0) c.args.steps.now c.ready_rows.new.steps c.in_err-found.ensures.readied c.ready_rows.new.steps (omega arith)

pub settle-requires-clause-ready : goal.settle-requires-clause-ready
settle-requires-clause-ready g c =
    let s = read_relvars c.args.relvars.now in
    let told = subst (λ (o : Option Ready). IsReadied (Ok o) s (way_of c.args.way) c.args.target.now c.args.rows c.args.steps.now c.ready_rows.new.steps) c.in-Some.is c.in_ok-found.ensures.readied in
    told.0

pub returns-in_err-settle-in-Some-clause-brought : goal.returns-in_err-settle-in-Some-clause-brought
returns-in_err-settle-in-Some-clause-brought g c =
    let s = read_relvars c.args.relvars.now in
    let r = c.in-Some.ready in
    let told = subst (λ (o : Option Ready). IsReadied (Ok o) s (way_of c.args.way) c.args.target.now c.args.rows c.args.steps.now c.ready_rows.new.steps) c.in-Some.is c.in_ok-found.ensures.readied in
    let refuse = c.in_err-settle-in-Some.field-0.0 in
    let now = read_relvars c.settle.new.relvars in
    let p = err_from_is_err_and c.from_residual-in_err-settle-in-Some.result c.from_residual-in_err-settle-in-Some.ensures.1 in
    rw (p.1, p.2) (brought_of s (way_of c.args.way) c.args.target.now c.args.rows (λ m. m ≡ Ok (with_ready r s.relvars)) c.args.steps.now c.ready_rows.new.steps told.1 (Err refuse) now
    (refused_rule s now (kept_or_refused (entries_then s.relvars (way_of c.args.way) c.args.target.now told.1.base.old.rows c.args.rows)) (with_ready r s.relvars) told.1.told refuse c.in_err-settle-in-Some.ensures.settled))

pub returns-in_err-settle-in-Some-clause-found : goal.returns-in_err-settle-in-Some-clause-found
returns-in_err-settle-in-Some-clause-found g c =
    let s = read_relvars c.args.relvars.now in
    let told = subst (λ (o : Option Ready). IsReadied (Ok o) s (way_of c.args.way) c.args.target.now c.args.rows c.args.steps.now c.ready_rows.new.steps) c.in-Some.is c.in_ok-found.ensures.readied in
    let p = err_from_is_err_and c.from_residual-in_err-settle-in-Some.result c.from_residual-in_err-settle-in-Some.ensures.1 in
    subst (λ (z : Result Bool Refuse). IsFoundIf z s c.args.target.now c.args.rows.heading) (sym p.1) told.1.base

pub returns-in_err-settle-in-Some-clause-cost : goal.returns-in_err-settle-in-Some-clause-cost
returns-in_err-settle-in-Some-clause-cost g c =
    let s = read_relvars c.args.relvars.now in
    let r = c.in-Some.ready in
    let told = subst (λ (o : Option Ready). IsReadied (Ok o) s (way_of c.args.way) c.args.target.now c.args.rows c.args.steps.now c.ready_rows.new.steps) c.in-Some.is c.in_ok-found.ensures.readied in
    let now = read_relvars c.settle.new.relvars in
    let price = rules_price s now (kept_or_refused (entries_then s.relvars (way_of c.args.way) c.args.target.now told.1.base.old.rows c.args.rows)) (with_ready r s.relvars) told.1.told in
    let taken = c.settle.ensures.cost in
    paid_of s (way_of c.args.way) c.args.target.now c.args.rows (λ m. m ≡ Ok (with_ready r s.relvars)) c.args.steps.now c.ready_rows.new.steps told.1 c.settle.new.steps (omega (arith, price, taken))

pub returns-in_err-settle-in-Some-clause-kept : goal.returns-in_err-settle-in-Some-clause-kept
returns-in_err-settle-in-Some-clause-kept g c =
    let s = read_relvars c.args.relvars.now in
    let r = c.in-Some.ready in
    let told = subst (λ (o : Option Ready). IsReadied (Ok o) s (way_of c.args.way) c.args.target.now c.args.rows c.args.steps.now c.ready_rows.new.steps) c.in-Some.is c.in_ok-found.ensures.readied in
    entered_keeps c.settle.result s (read_relvars c.settle.new.relvars) r (entries_then s.relvars (way_of c.args.way) c.args.target.now told.1.base.old.rows c.args.rows) c.requires.kept told.0 told.1.told c.settle.ensures.settled

pub returns-in_ok-settle-in-Some-clause-brought : goal.returns-in_ok-settle-in-Some-clause-brought
returns-in_ok-settle-in-Some-clause-brought g c =
    let s = read_relvars c.args.relvars.now in
    let r = c.in-Some.ready in
    let told = subst (λ (o : Option Ready). IsReadied (Ok o) s (way_of c.args.way) c.args.target.now c.args.rows c.args.steps.now c.ready_rows.new.steps) c.in-Some.is c.in_ok-found.ensures.readied in
    let now = read_relvars c.settle.new.relvars in
    brought_of s (way_of c.args.way) c.args.target.now c.args.rows (λ m. m ≡ Ok (with_ready r s.relvars)) c.args.steps.now c.ready_rows.new.steps told.1 (Ok true) now
    (entered s now (kept_or_refused (entries_then s.relvars (way_of c.args.way) c.args.target.now told.1.base.old.rows c.args.rows)) (with_ready r s.relvars) told.1.told c.in_ok-settle-in-Some.ensures.settled)

pub returns-in_ok-settle-in-Some-clause-found : goal.returns-in_ok-settle-in-Some-clause-found
returns-in_ok-settle-in-Some-clause-found g c =
    let s = read_relvars c.args.relvars.now in
    let told = subst (λ (o : Option Ready). IsReadied (Ok o) s (way_of c.args.way) c.args.target.now c.args.rows c.args.steps.now c.ready_rows.new.steps) c.in-Some.is c.in_ok-found.ensures.readied in
    told.1.base

pub returns-in_ok-settle-in-Some-clause-cost : goal.returns-in_ok-settle-in-Some-clause-cost
returns-in_ok-settle-in-Some-clause-cost g c =
    let s = read_relvars c.args.relvars.now in
    let r = c.in-Some.ready in
    let told = subst (λ (o : Option Ready). IsReadied (Ok o) s (way_of c.args.way) c.args.target.now c.args.rows c.args.steps.now c.ready_rows.new.steps) c.in-Some.is c.in_ok-found.ensures.readied in
    let now = read_relvars c.settle.new.relvars in
    let price = rules_price s now (kept_or_refused (entries_then s.relvars (way_of c.args.way) c.args.target.now told.1.base.old.rows c.args.rows)) (with_ready r s.relvars) told.1.told in
    let taken = c.settle.ensures.cost in
    paid_of s (way_of c.args.way) c.args.target.now c.args.rows (λ m. m ≡ Ok (with_ready r s.relvars)) c.args.steps.now c.ready_rows.new.steps told.1 c.settle.new.steps (omega (arith, price, taken))

pub returns-in_ok-settle-in-Some-clause-kept : goal.returns-in_ok-settle-in-Some-clause-kept
returns-in_ok-settle-in-Some-clause-kept g c =
    let s = read_relvars c.args.relvars.now in
    let r = c.in-Some.ready in
    let told = subst (λ (o : Option Ready). IsReadied (Ok o) s (way_of c.args.way) c.args.target.now c.args.rows c.args.steps.now c.ready_rows.new.steps) c.in-Some.is c.in_ok-found.ensures.readied in
    entered_keeps c.settle.result s (read_relvars c.settle.new.relvars) r (entries_then s.relvars (way_of c.args.way) c.args.target.now told.1.base.old.rows c.args.rows) c.requires.kept told.0 told.1.told c.settle.ensures.settled

pub returns-in-None-clause-none : goal.returns-in-None-clause-none
returns-in-None-clause-none g c =
    let s = read_relvars c.args.relvars.now in
    subst (λ (o : Option Ready). IsReadied (Ok o) s (way_of c.args.way) c.args.target.now c.args.rows c.args.steps.now c.ready_rows.new.steps) c.in-None.is c.in_ok-found.ensures.readied

pub returns-in_err-settle-in-Some-clause-logs : goal.returns-in_err-settle-in-Some-clause-logs
returns-in_err-settle-in-Some-clause-logs g c =
    let s = read_relvars c.args.relvars.now in
    let told = subst (λ (o : Option Ready). IsReadied (Ok o) s (way_of c.args.way) c.args.target.now c.args.rows c.args.steps.now c.ready_rows.new.steps) c.in-Some.is c.in_ok-found.ensures.readied in
    settled_logs c.settle.result s (read_relvars c.settle.new.relvars) c.in-Some.ready told.0 c.settle.ensures.settled

pub returns-in_ok-settle-in-Some-clause-logs : goal.returns-in_ok-settle-in-Some-clause-logs
returns-in_ok-settle-in-Some-clause-logs g c =
    let s = read_relvars c.args.relvars.now in
    let told = subst (λ (o : Option Ready). IsReadied (Ok o) s (way_of c.args.way) c.args.target.now c.args.rows c.args.steps.now c.ready_rows.new.steps) c.in-Some.is c.in_ok-found.ensures.readied in
    settled_logs c.settle.result s (read_relvars c.settle.new.relvars) c.in-Some.ready told.0 c.settle.ensures.settled

use Rattle.std.proofs.Common.{◌≡◌, subst}
use Rattle.tree_core.specs.declared.relvar.Relvars.{Relvars}
use Rattle.tree_core.specs.Relvars.{State, read_relvars}
use Rattle.assign_core.specs.Logs.{counted_if, is_brought}
use Rattle.assign_core.specs.NewRows.{replacing, HasRoomIf, IsFoundIf, IsPaidFor, IsToldOf, StaysUnless}
use Rattle.assign_core.proofs.UnstoredLemmas.{brought_stored}
use Rattle.assign_core.proofs.database.Database.set_rows.Goals as goal

pub returns-clause-brought : goal.returns-clause-brought
returns-clause-brought g c =
    subst (λ (r : Relvars). (mid : State) × IsToldOf replacing c.bring_counted.result (read_relvars r) mid c.args.target.now c.args.rows × (read_relvars c.bring_counted.new.relvars ≡ counted_if (is_brought c.bring_counted.result) mid))
    c.self.view_is c.bring_counted.ensures.brought

pub returns-clause-beside : goal.returns-clause-beside
returns-clause-beside g c = subst (λ (r : Relvars). HasRoomIf replacing c.bring_counted.result (read_relvars r) c.args.target.now c.args.rows) c.self.view_is c.bring_counted.ensures.beside

pub returns-clause-found : goal.returns-clause-found
returns-clause-found g c = subst (λ (r : Relvars). IsFoundIf c.bring_counted.result (read_relvars r) c.args.target.now c.args.rows.heading) c.self.view_is c.bring_counted.ensures.found

pub returns-clause-stays : goal.returns-clause-stays
returns-clause-stays g c = subst (λ (r : Relvars). StaysUnless c.bring_counted.result (read_relvars r) (read_relvars c.bring_counted.new.relvars)) c.self.view_is c.bring_counted.ensures.stays

pub returns-clause-cost : goal.returns-clause-cost
returns-clause-cost g c = subst (λ (r : Relvars). IsPaidFor replacing (read_relvars r) c.args.target.now c.args.rows c.args.steps.now c.bring_counted.new.steps) c.self.view_is c.bring_counted.ensures.cost

pub invariant_of-self : goal.invariant_of-self
invariant_of-self g c = (
  c.bring_counted.ensures.kept,
  c.bring_counted.ensures.hashed,
  c.bring_counted.ensures.step,
  brought_stored (read_relvars c.self.inside.relvars) (read_relvars c.bring_counted.new.relvars) c.self.inside.stored.items c.self.invariant.3 c.bring_counted.ensures.kept c.bring_counted.ensures.stored,
)

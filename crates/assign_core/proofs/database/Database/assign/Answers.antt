use Rattle.std.proofs.Common.{◌≡◌, ◌≤◌, ◌+◌, map, sym, subst, is_ok}
use Rattle.std.specs.List.{All}
use Rattle.tree_core.specs.declared.relvar.Relvars.{Relvars}
use Rattle.tree_core.specs.Items.{read_assignment}
use Rattle.tree_core.specs.Relvars.{State, read_relvars}
use Rattle.meaning_core.specs.Updates.{IsTypedAssignment}
use Rattle.assign_core.specs.Assignments.{IsAssigned}
use Rattle.assign_core.specs.Costs.{cost_of_assignments}
use Rattle.assign_core.specs.Logs.{counted_if}
use Rattle.assign_core.proofs.AssignedLemmas.{each_of}
use Rattle.assign_core.proofs.database.Database.assign.Goals as goal

pub assign-requires-clause-typed : goal.assign-requires-clause-typed
assign-requires-clause-typed g c =
    let list = map read_assignment c.args.list.now in
    each_of (IsTypedAssignment (read_relvars c.self.inside.relvars)) c.args.list.now
    (subst (λ (r : Relvars). All (IsTypedAssignment (read_relvars r)) list) (sym c.self.view_is) c.requires.typed)

pub returns-clause-assigned : goal.returns-clause-assigned
returns-clause-assigned g c =
    subst (λ (r : Relvars). (mid : State) × IsAssigned c.assign.result (read_relvars r) mid (map read_assignment c.args.list.now) × (read_relvars c.assign.new.relvars ≡ counted_if (is_ok c.assign.result) mid)) c.self.view_is
    c.assign.ensures.assigned

pub returns-clause-cost : goal.returns-clause-cost
returns-clause-cost g c =
    subst (λ (r : Relvars). c.assign.new.steps ≤ c.args.steps.now + cost_of_assignments (read_relvars r) (map read_assignment c.args.list.now)) c.self.view_is c.assign.ensures.cost

pub invariant_of-self : goal.invariant_of-self
invariant_of-self g c = (c.assign.ensures.kept, c.assign.ensures.hashed, c.assign.ensures.step, c.assign.ensures.stored)

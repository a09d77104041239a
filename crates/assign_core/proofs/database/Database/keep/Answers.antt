use Rattle.std.proofs.Common.{◌≡◌, ◌≤◌, ◌+◌, sym, subst, is_ok}
use Rattle.tree_core.specs.declared.relvar.Relvars.{Relvars}
use Rattle.tree_core.specs.Relvars.{State, read_relvars}
use Rattle.tree_core.specs.Trees.{read_tree}
use Rattle.meaning_core.specs.WellMade.{IsWellMade}
use Rattle.stored_views.specs.Operands.{IsStoredFor}
use Rattle.stored_views.specs.Stored.{made_cost}
use Rattle.assign_core.specs.Assignments.{IsDone}
use Rattle.assign_core.specs.Logs.{counted_if}
use Rattle.assign_core.specs.Room.{stored_in, with_stored}
use Rattle.assign_core.proofs.database.Database.keep.Goals as goal

pub keep_view-requires-clause-typed : goal.keep_view-requires-clause-typed
keep_view-requires-clause-typed g c = subst (λ (r : Relvars). IsStoredFor (read_relvars r) (read_tree c.args.tree)) (sym c.self.view_is) c.requires.typed

pub keep_view-requires-clause-made : goal.keep_view-requires-clause-made
keep_view-requires-clause-made g c = subst (λ (r : Relvars). IsWellMade (with_stored (read_relvars r) c.args.name (read_tree c.args.tree))) (sym c.self.view_is) c.requires.made

pub returns-clause-done : goal.returns-clause-done
returns-clause-done g c =
    subst (λ (r : Relvars). (mid : State) × IsDone c.keep_view.result (read_relvars r) mid (stored_in (read_relvars r) c.args.name (read_tree c.args.tree)) × (read_relvars c.keep_view.new.relvars ≡ counted_if (is_ok c.keep_view.result) mid))
    c.self.view_is c.keep_view.ensures.done

pub returns-clause-cost : goal.returns-clause-cost
returns-clause-cost g c =
    subst (λ (r : Relvars). c.keep_view.new.steps ≤ c.args.steps.now + made_cost (read_relvars r).relvars (read_tree c.args.tree)) c.self.view_is c.keep_view.ensures.cost

pub invariant_of-self : goal.invariant_of-self
invariant_of-self g c = (c.keep_view.ensures.kept, c.no_hashes.ensures.hashed _, c.keep_view.ensures.step, c.keep_view.ensures.stored)

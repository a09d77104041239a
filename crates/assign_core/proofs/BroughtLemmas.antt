-- Rows that a statement brings to a base relvar, and an assignment whose source has the value that the relvar gets: they come to the same.
--     brought_assigned      the relvars after it, or why it is refused
--     brought_beside      the same beside logs and stored views
--     brought_costs      the rows take no more steps
use Rattle.std.proofs.Common.{◌≡◌, ◌+◌, ◌≤◌, false, List, [], ◌∷◌, ap, ◌∙◌, arith, Ok}
use Rattle.base_core.specs.Outcomes.{then_give}
use Rattle.point_core.specs.declared.fault.Place.{Place}
use Rattle.point_core.specs.Faults.{OrFault}
use Rattle.value_core.specs.Values.{Row, Relation}
use Rattle.tree_core.specs.Items.{PlainAssignment}
use Rattle.tree_core.specs.Relvars.{Entries, State}
use Rattle.meaning_core.specs.Logs.{has_log}
use Rattle.stored_views.specs.Stored.{has_stored}
use Rattle.assign_core.specs.Assignments.{source_value, with_target, evaluated, of_values, unless_rule_broken, assigned_in}
use Rattle.assign_core.specs.Costs.{constraints_cost_of, rules_cost_of, source_cost, cost_of_assignments}
use Rattle.assign_core.specs.Room.{unless_full}
use Rattle.assign_core.specs.NewRows.{Arriving, arriving_cost, value_brought, values_brought, brought_in, brought_cost}
use Rattle.assign_core.proofs.LogLemmas.{assigned_without_logs}
use Rattle.assign_core.proofs.UnstoredLemmas.{assigned_unstored}

module _ (s : State) (a : PlainAssignment) (way : Arriving) (at there : Place) (old : Relation) (given : List Row) (meant : source_value s.relvars s.relvars a ≡ value_brought way at there old given) where
  -- the relvars with the value of the source
  pub brought_evaluated : evaluated s.relvars s.relvars (a ∷ []) ≡ values_brought s.relvars way at there a.target old given
  brought_evaluated = ap (λ (r : OrFault Relation). then_give r (λ v. Ok (with_target s.relvars a.target v))) meant

  pub brought_assigned : has_log s.relvars ≡ false → has_stored s.relvars ≡ false → assigned_in s (a ∷ []) ≡ brought_in s way at there a.target old given
  brought_assigned alone unstored = assigned_unstored s (a ∷ []) unstored ∙ (assigned_without_logs s (a ∷ []) alone ∙ ap (λ (r : OrFault Entries). unless_rule_broken s.rules (of_values r)) brought_evaluated)

  -- the same where there are logs and stored views, and room for all rows
  pub brought_beside : unless_full (values_brought s.relvars way at there a.target old given) (brought_in s way at there a.target old given) ≡ brought_in s way at there a.target old given
      → assigned_in s (a ∷ []) ≡ brought_in s way at there a.target old given
  brought_beside room = ap (λ (r : OrFault Entries). unless_full r (unless_rule_broken s.rules (of_values r))) brought_evaluated ∙ room

  pub brought_costs : arriving_cost way there old given ≤ source_cost s.relvars s.relvars a → brought_cost s way at there a.target old given ≤ cost_of_assignments s (a ∷ [])
  brought_costs less =
      let same : constraints_cost_of (evaluated s.relvars s.relvars (a ∷ [])) + rules_cost_of s.rules (of_values (evaluated s.relvars s.relvars (a ∷ [])))
      ≡ constraints_cost_of (values_brought s.relvars way at there a.target old given) + rules_cost_of s.rules (of_values (values_brought s.relvars way at there a.target old given)) =
      ap (λ (r : OrFault Entries). constraints_cost_of r + rules_cost_of s.rules (of_values r)) brought_evaluated in
      omega (arith, same, less)

-- The steps of statements.
use Rattle.std.proofs.Common.{ℕ, ◌+◌, ◌≤◌, None, subst}
use Rattle.tree_core.specs.Relvars.{State}
use Rattle.tree_core.specs.Trees.{Tree}
use Rattle.meaning_core.specs.Names.{given}
use Rattle.meaning_core.proofs.LookupLemmas.{given_none}
use Rattle.algebra_core.specs.Costs.{cost_in, cost_with}

-- an expression is evaluated in the state as it is
pub printed_cost : (state : State) (t : Tree) (old new : ℕ) → new ≤ old + cost_with None (given None None state.relvars) t → new ≤ old + cost_in state.relvars t
printed_cost state t old new h = subst (λ es. new ≤ old + cost_with None es t) (given_none None state.relvars) h

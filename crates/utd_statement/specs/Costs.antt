-- How many steps a statement may take in a state: a bound by numbers of rows and not of points.
--     cost_of_checked      of a typed statement
--     statement_cost      of what a statement is read as
--     TakesAtMost      what a statement of some bytes takes
use Rattle.std.specs.Prelude.{◌≡◌, ◌⊎◌, ◌≤◌, ◌+◌, ℕ, List, Ok, Err}
use Rattle.point_core.specs.declared.fault.Place.{Place}
use Rattle.point_core.specs.Faults.{OrFault}
use Rattle.tree_core.specs.Relvars.{State}
use Rattle.stored_views.specs.Stored.{made_cost}
use Rattle.algebra_core.specs.Costs.{cost_in, test_cost}
use Rattle.assign_core.specs.Costs.{cost_of_assignments}
use Rattle.assign_core.specs.Items.{assignments_of}
use Rattle.utd_syntax.specs.Plain.{StatementP}
use Rattle.type_check.specs.Checks.{Plain, nothing, declare_ordinal, declare_base, declare_view, declare_kept, declare_history, declare_log, remove, declare_rule, remove_rule, assign, print, ask, checked}
use Rattle.utd_statement.specs.Readings.{Reading, Tree, Refused, IsText}

-- The steps of the expression that is printed, of the test that is asked or declared, or of the rows of a stored view that is declared.
-- Assignments take those of their sources, of the stored views that move with their targets, and of the constraints.
abbrev pub cost_of_checked : State → Plain → ℕ
cost_of_checked state nothing = 0
cost_of_checked state (declare_ordinal d) = 0
cost_of_checked state (declare_base d) = 0
cost_of_checked state (declare_view d) = 0
cost_of_checked state (declare_kept name t) = made_cost state.relvars t
cost_of_checked state (declare_history h) = 0
cost_of_checked state (declare_log d) = 0
cost_of_checked state (remove name) = 0
cost_of_checked state (declare_rule name t) = test_cost state.relvars t
cost_of_checked state (remove_rule name) = 0
cost_of_checked state (assign items) = cost_of_assignments state (assignments_of state.relvars items)
cost_of_checked state (print t) = cost_in state.relvars t
cost_of_checked state (ask t) = test_cost state.relvars t

-- what typing refuses takes none
abbrev pub cost_if_typed : State → OrFault Plain → ℕ
cost_if_typed state (Ok typed) = cost_of_checked state typed
cost_if_typed state (Err fault) = 0

abbrev pub cost_of_tree : State → StatementP → ℕ
cost_of_tree state tree = cost_if_typed state (checked state tree)

-- a text that is refused takes none
abbrev pub statement_cost : State → Reading → ℕ
statement_cost state (Tree tree) = cost_of_tree state tree
statement_cost state (Refused refuse) = 0

-- the statement is not even read, for which no step is taken, or takes at most what it costs
abbrev pub TakesAtMost : Place → List ℕ → State → ℕ → ℕ → Type 0
TakesAtMost start bytes state before now =
    (now ≡ before) ⊎ ((r : Reading) × IsText start bytes r × (now ≤ before + statement_cost state r))

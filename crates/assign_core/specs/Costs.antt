-- How many steps assignments may take: a bound by numbers of rows and not of points.
--     sources_cost      of the sources that are evaluated
--     moves_cost_of      of the stored views that move with their operands
--     looked_at_all      of the constraints that are looked at
--     assignments_cost      of both
--     rules_cost      of the database constraints that are looked at
--     cost_of_assignments      of all of these
use Rattle.std.specs.Prelude.{ℕ, ◌+◌, nat_le, List, [], ◌∷◌, Option, Some, None, Result, Ok, Err, if◌then◌else◌}
use Rattle.point_core.specs.Faults.{OrFault}
use Rattle.value_core.specs.Limits.{most_rows_in_all}
use Rattle.value_core.specs.declared.constraint.Constraint.{Constraint}
use Rattle.value_core.specs.declared.refuse.Refuse.{Refuse}
use Rattle.value_core.specs.Values.{Name, Row, Relation}
use Rattle.tree_core.specs.Items.{PlainAssignment}
use Rattle.tree_core.specs.Relvars.{PlainRelvar, base, view, Entries, Rules, State, log}
use Rattle.meaning_core.specs.Truths.{holds_in}
use Rattle.tree_core.specs.Uses.{is_one_of}
use Rattle.algebra_core.specs.Costs.{cost_in, cost_with, test_cost}
use Rattle.stored_views.specs.Moves.{moves_cost}
use Rattle.u_constraints.specs.Constraints.{broken}
use Rattle.u_constraints.specs.Costs.{constraint_cost}
use Rattle.assign_core.specs.Assignments.{seen_by, source_value, with_target, evaluated, after_assignments}
use Rattle.assign_core.specs.Breaches.{rows_of_all, rows_named, first_in}

-- ---- sources

-- the steps of a source in the relvars that it sees
abbrev pub source_cost : Entries → Entries → PlainAssignment → ℕ
source_cost old new a = cost_in (seen_by old new a.target) a.tree

-- the target, where an earlier one of these already gave it a value
abbrev pub renewed_among : List Name → Name → Option Name
renewed_among done name = if is_one_of done name then Some name else None

-- the same behind assignments to these: what is stored of a view does not serve where one of its operands has another value already
abbrev pub later_cost : List Name → Entries → Entries → PlainAssignment → ℕ
later_cost done old new a = cost_with (renewed_among done a.target) (seen_by old new a.target) a.tree

-- the steps that follow a value; behind a fault nothing follows
abbrev pub behind : OrFault Relation → (Relation → ℕ) → ℕ
behind (Ok value) f = f value
behind (Err fault) f = 0

-- the steps of sources that are evaluated one after the other, behind assignments to these
abbrev pub later_costs : List Name → Entries → Entries → List PlainAssignment → ℕ
later_costs done old new [] = 0
later_costs done old new (a ∷ rest) =
    later_cost done old new a + behind (source_value old new a) (λ value. later_costs (a.target ∷ done) old (with_target new a.target value) rest)

-- the steps of sources that are evaluated one after the other
abbrev pub sources_cost : Entries → Entries → List PlainAssignment → ℕ
sources_cost old new list = later_costs [] old new list

-- ---- constraints

-- the steps that follow where nothing is broken
abbrev pub where_kept : {X : Type 0} → Option X → ℕ → ℕ
where_kept None n = n
where_kept (Some x) n = 0

-- the steps of a constraint over the rows of its relvar and of the one that it names
abbrev pub cost_over : Entries → List Row → Constraint → ℕ
cost_over entries rows c = constraint_cost c rows (rows_named entries c)

-- the steps of a relvar's constraints, up to and with the first one that the rows break
abbrev pub looked_at : Entries → List Row → List Constraint → ℕ
looked_at entries rows [] = 0
looked_at entries rows (c ∷ rest) =
    cost_over entries rows c + where_kept (broken c rows (rows_named entries c)) (looked_at entries rows rest)

abbrev pub looked_at_in : Entries → PlainRelvar → ℕ
looked_at_in entries (base value constraints) = looked_at entries value.rows constraints
looked_at_in entries (view t kind) = 0
looked_at_in entries (log of side last w) = 0

-- the steps of the constraints of some relvars, up to and with the first broken one
abbrev pub looked_at_all : Entries → Entries → ℕ
looked_at_all entries [] = 0
looked_at_all entries (r ∷ rest) = looked_at_in entries r.1 + where_kept (first_in entries r.0 r.1) (looked_at_all entries rest)

-- ---- assignments

-- constraints are looked at where the relvars do not have too many rows together
abbrev pub constraints_cost : Entries → ℕ
constraints_cost new = if nat_le (rows_of_all new) most_rows_in_all then looked_at_all new new else 0

abbrev pub constraints_cost_of : OrFault Entries → ℕ
constraints_cost_of (Ok new) = constraints_cost new
constraints_cost_of (Err fault) = 0

abbrev pub assignments_cost : Entries → List PlainAssignment → ℕ
assignments_cost entries list = sources_cost entries entries list + constraints_cost_of (evaluated entries entries list)

-- ---- database constraints

-- the steps of database constraints, up to and with the first one that does not hold
abbrev pub rules_cost : Entries → Rules → ℕ
rules_cost entries [] = 0
rules_cost entries (r ∷ rest) = test_cost entries r.1 + (if holds_in entries r.1 then rules_cost entries rest else 0)

-- they are looked at where nothing is refused before them
abbrev pub rules_cost_of : Rules → Result Entries Refuse → ℕ
rules_cost_of rules (Ok new) = rules_cost new rules
rules_cost_of rules (Err refuse) = 0

-- ---- stored views

-- the steps of the groups of stored views that the new values touch
abbrev pub moves_cost_of : Entries → OrFault Entries → ℕ
moves_cost_of old (Ok new) = moves_cost old new
moves_cost_of old (Err fault) = 0

-- ---- all of these

-- the steps of assignments in a state
abbrev pub cost_of_assignments : State → List PlainAssignment → ℕ
cost_of_assignments s list =
    assignments_cost s.relvars list + (moves_cost_of s.relvars (evaluated s.relvars s.relvars list) + rules_cost_of s.rules (after_assignments s.relvars list))

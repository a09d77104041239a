-- Rows that nodes make.
--     extended_row, literal_row, group_row      of the rows that nodes make, each with its first fault
use Rattle.std.specs.Prelude.{ℕ, pos, Bool, false, List, [], ◌∷◌, ◌++◌, map, length, slice_index_or, Option, Some, None, Ok}
use Rattle.std.specs.List.{best_of}
use Rattle.base_core.specs.Outcomes.{then_give, first_of_all, least_of_all}
use Rattle.point_core.specs.Faults.{OrFault}
use Rattle.point_core.specs.Points.{integers}
use Rattle.point_core.specs.declared.fault.Place.{Place}
use Rattle.value_core.specs.Values.{Name, Value, truth, point, Row, Heading}
use Rattle.scalar_core.specs.Operations.{integer, number_of}
use Rattle.scalar_core.specs.ScalarValues.{value}
use Rattle.relation_core.specs.Agreement.{names_of, part_of}
use Rattle.point_core.specs.Orders.{fault_order}
use Rattle.u_summary.specs.Summaries.{total, is_before}
use Rattle.scalar_core.specs.Expressions.{Expr}
use Rattle.meaning_core.specs.Places.{places}
use Rattle.tree_core.specs.Trees.{PlainSets, PlainAggregateForm, count_rows, sum_of, min_of, max_of, PlainAggregate}

-- ---- new values of a row

abbrev pub set_names : PlainSets → List Name
set_names sets = map (λ s. s.0) sets

-- the values of the items on the row, the first fault counting
abbrev pub values_on : Row → PlainSets → OrFault (List Value)
values_on row sets = first_of_all (map (λ s. value s.1 row) sets)

-- the values at the places among those of the items and then those of the row
abbrev pub extended_at : List ℕ → PlainSets → Row → OrFault Row
extended_at at sets row = then_give (values_on row sets) (λ made. Ok (part_of at (made ++ row)))

-- the row under the new heading, with the items put in or in place: at each name the item's value, else the row's own
abbrev pub extended_row : Heading → Heading → PlainSets → Row → OrFault Row
extended_row from to sets row = extended_at (places (set_names sets ++ names_of from) to) sets row

-- the row of a literal's tuple
abbrev pub literal_row : Heading → PlainSets → OrFault Row
literal_row heading tuple = extended_row [] heading tuple []

-- ---- the row of a group

-- the value that no other one beats; a group has some
abbrev pub extreme : (Value → Value → Bool) → List Value → Value
extreme beats [] = truth false
extreme beats (v ∷ vs) = best_of beats v vs

-- the value at an index; FALSE without one
abbrev pub picked : Option ℕ → List Value → Value
picked None vs = truth false
picked (Some i) vs = slice_index_or vs i (truth false)

-- the values of an expression on the rows, or their least fault
abbrev pub values_over : Expr → List Row → OrFault (List Value)
values_over e rows = least_of_all fault_order (map (value e) rows)

-- an aggregate over the rows of a group: the least fault of its expression over them, or its value
abbrev pub aggregate_value : Place → PlainAggregateForm → List Row → OrFault Value
aggregate_value place count_rows group = Ok (point integers (pos (length group)))
aggregate_value place (sum_of e) group = then_give (values_over e group) (λ vs. integer place (total (map number_of vs)))
aggregate_value place (min_of e) group = then_give (values_over e group) (λ vs. Ok (extreme is_before vs))
aggregate_value place (max_of e) group = then_give (values_over e group) (λ vs. Ok (extreme (λ v w. is_before w v) vs))

abbrev pub first_row : List Row → Row
first_row [] = []
first_row (x ∷ xs) = x

abbrev pub aggregate_names : List PlainAggregate → List Name
aggregate_names aggregates = map (λ a. a.name) aggregates

-- the values of the aggregates, the first fault counting
abbrev pub aggregates_on : List Row → List PlainAggregate → OrFault (List Value)
aggregates_on group aggregates = first_of_all (map (λ a. aggregate_value a.place a.form group) aggregates)

-- the values at the places among those of the aggregates and then those of the group's first row
abbrev pub group_at : List ℕ → List PlainAggregate → List Row → OrFault Row
group_at at aggregates group = then_give (aggregates_on group aggregates) (λ made. Ok (part_of at (made ++ first_row group)))

-- the row of a group: its aggregates, and the values at which its rows agree
abbrev pub group_row : Heading → Heading → List PlainAggregate → List Row → OrFault Row
group_row from to aggregates group = group_at (places (aggregate_names aggregates ++ names_of from) to) aggregates group

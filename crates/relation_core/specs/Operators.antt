-- The operators on the rows of relations. Each gives a set of rows in the printing order.
--     united, subtracted, intersected      the rows of either, of the first alone, and of both
--     restricted      the rows for which a test gives TRUE, or its least fault
--     extended      what a function gives of each row, or its least fault
use Rattle.std.specs.Prelude.{Bool, false, List, map, filter, Ok, Err}
use Rattle.base_core.specs.Outcomes.{then_give, least_of_all}
use Rattle.base_core.specs.Sets.{union_of, common_of, difference_of}
use Rattle.point_core.specs.Faults.{OrFault}
use Rattle.point_core.specs.Orders.{fault_order}
use Rattle.value_core.specs.Values.{Row, row_cmp, rows_of}

abbrev pub united : List Row → List Row → List Row
united = union_of row_cmp

abbrev pub subtracted : List Row → List Row → List Row
subtracted = difference_of row_cmp

abbrev pub intersected : List Row → List Row → List Row
intersected = common_of row_cmp

-- ---- by functions of a row

-- whether a test gives TRUE
abbrev pub is_true : OrFault Bool → Bool
is_true (Ok b) = b
is_true (Err e) = false

-- the rows for which the test gives TRUE, or its least fault
abbrev pub restricted : (Row → OrFault Bool) → List Row → OrFault (List Row)
restricted test rows = then_give (least_of_all fault_order (map test rows)) (λ _. Ok (filter (λ x. is_true (test x)) rows))

-- what the function gives of each row, or its least fault
abbrev pub extended : (Row → OrFault Row) → List Row → OrFault (List Row)
extended f rows = then_give (least_of_all fault_order (map f rows)) (λ given. Ok (rows_of given))

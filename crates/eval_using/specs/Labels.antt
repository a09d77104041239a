-- What a group of rows gives under USING.
--     group_label to at aggregates rows numbers      the values of the group's row that are not listed, or its fault
--     AreGroupCells      boxes with the labels that groups give at places, and the least fault of a group
use Rattle.std.specs.Prelude.{◌↔◌, ℕ, ℤ, List, Ok, Option}
use Rattle.base_core.specs.Outcomes.{then_give}
use Rattle.point_core.specs.Faults.{OrFault}
use Rattle.point_core.specs.LeastFault.{IsLeast}
use Rattle.point_core.specs.declared.fault.Fault.{Fault}
use Rattle.cell_packing.specs.Boxed.{Boxed, InBoxes}
use Rattle.value_core.specs.Values.{Row}
use Rattle.relation_core.specs.Groups.{rows_at}
use Rattle.tree_core.specs.Trees.{PlainAggregate}
use Rattle.u_set.specs.Boxes.{others}
use Rattle.u_summarize.specs.Groups.{InGroupRule, HasGroupFault}
use Rattle.meaning_core.specs.Rows.{group_at}

-- the row of the group of these numbers, without the values at the positions
abbrev pub group_label : List ℕ → List ℕ → List PlainAggregate → List Row → List ℕ → OrFault Row
group_label to at aggregates rows numbers = then_give (group_at at aggregates (rows_at rows numbers)) (λ row. Ok (others to row))

-- the boxes have just the labels that the rule gives for groups of rows at places, and the fault is its least
pub record AreGroupCells (f : List ℕ → OrFault Row) (by : List ℕ) (rows cells : List (Boxed Row)) (fault : Option Fault) : Type 0 where
  pub places : (l : Row) (place : List ℤ) → InBoxes cells l place ↔ InGroupRule f by rows l place
  pub least : IsLeast (HasGroupFault f by rows) fault

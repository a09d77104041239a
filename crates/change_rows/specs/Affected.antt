-- Which rows a change by a condition concerns.
--     AreFalse      the condition is FALSE at all points of the rows
--     IsClosedPart      rows of a relation, with all of its rows that have their labels
use Rattle.std.specs.Prelude.{◌≡◌, ℕ, false, List, Ok}
use Rattle.std.specs.List.{All}
use Rattle.value_core.specs.RowPacking.{unpacked}
use Rattle.value_core.specs.Values.{Row, Relation}
use Rattle.scalar_core.specs.Expressions.{Expr}
use Rattle.relation_core.specs.Growth.{touched}
use Rattle.meaning_core.specs.Meanings.{condition}
use Rattle.u_set.specs.Apart.{outside}

-- at no point of the rows the condition holds or has a fault
abbrev pub AreFalse : List ℕ → Expr → List Row → Type 0
AreFalse commalist c rows = All (λ (y : Row). condition c y ≡ Ok false) (unpacked commalist rows)

-- all rows of the relation that have a label of theirs
pub record IsClosedPart (commalist : List ℕ) (value part : Relation) : Type 0 where
  pub heading : part.heading ≡ value.heading
  pub closed : part.rows ≡ touched (outside commalist value.heading) part.rows value.rows

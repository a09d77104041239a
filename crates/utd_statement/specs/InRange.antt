-- Readings whose literals are in range.
--     IsInRange      typing refuses the tree with E06 in no state: only the text is refused so
use Rattle.tree_core.specs.Relvars.{State}
use Rattle.type_check.specs.Checks.{checked}
use Rattle.type_check.specs.Refusals.{IsNotE06}
use Rattle.utd_statement.specs.Readings.{Reading, Tree, Refused}

abbrev pub IsInRange : Reading → Type 0
IsInRange (Tree tree) = (state : State) → IsNotE06 (checked state tree)
IsInRange (Refused refuse) = Unit {0}

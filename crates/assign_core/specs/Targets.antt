-- Base relvars that get new values.
--     IsTarget      a base relvar, at its place and with its value
--     entries_before, entries_with      the relvars before it gets a new value, and with that
--     entries_after      the relvars in which its rows are exchanged
use Rattle.std.specs.Prelude.{List, Ok}
use Rattle.base_core.specs.Outcomes.{then_give}
use Rattle.point_core.specs.Faults.{OrFault}
use Rattle.value_core.specs.declared.constraint.Constraint.{Constraint}
use Rattle.value_core.specs.Values.{Relation}
use Rattle.relation_core.specs.Answers.{under}
use Rattle.tree_core.specs.Relvars.{base, Entries, read_relvars}
use Rattle.meaning_core.specs.Meanings.{limited}
use Rattle.meaning_core.specs.Names.{IsFirstAt}
use Rattle.u_constraints.specs.Growth.{exchanged}
use Rattle.change_rows.specs.declared.exchange.Exchange.{Exchange}
use Rattle.assign_core.specs.declared.target.Target.{Target}
use Rattle.assign_core.specs.Assignments.{with_target}

abbrev pub entries_before : Target → Entries
entries_before t = (read_relvars t.relvars.now).relvars

-- the relvars in which the target has the value, or the fault that comes in its place
abbrev pub entries_with : Target → OrFault Relation → OrFault Entries
entries_with t v = then_give v (λ value. Ok (with_target (entries_before t) t.name.now value))

-- the relvars in which the target loses and gains these rows, or the fault of too many rows
abbrev pub entries_after : Target → Exchange → OrFault Entries
entries_after t x = entries_with t (under t.value.now.heading (limited t.place (exchanged t.value.now.rows x.gone.rows x.come.rows)))

-- the target is the base relvar at the place, which is the first of its name and has the value
pub record IsTarget (t : Target) : Type 0 where
  pub constraints : List Constraint
  pub first : IsFirstAt (entries_before t) t.name.now t.at (base t.value.now constraints)

-- Rows that a statement brings to a base relvar: added to its own, or put in place of them.
--     Arriving      the two ways
--     rows_then      the rows that the relvar then has
--     value_brought, values_brought      its value, and the relvars with it, or the fault of too many rows
--     brought, brought_in      the relvars, or why they are refused; and in a state, whose database constraints are asked last
--     joined_cost, brought_cost      the steps that the rows of both take, and all steps
--     IsBrought, IsFoundIf, StaysUnless, TakesNoneIf      answers
--     IsToldOf, IsPaidFor      what is told of rows and what they take, wherever they are written
--     HasLogRoomFor, HasLogRoomIf      what is meant of rows is so beside logs too
--     HasRoomFor, HasRoomIf      and beside logs and stored views
use Rattle.std.specs.Prelude.{◌≡◌, ℕ, ◌+◌, ◌≤◌, Bool, true, false, List, length, Option, Some, Result, Ok, Err}
use Rattle.base_core.specs.Outcomes.{then_give}
use Rattle.point_core.specs.declared.fault.Place.{Place}
use Rattle.point_core.specs.Faults.{OrFault}
use Rattle.value_core.specs.declared.constraint.Constraint.{Constraint}
use Rattle.value_core.specs.declared.refuse.Refuse.{Refuse}
use Rattle.value_core.specs.Values.{Name, Heading, Row, Relation, IsRelation, rows_of}
use Rattle.relation_core.specs.Answers.{under}
use Rattle.tree_core.specs.Relvars.{base, Entries, State, relvar_named}
use Rattle.meaning_core.specs.Meanings.{limited}
use Rattle.meaning_core.specs.Typing.{IsListIf}
use Rattle.algebra_core.specs.Costs.{paid}
use Rattle.assign_core.specs.Assignments.{with_target, of_values, unless_rule_broken, IsRefusedFor}
use Rattle.assign_core.specs.Costs.{constraints_cost_of, rules_cost_of}
use Rattle.assign_core.specs.Insertions.{united_in, united_cost}
use Rattle.assign_core.specs.Logs.{unless_logs_full}
use Rattle.assign_core.specs.Room.{unless_full}

-- ---- what is meant

-- rows take the place of the relvar's own, or are added to them, under USING where there is a list
pub data Arriving : Type 0 where
  replacing : Arriving
  joining : Option (List ℕ) → Arriving

-- the list is one of the heading, if there is one
abbrev pub IsListFor : Heading → Arriving → Type 0
IsListFor heading replacing = Unit {0}
IsListFor heading (joining list) = IsListIf heading list

-- the rows that the relvar then has, from its own and those that come
abbrev pub rows_then : Arriving → List Row → List Row → List Row
rows_then replacing old new = new
rows_then (joining list) old new = united_in list old new

-- too many rows that are written are a fault at the place of their literal, and too many of both one at that of the insertion
abbrev pub value_brought : Arriving → Place → Place → Relation → List Row → OrFault Relation
value_brought replacing at there old rows = under old.heading (limited there (rows_of rows))
value_brought (joining list) at there old rows = then_give (limited there (rows_of rows)) (λ new. under old.heading (limited at (united_in list old.rows new)))

-- the relvars in which the base relvar of the name has this value
abbrev pub values_brought : Entries → Arriving → Place → Place → Name → Relation → List Row → OrFault Entries
values_brought entries way at there name old rows = then_give (value_brought way at there old rows) (λ value. Ok (with_target entries name value))

-- the same, unless there are too many rows or a constraint is broken
abbrev pub brought : Entries → Arriving → Place → Place → Name → Relation → List Row → Result Entries Refuse
brought entries way at there name old rows = of_values (values_brought entries way at there name old rows)

-- the same in a state, whose database constraints are asked after the constraints of its relvars
abbrev pub brought_in : State → Arriving → Place → Place → Name → Relation → List Row → Result Entries Refuse
brought_in s way at there name old rows = unless_rule_broken s.rules (brought s.relvars way at there name old rows)

-- ---- what it takes

-- the steps of the rows of both
abbrev pub joined_cost : Arriving → List Row → List Row → ℕ
joined_cost replacing old new = 0
joined_cost (joining list) old new = united_cost list (length old + length new)

-- these, where the rows that are written are not too many
abbrev pub arriving_cost : Arriving → Place → Relation → List Row → ℕ
arriving_cost way there old rows = paid (limited there (rows_of rows)) (joined_cost way old.rows)

-- and the steps of the constraints that are looked at, those of the database last
abbrev pub brought_cost : State → Arriving → Place → Place → Name → Relation → List Row → ℕ
brought_cost s way at there name old rows =
    arriving_cost way there old rows + (constraints_cost_of (values_brought s.relvars way at there name old rows) + rules_cost_of s.rules (brought s.relvars way at there name old rows))

-- ---- answers

-- the state becomes what is meant; where that is refused, or memory is wanting, or the rows are not brought, it stays
abbrev pub IsBrought : Result Bool Refuse → State → State → Result Entries Refuse → Type 0
IsBrought (Ok true) old new meant = (meant ≡ Ok new.relvars) × (new ≡ record old { relvars = new.relvars })
IsBrought (Ok false) old new meant = new ≡ old
IsBrought (Err refuse) old new meant = IsRefusedFor refuse meant × (new ≡ old)

-- the name is that of a base relvar with this heading
pub record IsBaseWith (s : State) (name : Name) (heading : Heading) : Type 0 where
  pub old : Relation
  pub constraints : List Constraint
  pub there : relvar_named s.relvars name ≡ Some (base old constraints)
  pub headed : heading ≡ old.heading
  pub relation : IsRelation old

-- rows are brought, or refused, only where there is such a relvar
abbrev pub IsFoundIf : Result Bool Refuse → State → Name → Heading → Type 0
IsFoundIf (Ok true) s name heading = IsBaseWith s name heading
IsFoundIf (Ok false) s name heading = Unit {0}
IsFoundIf (Err refuse) s name heading = IsBaseWith s name heading

-- unless rows are brought, the state stays
abbrev pub StaysUnless : Result Bool Refuse → State → State → Type 0
StaysUnless (Ok true) old new = Unit {0}
StaysUnless (Ok false) old new = new ≡ old
StaysUnless (Err refuse) old new = new ≡ old

-- where the rows are left, no step is taken
abbrev pub TakesNoneIf : Result Bool Refuse → ℕ → ℕ → Type 0
TakesNoneIf (Ok true) before after = Unit {0}
TakesNoneIf (Ok false) before after = after ≡ before
TakesNoneIf (Err refuse) before after = Unit {0}

-- ---- wherever the rows are written

-- the base relvar of the name has the heading of the rows, which are these, and may be written twice
pub record IsGivenTo (s : State) (name : Name) (rows : Relation) (old : Relation) (given : List Row) : Type 0 where
  pub constraints : List Constraint
  pub there : relvar_named s.relvars name ≡ Some (base old constraints)
  pub headed : rows.heading ≡ old.heading
  pub are : rows.rows ≡ rows_of given

abbrev pub IsToldOf : Arriving → Result Bool Refuse → State → State → Name → Relation → Type 0
IsToldOf way result s new name rows = (old : Relation) (at there : Place) (given : List Row) → IsGivenTo s name rows old given → IsBrought result s new (brought_in s way at there name old given)

abbrev pub IsPaidFor : Arriving → State → Name → Relation → ℕ → ℕ → Type 0
IsPaidFor way s name rows before after = (old : Relation) (at there : Place) (given : List Row) → IsGivenTo s name rows old given → after ≤ before + brought_cost s way at there name old given

-- ---- beside logs

-- what is meant of the rows is the same whether or not it is asked if the logs have room for them
abbrev pub HasLogRoomFor : Arriving → State → Name → Relation → Type 0
HasLogRoomFor way s name rows = (old : Relation) (at there : Place) (given : List Row) → IsGivenTo s name rows old given
    → unless_logs_full (values_brought s.relvars way at there name old given) (brought_in s way at there name old given) ≡ brought_in s way at there name old given

-- rows are brought, or refused, only where that is so
abbrev pub HasLogRoomIf : Arriving → Result Bool Refuse → State → Name → Relation → Type 0
HasLogRoomIf way (Ok true) s name rows = HasLogRoomFor way s name rows
HasLogRoomIf way (Ok false) s name rows = Unit {0}
HasLogRoomIf way (Err refuse) s name rows = HasLogRoomFor way s name rows

-- ---- beside logs and stored views

-- what is meant of the rows is the same whether or not it is asked if there is room for all rows then
abbrev pub HasRoomFor : Arriving → State → Name → Relation → Type 0
HasRoomFor way s name rows = (old : Relation) (at there : Place) (given : List Row) → IsGivenTo s name rows old given
    → unless_full (values_brought s.relvars way at there name old given) (brought_in s way at there name old given) ≡ brought_in s way at there name old given

-- rows are brought, or refused, only where that is so
abbrev pub HasRoomIf : Arriving → Result Bool Refuse → State → Name → Relation → Type 0
HasRoomIf way (Ok true) s name rows = HasRoomFor way s name rows
HasRoomIf way (Ok false) s name rows = Unit {0}
HasRoomIf way (Err refuse) s name rows = HasRoomFor way s name rows

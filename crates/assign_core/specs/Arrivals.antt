-- Rows on their way into a base relvar.
--     way_of      the way in which they come
--     IsOneAtMost      no list, or one of one attribute
--     entries_then      the relvars in which it has its own and them, or them alone
--     IsBaseFor      a base relvar that has room for them
--     IsArrival, IsReadied      what stands ready makes that of the relvars
use Rattle.std.specs.Prelude.{◌≡◌, ℕ, ◌+◌, ◌≤◌, List, length, Option, Some, None, option_map, Result, Ok, Err}
use Rattle.value_core.specs.declared.constraint.Constraint.{Constraint}
use Rattle.value_core.specs.declared.refuse.Refuse.{Refuse}
use Rattle.value_core.specs.Values.{Name, Row, Relation, IsRelation, most_rows}
use Rattle.tree_core.specs.Relvars.{base, Entries, State}
use Rattle.meaning_core.specs.Names.{IsFirstAt}
use Rattle.assign_core.specs.declared.new_rows.Coming.{Coming}
use Rattle.assign_core.specs.declared.new_rows.Coming.TheVariants.{Set, Insert}
use Rattle.assign_core.specs.declared.exchange.Ready.{Ready}
use Rattle.assign_core.specs.Assignments.{kept_or_refused, with_target, IsRefusedFor}
use Rattle.assign_core.specs.Costs.{constraints_cost}
use Rattle.assign_core.specs.NewRows.{Arriving, replacing, joining, rows_then, joined_cost, IsBaseWith}
use Rattle.assign_core.specs.Exchanges.{with_ready, IsReady}

abbrev pub way_of : Coming → Arriving
way_of Set = replacing
way_of (Insert commalist) = joining (option_map (λ l. l.now) commalist)

-- there is no list, or one of one attribute
abbrev pub IsOneAtMost : Option (List ℕ) → Type 0
IsOneAtMost None = Unit {0}
IsOneAtMost (Some commalist) = length commalist ≡ 1

abbrev pub entries_then : Entries → Arriving → Name → List Row → Relation → Entries
entries_then entries way name old rows = with_target entries name (record { heading = rows.heading; rows = rows_then way old rows.rows })

-- the base relvar at the place is the first of its name and has the value, with the heading of the rows, and room for them
pub record IsBaseFor (entries : Entries) (name : Name) (way : Arriving) (rows : Relation) (at : ℕ) (value : Relation) : Type 0 where
  pub constraints : List Constraint
  pub first : IsFirstAt entries name at (base value constraints)
  pub headed : rows.heading ≡ value.heading
  pub relation : IsRelation value
  pub few : length rows.rows ≤ most_rows
  pub fits : length (rows_then way value.rows rows.rows) ≤ most_rows

-- there is such a relvar, and this is told of what the rows make, within these steps
pub record IsArrival (s : State) (way : Arriving) (name : Name) (rows : Relation) (IsTold : Result Entries Refuse → Type 0) (before after : ℕ) : Type 0 where
  pub base : IsBaseWith s name rows.heading
  pub few : length rows.rows ≤ most_rows
  pub fits : length (rows_then way base.old.rows rows.rows) ≤ most_rows
  pub told : IsTold (kept_or_refused (entries_then s.relvars way name base.old.rows rows))
  pub cost : after ≤ before + (joined_cost way base.old.rows rows.rows + constraints_cost (entries_then s.relvars way name base.old.rows rows))

-- the relvars stand ready or are refused; or the rows are left, and no step is taken
abbrev pub IsReadied : Result (Option Ready) Refuse → State → Arriving → Name → Relation → ℕ → ℕ → Type 0
IsReadied (Ok (Some r)) s way name rows before after = IsReady r s.relvars × IsArrival s way name rows (λ m. m ≡ Ok (with_ready r s.relvars)) before after
IsReadied (Ok None) s way name rows before after = after ≡ before
IsReadied (Err refuse) s way name rows before after = IsArrival s way name rows (IsRefusedFor refuse) before after

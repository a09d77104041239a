-- Rows of a base relvar that are exchanged in place, as they are in its log.
--     IsDiffering      the same exchange by rows that are new and rows that were there
--     MayGoInPlace      there is room for such an exchange in any case, and no database constraint can be broken
--     IsInPlace      what is asked of such a change
--     changed_in_place      the relvars after it
--     IsPrepared      what stands ready for assignments beside logs
use Rattle.std.specs.Prelude.{◌≡◌, ◌+◌, ◌≤◌, List, length, None, Ok}
use Rattle.value_core.specs.declared.constraint.Constraint.{Constraint}
use Rattle.value_core.specs.Values.{Relation, most_rows}
use Rattle.relation_core.specs.Operators.{united}
use Rattle.log_times.specs.Turns.{IsExact}
use Rattle.tree_core.specs.Items.{PlainAssignment}
use Rattle.tree_core.specs.Relvars.{base, Entries, State, read_relvars}
use Rattle.meaning_core.specs.Names.{IsFirstAt}
use Rattle.u_constraints.specs.Growth.{exchanged}
use Rattle.change_rows.specs.declared.exchange.Exchange.{Exchange}
use Rattle.relvar_logs.specs.Turning.{AreNext}
use Rattle.assign_core.specs.declared.target.Target.{Target}
use Rattle.assign_core.specs.declared.in_place.InPlace.{InPlace}
use Rattle.assign_core.specs.declared.in_place.Prepared.{Prepared}
use Rattle.assign_core.specs.declared.in_place.Prepared.TheVariants.{Rows, Values}
use Rattle.assign_core.specs.Assignments.{after_assignments, evaluated}
use Rattle.assign_core.specs.Beside.{FitsBeside}
use Rattle.assign_core.specs.Breaches.{first_rule_broken}
use Rattle.assign_core.specs.Exchanges.{with_ready, IsReady}
use Rattle.assign_core.specs.Logs.{IsLogRoomFor}
use Rattle.assign_core.specs.Targets.{entries_before}
use Rattle.assign_core.specs.Turnovers.{renewed_at, MayExchange}

-- the rows of d that come are new and those that go were there, they are no more than those of x, and make the same of the value
pub record IsDiffering (value : Relation) (x d : Exchange) : Type 0 where
  pub come : d.come.heading ≡ x.come.heading
  pub gone : d.gone.heading ≡ x.gone.heading
  pub exact : IsExact value.rows d.come.rows d.gone.rows
  pub same : exchanged value.rows d.gone.rows d.come.rows ≡ exchanged value.rows x.gone.rows x.come.rows
  pub fewer : length d.come.rows + length d.gone.rows ≤ length x.come.rows + length x.gone.rows

-- the rows of the target, of its log, and all others have room in any case, and no database constraint is broken afterwards
pub record MayGoInPlace (t : Target) (x : Exchange) : Type 0 where
  pub room : length (united t.value.now.rows x.come.rows) ≤ most_rows
  pub fits : FitsBeside (read_relvars t.relvars.now) t.name.now (length x.come.rows + length x.gone.rows)
  pub rules : first_rule_broken (renewed_at t.at x (entries_before t)) (read_relvars t.relvars.now).rules ≡ None

-- the rows are exchanged in the base relvar at the place, the first of its name, and there is room for them in its log and beside all others
pub record IsInPlace (s : State) (c : InPlace) : Type 0 where
  pub value : Relation
  pub constraints : List Constraint
  pub first : IsFirstAt s.relvars c.name c.at (base value constraints)
  pub may : MayExchange c.rows (base value constraints)
  pub gone : c.rows.gone.heading ≡ value.heading
  pub differ : IsDiffering value c.rows c.differ
  pub fits : FitsBeside s c.name (length c.rows.come.rows + length c.rows.gone.rows)

-- the relvars after it
abbrev pub changed_in_place : InPlace → Entries → Entries
changed_in_place c entries = renewed_at c.at c.rows entries

-- of assignments that are accepted as far as their own relvars: what stands ready for these, and for the logs
abbrev pub IsPrepared : State → List PlainAssignment → Prepared → Type 0
IsPrepared s list (Rows c) =
    IsInPlace s c × (after_assignments s.relvars list ≡ Ok (changed_in_place c s.relvars)) × IsLogRoomFor (evaluated s.relvars s.relvars list) × (first_rule_broken (changed_in_place c s.relvars) s.rules ≡ None)
IsPrepared s list (Values ready next) =
    IsReady ready s.relvars × (after_assignments s.relvars list ≡ Ok (with_ready ready s.relvars)) × IsLogRoomFor (evaluated s.relvars s.relvars list) × AreNext s.accepted (with_ready ready s.relvars) next.items (with_ready ready s.relvars)

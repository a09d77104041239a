-- The relvars after a change, and what a check of their constraints asks.
--     after      the relvars with the values that stand ready
--     can_break      whether the change can break a constraint
--     AllChecked      each constraint fits the headings that it is of, and finds the relvar that it names
use Rattle.std.specs.Prelude.{◌≡◌, Bool, false, ◌||◌, List, [], ◌∷◌, Option, Some, None, is_some}
use Rattle.std.specs.List.{All}
use Rattle.value_core.specs.declared.constraint.Constraint.{Constraint}
use Rattle.value_core.specs.Values.{Name, Heading, Row, Relation}
use Rattle.tree_core.specs.Relvars.{PlainRelvar, base, view, Entries, relvar_named, heading_if, read_relvars, log}
use Rattle.meaning_core.specs.WellMade.{IsBase, FitsHeadings}
use Rattle.u_constraints.specs.Constraints.{broken, names_relvar}
use Rattle.assign_core.specs.Breaches.{rows_named}
use Rattle.assign_core.specs.declared.checking.After.{After}
use Rattle.relvar_logs.specs.Changes.{Changes, changed, change_named}

abbrev pub after : After → Entries
after a = changed a.changes.now (read_relvars a.relvars.now).relvars

abbrev pub heading_at : Entries → Option Name → Heading
heading_at entries None = []
heading_at entries (Some name) = heading_if (relvar_named entries name)

abbrev pub NamesBase : Entries → Option Name → Type 0
NamesBase entries None = Unit {0}
NamesBase entries (Some name) = IsBase (relvar_named entries name)

pub record IsChecked (entries : Entries) (heading : Heading) (c : Constraint) : Type 0 where
  pub names : NamesBase entries (names_relvar c)
  pub fits : FitsHeadings heading (heading_at entries (names_relvar c)) c

abbrev pub AreChecked : Entries → PlainRelvar → Type 0
AreChecked entries (base value constraints) = All (IsChecked entries value.heading) constraints
AreChecked entries (view t kind) = Unit {0}
AreChecked entries (log of side last w) = Unit {0}

abbrev pub AllChecked : Entries → Entries → Type 0
AllChecked entries [] = Unit {0}
AllChecked entries (r ∷ rest) = AreChecked entries r.1 × AllChecked entries rest

-- ---- which constraints a change can break

abbrev pub before : After → Entries
before a = (read_relvars a.relvars.now).relvars

abbrev pub change_at : Changes → Entries → Option Name → Option Relation
change_at cs entries None = None
change_at cs entries (Some name) = change_named cs entries name

-- a new value stands ready for the constraint's own relvar, or for the one that it names
abbrev pub can_break : After → Bool → Constraint → Bool
can_break a own c = own || is_some (change_at a.changes.now (before a) (names_relvar c))

-- where the relvar stays, the constraint held before
abbrev pub HeldBefore : After → Bool → List Row → Constraint → Type 0
HeldBefore a own rows c = own ≡ false → broken c rows (rows_named (before a) c) ≡ None

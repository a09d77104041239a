-- Assignments: all targets change together, or none.
--     seen_by      the state as a source sees it
--     evaluated      the values of all sources
--     after_assignments      the relvars with these values, or why they are refused by their own constraints
--     assigned_beside      the same, the database constraints of the state asked last, and unless its logs would have too many rows
--     assigned_in      the same, unless its logs and stored views would have too many rows
--     constrained      the state with one database constraint more, or why it is refused
use Rattle.std.specs.Prelude.{◌≡◌, nat_le, List, [], ◌∷◌, Option, Some, None, Result, Ok, Err, if◌then◌else◌}
use Rattle.base_core.specs.Outcomes.{then_give}
use Rattle.point_core.specs.declared.fault.Code.TheVariants.{E45, E46}
use Rattle.point_core.specs.Faults.{OrFault}
use Rattle.relation_core.specs.Answers.{under}
use Rattle.value_core.specs.Limits.{most_rows_in_all}
use Rattle.value_core.specs.declared.refuse.Refuse.{Refuse}
use Rattle.value_core.specs.declared.refuse.Refuse.TheVariants.{Plain, At, Broken, Memory}
use Rattle.value_core.specs.Values.{Name, Relation}
use Rattle.tree_core.specs.Items.{PlainAssignment}
use Rattle.tree_core.specs.Relvars.{Entries, Rules, State, relvar_named}
use Rattle.tree_core.specs.Trees.{Test, heading_of}
use Rattle.meaning_core.specs.Declarations.{with_rule}
use Rattle.meaning_core.specs.Meanings.{meaning_in}
use Rattle.meaning_core.specs.Names.{given}
use Rattle.meaning_core.specs.Truths.{holds_in}
use Rattle.assign_core.specs.Breaches.{value_if, rows_of_all, first_broken, first_rule_broken}
use Rattle.assign_core.specs.Logs.{unless_logs_full}
use Rattle.assign_core.specs.Room.{unless_full}

-- ---- sources

-- the relvars as a source sees them: the old ones, its own target alone with its newest value
abbrev pub seen_by : Entries → Entries → Name → Entries
seen_by old new name = given (Some name) (value_if (relvar_named new name)) old

-- the relation of a source, or its fault
abbrev pub source_value : Entries → Entries → PlainAssignment → OrFault Relation
source_value old new a = under (heading_of a.tree) (meaning_in (seen_by old new a.target) a.tree)

-- the relvars in which the target has the value
abbrev pub with_target : Entries → Name → Relation → Entries
with_target new name value = given (Some name) (Some value) new

-- the relvars in which targets have the values of their sources, evaluated one after the other, or the first fault
abbrev pub evaluated : Entries → Entries → List PlainAssignment → OrFault Entries
evaluated old new [] = Ok new
evaluated old new (a ∷ rest) = then_give (source_value old new a) (λ value. evaluated old (with_target new a.target value) rest)

-- ---- refusals

abbrev pub unless_broken : Entries → Option Refuse → Result Entries Refuse
unless_broken new None = Ok new
unless_broken new (Some refuse) = Err refuse

-- the relvars, unless they have too many rows together or break a constraint
abbrev pub kept_or_refused : Entries → Result Entries Refuse
kept_or_refused new = if nat_le (rows_of_all new) most_rows_in_all then unless_broken new (first_broken new) else Err (Plain E46)

abbrev pub of_values : OrFault Entries → Result Entries Refuse
of_values (Ok new) = kept_or_refused new
of_values (Err fault) = Err (At fault)

-- the relvars after assignments: all targets change together, or none
abbrev pub after_assignments : Entries → List PlainAssignment → Result Entries Refuse
after_assignments entries list = of_values (evaluated entries entries list)

-- the relvars, unless they break a database constraint
abbrev pub unless_rule_broken : Rules → Result Entries Refuse → Result Entries Refuse
unless_rule_broken rules (Ok new) = unless_broken new (first_rule_broken new rules)
unless_rule_broken rules (Err refuse) = Err refuse

-- the relvars after assignments in a state, unless its logs would have too many rows; its database constraints are asked after the
-- constraints of its relvars. This is what is meant where there is no stored view
abbrev pub assigned_beside : State → List PlainAssignment → Result Entries Refuse
assigned_beside s list = unless_logs_full (evaluated s.relvars s.relvars list) (unless_rule_broken s.rules (after_assignments s.relvars list))

-- the same, unless its logs and stored views would have too many rows
abbrev pub assigned_in : State → List PlainAssignment → Result Entries Refuse
assigned_in s list = unless_full (evaluated s.relvars s.relvars list) (unless_rule_broken s.rules (after_assignments s.relvars list))

-- ---- database constraints

-- the state with one database constraint more, which must hold in it
abbrev pub constrained : State → Name → Test → Result State Refuse
constrained s name t = if holds_in s.relvars t then Ok (with_rule name t s) else Err (Broken E45 name 0)

-- ---- answers

-- a refusal is the one that is meant, or want of memory
abbrev pub IsRefusedFor : {A : Type 0} → Refuse → Result A Refuse → Type 0
IsRefusedFor (Plain code) meant = meant ≡ Err (Plain code)
IsRefusedFor (At fault) meant = meant ≡ Err (At fault)
IsRefusedFor (Broken code relvar number) meant = meant ≡ Err (Broken code relvar number)
IsRefusedFor Memory meant = Unit {0}

-- relvars that are neither too many rows nor break a constraint, or why they are refused
abbrev pub IsAdmitted : Result (Unit {0}) Refuse → Entries → Type 0
IsAdmitted (Ok done) new = kept_or_refused new ≡ Ok new
IsAdmitted (Err refuse) new = IsRefusedFor refuse (kept_or_refused new)

-- the relvars of the state become what is meant; where that is refused, or memory is wanting, the state stays
abbrev pub IsChanged : Result (Unit {0}) Refuse → State → State → Result Entries Refuse → Type 0
IsChanged (Ok done) old new meant = (meant ≡ Ok new.relvars) × (new ≡ record old { relvars = new.relvars })
IsChanged (Err refuse) old new meant = IsRefusedFor refuse meant × (new ≡ old)

abbrev pub IsAssignedBeside : Result (Unit {0}) Refuse → State → State → List PlainAssignment → Type 0
IsAssignedBeside result old new list = IsChanged result old new (assigned_beside old list)

abbrev pub IsAssigned : Result (Unit {0}) Refuse → State → State → List PlainAssignment → Type 0
IsAssigned result old new list = IsChanged result old new (assigned_in old list)

-- the state becomes what is meant; where that is refused, or memory is wanting, it stays
abbrev pub IsDone : Result (Unit {0}) Refuse → State → State → Result State Refuse → Type 0
IsDone (Ok done) old new meant = meant ≡ Ok new
IsDone (Err refuse) old new meant = IsRefusedFor refuse meant × (new ≡ old)

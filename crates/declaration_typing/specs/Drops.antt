-- The typing of DROP VAR.
--     dropped state name      the name of the relvar or view, or the first refusal
use Rattle.std.specs.Prelude.{Bool, false, not, ◌&&◌, ◌||◌, is_some, Ok}
use Rattle.std.specs.List.{list_any}
use Rattle.std.specs.Str.{bytes_eq}
use Rattle.point_core.specs.declared.fault.Code.TheVariants.{E10, E21}
use Rattle.point_core.specs.Faults.{OrFault}
use Rattle.utd_syntax.specs.Plain.{Word}
use Rattle.value_core.specs.Values.{Name}
use Rattle.scalar_typing.specs.Typings.{◌>>=◌}
use Rattle.relation_typing.specs.Attributes.{name_typed}
use Rattle.tree_core.specs.Relvars.{State, PlainKind, derived, of_history, stored, PlainRelvar, base, view, Entries, Rules, relvar_named, log}
use Rattle.tree_core.specs.Uses.{is_one_of, relvar_names_any, test_names_any}
use Rattle.meaning_core.specs.Declarations.{group}
use Rattle.node_typing.specs.Positions.{check}

-- whether a view of the kind is a history's, and the name that of its since relvar or its during relvar
abbrev pub is_of : Name → PlainKind → Bool
is_of name derived = false
is_of name (of_history names) = bytes_eq name names.0 || bytes_eq name names.1
is_of name stored = false

abbrev pub is_in_history : Name → PlainRelvar → Bool
is_in_history name (base value constraints) = false
is_in_history name (view t kind) = is_of name kind
is_in_history name (log of side last value) = false

-- whether a history has the name as that of its since relvar or its during relvar
abbrev pub is_of_history : Entries → Name → Bool
is_of_history entries name = list_any (λ e. is_in_history name e.1) entries

-- whether a relvar or view that is none of these names one of these
abbrev pub relvars_use : Entries → (Name → Bool) → Bool
relvars_use entries these = list_any (λ e. not (these e.0) && relvar_names_any these e.1) entries

-- whether a database constraint names one of these
abbrev pub rules_use : Rules → (Name → Bool) → Bool
rules_use rules these = list_any (λ r. test_names_any these r.1) rules

abbrev pub is_used : State → (Name → Bool) → Bool
is_used s these = relvars_use s.relvars these || rules_use s.rules these

-- E10 at a name that is no relvar and no view; E21 at one of the two relvars of a history, which go with its view; E21 where the relvar or
-- view, or one of the three of a history, is used by another
unfoldable pub dropped : State → Word → OrFault Name
dropped s w = do
  name ← name_typed w
  known ← check w.place E10 (is_some (relvar_named s.relvars name))
  alone ← check w.place E21 (not (is_of_history s.relvars name))
  free ← check w.place E21 (not (is_used s (is_one_of (group s.relvars name))))
  Ok name

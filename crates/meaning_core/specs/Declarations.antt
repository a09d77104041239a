-- What declarations make of a state.
--     PlainDeclaration, read_declaration      declarations as plain data, and how they are read
--     with_declaration      the state with what is declared: a relvar begins with no rows
--     without_group      the state without a relvar or view; the view of a history takes its two relvars along
--     with_rule, without_rule      the state with one database constraint more, or without one
--     with_log      the state with a log that begins with the statement that declares it
--     counted      the state in which one statement more is accepted
use Rattle.std.specs.Prelude.{pos, ◌+ℤ◌, not, List, [], ◌∷◌, ◌++◌, filter, Option, Some, None}
use Rattle.std.specs.Str.{bytes_eq}
use Rattle.value_core.specs.declared.constraint.Constraint.{Constraint}
use Rattle.value_core.specs.Values.{Name, Heading}
use Rattle.tree_core.specs.declared.declaration.Declaration.{Declaration}
use Rattle.tree_core.specs.declared.declaration.LogData.{LogData}
use Rattle.tree_core.specs.declared.declaration.Declaration.TheVariants as variants
use Rattle.tree_core.specs.Relvars.{State, PlainKind, derived, of_history, PlainRelvar, base, view, Entries, relvar_named, heading_if, history_if}
use Rattle.tree_core.specs.Trees.{Tree, Test, read_tree}
use Rattle.tree_core.specs.Uses.{is_one_of}
use Rattle.meaning_core.specs.Logs.{new_log, turned_logs}

pub data PlainDeclaration : Type 0 where
  ordinal_type : Name → List Name → PlainDeclaration
  base_relvar : Name → Heading → List Constraint → PlainDeclaration
  view_relvar : Name → Tree → PlainKind → PlainDeclaration

abbrev pub read_declaration : Declaration → PlainDeclaration
read_declaration (variants.Ordinal name values) = ordinal_type name values
read_declaration (variants.Base name heading constraints) = base_relvar name heading constraints
read_declaration (variants.View name tree) = view_relvar name (read_tree tree) derived
read_declaration (variants.HistoryView name tree since during) = view_relvar name (read_tree tree) (of_history (since, during))

-- the state with one relvar or view more
abbrev pub with_relvar : State → Name → PlainRelvar → State
with_relvar s name r = record s { relvars = s.relvars ++ (name, r) ∷ [] }

abbrev pub with_declaration : State → PlainDeclaration → State
with_declaration s (ordinal_type name values) = record s { ordinals = s.ordinals ++ record { name = name; values = values } ∷ [] }
with_declaration s (base_relvar name heading constraints) = with_relvar s name (base (record { heading = heading; rows = [] }) constraints)
with_declaration s (view_relvar name t kind) = with_relvar s name (view t kind)

-- the state with a log that tells nothing yet
abbrev pub with_log : State → LogData → State
with_log s d = with_relvar s d.name (new_log (heading_if (relvar_named s.relvars d.of)) s.accepted d)

-- ---- what is dropped with a name

abbrev pub with_history : Name → Option (Name × Name) → List Name
with_history name None = name ∷ []
with_history name (Some names) = name ∷ names.1 ∷ names.0 ∷ []

-- the names that go with a name
abbrev pub group : Entries → Name → List Name
group entries name = with_history name (history_if (relvar_named entries name))

-- the state without the relvars and views of these names
abbrev pub without_all : List Name → State → State
without_all names s = record s { relvars = filter (λ r. not (is_one_of names r.0)) s.relvars }

-- the state without the relvar or view of this name; without the three of a history, where it is a history's view
abbrev pub without_group : Name → State → State
without_group name s = without_all (group s.relvars name) s

-- ---- database constraints

abbrev pub with_rule : Name → Test → State → State
with_rule name t s = record s { rules = s.rules ++ (name, t) ∷ [] }

abbrev pub without_rule : Name → State → State
without_rule name s = record s { rules = filter (λ r. not (bytes_eq r.0 name)) s.rules }

-- ---- accepted statements

-- the state after a statement that is accepted: its logs tell what their relvars have then
abbrev pub counted : State → State
counted s = record s { relvars = turned_logs s.relvars; accepted = s.accepted +ℤ pos 1 }

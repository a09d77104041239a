-- The state that expressions are evaluated in, as plain data: relvars, views, logs, ordinal types and database constraints, each in order of
-- declaration, and how many statements were accepted.
--     State, read_relvars      what relvars are read as, and how
--     relvar_named, heading_if ..      what is looked up in a state
use Rattle.std.specs.Prelude.{ℕ, ℤ, List, [], ◌∷◌, map, Option, Some, None, if◌then◌else◌}
use Rattle.std.specs.Str.{bytes_eq}
use Rattle.value_core.specs.Values.{Name, Heading, Relation}
use Rattle.value_core.specs.declared.list.OrdinalNames.{OrdinalNames}
use Rattle.value_core.specs.declared.constraint.Constraint.{Constraint}
use Rattle.value_core.specs.declared.constraint.Constraint.TheVariants.{History}
use Rattle.value_core.specs.declared.constraint.HistoryRule.{HistoryRule}
use Rattle.log_times.specs.Kept.{log_relation}
use Rattle.tree_core.specs.Trees.{Tree, Test, heading_of, read_tree, read_test}
use Rattle.tree_core.specs.declared.relvar.Relvar.{Relvar}
use Rattle.tree_core.specs.declared.relvar.Relvar.TheVariants.{Base, View, Log}
use Rattle.tree_core.specs.declared.relvar.ViewKind.{ViewKind}
use Rattle.tree_core.specs.declared.relvar.ViewKind.TheVariants.{Derived, OfHistory, Stored}
use Rattle.tree_core.specs.declared.relvar.Relvars.{Relvars}
use Rattle.tree_core.specs.declared.test.RelTest.{RelTest}

-- where the rows of a view come from: its expression; the same for a history's view, with its since relvar and its during relvar; or they are
-- stored too
pub data PlainKind : Type 0 where
  derived : PlainKind
  of_history : Name × Name → PlainKind
  stored : PlainKind

-- a base relvar, or a view; the log of a base relvar, with the place of the attribute that tells the statements, the number of the last of
-- them, and the log's value
pub data PlainRelvar : Type 0 where
  base : Relation → List Constraint → PlainRelvar
  view : Tree → PlainKind → PlainRelvar
  log : Name → ℕ → ℤ → Relation → PlainRelvar

-- the entries of a state, in order of declaration
abbrev pub Entries : Type 0
Entries = List (Name × PlainRelvar)

-- database constraints: named tests
abbrev pub Rules : Type 0
Rules = List (Name × Test)

pub record State : Type 0 where
  pub ordinals : List OrdinalNames
  pub relvars : Entries
  pub rules : Rules
  pub accepted : ℤ

-- ---- reading

abbrev pub read_kind : ViewKind → PlainKind
read_kind Derived = derived
read_kind (OfHistory names) = of_history names
read_kind Stored = stored

abbrev pub read_relvar : Relvar → PlainRelvar
read_relvar (Base value constraints) = base value constraints
read_relvar (View tree kind) = view (read_tree tree) (read_kind kind)
read_relvar (Log of kept) = log of kept.side kept.last (log_relation kept)

abbrev pub read_entry : Name × Relvar → Name × PlainRelvar
read_entry e = (e.0, read_relvar e.1)

abbrev pub read_rule : Name × RelTest → Name × Test
read_rule r = (r.0, read_test r.1)

abbrev pub read_relvars : Relvars → State
read_relvars relvars = record { ordinals = relvars.ordinals; relvars = map read_entry relvars.list.entries; rules = map read_rule relvars.rules.entries; accepted = relvars.accepted }

-- ---- what is looked up

abbrev pub relvar_named : Entries → Name → Option PlainRelvar
relvar_named [] name = None
relvar_named (r ∷ rest) name = if bytes_eq r.0 name then Some r.1 else relvar_named rest name

abbrev pub relvar_heading : PlainRelvar → Heading
relvar_heading (base value constraints) = value.heading
relvar_heading (view t kind) = heading_of t
relvar_heading (log of side last value) = value.heading

abbrev pub heading_if : Option PlainRelvar → Heading
heading_if None = []
heading_if (Some r) = relvar_heading r

abbrev pub constraints_if : Option PlainRelvar → List Constraint
constraints_if None = []
constraints_if (Some (base value constraints)) = constraints
constraints_if (Some (view t kind)) = []
constraints_if (Some (log of side last value)) = []

-- the rule of a history that stands first among constraints
abbrev pub rule_among : List Constraint → Option HistoryRule
rule_among [] = None
rule_among (History rule ∷ rest) = Some rule
rule_among (c ∷ rest) = rule_among rest

-- the since relvar and the during relvar of the view of a history
abbrev pub history_in : PlainKind → Option (Name × Name)
history_in derived = None
history_in (of_history names) = Some names
history_in stored = None

abbrev pub history_if : Option PlainRelvar → Option (Name × Name)
history_if None = None
history_if (Some (base value constraints)) = None
history_if (Some (view t kind)) = history_in kind
history_if (Some (log of side last value)) = None

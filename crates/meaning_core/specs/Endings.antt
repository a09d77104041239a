-- The views of histories by their names, with the two relvars and the rule that they are made by.
--     history_of, rule_of      the relvars of a view, and the rule between them
use Rattle.std.specs.Prelude.{Option, Some, None}
use Rattle.value_core.specs.declared.constraint.HistoryRule.{HistoryRule}
use Rattle.value_core.specs.Values.{Name}
use Rattle.tree_core.specs.Relvars.{Entries, relvar_named, constraints_if, rule_among, history_if}

-- the since relvar and the during relvar of the view of a history
abbrev pub history_of : Entries → Name → Option (Name × Name)
history_of entries name = history_if (relvar_named entries name)

-- the rule between them stands among the constraints of the during relvar
abbrev pub rule_if : Entries → Option (Name × Name) → Option HistoryRule
rule_if entries None = None
rule_if entries (Some names) = rule_among (constraints_if (relvar_named entries names.1))

abbrev pub rule_of : Entries → Name → Option HistoryRule
rule_of entries name = rule_if entries (history_of entries name)

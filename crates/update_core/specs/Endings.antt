-- TERMINATE as assignments: facts of the since relvar get an end in the during relvar, and leave the since relvar.
--     ended      the two assignments
--     meant_by      the assignments of any item, in a state
use Rattle.std.specs.Prelude.{List, [], ◌∷◌, Option, Some, None}
use Rattle.point_core.specs.declared.fault.Place.{Place}
use Rattle.value_core.specs.declared.constraint.HistoryRule.{HistoryRule}
use Rattle.value_core.specs.Values.{Name, Heading}
use Rattle.scalar_core.specs.Expressions.{Expr}
use Rattle.tree_core.specs.Relvars.{Entries, relvar_named, heading_if}
use Rattle.tree_core.specs.Trees.{Tree, named, restrict}
use Rattle.tree_core.specs.Items.{PlainItemForm, set_to, insert, delete, delete_rows, update, terminate, PlainItem, PlainAssignment}
use Rattle.meaning_core.specs.Endings.{history_of, rule_of}
use Rattle.meaning_core.specs.Histories.{joined_history, type_at, name_at}
use Rattle.update_core.specs.Updates.{condition_of, negated, expanded}

-- the facts of which the condition holds last up to the point in the during relvar, and are no longer in the since relvar
abbrev pub ended : Place → Place → HistoryRule → Name × Name → Heading → Heading → Expr → Option Expr → List PlainAssignment
ended place at rule names since during e condition =
    let c = condition_of place condition in
    let own : Tree = named place since names.0 in
    let point = name_at since rule.point_there in
    let span = name_at during rule.span_here in
    record { target = names.1; tree = joined_history place at (type_at during rule.span_here) point span names.1 since during e (restrict place since c own) }
    ∷ record { target = names.0; tree = restrict place since (negated place c) own }
    ∷ []

abbrev pub ended_in : Entries → Place → Place → Option HistoryRule → Option (Name × Name) → Expr → Option Expr → List PlainAssignment
ended_in entries place at rule None e c = []
ended_in entries place at None (Some names) e c = []
ended_in entries place at (Some rule) (Some names) e c =
    ended place at rule names (heading_if (relvar_named entries names.0)) (heading_if (relvar_named entries names.1)) e c

abbrev pub meant_by_form : Entries → PlainItem → PlainItemForm → List PlainAssignment
meant_by_form entries i (terminate e at c) = ended_in entries i.place at (rule_of entries i.target) (history_of entries i.target) e c
meant_by_form entries i (set_to t) = expanded i
meant_by_form entries i (insert commalist t) = expanded i
meant_by_form entries i (delete commalist t) = expanded i
meant_by_form entries i (delete_rows c) = expanded i
meant_by_form entries i (update c sets) = expanded i

-- the assignments that an item stands for where these are the relvars and views
abbrev pub meant_by : Entries → PlainItem → List PlainAssignment
meant_by entries i = meant_by_form entries i i.form

-- Histories whose two relvars can be joined.
--     IsEndingForm      of items that are a TERMINATE
--     IsJoinable      the relvars are base relvars, the rule names attributes of theirs, and there is room for the interval
--     AreJoinable      so it is of the history of a view, if it is one and has its rule
use Rattle.std.specs.Prelude.{◌<◌, ◌≤◌, Option, Some, None, length}
use Rattle.value_core.specs.declared.constraint.HistoryRule.{HistoryRule}
use Rattle.value_core.specs.declared.kind.Kind.TheVariants.{Span}
use Rattle.value_core.specs.Limits.{most_attributes}
use Rattle.value_core.specs.Values.{Name, Heading}
use Rattle.tree_core.specs.Items.{PlainItemForm, terminate}
use Rattle.tree_core.specs.Relvars.{Entries, relvar_named, heading_if}
use Rattle.meaning_core.specs.Endings.{rule_if}
use Rattle.meaning_core.specs.Histories.{with_attribute, type_at, name_at}
use Rattle.meaning_core.specs.WellMade.{IsBase}

abbrev pub IsEndingForm : PlainItemForm → Type 0
IsEndingForm (terminate e at c) = Unit {0}
IsEndingForm _ = ⊥

-- the heading of a relvar
abbrev pub heading_in : Entries → Name → Heading
heading_in entries name = heading_if (relvar_named entries name)

pub record IsJoinable (entries : Entries) (names : Name × Name) (rule : HistoryRule) : Type 0 where
  pub since : IsBase (relvar_named entries names.0)
  pub during : IsBase (relvar_named entries names.1)
  pub point : rule.point_there < length (heading_in entries names.0)
  pub span : rule.span_here < length (heading_in entries names.1)
  pub narrow : length (with_attribute (heading_in entries names.0) (name_at (heading_in entries names.1) rule.span_here) (Span (type_at (heading_in entries names.1) rule.span_here))) ≤ most_attributes

abbrev pub IsJoinableIf : Entries → Name × Name → Option HistoryRule → Type 0
IsJoinableIf entries names None = Unit {0}
IsJoinableIf entries names (Some rule) = IsJoinable entries names rule

abbrev pub AreJoinable : Entries → Option (Name × Name) → Type 0
AreJoinable entries None = Unit {0}
AreJoinable entries (Some names) = IsJoinableIf entries names (rule_if entries (Some names))

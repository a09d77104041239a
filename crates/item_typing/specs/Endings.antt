-- The typing of TERMINATE.
--     facts_of state place relvar      what is told of the facts of a history
--     ending_typed state place w at s condition      the item
use Rattle.std.specs.Prelude.{List, [], Ok, Some}
use Rattle.point_core.specs.declared.fault.Place.{Place}
use Rattle.point_core.specs.declared.fault.Code.TheVariants.{E10, E12, E20}
use Rattle.point_core.specs.Faults.{OrFault}
use Rattle.utd_syntax.specs.Plain.{Word, ScalarP, ConditionP}
use Rattle.value_core.specs.declared.kind.Kind.{Kind}
use Rattle.value_core.specs.declared.list.OrdinalNames.{OrdinalNames}
use Rattle.value_core.specs.Values.{Name, Heading}
use Rattle.scalar_core.specs.Expressions.{Expr}
use Rattle.scalar_core.specs.KindOf.{same_kind}
use Rattle.relation_core.specs.Parts.{kind_at}
use Rattle.scalar_typing.specs.Scalars.{typed_scalar}
use Rattle.scalar_typing.specs.Typings.{◌>>=◌, value_or}
use Rattle.tree_core.specs.Items.{PlainItemForm, terminate, PlainItem}
use Rattle.tree_core.specs.Relvars.{PlainRelvar, State, relvar_named, relvar_heading, history_if}
use Rattle.relation_typing.specs.Attributes.{name_typed}
use Rattle.meaning_core.specs.Endings.{rule_if}
use Rattle.node_typing.specs.Positions.{check}
use Rattle.item_typing.specs.Changes.{condition_if}
use Rattle.item_typing.specs.Targets.{item_of}

-- the heading of the facts that still hold, and the kind of the points since when they do
abbrev pub Facts : Type 0
Facts = Heading × Kind

-- the heading of the since relvar
abbrev pub since_typed : State → Place → Name → OrFault Heading
since_typed state place name = do
  since ← value_or place E20 (relvar_named state.relvars name)
  Ok (relvar_heading since)

-- E20 at what is no view of a history; that of a history has a since relvar, and the rule that names the point in it
abbrev pub facts_of : State → Place → PlainRelvar → OrFault Facts
facts_of state place found = do
  names ← value_or place E20 (history_if (Some found))
  rule ← value_or place E20 (rule_if state.relvars (Some names))
  heading ← since_typed state place names.0
  Ok (heading, kind_at heading rule.point_there)

-- the scalar over no attributes, then E12 at AT where it is of another kind than the points
abbrev pub point_typed : List OrdinalNames → Kind → Place → ScalarP → OrFault Expr
point_typed types point at s = do
  e ← typed_scalar types [] s
  same ← check at E12 (same_kind e.1 point)
  Ok e.0

-- the point, and the condition over the facts
abbrev pub end_typed : State → Facts → Place → ScalarP → ConditionP → OrFault PlainItemForm
end_typed state facts at s condition = do
  e ← point_typed state.ordinals facts.1 at s
  c ← condition_if state.ordinals facts.0 condition
  Ok (terminate e at c)

-- E10 at a name that is no relvar and no view, E20 at that of no history, and what ends
abbrev pub ending_typed : State → Place → Word → Place → ScalarP → ConditionP → OrFault PlainItem
ending_typed state place w at s condition = do
  name ← name_typed w
  found ← value_or w.place E10 (relvar_named state.relvars name)
  facts ← facts_of state w.place found
  form ← end_typed state facts at s condition
  Ok (item_of place (name, relvar_heading found) form)

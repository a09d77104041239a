-- The groups and the aggregates of a SUMMARIZE, over the heading of its operand.
--     groups_typed from by      the positions of the groups
--     aggregates_made types place from by aggregates      the aggregates, and the heading of the node
use Rattle.std.specs.Prelude.{ℕ, Bool, true, List, [], ◌∷◌, ◌++◌, map, Ok}
use Rattle.point_core.specs.declared.any_type.AnyType.TheVariants.{Integer}
use Rattle.point_core.specs.declared.fault.Place.{Place}
use Rattle.point_core.specs.declared.fault.Code.TheVariants.{E12}
use Rattle.point_core.specs.Faults.{OrFault}
use Rattle.utd_syntax.specs.declared.words.AggregateWord.{AggregateWord}
use Rattle.utd_syntax.specs.declared.words.AggregateWord.TheVariants.{Sum, Min, Max}
use Rattle.utd_syntax.specs.Plain as syntax
use Rattle.utd_syntax.specs.Plain.{Word, NamesP, AggregateFormP, CountRows, AggregateOf, AggregateP, Aggregate, AggregatesP}
use Rattle.value_core.specs.declared.kind.Kind.{Kind}
use Rattle.value_core.specs.declared.kind.Kind.TheVariants.{Point}
use Rattle.value_core.specs.declared.list.OrdinalNames.{OrdinalNames}
use Rattle.value_core.specs.Values.{Name, Heading}
use Rattle.scalar_core.specs.Expressions.{Expr}
use Rattle.scalar_core.specs.KindOf.{same_kind, is_ordered}
use Rattle.relation_core.specs.Parts.{attributes_at}
use Rattle.tree_core.specs.Trees.{PlainAggregateForm, count_rows, sum_of, min_of, max_of, PlainAggregate, read_aggregate}
use Rattle.scalar_typing.specs.Scalars.{typed_scalar}
use Rattle.scalar_typing.specs.Typings.{◌>>=◌}
use Rattle.relation_typing.specs.Attributes.{with_attribute, new_name, few_attributes}
use Rattle.node_typing.specs.Positions.{check, positions_typed, kept}
use Rattle.node_typing.specs.declared.summaries.Summary.{Summary}
use Rattle.node_typing.specs.declared.summaries.Summed.{Summed as SummedItems}

-- what an aggregate counts, and the kind of its values
abbrev pub FormMade : Type 0
FormMade = PlainAggregateForm × Kind

-- whether the word takes values of the kind: SUM those of INTEGER, MIN and MAX texts and points
abbrev pub takes : AggregateWord → Kind → Bool
takes Sum kind = same_kind kind (Point Integer)
takes Min kind = is_ordered kind
takes Max kind = is_ordered kind

abbrev pub form_over : AggregateWord → Expr → PlainAggregateForm
form_over Sum e = sum_of e
form_over Min e = min_of e
form_over Max e = max_of e

abbrev pub form_place : AggregateFormP → Place
form_place (CountRows at) = at
form_place (AggregateOf at word s) = at

-- the scalar, then E12 at the word
abbrev pub form_typed : List OrdinalNames → Heading → AggregateFormP → OrFault FormMade
form_typed types from (CountRows at) = Ok (count_rows, Point Integer)
form_typed types from (AggregateOf at word s) = do
  e ← typed_scalar types from s
  taken ← check at E12 (takes word e.1)
  Ok (form_over word e.0, e.1)

-- the aggregates so far, and the attributes of the groups with those that the aggregates make
abbrev pub Summed : Type 0
Summed = List PlainAggregate × Heading

abbrev pub aggregate_of : Name → Place → PlainAggregateForm → PlainAggregate
aggregate_of name place form = record { name = name; place = place; form = form }

-- an item: E15 at a name of a group's attribute or one used before, then its form
abbrev pub aggregate_typed : List OrdinalNames → Heading → Summed → AggregateP → OrFault Summed
aggregate_typed types from before (Aggregate w form) = do
  name ← new_name before.1 w
  made ← form_typed types from form
  Ok (before.0 ++ aggregate_of name (form_place form) made.0 ∷ [], with_attribute before.1 name made.1)

abbrev pub aggregates_typed : List OrdinalNames → Heading → Summed → List AggregateP → OrFault Summed
aggregates_typed types from before [] = Ok before
aggregates_typed types from before (g ∷ rest) = do
  next ← aggregate_typed types from before g
  aggregates_typed types from next rest

abbrev pub aggregate_list : AggregatesP → List AggregateP
aggregate_list (syntax.Aggregates at first more) = first ∷ more

-- the attributes of the groups: each name E14, then E15
abbrev pub groups_typed : Heading → NamesP → OrFault (List ℕ)
groups_typed from (syntax.Names at words) = do
  named ← positions_typed from [] words
  Ok (kept true named from)

-- the aggregates beside the groups' attributes, then E17 at SUMMARIZE above the most attributes
abbrev pub aggregates_made : List OrdinalNames → Place → Heading → List ℕ → AggregatesP → OrFault Summed
aggregates_made types place from by aggregates = do
  made ← aggregates_typed types from ([], attributes_at by from) (aggregate_list aggregates)
  to ← few_attributes place made.1
  Ok (made.0, to)

-- ---- what the code makes, as plain data

abbrev pub summed : SummedItems → Summed
summed s = (map read_aggregate s.aggregates.items, s.attributes.entries)

abbrev pub summary : Summary → Summed
summary s = (map read_aggregate s.aggregates, s.heading)

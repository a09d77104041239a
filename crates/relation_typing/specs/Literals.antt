-- The typing of literals: tuples, each with the heading that it makes.
use Rattle.std.specs.Prelude.{List, [], ◌∷◌, ◌++◌, Ok, if◌then◌else◌}
use Rattle.point_core.specs.declared.fault.Place.{Place}
use Rattle.point_core.specs.declared.fault.Code.TheVariants.{E13}
use Rattle.point_core.specs.Faults.{OrFault}
use Rattle.utd_syntax.specs.Plain as syntax
use Rattle.utd_syntax.specs.Plain.{HeadingP, ElementsP, TupleP, LiteralP}
use Rattle.value_core.specs.declared.list.OrdinalNames.{OrdinalNames}
use Rattle.value_core.specs.Values.{Heading}
use Rattle.scalar_typing.specs.Typings.{◌>>=◌, refused}
use Rattle.tree_core.specs.Trees.{PlainSets, Tree, literal, read_sets}
use Rattle.relation_typing.specs.declared.literals.HeadedTuple.{HeadedTuple}
use Rattle.relation_typing.specs.Attributes.{few_attributes}
use Rattle.relation_typing.specs.Headings.{heading_typed, same_heading}
use Rattle.relation_typing.specs.Items.{Made, none_made, elements_typed}

abbrev pub headed : HeadedTuple → Made
headed t = (read_sets t.sets, t.heading)

-- a tuple and its heading: its items over the empty heading, then E17 at `{`
abbrev pub elements_made : List OrdinalNames → ElementsP → OrFault Made
elements_made types (syntax.Elements at list) = do
  made ← elements_typed types [] none_made list
  heading ← few_attributes at made.1
  Ok (made.0, heading)

abbrev pub tuple_typed : List OrdinalNames → TupleP → OrFault Made
tuple_typed types (syntax.Tuple at elements) = elements_made types elements

-- E13 at a tuple of another heading
abbrev pub under_heading : Place → Heading → Made → OrFault PlainSets
under_heading at heading made = if same_heading made.1 heading then Ok made.0 else refused at E13

abbrev pub next_tuple : List OrdinalNames → Heading → TupleP → OrFault PlainSets
next_tuple types heading (syntax.Tuple at elements) = do
  made ← elements_made types elements
  under_heading at heading made

-- each tuple is typed and compared before the next
abbrev pub tuples_typed : List OrdinalNames → Heading → List PlainSets → List TupleP → OrFault (List PlainSets)
tuples_typed types heading before [] = Ok before
tuples_typed types heading before (t ∷ rest) = do
  sets ← next_tuple types heading t
  tuples_typed types heading (before ++ sets ∷ []) rest

-- the heading of a literal is the written one, or that of its first tuple
abbrev pub headed_typed : List OrdinalNames → Place → HeadingP → List TupleP → OrFault Tree
headed_typed types at h tuples = do
  heading ← heading_typed types h
  list ← tuples_typed types heading [] tuples
  Ok (literal at heading list)

abbrev pub first_typed : List OrdinalNames → Place → TupleP → List TupleP → OrFault Tree
first_typed types at first more = do
  made ← tuple_typed types first
  list ← tuples_typed types made.1 (made.0 ∷ []) more
  Ok (literal at made.1 list)

abbrev pub literal_typed : List OrdinalNames → LiteralP → OrFault Tree
literal_typed types (syntax.Headed at h tuples) = headed_typed types at h tuples
literal_typed types (syntax.Tuples at first more) = first_typed types at first more

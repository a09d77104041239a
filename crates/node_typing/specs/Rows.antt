-- Conditions and the items of an EXTEND, over the heading of an operand.
--     condition_typed types place from s      the condition of a WHERE that stands at the place
--     extension_made types place from sets      the items of an EXTEND, and the heading that they make with the old attributes
use Rattle.std.specs.Prelude.{List, [], ◌∷◌, Ok}
use Rattle.point_core.specs.declared.fault.Place.{Place}
use Rattle.point_core.specs.declared.fault.Code.TheVariants.{E12}
use Rattle.point_core.specs.Faults.{OrFault}
use Rattle.utd_syntax.specs.Plain as syntax
use Rattle.utd_syntax.specs.Plain.{Word, ScalarP, SetItemP, SetItem, SetsP}
use Rattle.value_core.specs.declared.kind.Kind.TheVariants.{Truth}
use Rattle.value_core.specs.declared.list.OrdinalNames.{OrdinalNames}
use Rattle.value_core.specs.Values.{Heading}
use Rattle.scalar_core.specs.Expressions.{Expr}
use Rattle.scalar_core.specs.KindOf.{same_kind}
use Rattle.scalar_typing.specs.Scalars.{typed_scalar}
use Rattle.scalar_typing.specs.Typings.{◌>>=◌}
use Rattle.relation_typing.specs.Attributes.{few_attributes}
use Rattle.relation_typing.specs.Items.{Made, none_made, item_typed}
use Rattle.node_typing.specs.Headings.{made_beside}
use Rattle.node_typing.specs.Positions.{check}

-- the scalar, then E12 at WHERE where it is no truth value
abbrev pub condition_typed : List OrdinalNames → Place → Heading → ScalarP → OrFault Expr
condition_typed types place from s = do
  e ← typed_scalar types from s
  truth ← check place E12 (same_kind e.1 Truth)
  Ok e.0

abbrev pub item_list : SetsP → List SetItemP
item_list (syntax.Sets at first more) = first ∷ more

-- each item: E15 at a name assigned before, then its scalar
abbrev pub items_typed : List OrdinalNames → Heading → Made → List SetItemP → OrFault Made
items_typed types from before [] = Ok before
items_typed types from before (SetItem w s ∷ rest) = do
  next ← item_typed types from before w s
  items_typed types from next rest

-- then E17 at EXTEND above the most attributes
abbrev pub extension_made : List OrdinalNames → Place → Heading → SetsP → OrFault Made
extension_made types place from sets = do
  made ← items_typed types from none_made (item_list sets)
  to ← few_attributes place (made_beside made.1 from)
  Ok (made.0, to)

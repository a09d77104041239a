-- The items of an UPDATE: attributes of the target, each with the scalar that it gets.
--     sets_made types heading sets
use Rattle.std.specs.Prelude.{List, [], ◌∷◌, ◌++◌, Ok}
use Rattle.point_core.specs.declared.fault.Code.TheVariants.{E12, E14}
use Rattle.point_core.specs.Faults.{OrFault}
use Rattle.utd_syntax.specs.Plain.{Word, ScalarP, SetItemP, SetItem, SetsP}
use Rattle.value_core.specs.declared.list.OrdinalNames.{OrdinalNames}
use Rattle.value_core.specs.Values.{Heading}
use Rattle.scalar_core.specs.KindOf.{same_kind}
use Rattle.scalar_typing.specs.Names.{attribute_of}
use Rattle.scalar_typing.specs.Scalars.{typed_scalar}
use Rattle.scalar_typing.specs.Typings.{◌>>=◌, value_or}
use Rattle.relation_typing.specs.Attributes.{with_attribute, new_name}
use Rattle.relation_typing.specs.Items.{Made, none_made}
use Rattle.node_typing.specs.Positions.{check}
use Rattle.node_typing.specs.Rows.{item_list}
use Rattle.tree_core.specs.Trees.{PlainSets}

-- E14 at a name that is no attribute, E15 at one that was assigned before, the scalar, then E12 at the name where the scalar is of
-- another kind
abbrev pub set_typed : List OrdinalNames → Heading → Made → Word → ScalarP → OrFault Made
set_typed types heading before w s = do
  found ← value_or w.place E14 (attribute_of heading w.bytes)
  name ← new_name before.1 w
  e ← typed_scalar types heading s
  same ← check w.place E12 (same_kind e.1 found.1)
  Ok (before.0 ++ (name, e.0) ∷ [], with_attribute before.1 name e.1)

abbrev pub sets_typed : List OrdinalNames → Heading → Made → List SetItemP → OrFault Made
sets_typed types heading before [] = Ok before
sets_typed types heading before (SetItem w s ∷ rest) = do
  next ← set_typed types heading before w s
  sets_typed types heading next rest

abbrev pub sets_made : List OrdinalNames → Heading → SetsP → OrFault PlainSets
sets_made types heading sets = do
  made ← sets_typed types heading none_made (item_list sets)
  Ok made.0

-- The typing of names with what each is made of, as a tuple, an EXTEND and an update have them.
use Rattle.std.specs.Prelude.{List, [], ◌∷◌, ◌++◌, Ok}
use Rattle.point_core.specs.Faults.{OrFault}
use Rattle.utd_syntax.specs.Plain.{Word, ScalarP, ElementP, Element}
use Rattle.value_core.specs.declared.list.OrdinalNames.{OrdinalNames}
use Rattle.value_core.specs.Values.{Heading}
use Rattle.scalar_typing.specs.Scalars.{typed_scalar}
use Rattle.scalar_typing.specs.Typings.{◌>>=◌}
use Rattle.tree_core.specs.Trees.{PlainSets, read_sets}
use Rattle.relation_typing.specs.Attributes.{with_attribute, new_name}
use Rattle.relation_typing.specs.declared.items.Made.{Made as MadeItems}

-- the items so far in the order of the text, and the attributes that they make
abbrev pub Made : Type 0
Made = PlainSets × Heading

abbrev pub none_made : Made
none_made = ([], [])

abbrev pub made : MadeItems → Made
made m = (read_sets m.sets.items, m.attributes.entries)

-- an item: E15 at a name that stood before, then its scalar over the heading
abbrev pub item_typed : List OrdinalNames → Heading → Made → Word → ScalarP → OrFault Made
item_typed types from before w s = do
  name ← new_name before.1 w
  e ← typed_scalar types from s
  Ok (before.0 ++ (name, e.0) ∷ [], with_attribute before.1 name e.1)

abbrev pub elements_typed : List OrdinalNames → Heading → Made → List ElementP → OrFault Made
elements_typed types from before [] = Ok before
elements_typed types from before (Element w s ∷ rest) = do
  next ← item_typed types from before w s
  elements_typed types from next rest

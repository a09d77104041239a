-- The relvars that items change, and the rows that items give them.
--     target_typed state w      the base relvar of the name, with its heading
--     rows_typed state w heading rel      an expression of the target's heading
--     item_of place target form      the item that changes a target
use Rattle.std.specs.Prelude.{Ok}
use Rattle.point_core.specs.declared.fault.Place.{Place}
use Rattle.point_core.specs.declared.fault.Code.TheVariants.{E10, E13, E20}
use Rattle.point_core.specs.Faults.{OrFault}
use Rattle.utd_syntax.specs.Plain.{Word, RelP}
use Rattle.value_core.specs.Values.{Name, Heading}
use Rattle.scalar_typing.specs.Typings.{◌>>=◌, refused, value_or}
use Rattle.tree_core.specs.Items.{PlainItemForm, PlainItem}
use Rattle.tree_core.specs.Relvars.{PlainRelvar, base, view, State, relvar_named, log}
use Rattle.tree_core.specs.Trees.{Tree, heading_of}
use Rattle.relation_typing.specs.Attributes.{name_typed}
use Rattle.relation_typing.specs.Headings.{same_heading}
use Rattle.node_typing.specs.Positions.{check}
use Rattle.tree_typing.specs.Trees.{tree_typed}

-- a base relvar's name and heading
abbrev pub Target : Type 0
Target = Name × Heading

-- E20 at a view or a log
abbrev pub base_heading : Place → PlainRelvar → OrFault Heading
base_heading place (base value constraints) = Ok value.heading
base_heading place (view t kind) = refused place E20
base_heading place (log of side last value) = refused place E20

-- E10 at a name that is no relvar, view or log, E20 at that of a view or a log
abbrev pub target_typed : State → Word → OrFault Target
target_typed state w = do
  name ← name_typed w
  found ← value_or w.place E10 (relvar_named state.relvars name)
  heading ← base_heading w.place found
  Ok (name, heading)

-- the expression, then E13 at the target where it has another heading
abbrev pub rows_typed : State → Word → Heading → RelP → OrFault Tree
rows_typed state w heading rel = do
  t ← tree_typed state rel
  same ← check w.place E13 (same_heading (heading_of t) heading)
  Ok t

-- an item at the place of its first token
abbrev pub item_of : Place → Target → PlainItemForm → PlainItem
item_of place target form = record { place = place; target = target.0; heading = target.1; form = form }

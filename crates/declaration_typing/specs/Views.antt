-- The typing of VAR VIRTUAL.
--     view_declared state name expression      the view, or the first refusal
use Rattle.std.specs.Prelude.{nat_le, Ok}
use Rattle.point_core.specs.declared.fault.Place.{Place}
use Rattle.point_core.specs.declared.fault.Code.TheVariants.{E22}
use Rattle.point_core.specs.Faults.{OrFault}
use Rattle.utd_syntax.specs.Plain.{Word, RelP}
use Rattle.value_core.specs.Limits.{most_nodes}
use Rattle.scalar_typing.specs.Typings.{◌>>=◌}
use Rattle.tree_core.specs.Relvars.{State, derived}
use Rattle.tree_core.specs.Trees.{Tree}
use Rattle.meaning_core.specs.Declarations.{PlainDeclaration, view_relvar}
use Rattle.node_typing.specs.Positions.{check}
use Rattle.tree_typing.specs.Trees.{tree_typed}
use Rattle.declaration_typing.specs.Names.{new_name, room_for}
use Rattle.declaration_typing.specs.Nodes.{nodes_of}

-- E22 there above the most nodes, and where there are the most relvars and views
abbrev pub room_for_view : State → Place → Tree → OrFault (Unit {0})
room_for_view s place t = do
  few ← check place E22 (nat_le (nodes_of s.relvars t) most_nodes)
  room_for s place

-- E11 at the name, the expression, and E22 at the name
unfoldable pub view_declared : State → Word → RelP → OrFault PlainDeclaration
view_declared s w rel = do
  name ← new_name s w
  t ← tree_typed s rel
  room ← room_for_view s w.place t
  Ok (view_relvar name t derived)

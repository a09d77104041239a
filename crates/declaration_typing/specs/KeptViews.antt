-- The typing of VAR KEPT.
--     bases_named state kept      each operand is a base relvar, or the first refusal
--     kept_declared state name kept      the name and the expression of the kept view, or the first refusal
use Rattle.std.specs.Prelude.{Ok}
use Rattle.point_core.specs.Faults.{OrFault}
use Rattle.utd_syntax.specs.Plain as syntax
use Rattle.utd_syntax.specs.Plain.{Word, KeptP}
use Rattle.value_core.specs.Values.{Name, Heading}
use Rattle.scalar_typing.specs.Typings.{◌>>=◌}
use Rattle.relation_typing.specs.Attributes.{name_typed}
use Rattle.tree_core.specs.Relvars.{State, relvar_named}
use Rattle.tree_core.specs.Trees.{Tree}
use Rattle.tree_typing.specs.Kept.{kept_rel}
use Rattle.tree_typing.specs.Trees.{tree_typed}
use Rattle.declaration_typing.specs.Constraints.{base_heading}
use Rattle.declaration_typing.specs.Names.{new_name}
use Rattle.declaration_typing.specs.Views.{room_for_view}

-- E10 at a name that is none, E20 at that of a view or a log
abbrev pub base_named : State → Word → OrFault Heading
base_named s w = do
  name ← name_typed w
  base_heading w.place (relvar_named s.relvars name)

abbrev pub both_named : State → Word → Word → OrFault Heading
both_named s l r = do
  left ← base_named s l
  base_named s r

-- the operands, left to right
abbrev pub bases_named : State → KeptP → OrFault Heading
bases_named s (syntax.KeptInfix place list l at word r) = both_named s l r
bases_named s (syntax.KeptNotMatching place list l at r) = both_named s l r
bases_named s (syntax.KeptProject place list w p) = base_named s w
bases_named s (syntax.KeptPack place w list) = base_named s w

-- E11 at the name, the operands, the expression, and E22 at the name
unfoldable pub kept_declared : State → Word → KeptP → OrFault (Name × Tree)
kept_declared s w kept = do
  name ← new_name s w
  bases ← bases_named s kept
  t ← tree_typed s (kept_rel kept)
  room ← room_for_view s w.place t
  Ok (name, t)

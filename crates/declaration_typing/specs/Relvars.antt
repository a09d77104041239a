-- The typing of VAR RELATION.
--     relvar_declared state name heading constraints      the base relvar, or the first refusal
use Rattle.std.specs.Prelude.{List, [], Ok}
use Rattle.point_core.specs.Faults.{OrFault}
use Rattle.utd_syntax.specs.Plain.{Word, HeadingP, ConstraintP}
use Rattle.scalar_typing.specs.Typings.{◌>>=◌}
use Rattle.relation_typing.specs.Headings.{heading_typed}
use Rattle.tree_core.specs.Relvars.{State}
use Rattle.meaning_core.specs.Declarations.{PlainDeclaration, base_relvar}
use Rattle.declaration_typing.specs.Constraints.{constraints_typed, few_constraints}
use Rattle.declaration_typing.specs.Names.{new_name, room_for}

-- E11 at the name, the heading, each constraint, E22 at the first of them behind the most, and E22 at the name
-- where there are the most relvars and views
unfoldable pub relvar_declared : State → Word → HeadingP → List ConstraintP → OrFault PlainDeclaration
relvar_declared s w h constraints = do
  name ← new_name s w
  heading ← heading_typed s.ordinals h
  typed ← constraints_typed s name heading [] constraints
  few ← few_constraints constraints
  room ← room_for s w.place
  Ok (base_relvar name heading typed)

-- The names of ordinal types, relvars, views, logs and database constraints, which are one set.
--     new_name      a name that nothing has
--     room_for      whether there is room for one relvar, view or log more
use Rattle.std.specs.Prelude.{Bool, not, ◌||◌, length, nat_lt, is_some, Ok}
use Rattle.std.specs.List.{list_any}
use Rattle.std.specs.Str.{bytes_eq}
use Rattle.point_core.specs.declared.fault.Place.{Place}
use Rattle.point_core.specs.declared.fault.Code.TheVariants.{E11, E22}
use Rattle.point_core.specs.Faults.{OrFault}
use Rattle.utd_syntax.specs.Plain.{Word}
use Rattle.value_core.specs.Limits.{most_relvars}
use Rattle.value_core.specs.Values.{Name}
use Rattle.scalar_typing.specs.Typings.{◌>>=◌}
use Rattle.relation_typing.specs.Attributes.{name_typed}
use Rattle.tree_core.specs.Relvars.{State, relvar_named}
use Rattle.node_typing.specs.Positions.{check}

-- whether a database constraint has the name
abbrev pub is_rule : State → Name → Bool
is_rule s name = list_any (λ r. bytes_eq name r.0) s.rules

-- whether an ordinal type, a relvar, a view, a log or a database constraint has the name
abbrev pub is_taken : State → Name → Bool
is_taken s name = list_any (λ o. bytes_eq name o.name) s.ordinals || is_some (relvar_named s.relvars name) || is_rule s name

-- E11 at a name that is taken
abbrev pub new_name : State → Word → OrFault Name
new_name s w = do
  name ← name_typed w
  free ← check w.place E11 (not (is_taken s name))
  Ok name

-- E22 there where there are the most relvars, views and logs
abbrev pub room_for : State → Place → OrFault (Unit {0})
room_for s place = check place E22 (nat_lt (length s.relvars) most_relvars)

-- The typing of LOG, and the names that stand for logs and for views over them.
--     log_declared state log source attribute      what it declares, or the first refusal
--     names_over entries      the names of the logs, and of the views that name one, themselves or through views
use Rattle.std.specs.Prelude.{Bool, true, false, ◌-◌, List, [], ◌∷◌, ◌++◌, length, nat_le, Ok, if◌then◌else◌}
use Rattle.point_core.specs.declared.fault.Place.{Place}
use Rattle.point_core.specs.declared.fault.Code.TheVariants.{E17}
use Rattle.point_core.specs.Faults.{OrFault}
use Rattle.utd_syntax.specs.Plain.{Word}
use Rattle.value_core.specs.Limits.{most_attributes}
use Rattle.value_core.specs.Values.{Name, Heading}
use Rattle.scalar_typing.specs.Typings.{◌>>=◌}
use Rattle.relation_typing.specs.Attributes as attributes
use Rattle.relation_typing.specs.Attributes.{name_typed}
use Rattle.tree_core.specs.declared.declaration.LogData.{LogData}
use Rattle.tree_core.specs.Relvars.{State, PlainRelvar, base, view, log, Entries, relvar_named}
use Rattle.tree_core.specs.Uses.{is_one_of, names_any}
use Rattle.node_typing.specs.Positions.{check}
use Rattle.declaration_typing.specs.Constraints.{base_heading}
use Rattle.declaration_typing.specs.Names.{new_name, room_for}

-- ---- what LOG declares

-- E17 there where the relvar leaves no room for an attribute more, and E22 where there are the most relvars, views and logs
abbrev pub room_for_log : State → Heading → Place → OrFault (Unit {0})
room_for_log s heading place = do
  room ← check place E17 (nat_le (length heading) (most_attributes - 1))
  room_for s place

-- E11 at the log's name, E10 and E20 at the relvar's, E15 at the attribute's that the relvar has, and E17 and E22 at the log's
unfoldable pub log_declared : State → Word → Word → Word → OrFault LogData
log_declared s l r t = do
  name ← new_name s l
  of ← name_typed r
  heading ← base_heading r.place (relvar_named s.relvars of)
  attribute ← attributes.new_name heading t
  room ← room_for_log s heading l.place
  Ok (record { name = name; of = of; attribute = attribute })

-- ---- what turns on a log

-- whether the relvar is a log, or a view that names one of these
abbrev pub is_over : List Name → PlainRelvar → Bool
is_over names (base value constraints) = false
is_over names (view t kind) = names_any (is_one_of names) t
is_over names (log of side last value) = true

-- these names, and that of the relvar if it is one
abbrev pub with_over : List Name → Name → PlainRelvar → List Name
with_over names name r = if is_over names r then names ++ name ∷ [] else names

-- these names, and those from among the entries
abbrev pub names_behind : List Name → Entries → List Name
names_behind names [] = names
names_behind names (r ∷ rest) = names_behind (with_over names r.0 r.1) rest

abbrev pub names_over : Entries → List Name
names_over entries = names_behind [] entries

-- The typing of HISTORY.
--     history_declared state place view heading key since point during span over      what it declares, or the first refusal
use Rattle.std.specs.Prelude.{ℕ, ◌-◌, List, length, nat_le, not, ◌||◌, Ok}
use Rattle.std.specs.Str.{bytes_eq}
use Rattle.point_core.specs.declared.fault.Place.{Place}
use Rattle.point_core.specs.declared.fault.Code.TheVariants.{E11, E15, E17, E22}
use Rattle.point_core.specs.Faults.{OrFault}
use Rattle.utd_syntax.specs.Plain as syntax
use Rattle.utd_syntax.specs.Plain.{Word, PointP, NamesP, HeadingP, KeyP}
use Rattle.value_core.specs.declared.list.OrdinalNames.{OrdinalNames}
use Rattle.value_core.specs.Limits.{most_attributes, most_relvars}
use Rattle.value_core.specs.Values.{Name, Heading}
use Rattle.scalar_typing.specs.Names.{point_type}
use Rattle.scalar_typing.specs.Typings.{◌>>=◌}
use Rattle.relation_typing.specs.Attributes as attributes
use Rattle.relation_typing.specs.Headings.{heading_typed}
use Rattle.tree_core.specs.declared.declaration.HistoryData.{HistoryData}
use Rattle.tree_core.specs.Relvars.{State}
use Rattle.node_typing.specs.Positions.{check}
use Rattle.declaration_typing.specs.Constraints.{names_typed}
use Rattle.declaration_typing.specs.Names.{new_name}

-- the names of the view, the since relvar and the during relvar: E11 at one that is taken, or that stands before it
abbrev pub relvars_named : State → Word → Word → Word → OrFault (Name × Name × Name)
relvars_named s v b d = do
  view ← new_name s v
  since ← new_name s b
  second ← check b.place E11 (not (bytes_eq view since))
  during ← new_name s d
  third ← check d.place E11 (not (bytes_eq view during || bytes_eq since during))
  Ok (view, since, during)

abbrev pub brace_of : HeadingP → Place
brace_of (syntax.Heading at attributes) = at

abbrev pub key_names : KeyP → NamesP
key_names (syntax.Key at names) = names

-- the heading of the facts, E17 at `{` where it leaves no room for two attributes more, and the K names
abbrev pub facts_typed : List OrdinalNames → HeadingP → KeyP → OrFault (Heading × List ℕ)
facts_typed types h key = do
  heading ← heading_typed types h
  room ← check (brace_of h) E17 (nat_le (length heading) (most_attributes - 2))
  positions ← names_typed heading (key_names key)
  Ok (heading, positions)

-- the attributes of the points and of the intervals: E15 at one that the facts have, and at the second where it is the first
abbrev pub attributes_named : Heading → Word → Word → OrFault (Name × Name)
attributes_named heading p i = do
  point ← attributes.new_name heading p
  span ← attributes.new_name heading i
  apart ← check i.place E15 (not (bytes_eq point span))
  Ok (point, span)

-- E22 there where there is no room for three relvars and views more
abbrev pub room_for_three : State → Place → OrFault (Unit {0})
room_for_three s place = check place E22 (nat_le (length s.relvars) (most_relvars - 3))

-- the names, the facts, E10 at the point type, the attributes, and E22 at the view's name
unfoldable pub history_declared : State → Place → Word → HeadingP → KeyP → Word → Word → Word → Word → PointP → OrFault HistoryData
history_declared s place v h key b p d i t = do
  names ← relvars_named s v b d
  facts ← facts_typed s.ordinals h key
  over ← point_type s.ordinals t
  ends ← attributes_named facts.0 p i
  room ← room_for_three s v.place
  Ok (record {
    view = names.0;
    since = names.1;
    point = ends.0;
    during = names.2;
    span = ends.1;
    heading = facts.0;
    key = facts.1;
    over = over;
    place = place;
  })

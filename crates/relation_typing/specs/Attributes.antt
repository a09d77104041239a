-- Attributes and their names, in the order of the names' bytes.
use Rattle.std.specs.Prelude.{◌&&◌, Bool, length, nat_le, Ok, Option, Some, None, if◌then◌else◌}
use Rattle.std.specs.BTreeMap.{insert_entry}
use Rattle.point_core.specs.declared.fault.Place.{Place}
use Rattle.point_core.specs.declared.fault.Code.TheVariants.{E06, E15, E17}
use Rattle.point_core.specs.Faults.{OrFault}
use Rattle.utd_syntax.specs.Plain.{Word}
use Rattle.value_core.specs.declared.kind.Kind.{Kind}
use Rattle.value_core.specs.Headings.{has_name}
use Rattle.value_core.specs.Limits.{most_attributes, most_name_bytes}
use Rattle.value_core.specs.Values.{Name, Heading, name_cmp}
use Rattle.value_core.specs.Lengths.{is_utf8}
use Rattle.scalar_typing.specs.Typings.{◌>>=◌, refused}

-- the attributes with one more; one of that name is replaced
abbrev pub with_attribute : Heading → Name → Kind → Heading
with_attribute attributes name kind = insert_entry name_cmp attributes name kind

-- the name that is written; one that is empty, too long or not UTF-8 is E06, and the reading of a text lets none through
abbrev pub is_name : Name → Bool
is_name bytes = is_utf8 bytes && (nat_le 1 (length bytes) && nat_le (length bytes) most_name_bytes)

abbrev pub name_typed : Word → OrFault Name
name_typed w = if is_name w.bytes then Ok w.bytes else refused w.place E06

-- E15 at a name that an attribute has
abbrev pub new_name : Heading → Word → OrFault Name
new_name attributes w = do
  name ← name_typed w
  if has_name attributes name then refused w.place E15 else Ok name

-- the heading of the attributes; none where they are too many
abbrev pub heading_if_few : Heading → Option Heading
heading_if_few attributes = if nat_le (length attributes) most_attributes then Some attributes else None

-- E17 there above the most attributes
abbrev pub few_attributes : Place → Heading → OrFault Heading
few_attributes place attributes = if nat_le (length attributes) most_attributes then Ok attributes else refused place E17

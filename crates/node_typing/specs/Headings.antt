-- Headings that are made of attributes with different names.
use Rattle.std.specs.Prelude.{[], ◌∷◌, ◌++◌}
use Rattle.base_core.specs.Sets.{in_order}
use Rattle.value_core.specs.Values.{Heading, attribute_cmp}
use Rattle.relation_core.specs.Agreement.{names_of}
use Rattle.meaning_core.specs.Typing.{not_named}
use Rattle.relation_typing.specs.Attributes.{with_attribute}

-- the attributes in the order of their names
abbrev pub heading_of_list : Heading → Heading
heading_of_list list = in_order attribute_cmp list

-- the heading of made attributes, which take the place of old ones of their names, beside the other old ones
abbrev pub made_beside : Heading → Heading → Heading
made_beside made from = heading_of_list (made ++ not_named (names_of made) from)

-- the attributes with those of a list, one after the other; one of a name that is there takes its place
abbrev pub with_all : Heading → Heading → Heading
with_all before [] = before
with_all before (a ∷ rest) = with_all (with_attribute before a.0 a.1) rest

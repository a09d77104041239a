-- The headings of the operators between two relations.
--     infix_heading place word left right      the heading of the node, or its refusal
use Rattle.std.specs.Prelude.{Bool, not, ◌||◌, Ok}
use Rattle.std.specs.List.{list_all}
use Rattle.std.specs.Str.{bytes_eq}
use Rattle.point_core.specs.declared.fault.Place.{Place}
use Rattle.point_core.specs.declared.fault.Code.TheVariants.{E12, E13}
use Rattle.point_core.specs.Faults.{OrFault}
use Rattle.utd_syntax.specs.declared.words.InfixWord.{InfixWord as WrittenWord}
use Rattle.utd_syntax.specs.declared.words.InfixWord.TheVariants as written
use Rattle.value_core.specs.declared.kind.Kind.{Kind}
use Rattle.value_core.specs.Values.{Name, Heading}
use Rattle.scalar_core.specs.KindOf.{same_kind}
use Rattle.relation_core.specs.Joins.{joined_heading}
use Rattle.tree_core.specs.declared.tree.InfixWord.{InfixWord}
use Rattle.tree_core.specs.declared.tree.InfixWord.TheVariants.{Union, Intersect, Minus, Join, Matching, NotMatching}
use Rattle.scalar_typing.specs.Typings.{◌>>=◌}
use Rattle.relation_typing.specs.Attributes.{few_attributes}
use Rattle.relation_typing.specs.Headings.{same_heading}
use Rattle.node_typing.specs.Positions.{check}

-- the operator that a word of one token names
abbrev pub infix_named : WrittenWord → InfixWord
infix_named written.Union = Union
infix_named written.Intersect = Intersect
infix_named written.Minus = Minus
infix_named written.Join = Join
infix_named written.Matching = Matching

-- attributes of one name have one kind
abbrev pub agrees_with : Name × Kind → Name × Kind → Bool
agrees_with a b = not (bytes_eq a.0 b.0) || same_kind a.1 b.1

abbrev pub agrees_in : Heading → Name × Kind → Bool
agrees_in right a = list_all (agrees_with a) right

abbrev pub kinds_agree : Heading → Heading → Bool
kinds_agree left right = list_all (agrees_in right) left

-- E13 where the headings differ
abbrev pub one_heading : Place → Heading → Heading → OrFault Heading
one_heading place left right = do
  same ← check place E13 (same_heading left right)
  Ok left

-- E12 where a common attribute differs in kind
abbrev pub agreeing_heading : Place → Heading → Heading → OrFault Heading
agreeing_heading place left right = do
  agree ← check place E12 (kinds_agree left right)
  Ok left

-- and E17 above the most attributes
abbrev pub join_heading : Place → Heading → Heading → OrFault Heading
join_heading place left right = do
  agree ← check place E12 (kinds_agree left right)
  few_attributes place (joined_heading left right)

abbrev pub infix_heading : Place → InfixWord → Heading → Heading → OrFault Heading
infix_heading place Union left right = one_heading place left right
infix_heading place Intersect left right = one_heading place left right
infix_heading place Minus left right = one_heading place left right
infix_heading place Join left right = join_heading place left right
infix_heading place Matching left right = agreeing_heading place left right
infix_heading place NotMatching left right = agreeing_heading place left right

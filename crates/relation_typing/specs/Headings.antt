-- The typing of kinds and headings that are written.
use Rattle.std.specs.Prelude.{List, [], ◌∷◌, Bool, true, false, ◌&&◌, Ok}
use Rattle.std.specs.Str.{bytes_eq}
use Rattle.point_core.specs.Faults.{OrFault}
use Rattle.utd_syntax.specs.Plain as syntax
use Rattle.utd_syntax.specs.Plain.{KindP, BooleanKind, CharKind, PointKind, IntervalKind, AttributeP, HeadingP}
use Rattle.value_core.specs.declared.kind.Kind.{Kind}
use Rattle.value_core.specs.declared.kind.Kind.TheVariants.{Truth, Char, Point, Span}
use Rattle.value_core.specs.declared.list.OrdinalNames.{OrdinalNames}
use Rattle.value_core.specs.Values.{Name, Heading}
use Rattle.scalar_core.specs.KindOf.{same_kind}
use Rattle.scalar_typing.specs.Names.{point_type}
use Rattle.scalar_typing.specs.Typings.{◌>>=◌}
use Rattle.relation_typing.specs.Attributes.{with_attribute, new_name, few_attributes}

-- E10 at a point type that is no ordinal
abbrev pub kind_typed : List OrdinalNames → KindP → OrFault Kind
kind_typed types (BooleanKind at) = Ok Truth
kind_typed types (CharKind at) = Ok Char
kind_typed types (PointKind p) = do
  t ← point_type types p
  Ok (Point t)
kind_typed types (IntervalKind at p) = do
  t ← point_type types p
  Ok (Span t)

-- each attribute: E10 at the type, then E15 at a repeated name
abbrev pub attributes_typed : List OrdinalNames → Heading → List AttributeP → OrFault Heading
attributes_typed types before [] = Ok before
attributes_typed types before (syntax.Attribute w k ∷ rest) = do
  kind ← kind_typed types k
  name ← new_name before w
  attributes_typed types (with_attribute before name kind) rest

-- then E17 at `{`
abbrev pub heading_typed : List OrdinalNames → HeadingP → OrFault Heading
heading_typed types (syntax.Heading at attributes) = do
  all ← attributes_typed types [] attributes
  few_attributes at all

-- ---- headings that are one

abbrev pub same_attribute : Name × Kind → Name × Kind → Bool
same_attribute a b = bytes_eq a.0 b.0 && same_kind a.1 b.1

abbrev pub same_heading : Heading → Heading → Bool
same_heading [] [] = true
same_heading [] (b ∷ bs) = false
same_heading (a ∷ rest) [] = false
same_heading (a ∷ rest) (b ∷ bs) = same_attribute a b && same_heading rest bs

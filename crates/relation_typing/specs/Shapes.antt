-- The shape of a literal's tuples: the names of their items in the order of the text, each with its kind.
use Rattle.std.specs.Prelude.{◌≡◌, ◌≤◌, true, length, List, [], ◌∷◌, ◌++◌, Option, Some, None, Ok, if◌then◌else◌}
use Rattle.std.specs.Str.{bytes_eq}
use Rattle.utd_syntax.specs.Plain.{ElementP, Element}
use Rattle.value_core.specs.declared.kind.Kind.{Kind}
use Rattle.value_core.specs.declared.list.OrdinalNames.{OrdinalNames}
use Rattle.value_core.specs.Headings.{has_name}
use Rattle.value_core.specs.Limits.{most_attributes}
use Rattle.value_core.specs.Values.{Name, Heading}
use Rattle.scalar_core.specs.Expressions.{Expr}
use Rattle.scalar_typing.specs.Scalars.{typed_scalar}
use Rattle.tree_core.specs.Trees.{PlainSets}
use Rattle.relation_typing.specs.Attributes.{with_attribute, is_name}

-- the attributes that names with kinds make, behind those before; none where a name is none or is repeated
abbrev pub shape_made : Heading → List (Name × Kind) → Option Heading
shape_made before [] = Some before
shape_made before (a ∷ rest) = if is_name a.0 then (if has_name before a.0 then None else shape_made (with_attribute before a.0 a.1) rest) else None

-- a shape makes the heading; the one without names tells nothing
abbrev pub IsShape : Heading → List (Name × Kind) → Type 0
IsShape heading [] = Unit {0}
IsShape heading (a ∷ rest) = (shape_made [] (a ∷ rest) ≡ Some heading) × (length heading ≤ most_attributes)

-- an element with the attribute's name, over the heading of its kind, gives one item more
abbrev pub IsLike : List OrdinalNames → Heading → Name × Kind → ElementP → PlainSets → PlainSets → Type 0
IsLike types from a (Element w s) before now =
    (e : Expr) × (bytes_eq w.bytes a.0 ≡ true) × (typed_scalar types from s ≡ Ok (e, a.1)) × (now ≡ before ++ (a.0, e) ∷ [])

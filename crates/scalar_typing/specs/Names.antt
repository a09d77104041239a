-- What names stand for: attributes, point types, and values of ordinal types.
use Rattle.std.specs.Prelude.{◌≤◌, ℕ, ◌+◌, ◌-◌, pos, Bool, List, [], ◌∷◌, length, Option, Some, None, Ok, option_map, All, if◌then◌else◌}
use Rattle.std.specs.Str.{bytes_eq}
use Rattle.point_core.specs.declared.fault.Place.{Place}
use Rattle.point_core.specs.declared.fault.Code.TheVariants.{E10, E14}
use Rattle.point_core.specs.declared.any_type.AnyType.{AnyType}
use Rattle.point_core.specs.declared.any_type.AnyType.TheVariants.{Integer, Date, Ordinal, Moment}
use Rattle.point_core.specs.Faults.{OrFault}
use Rattle.utd_syntax.specs.declared.words.ExtremeWord.{ExtremeWord}
use Rattle.utd_syntax.specs.Plain.{Word, PointP, IntegerType, DateType, MomentType, NamedType}
use Rattle.value_core.specs.declared.kind.Kind.{Kind}
use Rattle.value_core.specs.declared.list.OrdinalNames.{OrdinalNames}
use Rattle.value_core.specs.Limits.{most_ordinal_types, most_ordinal_values}
use Rattle.value_core.specs.Values.{Name, Heading}
use Rattle.scalar_core.specs.Expressions.{attribute}
use Rattle.scalar_typing.specs.Typings.{Typed, ◌>>=◌, value_or}
use Rattle.scalar_typing.specs.Literals.{point_constant, extreme_constant}

-- the first that passes and its place, where the first of the list stands at place n
abbrev pub first_from : {X : Type 0} → (X → Bool) → ℕ → List X → Option (ℕ × X)
first_from p n [] = None
first_from p n (x ∷ xs) = if p x then Some (n, x) else first_from p (n + 1) xs

-- ---- attributes

-- the position of the attribute of the name, and its kind
abbrev pub attribute_of : Heading → Name → Option (ℕ × Kind)
attribute_of heading name = option_map (λ (found : ℕ × (Name × Kind)). (found.0, found.1.1)) (first_from (λ a. bytes_eq a.0 name) 0 heading)

-- E14 at a name that is no attribute
abbrev pub attribute_typed : Heading → Word → OrFault Typed
attribute_typed heading w = do
  found ← value_or w.place E14 (attribute_of heading w.bytes)
  Ok (attribute w.place found.0, found.1)

-- ---- ordinal types

-- few enough ordinal types and values for the numbers that a point type keeps of them
abbrev pub AreOrdinals : List OrdinalNames → Type 0
AreOrdinals types = (length types ≤ most_ordinal_types) × All (λ (o : OrdinalNames). length o.values ≤ most_ordinal_values) types

-- the ordinal type of the name and its place among the types, and the number of the value of the name
abbrev pub ordinal_of : List OrdinalNames → Name → Option (ℕ × OrdinalNames)
ordinal_of types name = first_from (λ (o : OrdinalNames). bytes_eq o.name name) 0 types

abbrev pub value_of : List Name → Name → Option ℕ
value_of values name = option_map (λ (found : ℕ × Name). found.0) (first_from (λ v. bytes_eq v name) 0 values)

-- the last value has the number of all of them less one
abbrev pub ordinal_type : ℕ × OrdinalNames → AnyType
ordinal_type found = Ordinal found.0 (length found.1.values - 1)

-- E10 at a point type that is no ordinal
abbrev pub point_type : List OrdinalNames → PointP → OrFault AnyType
point_type types (IntegerType at) = Ok Integer
point_type types (DateType at) = Ok Date
point_type types (MomentType at) = Ok Moment
point_type types (NamedType w) = do
  found ← value_or w.place E10 (ordinal_of types w.bytes)
  Ok (ordinal_type found)

-- `n.v`: E10 at n where it is no ordinal type, at v where it is no value of it. The constant stands at n
abbrev pub ordinal_value : List OrdinalNames → Word → Word → OrFault Typed
ordinal_value types n v = do
  found ← value_or n.place E10 (ordinal_of types n.bytes)
  number ← value_or v.place E10 (value_of found.1.values v.bytes)
  Ok (point_constant n.place (ordinal_type found) (pos number))

-- FIRST and LAST of a type
abbrev pub extreme_typed : List OrdinalNames → Place → ExtremeWord → PointP → OrFault Typed
extreme_typed types at w p = do
  t ← point_type types p
  Ok (extreme_constant at w t)

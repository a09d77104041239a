-- Which rows of the target change: the condition, the portion, and what is asked of a change that works point by point.
use Rattle.std.specs.Prelude.{ℕ, not, List, [], ◌∷◌, ◌++◌, length, map, nat_le, Ok, Option, Some, None}
use Rattle.point_core.specs.declared.fault.Code.TheVariants.{E12, E14, E15, E16, E17}
use Rattle.point_core.specs.Faults.{OrFault}
use Rattle.value_core.specs.Attributes.{among}
use Rattle.utd_syntax.specs.Plain.{SetItemP, ElementP, Element, SomeElementsP, SomeElements, MaybePortionP, NoPortion, OfPortion, ConditionP, NoCondition, Where}
use Rattle.value_core.specs.declared.list.OrdinalNames.{OrdinalNames}
use Rattle.value_core.specs.Limits.{most_listed}
use Rattle.value_core.specs.Values.{Name, Heading}
use Rattle.scalar_core.specs.Expressions.{Expr}
use Rattle.scalar_core.specs.KindOf.{same_kind}
use Rattle.scalar_typing.specs.Names.{attribute_of}
use Rattle.scalar_typing.specs.Scalars.{typed_scalar}
use Rattle.scalar_typing.specs.Typings.{◌>>=◌, value_or}
use Rattle.tree_core.specs.Items.{PlainPortion, PlainChange}
use Rattle.tree_core.specs.Trees.{PlainSets}
use Rattle.meaning_core.specs.Meanings.{positions_of}
use Rattle.meaning_core.specs.Typing.{is_span}
use Rattle.meaning_core.specs.Updates.{attributes_of_portion}
use Rattle.node_typing.specs.Positions.{check}
use Rattle.node_typing.specs.Rows.{condition_typed}
use Rattle.node_typing.specs.Sweeps.{none_assigned, swept, sets_swept}

abbrev pub change : Option (List ℕ) → Option PlainPortion → Option Expr → PlainChange
change commalist portion condition = record { commalist = commalist; portion = portion; condition = condition }

-- ---- conditions

abbrev pub condition_if : List OrdinalNames → Heading → ConditionP → OrFault (Option Expr)
condition_if types heading NoCondition = Ok None
condition_if types heading (Where at s) = do
  c ← condition_typed types at heading s
  Ok (Some c)

-- ---- portions

-- E14, E15 and E16 at the name, the scalar over no attributes, then E12 at the name where it is of another kind
abbrev pub part_typed : List OrdinalNames → Heading → PlainPortion → ElementP → OrFault PlainPortion
part_typed types heading before (Element w s) = do
  found ← value_or w.place E14 (attribute_of heading w.bytes)
  new ← check w.place E15 (not (among (attributes_of_portion before) found.0))
  span ← check w.place E16 (is_span found.1)
  e ← typed_scalar types [] s
  same ← check w.place E12 (same_kind e.1 found.1)
  Ok (before ++ (found.0, e.0) ∷ [])

abbrev pub parts_typed : List OrdinalNames → Heading → PlainPortion → List ElementP → OrFault PlainPortion
parts_typed types heading before [] = Ok before
parts_typed types heading before (part ∷ rest) = do
  next ← part_typed types heading before part
  parts_typed types heading next rest

-- then E17 at `{` above the most
abbrev pub portion_typed : List OrdinalNames → Heading → SomeElementsP → OrFault PlainPortion
portion_typed types heading (SomeElements at first more) = do
  parts ← parts_typed types heading [] (first ∷ more)
  few ← check at E17 (nat_le (length parts) most_listed)
  Ok parts

abbrev pub portion_if : List OrdinalNames → Heading → MaybePortionP → OrFault (Option PlainPortion)
portion_if types heading NoPortion = Ok None
portion_if types heading (OfPortion at elements) = do
  portion ← portion_typed types heading elements
  Ok (Some portion)

-- ---- changes that work point by point

-- the names of a portion's attributes
abbrev pub element_name : ElementP → Name
element_name (Element w s) = w.bytes

abbrev pub portion_names : SomeElementsP → List Name
portion_names (SomeElements at first more) = map element_name (first ∷ more)

abbrev pub names_if : MaybePortionP → Option (List Name)
names_if NoPortion = None
names_if (OfPortion at elements) = Some (portion_names elements)

-- E18 at the first name in the condition that is in no atom
abbrev pub condition_swept : List ℕ → Option Expr → OrFault (Unit {0})
condition_swept commalist None = Ok tt
condition_swept commalist (Some c) = swept commalist c

-- E19 at the first item that assigns one of the named attributes, then E18
abbrev pub points_swept : List Name → List ℕ → Option Expr → List SetItemP → PlainSets → OrFault (Unit {0})
points_swept names commalist c items sets = do
  none ← none_assigned names items
  condition ← condition_swept commalist c
  sets_swept commalist sets

-- asked where attributes are named by USING or a portion
abbrev pub works_at_points : Heading → Option (List Name) → Option Expr → List SetItemP → PlainSets → OrFault (Unit {0})
works_at_points heading None c items sets = Ok tt
works_at_points heading (Some names) c items sets = points_swept names (positions_of heading names) c items sets

-- The typing of the constraints that are written with a relvar.
--     constraint_typed state own heading constraint      over its own heading and that of the relvar it names
--     constraints_typed      in their order, or the first refusal
use Rattle.std.specs.Prelude.{ℕ, List, [], ◌∷◌, ◌++◌, Ok, Option, Some, None, slice_get, if◌then◌else◌}
use Rattle.std.specs.Str.{bytes_eq}
use Rattle.point_core.specs.declared.fault.Place.{Place}
use Rattle.point_core.specs.declared.fault.Code.TheVariants.{E10, E12, E19, E20, E22}
use Rattle.point_core.specs.Faults.{OrFault}
use Rattle.value_core.specs.Attributes.{among}
use Rattle.utd_syntax.specs.Plain as syntax
use Rattle.utd_syntax.specs.Plain.{Word, NamesP, NameListP, KeyP, ForeignP, UsedConstraintP, ConstraintP}
use Rattle.value_core.specs.declared.constraint.Constraint.{Constraint}
use Rattle.value_core.specs.declared.constraint.Constraint.TheVariants.{Key, Packed, WhenUnpacked, UKey, Foreign}
use Rattle.value_core.specs.Limits.{most_constraints}
use Rattle.value_core.specs.Values.{Name, Heading}
use Rattle.scalar_core.specs.KindOf.{same_kind}
use Rattle.scalar_typing.specs.Typings.{◌>>=◌, refused}
use Rattle.relation_typing.specs.Attributes.{name_typed}
use Rattle.tree_core.specs.Relvars.{State, PlainRelvar, base, view, relvar_named, log}
use Rattle.meaning_core.specs.Meanings.{positions_of}
use Rattle.relation_core.specs.Agreement.{position_of}
use Rattle.node_typing.specs.Positions.{check, position_typed, positions_typed}
use Rattle.node_typing.specs.Lists.{kind_named, list_checked, words_of}

-- the K names: E14 at one that is no attribute, E15 at one that stood before
abbrev pub names_typed : Heading → NamesP → OrFault (List ℕ)
names_typed heading (syntax.Names at words) = positions_typed heading [] words

abbrev pub key_words : NamesP → List Word
key_words (syntax.Names at words) = words

-- ---- foreign keys

-- the heading of the base relvar: E10 where there is none of the name, E20 where it is a view or a log
abbrev pub base_heading : Place → Option PlainRelvar → OrFault Heading
base_heading at None = refused at E10
base_heading at (Some (base value constraints)) = Ok value.heading
base_heading at (Some (view t kind)) = refused at E20
base_heading at (Some (log of side last value)) = refused at E20

-- the referenced relvar is a base relvar, or the relvar that is declared
abbrev pub heading_there : State → Name → Heading → Place → Name → OrFault Heading
heading_there s own heading at name = if bytes_eq own name then Ok heading else base_heading at (relvar_named s.relvars name)

-- a K name over the referenced heading: E14 where this lacks it, E12 where it is of another kind there
abbrev pub position_there : Heading → Heading → Word → OrFault ℕ
position_there heading there w = do
  at ← position_typed there w
  alike ← check w.place E12 (same_kind (kind_named heading w.bytes) (kind_named there w.bytes))
  Ok at

-- the positions behind those so far
abbrev pub positions_there : Heading → Heading → List ℕ → List Word → OrFault (List ℕ)
positions_there heading there before [] = Ok before
positions_there heading there before (w ∷ rest) = do
  at ← position_there heading there w
  positions_there heading there (before ++ at ∷ []) rest

-- the foreign key of these positions: E10 and E20 at the referenced name, and then the K names over the referenced heading
abbrev pub reference_typed : State → Name → Heading → List ℕ → List ℕ → NamesP → Word → OrFault Constraint
reference_typed s own heading commalist key names w = do
  name ← name_typed w
  there ← heading_there s own heading w.place name
  positions ← positions_there heading there [] (key_words names)
  Ok (Foreign commalist key name positions)

abbrev pub foreign_typed : State → Name → Heading → ForeignP → OrFault Constraint
foreign_typed s own heading (syntax.Foreign at names w) = do
  key ← names_typed heading names
  reference_typed s own heading [] key names w

-- ---- constraints

abbrev pub key_typed : Heading → KeyP → OrFault Constraint
key_typed heading (syntax.Key at names) = do
  key ← names_typed heading names
  Ok (Key key)

-- ---- constraints over what is unpacked

-- the listed interval attributes
abbrev pub list_typed : Heading → NameListP → OrFault (List ℕ)
list_typed heading list = do
  names ← list_checked heading heading list
  Ok (positions_of heading names)

-- E19 at the first listed name that is not of K
abbrev pub kept_by : Heading → List ℕ → List Word → OrFault (Unit {0})
kept_by heading key [] = Ok tt
kept_by heading key (w ∷ rest) = do
  kept ← check w.place E19 (among key (position_of heading w.bytes))
  kept_by heading key rest

-- the list and K, which has all that is listed
abbrev pub listed_key : Heading → NameListP → NamesP → OrFault (List ℕ × List ℕ)
listed_key heading list names = do
  commalist ← list_typed heading list
  key ← names_typed heading names
  kept ← kept_by heading key (words_of list)
  Ok (commalist, key)

abbrev pub packed_typed : Heading → NameListP → OrFault Constraint
packed_typed heading list = do
  commalist ← list_typed heading list
  Ok (Packed commalist)

abbrev pub unpacked_typed : Heading → NameListP → KeyP → OrFault Constraint
unpacked_typed heading list (syntax.Key at names) = do
  both ← listed_key heading list names
  Ok (WhenUnpacked both.0 both.1)

abbrev pub used_key_typed : Heading → NameListP → KeyP → OrFault Constraint
used_key_typed heading list (syntax.Key at names) = do
  both ← listed_key heading list names
  Ok (UKey both.0 both.1)

abbrev pub used_foreign_typed : State → Name → Heading → NameListP → ForeignP → OrFault Constraint
used_foreign_typed s own heading list (syntax.Foreign at names w) = do
  both ← listed_key heading list names
  reference_typed s own heading both.0 both.1 names w

abbrev pub used_typed : State → Name → Heading → NameListP → UsedConstraintP → OrFault Constraint
used_typed s own heading list (syntax.UsedKey key) = used_key_typed heading list key
used_typed s own heading list (syntax.UsedForeign key) = used_foreign_typed s own heading list key

-- ---- all constraints

abbrev pub constraint_typed : State → Name → Heading → ConstraintP → OrFault Constraint
constraint_typed s own heading (syntax.KeyOf key) = key_typed heading key
constraint_typed s own heading (syntax.ForeignOf key) = foreign_typed s own heading key
constraint_typed s own heading (syntax.PackedOn at list) = packed_typed heading list
constraint_typed s own heading (syntax.WhenUnpacked at list key) = unpacked_typed heading list key
constraint_typed s own heading (syntax.UsingConstraint at list c) = used_typed s own heading list c

-- the constraints behind those so far
abbrev pub constraints_typed : State → Name → Heading → List Constraint → List ConstraintP → OrFault (List Constraint)
constraints_typed s own heading before [] = Ok before
constraints_typed s own heading before (c ∷ rest) = do
  next ← constraint_typed s own heading c
  constraints_typed s own heading (before ++ next ∷ []) rest

-- where a constraint begins
abbrev pub place_of : ConstraintP → Place
place_of (syntax.KeyOf (syntax.Key at names)) = at
place_of (syntax.ForeignOf (syntax.Foreign at names w)) = at
place_of (syntax.PackedOn at list) = at
place_of (syntax.WhenUnpacked at list key) = at
place_of (syntax.UsingConstraint at list c) = at

-- E22 at the first behind the most
abbrev pub refused_at : Option ConstraintP → OrFault (Unit {0})
refused_at None = Ok tt
refused_at (Some c) = refused (place_of c) E22

abbrev pub few_constraints : List ConstraintP → OrFault (Unit {0})
few_constraints constraints = refused_at (slice_get constraints most_constraints)

-- The check of a list of interval attributes that PACK, UNPACK and USING name, over the headings of the operands. Where there
-- is one operand, its heading stands for both.
--     list_checked left right list      the names, or the first refusal
use Rattle.std.specs.Prelude.{Bool, not, ◌&&◌, List, [], ◌∷◌, ◌++◌, map, length, nat_le, Ok}
use Rattle.std.specs.List.{list_any}
use Rattle.std.specs.Str.{bytes_eq}
use Rattle.point_core.specs.declared.fault.Code.TheVariants.{E12, E14, E15, E16, E17}
use Rattle.point_core.specs.Faults.{OrFault}
use Rattle.utd_syntax.specs.Plain.{Word, NameListP, NameList}
use Rattle.value_core.specs.Headings.{has_name}
use Rattle.value_core.specs.Limits.{most_listed}
use Rattle.value_core.specs.declared.kind.Kind.{Kind}
use Rattle.value_core.specs.Values.{Name, Heading}
use Rattle.scalar_core.specs.KindOf.{same_kind}
use Rattle.relation_core.specs.Agreement.{position_of}
use Rattle.relation_core.specs.Parts.{kind_at}
use Rattle.scalar_typing.specs.Typings.{◌>>=◌}
use Rattle.meaning_core.specs.Typing.{is_span}
use Rattle.node_typing.specs.Positions.{check}

-- the words and their names
abbrev pub words_of : NameListP → List Word
words_of (NameList at words) = words

abbrev pub names_of_words : List Word → List Name
names_of_words words = map (λ (w : Word). w.bytes) words

-- the names of a list
abbrev pub listed_names : NameListP → List Name
listed_names list = names_of_words (words_of list)

abbrev pub named_in : List Name → Name → Bool
named_in names name = list_any (bytes_eq name) names

-- the kind of the attribute of the name
abbrev pub kind_named : Heading → Name → Kind
kind_named heading name = kind_at heading (position_of heading name)

-- E14 where a heading lacks the name; E15 where it stood before; E16 where it is no interval in the first heading; E12 where it
-- is of another kind in the other
abbrev pub name_checked : Heading → Heading → List Name → Word → OrFault (Unit {0})
name_checked left right before w = do
  known ← check w.place E14 (has_name left w.bytes && has_name right w.bytes)
  new ← check w.place E15 (not (named_in before w.bytes))
  span ← check w.place E16 (is_span (kind_named left w.bytes))
  check w.place E12 (same_kind (kind_named left w.bytes) (kind_named right w.bytes))

-- the names behind those so far
abbrev pub names_checked : Heading → Heading → List Name → List Word → OrFault (List Name)
names_checked left right before [] = Ok before
names_checked left right before (w ∷ rest) = do
  checked ← name_checked left right before w
  names_checked left right (before ++ w.bytes ∷ []) rest

-- then E17 at `(` above the most
abbrev pub list_checked : Heading → Heading → NameListP → OrFault (List Name)
list_checked left right (NameList at words) = do
  names ← names_checked left right [] words
  few ← check at E17 (nat_le (length names) most_listed)
  Ok names

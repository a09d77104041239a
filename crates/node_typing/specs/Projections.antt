-- What projections keep, and the names that a RENAME gives.
--     projection_kept p heading      the positions that are kept
--     renaming_names r heading      the names of the attributes behind a RENAME, in the order of the old ones
use Rattle.std.specs.Prelude.{ℕ, ◌+◌, Bool, true, false, List, [], ◌∷◌, ◌++◌, map, filter, length, nat_eq, nat_le, Ok, if◌then◌else◌}
use Rattle.std.specs.Str.{bytes_eq}
use Rattle.point_core.specs.declared.fault.Place.{Place}
use Rattle.point_core.specs.declared.fault.Code.TheVariants.{E15}
use Rattle.point_core.specs.Faults.{OrFault}
use Rattle.utd_syntax.specs.Plain as syntax
use Rattle.utd_syntax.specs.Plain.{Word, ProjectionP, Onto, AllBut, RenamingP, Renaming, RenamingsP}
use Rattle.value_core.specs.Values.{Name, Heading}
use Rattle.scalar_typing.specs.Typings.{◌>>=◌}
use Rattle.relation_typing.specs.Attributes.{name_typed}
use Rattle.node_typing.specs.Positions.{check, new_position, positions_typed, kept}

-- ---- projections

-- the place of the `{`, the names, and whether they are kept
abbrev pub projection_place : ProjectionP → Place
projection_place (Onto at words) = at
projection_place (AllBut at first more) = at

abbrev pub projection_words : ProjectionP → List Word
projection_words (Onto at words) = words
projection_words (AllBut at first more) = first ∷ more

abbrev pub keeps_named : ProjectionP → Bool
keeps_named (Onto at words) = true
keeps_named (AllBut at first more) = false

-- each name E14, then E15
abbrev pub projection_kept : ProjectionP → Heading → OrFault (List ℕ)
projection_kept p heading = do
  named ← positions_typed heading [] (projection_words p)
  Ok (kept (keeps_named p) named heading)

-- ---- renamings

-- the attributes that are renamed, by position, each with its new name
abbrev pub NewNames : Type 0
NewNames = List (ℕ × Name)

abbrev pub renamed_positions : NewNames → List ℕ
renamed_positions pairs = map (λ (p : ℕ × Name). p.0) pairs

-- E14 at the old name, E15 at it where it was renamed before
abbrev pub renaming_typed : Heading → NewNames → RenamingP → OrFault NewNames
renaming_typed heading before (Renaming old new) = do
  at ← new_position heading (renamed_positions before) old
  name ← name_typed new
  Ok (before ++ (at, name) ∷ [])

abbrev pub renamings_typed : Heading → NewNames → List RenamingP → OrFault NewNames
renamings_typed heading before [] = Ok before
renamings_typed heading before (r ∷ rest) = do
  next ← renaming_typed heading before r
  renamings_typed heading next rest

-- the name behind all renamings of the attribute at the position
abbrev pub name_behind : NewNames → ℕ → Name → Name
name_behind [] i name = name
name_behind (p ∷ pairs) i name = if nat_eq p.0 i then p.1 else name_behind pairs i name

abbrev pub names_from : NewNames → ℕ → Heading → List Name
names_from pairs n [] = []
names_from pairs n (a ∷ rest) = name_behind pairs n a.0 ∷ names_from pairs (n + 1) rest

-- the name stands once among the names
abbrev pub stands_once : List Name → Name → Bool
stands_once names name = nat_le (length (filter (bytes_eq name) names)) 1

-- E15 at the first new name that stands more than once
abbrev pub new_names_once : List Name → List RenamingP → OrFault (List Name)
new_names_once names [] = Ok names
new_names_once names (Renaming old new ∷ rest) = do
  once ← check new.place E15 (stands_once names new.bytes)
  new_names_once names rest

abbrev pub renaming_list : RenamingsP → List RenamingP
renaming_list (syntax.Renamings at first more) = first ∷ more

abbrev pub renaming_names : RenamingsP → Heading → OrFault (List Name)
renaming_names r heading = do
  pairs ← renamings_typed heading [] (renaming_list r)
  new_names_once (names_from pairs 0 heading) (renaming_list r)

-- What can be written in a script: names that are words, and rows of values.
--     IsSayableName      a word that is not reserved, and no longer than a name may be
--     IsSayableType      an ordinal type whose names can be written
--     AreSayable types name heading      a relvar of this name and heading can be written, where these are the ordinal types
--     FitsRow heading row      the row fits the heading
use Rattle.std.specs.Prelude.{◌≡◌, true, map, List, IsTrue}
use Rattle.std.specs.List.{All, IsDistinct}
use Rattle.std.specs.Str.{bytes_eq}
use Rattle.value_core.specs.declared.kind.Kind.{Kind}
use Rattle.value_core.specs.declared.list.OrdinalNames.{OrdinalNames}
use Rattle.value_core.specs.Lengths.{IsNameLength}
use Rattle.value_core.specs.Values.{Name, Heading, Row, fits_heading}
use Rattle.meaning_core.specs.Typing.{is_declared}
use Rattle.meaning_core.specs.WellMade.{sizes_of, IsOrdinalType}
use Rattle.text_laws.specs.Sayable.{is_sayable}

abbrev pub IsSayableName : Name → Type 0
IsSayableName name = (is_sayable name ≡ true) × IsNameLength name

-- an ordinal type whose name and whose values' names can be written
pub record IsSayableType (o : OrdinalNames) : Type 0 where
  pub named : IsSayableName o.name
  pub values : All IsSayableName o.values
  pub ordinal : IsOrdinalType o

-- the types' names differ, and the heading is of kinds that there are
pub record AreSayable (types : List OrdinalNames) (name : Name) (heading : Heading) : Type 0 where
  pub named : IsSayableName name
  pub attributes : All (λ (a : Name × Kind). IsSayableName a.0) heading
  pub ordinals : All IsSayableType types
  pub different : IsDistinct bytes_eq (map (λ (o : OrdinalNames). o.name) types)
  pub declared : IsTrue (is_declared (sizes_of types) heading)

abbrev pub FitsRow : Heading → Row → Type 0
FitsRow heading row = IsTrue (fits_heading heading row)

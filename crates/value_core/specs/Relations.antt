-- Relations made from rows.
--     relation_of      the relation of a heading with a list's rows
--     IsRelationOf      the relation that a list of rows gives
--     IsRowsRefusal, IsRelationRefusal      why there is none
use Rattle.std.specs.Prelude.{◌≡◌, ◌<◌, ◌≤◌, Bool, false, List, length, IsTrue}
use Rattle.std.specs.List.{list_all}
use Rattle.value_core.specs.Values.{Row, Heading, Relation, rows_of, fits_heading, most_rows}
use Rattle.value_core.specs.declared.refuse.RowsRefuse.{RowsRefuse}
use Rattle.value_core.specs.declared.refuse.RowsRefuse.TheVariants.{TooMany, Memory}
use Rattle.value_core.specs.declared.refuse.RelationRefuse.{RelationRefuse}
use Rattle.value_core.specs.declared.refuse.RelationRefuse.TheVariants.{Misfit, TooMany as TooManyFit, Memory as NoMemory}

-- whether each row fits the heading
abbrev pub all_fit : Heading → List Row → Bool
all_fit heading rows = list_all (fits_heading heading) rows

-- the relation with the rows of the list
abbrev pub relation_of : Heading → List Row → Relation
relation_of heading rows = record { heading = heading; rows = rows_of rows }

-- the relation has the rows of the list, which fit its heading and are not too many
pub record IsRelationOf (heading : Heading) (rows : List Row) (relation : Relation) : Type 0 where
  pub fitting : IsTrue (all_fit heading rows)
  pub few : length (rows_of rows) ≤ most_rows
  pub is : relation ≡ relation_of heading rows

-- why rows that fit are refused
abbrev pub IsRowsRefusal : List Row → RowsRefuse → Type 0
IsRowsRefusal rows TooMany = most_rows < length (rows_of rows)
IsRowsRefusal rows Memory = Unit {0}

-- why a list of rows is refused
abbrev pub IsRelationRefusal : Heading → List Row → RelationRefuse → Type 0
IsRelationRefusal heading rows Misfit = all_fit heading rows ≡ false
IsRelationRefusal heading rows TooManyFit = IsTrue (all_fit heading rows) × (most_rows < length (rows_of rows))
IsRelationRefusal heading rows NoMemory = Unit {0}

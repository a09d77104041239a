-- How the rows of a tree come to a relvar of the database.
--     arriving_of      the way in which the database takes them
use Rattle.std.specs.Prelude.{None, Some}
use Rattle.assign_core.specs.NewRows.{Arriving, replacing, joining}
use Rattle.constant_laws.specs.Insertions.{Bringing, Setting, Adding, AddingUnder}

abbrev pub arriving_of : Bringing → Arriving
arriving_of Setting = replacing
arriving_of Adding = joining None
arriving_of (AddingUnder commalist) = joining (Some commalist)

-- The places of stored rows where entries are dropped.
--     rows_without      the places of the entries that stay
use Rattle.std.specs.Prelude.{List, [], ◌∷◌, Option, if◌then◌else◌}
use Rattle.value_core.specs.Values.{Name, Relation}
use Rattle.tree_core.specs.Relvars.{Entries}
use Rattle.tree_core.specs.Uses.{is_one_of}

-- the places without those of the entries with these names
abbrev pub rows_without : List Name → Entries → List (Option Relation) → List (Option Relation)
rows_without names [] rows = rows
rows_without names (r ∷ rest) [] = []
rows_without names (r ∷ rest) (o ∷ rows) = if is_one_of names r.0 then rows_without names rest rows else o ∷ rows_without names rest rows

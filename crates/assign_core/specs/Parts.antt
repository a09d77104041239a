-- What is appended to the relvars of a database.
use Rattle.std.specs.Prelude.{◌≡◌, List, length, map, take}
use Rattle.value_core.specs.Values.{Name}
use Rattle.tree_core.specs.Relvars.{Entries}
use Rattle.tree_core.specs.declared.relvar.Relvars.{Relvars}

-- the names of relvars and views
abbrev pub names_in : Entries → List Name
names_in entries = map (λ r. r.0) entries

-- the later relvars and types begin with the earlier ones, and the database constraints and the count of accepted statements are the same
abbrev pub Begins : Relvars → Relvars → Type 0
Begins earlier later =
    (take (length earlier.list.entries) later.list.entries ≡ earlier.list.entries)
    × (take (length earlier.ordinals) later.ordinals ≡ earlier.ordinals)
    × (later.rules ≡ earlier.rules)
    × (later.accepted ≡ earlier.accepted)

-- Relvars that already have another value within a statement.
--     renewing      the name, where a new value stands ready for it
--     AreRenewed      the names for which one does
--     targets_of      the targets of assignments, the last one first
use Rattle.std.specs.Prelude.{◌≡◌, List, [], ◌∷◌, Option, option_map, is_some}
use Rattle.value_core.specs.Values.{Name}
use Rattle.tree_core.specs.Items.{PlainAssignment}
use Rattle.tree_core.specs.Relvars.{Entries}
use Rattle.tree_core.specs.Uses.{is_one_of}
use Rattle.relvar_logs.specs.Changes.{Changes, change_named}

-- the name, where a new value stands ready for its relvar
abbrev pub renewing : Changes → Entries → Name → Option Name
renewing cs entries name = option_map (λ value. name) (change_named cs entries name)

-- new values stand ready for the relvars of these names, and for no others
abbrev pub AreRenewed : List Name → Changes → Entries → Type 0
AreRenewed done cs entries = (name : Name) → is_some (change_named cs entries name) ≡ is_one_of done name

-- the targets of assignments in front of some names, the last one first
abbrev pub targets_of : List Name → List PlainAssignment → List Name
targets_of done [] = done
targets_of done (a ∷ rest) = targets_of (a.target ∷ done) rest

-- What items stand for.
--     assignments_of      the assignments of items, in their order
use Rattle.std.specs.Prelude.{List, flat_map}
use Rattle.tree_core.specs.Items.{PlainItem, PlainAssignment}
use Rattle.tree_core.specs.Relvars.{Entries}
use Rattle.update_core.specs.Endings.{meant_by}

-- the assignments that items stand for where these are the relvars and views, in the order of the items
abbrev pub assignments_of : Entries → List PlainItem → List PlainAssignment
assignments_of entries items = flat_map (meant_by entries) items

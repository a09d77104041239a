use Rattle.std.proofs.Common.{◌≡◌, ◌+◌, drop}
use Rattle.tree_core.specs.Trees.{read_sets}
use Rattle.meaning_core.specs.Places.{place_among}
use Rattle.meaning_core.specs.Rows.{set_names}
use Rattle.row_making.proofs.items.place_made.Given as goal

abbrev pub invariant-loop-at : goal.invariant-loop-at
invariant-loop-at l = place_among (set_names (read_sets l.sets)) l.name ≡ l.at + place_among (set_names (read_sets (drop l.at l.sets))) l.name

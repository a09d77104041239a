use Rattle.std.proofs.Common.{◌≡◌, map, take}
use Rattle.value_core.specs.Headings.{position_of}
use Rattle.kept_views.specs.Kept.{names_at, unlisted_names}
use Rattle.kept_views.proofs.keys.unlisted_places.Given as goal

abbrev pub invariant-loop-i : goal.invariant-loop-i
invariant-loop-i l = l.places.items ≡ map (position_of l.to) (unlisted_names (names_at l.list l.listed) (names_at l.list (take l.i-index l.positions)))

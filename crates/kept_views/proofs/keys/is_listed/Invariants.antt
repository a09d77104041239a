use Rattle.std.proofs.Common.{◌≡◌, false, take}
use Rattle.std.specs.List.{list_any}
use Rattle.std.specs.Str.{bytes_eq}
use Rattle.kept_views.specs.Kept.{names_at}
use Rattle.kept_views.proofs.keys.is_listed.Given as goal

abbrev pub invariant-loop-i : goal.invariant-loop-i
invariant-loop-i l = list_any (bytes_eq l.name) (names_at l.list (take l.i-index l.positions)) ≡ false

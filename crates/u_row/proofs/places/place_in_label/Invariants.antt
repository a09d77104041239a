use Rattle.std.proofs.Common.{◌≡◌, ◌≤◌}
use Rattle.u_row.specs.Kept.{place_in_label}
use Rattle.u_row.proofs.places.place_in_label.Given as goal

abbrev pub invariant-loop-i : goal.invariant-loop-i
invariant-loop-i l = (l.count ≡ place_in_label l.commalist l.i) × (l.count ≤ l.i)

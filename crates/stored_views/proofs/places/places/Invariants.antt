use Rattle.std.proofs.Common.{◌≡◌, replicate, None}
use Rattle.stored_views.proofs.places.places.Given as goal

abbrev pub invariant-loop-place : goal.invariant-loop-place
invariant-loop-place l = l.list.items ≡ replicate l._place None

use Rattle.std.proofs.lemmas.List.Sorted.{IsPermutation-refl}
use Rattle.u_set.proofs.coalescing.by_interval.Goals as goal

pub returns-then-at-gt0 : goal.returns-then-at-gt0
returns-then-at-gt0 c = IsPermutation-refl c.args.rows.items

use Rattle.std.proofs.Common.{◌≡◌, ◌++◌, [], take, map, get_or}
use Rattle.relation_core.specs.Agreement.{part_of}
use Rattle.relation_core.proofs.pairs.add_pairs.Given as goal

abbrev pub invariant-loop-number : goal.invariant-loop-number
invariant-loop-number l = l.rows.items ≡ l.fn.rows.items ++ map (λ i. part_of l.places (l.x ++ get_or l.others i [])) (take l.number-index l.numbers)

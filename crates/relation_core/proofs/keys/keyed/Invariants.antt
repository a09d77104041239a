use Rattle.std.proofs.Common.{◌≡◌, take}
use Rattle.relation_core.specs.Keys.{keyed_from}
use Rattle.relation_core.proofs.keys.keyed.Given as goal

abbrev pub invariant-loop-number : goal.invariant-loop-number
invariant-loop-number l = l.list.items ≡ keyed_from l.positions 0 (take l.number l.rows)

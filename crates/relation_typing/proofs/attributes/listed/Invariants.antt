use Rattle.std.proofs.Common.{◌≡◌, ◌++◌, length}
use Rattle.relation_typing.proofs.attributes.listed.Given as goal

abbrev pub invariant-rest : goal.invariant-rest
invariant-rest l = l.list.items ++ l.rest.entries ≡ l.fn.attributes.entries

abbrev pub decreases-rest : goal.decreases-rest
decreases-rest l = length l.rest.entries

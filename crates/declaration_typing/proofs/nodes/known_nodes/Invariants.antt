use Rattle.std.proofs.Common.{◌≡◌, drop}
use Rattle.meaning_core.specs.Names.{found}
use Rattle.declaration_typing.proofs.nodes.known_nodes.Given as goal

abbrev pub invariant-loop-entry : goal.invariant-loop-entry
invariant-loop-entry l = found 1 (drop l.entry-index l.known) l.name ≡ found 1 l.known l.name

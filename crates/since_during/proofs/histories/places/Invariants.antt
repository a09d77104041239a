use Rattle.std.proofs.Common.{◌≡◌, ◌++◌, drop}
use Rattle.relation_core.specs.Agreement.{names_of}
use Rattle.meaning_core.specs.Meanings.{positions_of}
use Rattle.since_during.proofs.histories.places.Given as goal

abbrev pub invariant-loop-attribute : goal.invariant-loop-attribute
invariant-loop-attribute l =
    l.list.items ++ positions_of l.heading (names_of (drop l.attribute-index l.attributes)) ≡ positions_of l.heading (names_of l.attributes)

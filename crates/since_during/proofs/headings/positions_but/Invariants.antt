use Rattle.std.proofs.Common.{◌≡◌, ◌++◌, not, drop}
use Rattle.std.specs.Prelude.{filter, nat_eq}
use Rattle.relation_core.specs.Agreement.{names_of}
use Rattle.meaning_core.specs.Histories.{all_but}
use Rattle.meaning_core.specs.Meanings.{positions_of}
use Rattle.since_during.proofs.headings.positions_but.Given as goal

abbrev pub invariant-loop-attribute : goal.invariant-loop-attribute
invariant-loop-attribute l =
    l.list.items ++ filter (λ j. not (nat_eq l.at j)) (positions_of l.attributes (names_of (drop l.attribute-index l.attributes))) ≡ all_but l.at l.attributes

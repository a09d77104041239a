use Rattle.std.proofs.Common.{◌≡◌, ◌++◌, drop}
use Rattle.meaning_core.specs.Meanings.{names_at, positions_of}
use Rattle.since_during.specs.Histories.{key_in}
use Rattle.since_during.proofs.histories.key_in.Given as goal

abbrev pub invariant-loop-at : goal.invariant-loop-at
invariant-loop-at l = l.list.items ++ positions_of l.heading (names_at l.h.heading (drop l.at-index l.at-items)) ≡ key_in l.h l.heading

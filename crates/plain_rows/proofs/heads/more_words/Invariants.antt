use Rattle.std.proofs.Common.{◌-◌}
use Rattle.plain_rows.specs.Heads.{names_in, HasNames}
use Rattle.plain_rows.proofs.heads.more_words.Given as goal

abbrev pub invariant-words : goal.invariant-words
invariant-words l = HasNames l.fn.text l.fn.first.bytes.list.items (names_in l.words.items) l.rest

abbrev pub decreases-words : goal.decreases-words
decreases-words l = 4 - l.turn

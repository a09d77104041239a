use Rattle.std.proofs.Common.{◌≡◌, ◌-◌, ◌<◌, ◌≤◌, ℕ, true, length, get_or}
use Rattle.plain_rows.specs.Lexemes.{continues_word}
use Rattle.plain_rows.proofs.scan.continuing.Given as goal

abbrev pub invariant-word : goal.invariant-word
invariant-word l = (l.n ≤ length l.text) × ((k d : ℕ) → k < l.n → continues_word (get_or l.text k d) ≡ true)

abbrev pub decreases-word : goal.decreases-word
decreases-word l = length l.text - l.n

use Rattle.std.proofs.Common.{◌≡◌, ◌-◌, ◌<◌, ◌≤◌, ℕ, true, length, get_or}
use Rattle.utd_lexer.specs.Tokens.{continues}
use Rattle.utd_lexer.proofs.ascii.word_bytes.Given as goal

abbrev pub invariant-word : goal.invariant-word
invariant-word l = (l.n ≤ length l.bytes) × ((k d : ℕ) → k < l.n → continues (get_or l.bytes k d) ≡ true)

abbrev pub decreases-word : goal.decreases-word
decreases-word l = length l.bytes - l.n

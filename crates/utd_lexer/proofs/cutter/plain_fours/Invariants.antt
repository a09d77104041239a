use Rattle.std.proofs.Common.{◌≡◌, ◌-◌, ◌<◌, ◌≤◌, ℕ, true, length, get_or}
use Rattle.utd_lexer.specs.Cutting.{is_plain}
use Rattle.utd_lexer.proofs.cutter.plain_fours.Given as goal

abbrev pub invariant-fours : goal.invariant-fours
invariant-fours l = (l.n ≤ length l.bytes) × ((k d : ℕ) → k < l.n → is_plain (get_or l.bytes k d) ≡ true)

abbrev pub decreases-fours : goal.decreases-fours
decreases-fours l = length l.bytes - l.n

use Rattle.std.proofs.Common.{◌≡◌, ◌-◌, ◌<◌, ◌≤◌, ℕ, true, length, get_or}
use Rattle.utd_lexer.specs.Cutting.{is_plain}
use Rattle.utd_lexer.proofs.cutter.plain_bytes.Given as goal

abbrev pub invariant-plain : goal.invariant-plain
invariant-plain l = (l.n ≤ length l.bytes) × ((k d : ℕ) → k < l.n → is_plain (get_or l.bytes k d) ≡ true)

abbrev pub decreases-plain : goal.decreases-plain
decreases-plain l = length l.bytes - l.n

use Rattle.std.proofs.Common.{◌≡◌, ◌-◌, ◌<◌, ◌≤◌, ℕ, true, length, get_or}
use Rattle.std.specs.Char.{is_ascii_digit}
use Rattle.utd_lexer.proofs.ascii.digit_bytes.Given as goal

abbrev pub invariant-digits : goal.invariant-digits
invariant-digits l = (l.n ≤ length l.bytes) × ((k d : ℕ) → k < l.n → is_ascii_digit (get_or l.bytes k d) ≡ true)

abbrev pub decreases-digits : goal.decreases-digits
decreases-digits l = length l.bytes - l.n

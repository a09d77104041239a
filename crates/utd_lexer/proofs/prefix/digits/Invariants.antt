use Rattle.std.proofs.Common.{◌≡◌, ◌-◌, ◌<◌, ◌≤◌, ℕ, true, length, get_or}
use Rattle.std.specs.Char.{is_ascii_digit}
use Rattle.utd_lexer.proofs.prefix.digits.Given as goal

abbrev pub invariant-digits : goal.invariant-digits
invariant-digits l = (l.n ≤ length l.chars) × ((k d : ℕ) → k < l.n → is_ascii_digit (get_or l.chars k d) ≡ true)

abbrev pub decreases-digits : goal.decreases-digits
decreases-digits l = length l.chars - l.n

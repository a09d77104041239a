use Rattle.std.proofs.Common.{◌≡◌, ◌-◌, ◌<◌, ◌≤◌, ℕ, true, length, get_or}
use Rattle.std.specs.Char.{is_ascii_digit}
use Rattle.plain_rows.proofs.numbers.digits_len.Given as goal

abbrev pub invariant-digits : goal.invariant-digits
invariant-digits l = (l.n ≤ length l.text) × ((k d : ℕ) → k < l.n → is_ascii_digit (get_or l.text k d) ≡ true)

abbrev pub decreases-digits : goal.decreases-digits
decreases-digits l = length l.text - l.n

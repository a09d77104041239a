use Rattle.std.proofs.Common.{◌≡◌, ◌-◌, ◌<◌, ◌≤◌, ℕ, true, length, get_or}
use Rattle.plain_rows.specs.Lexemes.{is_text_byte}
use Rattle.plain_rows.proofs.quoted.before_quote.Given as goal

abbrev pub invariant-plain : goal.invariant-plain
invariant-plain l = (l.n ≤ length l.body) × ((k d : ℕ) → k < l.n → is_text_byte (get_or l.body k d) ≡ true)

abbrev pub decreases-plain : goal.decreases-plain
decreases-plain l = length l.body - l.n

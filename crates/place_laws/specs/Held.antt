-- Names of which something holds.
--     unheld      as a range: the names alone are out of it of which it does not hold
use Rattle.std.specs.Prelude.{ℕ, List, Bool, false, not}
use Rattle.utd_syntax.specs.declared.terminal.Terminal.TheVariants.{Name}
use Rattle.utd_ranges.specs.Ranges.{Range}

abbrev pub unheld : (List ℕ → Bool) → Range
unheld holds how Name bytes = not (holds bytes)
unheld holds how x bytes = false

-- A row with some interval at one position.
--     IsMoved at row x      x is the row, but for the interval at the position
use Rattle.std.specs.Prelude.{◌≡◌, ℕ}
use Rattle.interval_core.specs.Members.{Span}
use Rattle.value_core.specs.Attributes.{put_span}
use Rattle.value_core.specs.Values.{Row}

abbrev pub IsMoved : ℕ → Row → Row → Type 0
IsMoved at row x = (s : Span) × (x ≡ put_span row at s)

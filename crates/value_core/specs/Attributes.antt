-- The values of a row, and their parts.
--     value_at      the value at a position
--     span_of      the interval that a value is
--     put_span      the row with another interval at a position
--     among      whether a position is one of a list
use Rattle.std.specs.Prelude.{ℕ, pos, Bool, false, List, set, nat_eq, slice_get, unwrap_or}
use Rattle.std.specs.List.{list_any}
use Rattle.interval_core.specs.Members.{Span}
use Rattle.value_core.specs.Values.{Value, truth, interval, Row}

-- the value at a position, which a row of a typed expression has
abbrev pub value_at : Row → ℕ → Value
value_at row i = unwrap_or (slice_get row i) (truth false)

-- the interval that a value is; a typed expression never meets the last case
abbrev pub span_of : Value → Span
span_of (interval l i) = i
span_of _ = (pos 0, pos 0)

-- the interval with other ends
abbrev pub with_span : Value → Span → Value
with_span (interval l i) j = interval l j
with_span v j = v

-- the row with other ends of the interval at a position
abbrev pub put_span : Row → ℕ → Span → Row
put_span row i j = set row i (with_span (value_at row i) j)

-- whether the position is one of the list
abbrev pub among : List ℕ → ℕ → Bool
among positions i = list_any (nat_eq i) positions

-- Rows that are sought one after the other among those that ascend.
--     IsRestBehind      what is left to look at behind a row
--     IsPlaceBehind      where a row is, or would stand, behind a place
use Rattle.std.specs.Prelude.{◌≡◌, ℕ, ◌+◌, ◌<◌, ◌≤◌, List, length, Result, Ok, Err}
use Rattle.std.specs.List.{AllWithin, HoldsAt}
use Rattle.std.specs.declared.cmp.Ordering.TheVariants.{Less}
use Rattle.base_core.specs.Sets.{has}
use Rattle.value_core.specs.Values.{Row, row_cmp}

-- rows that come after this one are among the rest where they are among all
abbrev pub IsRestBehind : Row → List Row → List Row → Type 0
IsRestBehind x all rest = (z : Row) → row_cmp x z ≡ Less → has row_cmp rest z ≡ has row_cmp all z

-- the row is at the place, or would stand there, behind so many rows: what is between comes before it, and what is behind after it
abbrev pub IsPlaceBehind : List Row → ℕ → Row → Result ℕ ℕ → Type 0
IsPlaceBehind rows seen x (Ok at) =
    (seen ≤ at) × (at < length rows) × HoldsAt (λ z. z ≡ x) rows at × AllWithin (λ z. row_cmp z x ≡ Less) rows seen at × AllWithin (λ z. row_cmp x z ≡ Less) rows (at + 1) (length rows)
IsPlaceBehind rows seen x (Err at) =
    (seen ≤ at) × (at ≤ length rows) × AllWithin (λ z. row_cmp z x ≡ Less) rows seen at × AllWithin (λ z. row_cmp x z ≡ Less) rows at (length rows)

-- Rows by their values in front of a place.
--     has_front, is_behind      whether these are those of a row, or greater
use Rattle.std.specs.Prelude.{ℕ, Bool, take}
use Rattle.std.specs.Ordering.{is_eq, is_gt}
use Rattle.value_core.specs.Values.{Row, row_cmp}

-- whether the row has the values that x has in front of the place
abbrev pub has_front : ℕ → Row → Row → Bool
has_front side x row = is_eq (row_cmp (take side row) (take side x))

-- whether it has greater ones there
abbrev pub is_behind : ℕ → Row → Row → Bool
is_behind side x row = is_gt (row_cmp (take side row) (take side x))

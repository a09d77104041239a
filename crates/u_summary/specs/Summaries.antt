-- What the values of a group come to.
--     total      the exact sum
--     IsFirstLeast, IsFirstGreatest      where the extreme value in the printing order stands first
use Rattle.std.specs.Prelude.{ℕ, ℤ, pos, ◌+ℤ◌, Bool, List, length, fold}
use Rattle.std.specs.List.{IsFirstBest}
use Rattle.std.specs.Ordering.{is_lt}
use Rattle.value_core.specs.Values.{Value, value_cmp}

-- the sum of all, which may lie outside 64 bits
abbrev pub total : List ℤ → ℤ
total values = fold ◌+ℤ◌ (pos 0) values

-- the first value comes before the second in the printing order
abbrev pub is_before : Value → Value → Bool
is_before v w = is_lt (value_cmp v w)

-- no value is before the one at this index, and each value at a lower index comes after it
abbrev pub IsFirstLeast : List Value → ℕ → Type 0
IsFirstLeast values at = IsFirstBest is_before values (length values) at

-- no value comes after the one at this index, and each value at a lower index is before it
abbrev pub IsFirstGreatest : List Value → ℕ → Type 0
IsFirstGreatest values at = IsFirstBest (λ v w. is_before w v) values (length values) at

-- How many steps are taken: a bound by numbers of rows and not of points.
use Rattle.std.specs.Prelude.{ℕ, ◌+◌, ◌*◌, ◌^◌, ◌==◌, if◌then◌else◌}
use Rattle.point_core.specs.Digits.{binary_digits}

-- the most steps over n rows and k sides
abbrev pub bound : ℕ → ℕ → ℕ
bound n k = if n == 0 then 0 else 2 * k * n * (binary_digits (2 * n) + 3) + (2 * n) ^ k

-- the most steps for the numbering of one side of n rows
abbrev pub side_cost : ℕ → ℕ
side_cost n = 2 * n * binary_digits (2 * n) + 5 * n

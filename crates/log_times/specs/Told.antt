-- What a log gives back of its relvar.
--     AreLong      each of the relvar's rows has a place for the interval
--     IsLogRow      a row with an interval of statements at the place
--     value_after      the relvar's rows after a statement, by the log
--     AreApart      two rows of a log are one, or of two rows of the relvar, or neither meet nor overlap
use Rattle.std.specs.Prelude.{◌≡◌, ◌⊎◌, ℕ, ◌<◌, ◌≤◌, ℤ, pos, ◌+ℤ◌, ◌<ℤ◌, ◌≤ℤ◌, List, map, filter, length}
use Rattle.std.specs.List.{All}
use Rattle.interval_core.specs.Members.{has_member}
use Rattle.point_core.specs.Points.{integers}
use Rattle.value_core.specs.Attributes.{value_at}
use Rattle.value_core.specs.Values.{Row, interval, rows_of}
use Rattle.log_times.specs.Logs.{unstamped, statements}

-- each row of each value has the place `side`, or ends right before it. Rows that fit one heading do so, where it has as many attributes
abbrev pub AreLong : ℕ → List (List Row) → Type 0
AreLong side values = All (All (λ (x : Row). side ≤ length x)) values

-- a row of a log of so many statements, the first of which has the number m: an interval of some of them at the place
pub record IsLogRow (side : ℕ) (m : ℤ) (size : ℕ) (row : Row) : Type 0 where
  pub within : side < length row
  pub line : value_at row side ≡ interval integers (statements side row)
  pub begun : m ≤ℤ (statements side row).0
  pub ordered : (statements side row).0 ≤ℤ (statements side row).1
  pub ended : (statements side row).1 <ℤ (m +ℤ pos size)

-- the rows whose interval has the statement's number, without it
abbrev pub value_after : ℕ → ℤ → List Row → List Row
value_after side n log = rows_of (map (unstamped side) (filter (λ (row : Row). has_member (statements side row) n) log))

-- where two rows have the same row of the relvar, they are one, or a statement lies between the end of the one and the begin of the other
abbrev pub AreApart : ℕ → Row → Row → Type 0
AreApart side y z =
    unstamped side y ≡ unstamped side z
    → (y ≡ z) ⊎ ((((statements side y).1 +ℤ pos 1) <ℤ (statements side z).0) ⊎ (((statements side z).1 +ℤ pos 1) <ℤ (statements side y).0))

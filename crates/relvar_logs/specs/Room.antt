-- How many rows logs have.
--     rows_of_logs      the rows of all logs, counted
--     are_each_few      whether each log has no more rows than a relation may have
--     IsCountedAs      so many rows a log has after one statement more
--     left_of      what is left of a number, if it is not too small
use Rattle.std.specs.Prelude.{◌≡◌, ℕ, ◌+◌, ◌-◌, ◌≤◌, nat_le, Bool, [], ◌∷◌, length, Option, Some, None, if◌then◌else◌}
use Rattle.std.specs.List.{list_all}
use Rattle.value_core.specs.Values.{most_rows}
use Rattle.tree_core.specs.Relvars.{PlainRelvar, base, view, log, Entries}
use Rattle.meaning_core.specs.Logs.{turned_relvar}

-- the rows of a log
abbrev pub log_count : PlainRelvar → ℕ
log_count (base value constraints) = 0
log_count (view t kind) = 0
log_count (log of side last value) = length value.rows

abbrev pub rows_of_logs : Entries → ℕ
rows_of_logs [] = 0
rows_of_logs (r ∷ rest) = log_count r.1 + rows_of_logs rest

-- whether each log has no more rows than a relation may have
abbrev pub are_each_few : Entries → Bool
are_each_few entries = list_all (λ r. nat_le (log_count r.1) most_rows) entries

-- so many rows the relvar has as a log after one statement more, after which these are the relvars; they are no more than it may have
pub record IsCountedAs (all : Entries) (count : ℕ) (r : PlainRelvar) : Type 0 where
  pub is : count ≡ log_count (turned_relvar all r)
  pub few : count ≤ most_rows

-- what is left of a number without another one, if that is no greater
abbrev pub left_of : ℕ → ℕ → Option ℕ
left_of most count = if nat_le count most then Some (most - count) else None

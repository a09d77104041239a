-- Logs: in which states of a database each row stood in a relvar, by the numbers of its accepted statements.
--     IsStretch, IsInLog      the sentence that a log says of the relvar's values
--     moved      a log's rows after one statement more
--     logged      a log's rows after all statements from its first on
--     closed      the rows of a log, of those that are stored for it
--     IsStored      what is stored: a row that still stands ends at the greatest integer
use Rattle.std.specs.Prelude.{◌≡◌, ℕ, suc, ◌<◌, ◌≤◌, ℤ, pos, ◌+ℤ◌, ◌-ℤ◌, ◌<ℤ◌, ◌≤ℤ◌, Bool, true, false, not, ◌&&◌, List, [], ◌∷◌, ◌++◌, map, filter, length, take, drop, slice_index_or, if◌then◌else◌}
use Rattle.std.specs.List.{list_any, All}
use Rattle.std.specs.Ordering.{int_eq}
use Rattle.base_core.specs.Sets.{has}
use Rattle.interval_core.specs.Members.{Span, at_point}
use Rattle.point_core.specs.Points.{integers}
use Rattle.point_core.specs.Whole.{greatest_whole}
use Rattle.value_core.specs.Attributes.{value_at, span_of, put_span}
use Rattle.value_core.specs.Values.{Row, interval, row_cmp, rows_of}

-- ---- rows of a log

-- the row with an interval of statements at a place, in front of what stood there
abbrev pub stamped : ℕ → Span → Row → Row
stamped side i row = take side row ++ interval integers i ∷ drop side row

-- the row without what stands at the place
abbrev pub unstamped : ℕ → Row → Row
unstamped side row = take side row ++ drop (suc side) row

-- the interval of statements that a row of the log has at the place
abbrev pub statements : ℕ → Row → Span
statements side row = span_of (value_at row side)

-- ---- the sentence

-- the relvar's rows after the statement of this number, counted from the log's first
abbrev pub after : List (List Row) → ℕ → List Row
after values k = slice_index_or values k []

-- the row was there after each of the statements b to e, and neither before them nor after them
pub record IsStretch (values : List (List Row)) (x : Row) (b e : ℕ) : Type 0 where
  pub ordered : b ≤ e
  pub within : e < length values
  pub stood : (k : ℕ) → b ≤ k → k ≤ e → has row_cmp (after values k) x ≡ true
  pub first : (k : ℕ) → suc k ≡ b → has row_cmp (after values k) x ≡ false
  pub last : suc e < length values → has row_cmp (after values (suc e)) x ≡ false

-- a row of the log whose first statement has the number m: one of the relvar's with a longest stretch of statements after which it was there
pub record IsInLog (side : ℕ) (m : ℤ) (values : List (List Row)) (y : Row) : Type 0 where
  pub x : Row
  pub b : ℕ
  pub e : ℕ
  pub row : y ≡ stamped side (m +ℤ pos b, m +ℤ pos e) x
  pub stretch : IsStretch values x b e

-- ---- one statement more

-- whether a row of the log ends at the statement and its row is among these
abbrev pub goes_on : ℕ → ℤ → List Row → Row → Bool
goes_on side n now row = int_eq (statements side row).1 n && has row_cmp now (unstamped side row)

-- a row of the log after the statement n, where the relvar has these rows then: one that goes on ends at n
abbrev pub prolonged : ℕ → ℤ → List Row → Row → Row
prolonged side n now row =
    if goes_on side (n -ℤ pos 1) now row then put_span row side ((statements side row).0, n) else row

-- whether the relvar's row stood after the statement, by the log
abbrev pub stood_at : ℕ → ℤ → List Row → Row → Bool
stood_at side n log x = list_any (λ row. goes_on side n (x ∷ []) row) log

-- the log's rows after the statement n, where the relvar has these rows then: rows that are still there end at n, others begin there
abbrev pub moved : ℕ → ℤ → List Row → List Row → List Row
moved side n now log =
    rows_of (map (prolonged side n now) log
    ++ map (stamped side (at_point n)) (filter (λ x. not (stood_at side (n -ℤ pos 1) log x)) now))

-- the same after several statements, the first of which has the number n
abbrev pub moved_on : ℕ → ℤ → List (List Row) → List Row → List Row
moved_on side n [] log = log
moved_on side n (now ∷ rest) log = moved_on side (n +ℤ pos 1) rest (moved side n now log)

-- the log's rows, where its first statement has the number m, and the relvar has these values after it and each later one
abbrev pub logged : ℕ → ℤ → List (List Row) → List Row
logged side m values = moved_on side m values []

-- ---- what is stored

-- the end of a row that still stands
abbrev pub open_end : ℤ
open_end = greatest_whole

-- whether the row still stands
abbrev pub is_standing : ℕ → Row → Bool
is_standing side row = int_eq (statements side row).1 open_end

-- the relvar's rows that still stand, by what is stored
abbrev pub standing : ℕ → List Row → List Row
standing side rows = rows_of (map (unstamped side) (filter (is_standing side) rows))

-- a row as the log has it after the statement n
abbrev pub closed_row : ℕ → ℤ → Row → Row
closed_row side n row = if is_standing side row then put_span row side ((statements side row).0, n) else row

-- the log's rows after the statement n
abbrev pub closed : ℕ → ℤ → List Row → List Row
closed side n rows = map (closed_row side n) rows

-- the row has an interval of statements at the place
pub record HasStatements (side : ℕ) (row : Row) : Type 0 where
  pub within : side < length row
  pub line : value_at row side ≡ interval integers (statements side row)
  pub ordered : (statements side row).0 ≤ℤ (statements side row).1

-- a stored row after the statement n: it began no later, and stands still or ended before
pub record IsStoredRow (side : ℕ) (n : ℤ) (row : Row) : Type 0 where
  pub interval : HasStatements side row
  pub begun : (statements side row).0 ≤ℤ n
  pub ended : is_standing side row ≡ false → (statements side row).1 <ℤ n

-- the rows are stored ones after the statement n, whose number an end can have
pub record IsStored (side : ℕ) (n : ℤ) (stored : List Row) : Type 0 where
  pub rows : All (IsStoredRow side n) stored
  pub before : n <ℤ open_end

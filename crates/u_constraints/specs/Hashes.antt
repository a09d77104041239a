-- Hashes: parts of rows with numbers. By these the rows of a history's two relvars are held against each other.
--     Hash, hash_cmp      a hash, and the order of hashes
--     reaches, is_any_reached      which hashes have the part of another and a number that is not less
--     end_hash, begin_hash      the hashes of the rows
--     is_overrun, is_touched      the two ways in which a history is broken, by hashes
use Rattle.std.specs.Prelude.{ℕ, ℤ, pos, ◌-ℤ◌, Bool, true, false, not, ◌&&◌, List, map, ◌++◌, int_lt, if◌then◌else◌}
use Rattle.std.specs.List.{list_any}
use Rattle.std.specs.declared.cmp.Ordering.{Ordering}
use Rattle.std.specs.Ordering.{int_cmp, ordering_then, eq_by_cmp}
use Rattle.point_core.specs.Whole.{least_whole}
use Rattle.value_core.specs.Attributes.{value_at, span_of}
use Rattle.value_core.specs.Values.{Row, row_cmp}
use Rattle.value_core.specs.declared.constraint.HistoryRule.{HistoryRule}
use Rattle.scalar_core.specs.Operations.{number_of}
use Rattle.relation_core.specs.Agreement.{part_of}

-- a part of a row, and a number
abbrev pub Hash : Type 0
Hash = Row × ℤ

-- by part, and then by number
abbrev pub hash_cmp : Hash → Hash → Ordering
hash_cmp a b = ordering_then (row_cmp a.0 b.0) (int_cmp a.1 b.1)

-- whether the end has the part of the begin, and is not before it
abbrev pub reaches : Hash → Hash → Bool
reaches begin end = eq_by_cmp row_cmp end.0 begin.0 && not (int_lt end.1 begin.1)

-- whether any of the ends reaches any of the begins
abbrev pub is_any_reached : List Hash → List Hash → Bool
is_any_reached begins ends = list_any (λ begin. list_any (reaches begin) ends) begins

-- the last number of a row's interval, with the row's part
abbrev pub end_hash : List ℕ → ℕ → Row → Hash
end_hash positions at row = (part_of positions row, (span_of (value_at row at)).1)

-- the number, or the one before it; but that of the least number of 64 bits is itself
abbrev pub begun : Bool → ℤ → ℤ
begun false n = n
begun true n = if int_lt least_whole n then n -ℤ pos 1 else n

-- the number of a row's point, or the one before it, with the row's part
abbrev pub begin_hash : List ℕ → ℕ → Bool → Row → Hash
begin_hash positions at touching row = (part_of positions row, begun touching (number_of (value_at row at)))

-- some row of the during relvar has not ended before some row of the since relvar with the same key began
abbrev pub is_overrun : HistoryRule → List Row → List Row → Bool
is_overrun h rows others =
    is_any_reached (map (begin_hash h.key_there h.point_there false) others) (map (end_hash h.key_here h.span_here) rows)

-- some row of the during relvar has not ended before the point directly before some row of the since relvar with the same key and the
-- same facts began
abbrev pub is_touched : HistoryRule → List Row → List Row → Bool
is_touched h rows others =
    is_any_reached (map (begin_hash (h.key_there ++ h.all_there) h.point_there true) others)
    (map (end_hash (h.key_here ++ h.all_here) h.span_here) rows)

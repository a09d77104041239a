-- Where values stand among made values and those of a part of a row.
--     IsSpot      the spot of a value that stands at a place among the made ones and those of the whole row
--     AreSpots      those of several
use Rattle.std.specs.Prelude.{◌≡◌, ℕ, false, List, ◌++◌, length, slice_index_or}
use Rattle.value_core.specs.Values.{Row, truth}
use Rattle.relation_core.specs.Agreement.{part_of}

-- behind so many made values, the value at the place of any row is that at the spot of the row's part
abbrev pub IsSpot : ℕ → List ℕ → ℕ → ℕ → Type 0
IsSpot many part place spot = (made row : Row) → length made ≡ many → slice_index_or (made ++ row) place (truth false) ≡ slice_index_or (made ++ part_of part row) spot (truth false)

abbrev pub AreSpots : ℕ → List ℕ → List ℕ → List ℕ → Type 0
AreSpots many part places spots = (made row : Row) → length made ≡ many → part_of places (made ++ row) ≡ part_of spots (made ++ part_of part row)

-- Parts of rows, and rows that agree on common attributes.
--     position_of      where a name stands in a heading
--     part_of      a row's values at positions
--     agree      whether rows of two headings have the same values at all common names
--     matched, unmatched      the rows that agree with some row of another relation, and the others
use Rattle.std.specs.Prelude.{ℕ, Bool, false, not, List, map, filter, slice_index_or, if◌then◌else◌}
use Rattle.std.specs.List.{list_any}
use Rattle.std.specs.Ordering.{eq_by_cmp}
use Rattle.value_core.specs.Values.{Name, Row, Heading, truth, row_cmp}
use Rattle.value_core.specs.Headings.{has_name}
pub use Rattle.value_core.specs.Headings.{position_of}

-- the names of the attributes
abbrev pub names_of : Heading → List Name
names_of heading = map (λ a. a.0) heading

-- the names that stand in both headings
abbrev pub common_names : Heading → Heading → List Name
common_names left right = filter (has_name right) (names_of left)

-- the positions in a heading of the names that stand in both
abbrev pub common_positions : Heading → Heading → Heading → List ℕ
common_positions heading left right = map (position_of heading) (common_names left right)

-- a row's values at the positions
abbrev pub part_of : List ℕ → Row → Row
part_of positions row = map (λ i. slice_index_or row i (truth false)) positions

-- a truth value, or its opposite
abbrev pub as_wanted : Bool → Bool → Bool
as_wanted wanted found = if wanted then found else not found

-- whether two rows have the same values at each name that stands in both headings
abbrev pub agree : Heading → Heading → Row → Row → Bool
agree left right x y = eq_by_cmp row_cmp (part_of (common_positions left left right) x) (part_of (common_positions right left right) y)

-- the rows of the one that agree with some row of the other
abbrev pub matched : Heading → Heading → List Row → List Row → List Row
matched left right r s = filter (λ x. list_any (agree left right x) s) r

-- the rows of the one that agree with no row of the other
abbrev pub unmatched : Heading → Heading → List Row → List Row → List Row
unmatched left right r s = filter (λ x. not (list_any (agree left right x) s)) r

-- the rows of the one for which it is as wanted whether they agree with some row of the other
abbrev pub chosen : Bool → Heading → Heading → List Row → List Row → List Row
chosen wanted left right r s = filter (λ x. as_wanted wanted (list_any (agree left right x) s)) r

-- Two intervals compared by their members.
use Rattle.std.specs.Prelude.{pos, ◌+ℤ◌, Bool, not, ◌&&◌, ◌||◌, int_lt}
use Rattle.std.specs.List.{list_any, list_all}
use Rattle.std.specs.Ordering.{int_cmp, int_eq}
use Rattle.base_core.specs.Sets.{are_same}
use Rattle.interval_core.specs.Members.{Span, members, has_member}

-- the two have the same members
abbrev pub equals : Span → Span → Bool
equals i j = are_same int_cmp (members i) (members j)

-- every member of j is in i
abbrev pub includes : Span → Span → Bool
includes i j = list_all (has_member i) (members j)

abbrev pub included_in : Span → Span → Bool
included_in i j = includes j i

-- every member of i is less than every member of j
abbrev pub before : Span → Span → Bool
before i j = list_all (λ p. list_all (λ q. int_lt p q) (members j)) (members i)

abbrev pub after : Span → Span → Bool
after i j = before j i

-- a number is in both
abbrev pub overlaps : Span → Span → Bool
overlaps i j = list_any (has_member i) (members j)

-- no number is in both, and the last of one is directly before the first of the other
abbrev pub meets : Span → Span → Bool
meets i j = not (overlaps i j) && (int_eq (i.1 +ℤ pos 1) j.0 || int_eq (j.1 +ℤ pos 1) i.0)

abbrev pub merges : Span → Span → Bool
merges i j = overlaps i j || meets i j

-- every member of i is in j, and both begin alike, or end alike
abbrev pub begins : Span → Span → Bool
begins i j = int_eq i.0 j.0 && included_in i j

abbrev pub ends : Span → Span → Bool
ends i j = int_eq i.1 j.1 && included_in i j

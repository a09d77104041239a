-- Operators on intervals, by their members.
--     count      how many members
--     union, intersect, minus      the interval of the members of either, of both, or of the first alone
--     prior_number, next_number      the number before or after, within the type
use Rattle.std.specs.Prelude.{ℕ, ℤ, pos, ◌+ℤ◌, ◌-ℤ◌, ◌≤ℤ◌, not, List, [], ◌∷◌, ◌++◌, length, filter, fold, Option, Some, None, int_lt, if◌then◌else◌}
use Rattle.std.specs.Int.{int_min, int_max}
use Rattle.std.specs.Ordering.{int_cmp}
use Rattle.base_core.specs.Sets.{are_same}
use Rattle.interval_core.specs.Members.{Span, members, has_member}

-- the number before, but before the first none; the number after, but after the last none
abbrev pub prior_number : ℤ → ℤ → Option ℤ
prior_number first p = if int_lt first p then Some (p -ℤ pos 1) else None

abbrev pub next_number : ℤ → ℤ → Option ℤ
next_number last p = if int_lt p last then Some (p +ℤ pos 1) else None

-- how many members
abbrev pub count : Span → ℕ
count i = length (members i)

-- from the least of some numbers to the greatest
abbrev pub hull_of : ℤ → List ℤ → Span
hull_of n ns = (fold int_min n ns, fold int_max n ns)

abbrev pub if_same : Span → List ℤ → Option Span
if_same i ns = if are_same int_cmp (members i) ns then Some i else None

-- the interval whose members are exactly these numbers, if there is one
abbrev pub interval_of : List ℤ → Option Span
interval_of [] = None
interval_of (n ∷ ns) = if_same (hull_of n ns) (n ∷ ns)

-- the interval of the members of either, of both, and of the first alone
abbrev pub union : Span → Span → Option Span
union i j = interval_of (members i ++ members j)

abbrev pub intersect : Span → Span → Option Span
intersect i j = interval_of (filter (has_member j) (members i))

abbrev pub minus : Span → Span → Option Span
minus i j = interval_of (filter (λ p. not (has_member j p)) (members i))

-- k begins and ends within the interval over i and j, and not after it ends
abbrev pub IsInHull : Span → Span → Span → Type 0
IsInHull i j k = (int_min i.0 j.0 ≤ℤ k.0) × (k.0 ≤ℤ k.1) × (k.1 ≤ℤ int_max i.1 j.1)

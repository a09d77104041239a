-- The numbers of an interval's points.
use Rattle.std.specs.Prelude.{ℕ, zero, suc, ℤ, pos, negsuc, ◌+ℤ◌, ◌-ℤ◌, Bool, List, [], ◌∷◌}
use Rattle.std.specs.Ordering.{int_cmp}
use Rattle.base_core.specs.Sets.{has}

-- an interval: the numbers of its first and of its last member
abbrev pub Span : Type 0
Span = ℤ × ℤ

-- n numbers from b on
abbrev pub numbers_from : ℕ → ℤ → List ℤ
numbers_from zero b = []
numbers_from (suc n) b = b ∷ numbers_from n (b +ℤ pos 1)

-- how many numbers there are, of which a difference tells
abbrev pub count_of : ℤ → ℕ
count_of (pos n) = n
count_of (negsuc n) = zero

-- the members of an interval. It unfolds only where asked, since an interval of a literal may have very many
unfoldable pub members : Span → List ℤ
members i = numbers_from (count_of ((i.1 +ℤ pos 1) -ℤ i.0)) i.0

-- whether p is a member
abbrev pub has_member : Span → ℤ → Bool
has_member i p = has int_cmp (members i) p

-- the interval of one point
abbrev pub at_point : ℤ → Span
at_point p = (p, p)

-- an interval by the numbers of its ends
abbrev pub span : {P : Type 0} → (P → ℤ) → P × P → Span
span number_of i = (number_of i.0, number_of i.1)

-- both ends are points of the type
abbrev pub HasEndsIn : {T P : Type 0} → (T → P → Type 0) → T → P × P → Type 0
HasEndsIn IsPoint t i = IsPoint t i.0 × IsPoint t i.1

-- The cuts of a listed attribute: the numbers just before which an atom with it may change.
--     cuts commalist a e row      the cuts of the attribute at position a, by the atoms of the expression
--     inner_cuts commalist a e row      those behind the first point of its interval and not behind the last, ascending, each once
--     IsBeside cs p q      no cut stands between two numbers
use Rattle.std.specs.Prelude.{ℕ, ℤ, pos, ◌+ℤ◌, ◌-ℤ◌, ◌≤ℤ◌, int_le, int_lt, Bool, false, not, ◌&&◌, cond, List, [], ◌∷◌, ◌++◌, filter, nat_eq, Option, Some, None, Ok, Err, ◌↔◌}
use Rattle.std.specs.List.{AllByRecursion}
use Rattle.std.specs.Ordering.{int_cmp}
use Rattle.base_core.specs.Sets.{in_order}
use Rattle.interval_core.specs.Members.{Span}
use Rattle.value_core.specs.Attributes.{span_of, value_at}
use Rattle.value_core.specs.Values.{Value, point, interval, Row}
use Rattle.scalar_core.specs.Expressions.{Expr, constant, attribute, one, pair, and_expr, or_expr}
use Rattle.scalar_core.specs.Operations.{Meant}
use Rattle.scalar_core.specs.ScalarValues.{value}
use Rattle.scalar_core.specs.Sweeping.{is_comparison, names_any, swept_attribute}

-- the cuts by a value that is compared with. A comparison with a point tells what is less, equal and greater; one with an interval
-- tells besides the points directly before it and directly after it
abbrev pub cuts_at : Value → List ℤ
cuts_at (point l p) = p ∷ (p +ℤ pos 1) ∷ []
cuts_at (interval l i) = (i.0 -ℤ pos 1) ∷ i.0 ∷ (i.0 +ℤ pos 1) ∷ i.1 ∷ (i.1 +ℤ pos 1) ∷ (i.1 +ℤ pos 2) ∷ []
cuts_at _ = []

-- a side that has a fault gives none: then the comparison has this fault at each point
abbrev pub cuts_of : Meant → List ℤ
cuts_of (Ok v) = cuts_at v
cuts_of (Err e) = []

-- the swept attribute is the one at a, and the other side names none of the list
abbrev pub sweeps : List ℕ → ℕ → Option ℕ → Expr → Bool
sweeps commalist a None other = false
sweeps commalist a (Some i) other = nat_eq i a && not (names_any commalist other)

abbrev pub side_cuts : List ℕ → ℕ → Expr → Expr → Row → List ℤ
side_cuts commalist a side other row = cond (sweeps commalist a (swept_attribute commalist side) other) (cuts_of (value other row)) []

-- by a comparison of the two
abbrev pub atom_cuts : List ℕ → ℕ → Expr → Expr → Row → List ℤ
atom_cuts commalist a l r row = side_cuts commalist a l r row ++ side_cuts commalist a r l row

-- by all atoms of the expression, also by those that AND and OR do not come to
abbrev pub cuts : List ℕ → ℕ → Expr → Row → List ℤ
cuts commalist a (constant place kind v) row = []
cuts commalist a (attribute place i) row = []
cuts commalist a (one op place e) row = cuts commalist a e row
cuts commalist a (pair op place l r) row = cond (is_comparison op) (atom_cuts commalist a l r row) [] ++ (cuts commalist a l row ++ cuts commalist a r row)
cuts commalist a (and_expr place l r) row = cuts commalist a l row ++ cuts commalist a r row
cuts commalist a (or_expr place l r) row = cuts commalist a l row ++ cuts commalist a r row

-- ---- within an interval

-- a cut there parts the interval
abbrev pub is_inside : Span → ℤ → Bool
is_inside i c = int_lt i.0 c && int_le c i.1

abbrev pub inner_cuts : List ℕ → ℕ → Expr → Row → List ℤ
inner_cuts commalist a e row = in_order int_cmp (filter (is_inside (span_of (value_at row a))) (cuts commalist a e row))

-- ---- between cuts

abbrev pub IsBeside : List ℤ → ℤ → ℤ → Type 0
IsBeside cs p q = AllByRecursion (λ c. (c ≤ℤ p) ↔ (c ≤ℤ q)) cs

-- Values of rows in order, and the least and the greatest of the marked rows.
--     pair_cmp      pairs of a value and a row by the value, and then by the row
--     AreOrdered      pairs in order that are those of just the marked rows and their values
--     least_of, greatest_of      the least and the greatest value of the marked rows
use Rattle.std.specs.Prelude.{◌≡◌, ◌↔◌, ℕ, ◌≤◌, Bool, true, false, if◌then◌else◌, List, [], ◌∷◌, length, get_or, Option, Some, None, ℤ, pos, int_lt, IsTrue}
use Rattle.std.specs.declared.cmp.Ordering.{Ordering}
use Rattle.std.specs.Ordering.{int_cmp, nat_cmp, ordering_then}
use Rattle.std.specs.BTreeSet.{BTreeSet, contains}
use Rattle.cell_boxes.specs.Tallies.{IsIn}

abbrev pub pair_cmp : ℤ × ℕ → ℤ × ℕ → Ordering
pair_cmp p q = ordering_then (int_cmp p.0 q.0) (nat_cmp p.1 q.1)

-- the set has a value and a row just where the row is marked and has the value
pub record AreOrdered (values : List ℤ) (pairs : BTreeSet (ℤ × ℕ)) (f : List Bool) : Type 0 where
  pub within : length f ≤ length values
  pub flagged : (v : ℤ) (r : ℕ) → IsTrue (contains pair_cmp pairs (v, r)) ↔ IsIn f r × (v ≡ get_or values r (pos 0))

-- the other value where it beats the first
abbrev pub better : (ℤ → ℤ → Bool) → ℤ → Option ℤ → ℤ
better beats v None = v
better beats v (Some w) = if beats w v then w else v

-- the value of a marked row that that of no other one beats, if any is marked
abbrev pub best_flagged : (ℤ → ℤ → Bool) → List ℤ → List Bool → Option ℤ
best_flagged beats [] f = None
best_flagged beats (v ∷ vs) [] = None
best_flagged beats (v ∷ vs) (true ∷ fs) = Some (better beats v (best_flagged beats vs fs))
best_flagged beats (v ∷ vs) (false ∷ fs) = best_flagged beats vs fs

abbrev pub or_zero : Option ℤ → ℤ
or_zero None = pos 0
or_zero (Some v) = v

-- 0 where no row is marked
abbrev pub least_of : List ℤ → List Bool → ℤ
least_of values f = or_zero (best_flagged int_lt values f)

abbrev pub greatest_of : List ℤ → List Bool → ℤ
greatest_of values f = or_zero (best_flagged (λ v w. int_lt w v) values f)

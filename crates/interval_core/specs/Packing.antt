-- Unpacking and packing, on one attribute and on a list of attributes.
--     An interval attribute of things X is what reads its interval and what puts another in its place. So one definition
--     serves the rows of a relation at attribute positions, and labelled boxes at side numbers.
use Rattle.std.specs.Prelude.{ℤ, pos, ◌+ℤ◌, ◌-ℤ◌, int_le, Bool, not, ◌&&◌, List, [], ◌∷◌, map, filter, flat_map}
use Rattle.std.specs.List.{list_all}
use Rattle.std.specs.declared.cmp.Ordering.{Ordering}
use Rattle.interval_core.specs.Members.{Span, members, at_point}
use Rattle.base_core.specs.Sets.{in_order, has}

-- an interval attribute of X: its interval, and the same X with another interval
pub record Side (X : Type 0) : Type 0 where
  pub of : X → Span
  pub put : X → Span → X

module _ {X : Type 0} (cmp : X → X → Ordering) where
  -- for each x and each member of its interval, x with that point alone
  abbrev pub unpack1 : Side X → List X → List X
  unpack1 a r = in_order cmp (flat_map (λ x. map (λ p. a.put x (at_point p)) (members (a.of x))) r)

  -- whether y with the one point p is in r
  abbrev pub has_at : Side X → List X → X → ℤ → Bool
  has_at a r y p = has cmp r (a.put y (at_point p))

  -- y has an interval; at each member of it y is in r; and at the numbers before and after it y is not
  abbrev pub is_longest : Side X → List X → X → Bool
  is_longest a r y =
      int_le (a.of y).0 (a.of y).1 && (list_all (has_at a r y) (members (a.of y))
      && (not (has_at a r y ((a.of y).0 -ℤ pos 1)) && not (has_at a r y ((a.of y).1 +ℤ pos 1))))

  -- each x of r with an interval that begins at a point of r and ends at one
  abbrev pub spanned : Side X → List X → List X
  spanned a r = flat_map (λ x. map (λ z. a.put x ((a.of x).0, (a.of z).1)) r) r

  -- of a set in which the attribute is one point each: all that holds a longest run of its points
  abbrev pub pack1 : Side X → List X → List X
  pack1 a r = in_order cmp (filter (is_longest a r) (spanned a r))

  -- on each attribute of the list in turn
  abbrev pub unpack : List (Side X) → List X → List X
  unpack [] r = r
  unpack (a ∷ rest) r = unpack rest (unpack1 a r)

  abbrev pub pack_each : List (Side X) → List X → List X
  pack_each [] r = r
  pack_each (a ∷ rest) r = pack_each rest (pack1 a r)

  -- unpacked on all attributes of the list, and then packed on the first, the second, and so on
  abbrev pub pack : List (Side X) → List X → List X
  pack sides r = pack_each sides (unpack sides r)

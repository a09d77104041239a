-- The printing order of values, by their parts.
use Rattle.std.proofs.Common.{◌≡◌, ℕ, ◌<◌, pos, ◌<ℤ◌, List, [], ◌∷◌, map, refl, sym, ap, ap₂, Ordering, Less, Equal, Greater, arith}
use Rattle.std.specs.Ordering.{nat_cmp, int_cmp, ordering_then, MatchOrdering}
use Rattle.std.specs.Cmp.{int_cmp_is}
use Rattle.std.specs.Cmp.Lexicographic.{slice_cmp}
use Rattle.std.proofs.lemmas.Cmp.{ranked}
use Rattle.std.proofs.lemmas.Int.{ints}
use Rattle.base_core.proofs.OrderingLemmas.{then-Equal}
use Rattle.interval_core.specs.Members.{Span}
use Rattle.point_core.specs.Points.{Line, integers, days, values_of, seconds}
use Rattle.value_core.specs.Values.{interval, value_cmp, line_cmp, span_cmp}

then_assoc : (q r s : Ordering) → ordering_then q (ordering_then r s) ≡ ordering_then (ordering_then q r) s
then_assoc Less r s = refl
then_assoc Equal r s = refl
then_assoc Greater r s = refl

as_integers : (x y : ℕ) (r : Ordering) → MatchOrdering r (x < y) (x ≡ y) (y < x) → MatchOrdering r (pos x <ℤ pos y) (pos x ≡ pos y) (pos y <ℤ pos x)
as_integers x y Less h = omega (arith, ints)
as_integers x y Equal h = ap pos h
as_integers x y Greater h = omega (arith, ints)

int_cmp-pos : (x y : ℕ) → int_cmp (pos x) (pos y) ≡ nat_cmp x y
int_cmp-pos x y = sym (int_cmp_is (pos x) (pos y) (nat_cmp x y) (as_integers x y (nat_cmp x y) (ranked x y (nat_cmp x y) refl)))

pub texts_cmp : (a b : List ℕ) → slice_cmp int_cmp (map pos a) (map pos b) ≡ slice_cmp nat_cmp a b
texts_cmp [] [] = refl
texts_cmp [] (y ∷ b) = refl
texts_cmp (x ∷ a) [] = refl
texts_cmp (x ∷ a) (y ∷ b) = ap₂ ordering_then (int_cmp-pos x y) (texts_cmp a b)

-- intervals by their lines and then their ends
pub intervals_cmp : (l m : Line) (i j : Span) → value_cmp (interval l i) (interval m j) ≡ ordering_then (line_cmp l m) (span_cmp i j)
intervals_cmp integers integers i j = ap (ordering_then (int_cmp i.0 j.0)) (then-Equal (int_cmp i.1 j.1))
intervals_cmp integers seconds i j = refl
intervals_cmp days seconds i j = refl
intervals_cmp (values_of n) seconds i j = refl
intervals_cmp seconds integers i j = refl
intervals_cmp seconds days i j = refl
intervals_cmp seconds (values_of n) i j = refl
intervals_cmp seconds seconds i j = ap (ordering_then (int_cmp i.0 j.0)) (then-Equal (int_cmp i.1 j.1))
intervals_cmp integers days i j = refl
intervals_cmp integers (values_of n) i j = refl
intervals_cmp days integers i j = refl
intervals_cmp days days i j = ap (ordering_then (int_cmp i.0 j.0)) (then-Equal (int_cmp i.1 j.1))
intervals_cmp days (values_of n) i j = refl
intervals_cmp (values_of n) integers i j = refl
intervals_cmp (values_of n) days i j = refl
intervals_cmp (values_of m) (values_of n) i j =
    let ends = ap (ordering_then (int_cmp i.0 j.0)) (then-Equal (int_cmp i.1 j.1)) in
    ap₂ ordering_then (sym (then-Equal (int_cmp (pos m) (pos n)))) ends

-- lists of what f makes, by what they are made of
pub slice_cmp-map : {X Y : Type 0} (f : X → Y) (cmp : Y → Y → Ordering) (xs ys : List X) → slice_cmp (λ x y. cmp (f x) (f y)) xs ys ≡ slice_cmp cmp (map f xs) (map f ys)
slice_cmp-map f cmp [] [] = refl
slice_cmp-map f cmp [] (y ∷ ys) = refl
slice_cmp-map f cmp (x ∷ xs) [] = refl
slice_cmp-map f cmp (x ∷ xs) (y ∷ ys) = ap (ordering_then (cmp (f x) (f y))) (slice_cmp-map f cmp xs ys)

-- The derived tests and orders of points and types.
use Rattle.std.proofs.Common.{◌≡◌, ◌↔◌, ℕ, ℤ, pos, IsTrue, arith, ap, refl}
use Rattle.std.specs.declared.cmp.Ordering.{Ordering}
use Rattle.std.specs.declared.cmp.Ordering.TheVariants.{Less, Equal, Greater}
use Rattle.std.specs.Ordering.{nat_cmp, int_cmp, ordering_then}
use Rattle.std.specs.Cmp.{IsTotalOrder}
use Rattle.std.proofs.lemmas.Cmp.{ranked, int_ranked}
use Rattle.std.proofs.lemmas.Int.{ints}
use Rattle.point_core.specs.declared.any_type.AnyPoint.{AnyPoint}
use Rattle.point_core.specs.declared.any_type.AnyPoint.TheVariants.{Integer, Date, Ordinal, Moment}
use Rattle.point_core.specs.declared.any_type.AnyType.{AnyType}
use Rattle.point_core.specs.Points.{number, line}
use Rattle.point_core.specs.Orders.{point_cmp, point_eq, type_eq}
use Rattle.point_core.specs.contracts.any_type.AnyPointOrd.TheImpl.Laws.{total-law}

-- ---- what ties is equal

pub nat_same : (a b : ℕ) → nat_cmp a b ≡ Equal → a ≡ b
nat_same a b e = rw e at (ranked a b (nat_cmp a b) refl)

pub int_same : (a b : ℤ) → int_cmp a b ≡ Equal → a ≡ b
int_same a b e = rw e at (int_ranked a b (int_cmp a b) refl)

pub then_same : (o p : Ordering) → ordering_then o p ≡ Equal → (o ≡ Equal) × (p ≡ Equal)
then_same Less p e = cc
then_same Equal p e = (refl, e)
then_same Greater p e = cc

-- points that tie in the derived order are equal
pub point_same : (a b : AnyPoint) → point_cmp a b ≡ Equal → a ≡ b
point_same (Integer a) (Integer b) e = let h : int_cmp a b ≡ Equal = e in ap Integer (int_same a b h)
point_same (Date a) (Date b) e = let h : int_cmp a b ≡ Equal = e in ap Date (int_same a b h)
point_same (Ordinal p a) (Ordinal q b) e =
    let h : ordering_then (nat_cmp p q) (nat_cmp a b) ≡ Equal = e in
    let k = then_same (nat_cmp p q) (nat_cmp a b) h in
    let x = nat_same p q k.0 in
    let y = nat_same a b k.1 in
    cc
point_same (Moment a) (Moment b) e = let h : int_cmp a b ≡ Equal = e in ap Moment (int_same a b h)
point_same (Integer a) (Date b) e = cc
point_same (Integer a) (Ordinal q b) e = cc
point_same (Date a) (Integer b) e = cc
point_same (Date a) (Ordinal q b) e = cc
point_same (Ordinal p a) (Integer b) e = cc
point_same (Ordinal p a) (Date b) e = cc
point_same (Integer a) (Moment b) e = cc
point_same (Date a) (Moment b) e = cc
point_same (Ordinal p a) (Moment b) e = cc
point_same (Moment a) (Integer b) e = cc
point_same (Moment a) (Date b) e = cc
point_same (Moment a) (Ordinal q b) e = cc

pub point_total : IsTotalOrder point_cmp
point_total = total-law

-- `==` decides equality
pub point_eq_decides : (a b : AnyPoint) → IsTrue (point_eq a b) ↔ (a ≡ b)
point_eq_decides a b = grind arith

pub type_eq_decides : (a b : AnyType) → IsTrue (type_eq a b) ↔ (a ≡ b)
type_eq_decides a b = grind arith

-- ---- the derived orders in other words

-- points of one line are in the order of their numbers
pub point_cmp_line : (a b : AnyPoint) → line a ≡ line b → point_cmp a b ≡ int_cmp (number a) (number b)
point_cmp_line (Integer a) (Integer b) e = refl
point_cmp_line (Date a) (Date b) e = refl
point_cmp_line (Ordinal p a) (Ordinal q b) e =
    let same : p ≡ q = cc in
    grind (arith, ints, same, ranked p q (nat_cmp p q) refl, ranked a b (nat_cmp a b) refl, int_ranked (pos a) (pos b) (int_cmp (pos a) (pos b)) refl)
point_cmp_line (Moment a) (Moment b) e = refl
point_cmp_line (Integer a) (Date b) e = cc
point_cmp_line (Integer a) (Ordinal q b) e = cc
point_cmp_line (Date a) (Integer b) e = cc
point_cmp_line (Date a) (Ordinal q b) e = cc
point_cmp_line (Ordinal p a) (Integer b) e = cc
point_cmp_line (Ordinal p a) (Date b) e = cc
point_cmp_line (Integer a) (Moment b) e = cc
point_cmp_line (Date a) (Moment b) e = cc
point_cmp_line (Ordinal p a) (Moment b) e = cc
point_cmp_line (Moment a) (Integer b) e = cc
point_cmp_line (Moment a) (Date b) e = cc
point_cmp_line (Moment a) (Ordinal q b) e = cc

-- A scalar that writes a point writes it as a value.
use Rattle.std.proofs.Common.{ℤ, List, refl}
use Rattle.point_core.specs.declared.any_type.AnyType.{AnyType}
use Rattle.point_core.specs.Points.{line_of}
use Rattle.utd_syntax.specs.Plain as syntax
use Rattle.utd_syntax.specs.Plain.{SignP, PrimaryP}
use Rattle.value_core.specs.declared.kind.Kind.TheVariants.{Point}
use Rattle.value_core.specs.declared.list.OrdinalNames.{OrdinalNames}
use Rattle.value_core.specs.Values.{point}
use Rattle.constant_laws.specs.Constants.{alone, PrimaryPoint, WritesPoint, PrimaryWrites, SignWrites, Writes}

primary-writes : (types : List OrdinalNames) (t : AnyType) (n : ℤ) (p : PrimaryP) → PrimaryPoint types t n p → PrimaryWrites types (Point t) (point (line_of t) n) p
primary-writes types t n (syntax.IntegerLiteral at bytes) h = (t, n, h, refl, refl)
primary-writes types t n (syntax.DateLiteral at quoted bytes) h = (t, n, h, refl, refl)
primary-writes types t n (syntax.MomentLiteral at quoted bytes) h = (t, n, h, refl, refl)
primary-writes types t n (syntax.Dotted name v) h = (t, n, h, refl, refl)
primary-writes types t n _ h = absurd h

sign-writes : (types : List OrdinalNames) (t : AnyType) (n : ℤ) (x : SignP) → WritesPoint types t n x → SignWrites types (Point t) (point (line_of t) n) x
sign-writes types t n (syntax.NegativeInteger at digits bytes) h = (t, n, h, refl, refl)
sign-writes types t n (syntax.Negate at x) h = absurd h
sign-writes types t n (syntax.OnePrimary p) h = primary-writes types t n p h

pub point-writes : (types : List OrdinalNames) (t : AnyType) (n : ℤ) (x : SignP) → WritesPoint types t n x → Writes types (Point t) (point (line_of t) n) (alone x)
point-writes types t n x h = (x, refl, sign-writes types t n x h)

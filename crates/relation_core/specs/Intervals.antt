-- Positions of interval attributes.
--     type_of      the point type of an interval attribute
--     AreIntervals      different positions of interval attributes
use Rattle.std.specs.Prelude.{◌≡◌, ℕ, ◌<◌, List, length, nat_eq}
use Rattle.std.specs.List.{All, IsDistinct}
use Rattle.point_core.specs.declared.any_type.AnyType.{AnyType}
use Rattle.point_core.specs.declared.any_type.AnyType.TheVariants.{Integer}
use Rattle.value_core.specs.declared.kind.Kind.{Kind}
use Rattle.value_core.specs.declared.kind.Kind.TheVariants.{Span}
use Rattle.value_core.specs.Values.{Heading}
use Rattle.relation_core.specs.Parts.{kind_at}

-- the point type of an interval attribute; no other one is asked
abbrev pub type_of : Kind → AnyType
type_of (Span t) = t
type_of _ = Integer

-- different positions of interval attributes
pub record AreIntervals (heading : Heading) (commalist : List ℕ) : Type 0 where
  pub within : All (λ (i : ℕ). i < length heading) commalist
  pub different : IsDistinct nat_eq commalist
  pub spans : All (λ (i : ℕ). kind_at heading i ≡ Span (type_of (kind_at heading i))) commalist

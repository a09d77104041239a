-- Kinds, names and headings that are written elsewhere, beside more ordinal types: they are the same.
--     kind-follows, attributes-follow, heading-follows      the typing follows
--     few-elsewhere      a refusal of too many attributes may stand anywhere
use Rattle.std.proofs.Common.{◌≡◌, List, [], ◌∷◌, ◌++◌, map, Ok, nat_le, length}
use Rattle.point_core.specs.declared.fault.Code.TheVariants.{E17}
use Rattle.point_core.specs.declared.fault.Place.{Place}
use Rattle.utd_syntax.specs.Plain as syntax
use Rattle.utd_syntax.specs.Plain.{KindP, AttributeP, HeadingP}
use Rattle.value_core.specs.declared.kind.Kind.TheVariants.{Point, Span}
use Rattle.value_core.specs.declared.list.OrdinalNames.{OrdinalNames}
use Rattle.value_core.specs.Limits.{most_attributes}
use Rattle.value_core.specs.Values.{Heading}
use Rattle.scalar_typing.specs.Names.{point_type}
use Rattle.scalar_typing.specs.Typings.{◌>>=◌}
use Rattle.relation_typing.specs.Attributes.{with_attribute, new_name, few_attributes}
use Rattle.relation_typing.specs.Headings.{kind_typed, attributes_typed, heading_typed}
use Rattle.place_laws.specs.Moved.{moved_word, moved_kind, moved_attribute, moved_heading}
use Rattle.row_typing_laws.specs.Followings.{Follows}
use Rattle.row_typing_laws.proofs.Parts.{given-follows, then-follows, check-again}
use Rattle.row_typing_laws.proofs.ElsewhereNames.{point-follows, new-word-follows}

-- a refusal of too many attributes may stand anywhere
pub few-elsewhere : (p q : Place) (attributes g : Heading) → few_attributes p attributes ≡ Ok g → few_attributes q attributes ≡ Ok g
few-elsewhere p q attributes g h = check-again p q E17 (nat_le (length attributes) most_attributes) attributes g h

module _ (f : Place → Place) (types more : List OrdinalNames) where
  pub kind-follows : (k : KindP) → Follows (λ t. t) (kind_typed types k) (kind_typed (types ++ more) (moved_kind f k))
  kind-follows (syntax.BooleanKind at) t h = h
  kind-follows (syntax.CharKind at) t h = h
  kind-follows (syntax.PointKind p) t h =
      then-follows (λ u. u) (λ u. u) (point_type types p) _ (λ u. Ok (Point u)) (λ u. Ok (Point u)) (point-follows f types more p) (λ u. given-follows (λ v. v) (Point u)) t h
  kind-follows (syntax.IntervalKind at p) t h =
      then-follows (λ u. u) (λ u. u) (point_type types p) _ (λ u. Ok (Span u)) (λ u. Ok (Span u)) (point-follows f types more p) (λ u. given-follows (λ v. v) (Span u)) t h

  pub attributes-follow : (before : Heading) (list : List AttributeP) → Follows (λ g. g) (attributes_typed types before list) (attributes_typed (types ++ more) before (map (moved_attribute f) list))
  attributes-follow before [] g h = h
  attributes-follow before (syntax.Attribute w k ∷ rest) g h =
      then-follows (λ u. u) (λ u. u) (kind_typed types k) (kind_typed (types ++ more) (moved_kind f k))
      (λ kind. new_name before w >>= (λ name. attributes_typed types (with_attribute before name kind) rest))
      (λ kind. new_name before (moved_word f w) >>= (λ name. attributes_typed (types ++ more) (with_attribute before name kind) (map (moved_attribute f) rest)))
      (kind-follows k)
      (λ kind. then-follows (λ u. u) (λ u. u) (new_name before w) (new_name before (moved_word f w)) _ _ (new-word-follows f before w)
      (λ name. attributes-follow (with_attribute before name kind) rest)) g h

  pub heading-follows : (x : HeadingP) → Follows (λ g. g) (heading_typed types x) (heading_typed (types ++ more) (moved_heading f x))
  heading-follows (syntax.Heading at list) g h =
      then-follows (λ u. u) (λ u. u) (attributes_typed types [] list) (attributes_typed (types ++ more) [] (map (moved_attribute f) list)) (few_attributes at)
      (few_attributes (f at)) (attributes-follow [] list) (λ all. few-elsewhere at (f at) all) g h

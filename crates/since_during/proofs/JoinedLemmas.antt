-- The expression of a history is typed wherever its two relvars can be joined.
--     AreJoined      how the headings of the two relvars belong together
--     joined-typed      then the expression is typed, over any rows of the since relvar's heading and up to any point
--     joined-from      it is typed only then
use Rattle.std.specs.Prelude.{◌≡◌, ℕ, List, [], ◌∷◌, ◌++◌, Some, slice_get, IsTrue, refl}
use Rattle.std.proofs.Common.{sym, ap, subst}
use Rattle.std.proofs.lemmas.Bool.{and_parts, and_from}
use Rattle.interval_core.specs.declared.selector.Ends.TheVariants.{Closed}
use Rattle.point_core.specs.declared.any_type.AnyType.{AnyType}
use Rattle.point_core.specs.declared.fault.Place.{Place}
use Rattle.value_core.specs.declared.kind.Kind.{Kind}
use Rattle.value_core.specs.declared.kind.Kind.TheVariants.{Point, Span}
use Rattle.value_core.specs.Headings.{IsHeadingOf}
use Rattle.value_core.specs.Values.{Name, Heading}
use Rattle.scalar_core.specs.declared.operators.PairOp.TheVariants.{Select}
use Rattle.scalar_core.specs.Expressions.{Expr, attribute, pair}
use Rattle.relation_core.specs.Agreement.{names_of, position_of}
use Rattle.tree_core.specs.Trees.{Tree, heading_of}
use Rattle.meaning_core.specs.Histories.{joined_history, with_attribute, all_but}
use Rattle.meaning_core.specs.Meanings.{names_at}
use Rattle.meaning_core.specs.Typing.{Headings, heading_named, IsScalar, IsExtension, IsList, IsProjection, IsTypedTree, Makes, are_in, not_named}
use Rattle.meaning_core.proofs.MadeLemmas.{Attribute}

pub record AreJoined (over : AnyType) (p i : Name) (since during : Heading) : Type 0 where
  pub listed : IsList during (position_of during i ∷ [])
  pub part : IsTrue (are_in during (names_at during (position_of during i ∷ [])) during)
  pub point : (name : Name) × (slice_get since (position_of since p) ≡ Some (name, Point over))
  pub wide : IsHeadingOf ((i, Span over) ∷ not_named (i ∷ []) since) (with_attribute since i (Span over))
  pub narrow : IsProjection (with_attribute since i (Span over)) during (all_but (position_of (with_attribute since i (Span over)) p) (with_attribute since i (Span over)))

module _ (sizes : List ℕ) (headings : Headings) (over : AnyType) (p i d : Name) (since during : Heading) where
  -- the interval from the point of a row
  abbrev lasting : Place → Expr → Expr
  lasting at e = pair (Select Closed over) at (attribute at (position_of since p)) e

  pub joined-typed : AreJoined over p i since during → heading_named headings d ≡ Some during → (place at : Place) (e : Expr) (t : Tree) → IsScalar sizes since e (Point over)
      → IsTypedTree sizes headings t → heading_of t ≡ since → IsTypedTree sizes headings (joined_history place at over p i d since during e t)
  joined-typed j named place at e t point typed headed =
      let scalar : IsScalar sizes since (lasting at e) (Span over) = record { declared = point.declared; typed = (Point over, Point over, j.point, point.typed, (refl, refl, refl)) } in
      let made : IsExtension sizes since (with_attribute since i (Span over)) ((i, lasting at e) ∷ []) = record { made = (i, Span over) ∷ []; makes = (refl, scalar, tt); headed = j.wide } in
      let extension : IsExtension sizes (heading_of t) (with_attribute since i (Span over)) ((i, lasting at e) ∷ []) =
      subst (λ (h : Heading). IsExtension sizes h (with_attribute since i (Span over)) ((i, lasting at e) ∷ [])) (sym headed) made in
      let parts = are_in during (names_at during (position_of during i ∷ [])) during in
      ((named, ((typed, extension), j.narrow), (refl, refl)), j.listed, refl, and_from parts parts j.part j.part)

  -- ---- and the other way

  module _ (at : Place) (e : Expr) (from : Heading) where
    span-of : (made : Heading) → Makes sizes from ((i, lasting at e) ∷ []) made
        → ((name : Name) × (slice_get from (position_of since p) ≡ Some (name, Point over))) × (made ≡ (i, Span over) ∷ [])
    span-of [] h = absurd h
    span-of (a ∷ b ∷ more) h = absurd h.2
    span-of (a ∷ []) h =
        let kinds = h.1.typed in
        let point = kinds.2 in
        let over-is = kinds.4 in (
          (point.0, subst (λ (k : Kind). slice_get from (position_of since p) ≡ Some (point.0, k)) over-is.0 point.1),
          ap (λ (z : Attribute). z ∷ []) (pair-of a h.0 over-is.2),
        )
      where
        pair-of : (a : Attribute) → i ≡ a.0 → a.1 ≡ Span over → a ≡ (i, Span over)
        pair-of a f g = λ n. (sym f n, g n)

  pub joined-from : (place at : Place) (e : Expr) (t : Tree) → heading_of t ≡ since → IsTypedTree sizes headings (joined_history place at over p i d since during e t) → AreJoined over p i since during
  joined-from place at e t headed typed =
      let wide = with_attribute since i (Span over) in
      let extension = subst (λ (h : Heading). IsExtension sizes h wide ((i, lasting at e) ∷ [])) headed typed.0.1.0.1 in
      let of = span-of at e since extension.made extension.makes in
      let parts = are_in during (names_at during (position_of during i ∷ [])) during in
      record {
        listed = typed.1;
        part = (and_parts parts parts typed.3).0;
        point = of.0;
        wide = subst (λ (made : Heading). IsHeadingOf (made ++ not_named (names_of made) since) wide) of.1 extension.headed;
        narrow = typed.0.1.1;
      }

-- Operators between two typed relations are typed for evaluation, and so are projections and restrictions.
use Rattle.std.specs.Prelude.{◌≡◌, ◌≤◌, ℕ, Bool, true, false, not, ◌||◌, List, [], ◌∷◌, length, Ok, Err, IfOk, IsTrue, refl}
use Rattle.std.proofs.Common.{sym, subst}
use Rattle.std.specs.List.{All}
use Rattle.std.specs.Str.{bytes_eq}
use Rattle.std.proofs.lemmas.Bool.{true≢false, and_parts}
use Rattle.point_core.specs.declared.fault.Place.{Place}
use Rattle.point_core.specs.declared.fault.Code.TheVariants.{E12, E13}
use Rattle.point_core.specs.Faults.{OrFault}
use Rattle.utd_syntax.specs.Plain.{ScalarP, ProjectionP}
use Rattle.value_core.specs.declared.kind.Kind.{Kind}
use Rattle.value_core.specs.declared.kind.Kind.TheVariants.{Truth}
use Rattle.value_core.specs.declared.list.OrdinalNames.{OrdinalNames}
use Rattle.value_core.specs.Limits.{most_attributes}
use Rattle.value_core.specs.Values.{Name, Heading}
use Rattle.scalar_core.specs.Expressions.{Expr}
use Rattle.scalar_core.specs.KindOf.{same_kind}
use Rattle.relation_core.specs.Joins.{joined_heading, KindAgrees, HaveEqualKinds}
use Rattle.tree_core.specs.Trees.{Tree, heading_of}
use Rattle.tree_core.specs.declared.tree.InfixWord.{InfixWord}
use Rattle.tree_core.specs.declared.tree.InfixWord.TheVariants.{Union, Intersect, Minus, Join, Matching, NotMatching}
use Rattle.scalar_typing.specs.Typings.{◌>>=◌}
use Rattle.scalar_typing.specs.Scalars.{typed_scalar}
use Rattle.scalar_typing.proofs.SoundLemmas.{then-sound, any-given}
use Rattle.scalar_core.proofs.KindOfLemmas.{same_kind-same}
use Rattle.relation_typing.specs.Attributes.{few_attributes}
use Rattle.relation_typing.specs.Headings.{same_heading}
use Rattle.meaning_core.specs.Typing.{IsScalar, IsInfix, ArePositions, Headings, IsTypedTree}
use Rattle.meaning_core.specs.WellMade.{sizes_of, IsOrdinalType}
use Rattle.node_typing.specs.Infixes.{agrees_with, agrees_in, kinds_agree, infix_heading}
use Rattle.node_typing.specs.Nodes.{infix_rule, projection_rule, restriction_rule}
use Rattle.node_typing.specs.Positions.{check, positions_typed}
use Rattle.node_typing.specs.Projections.{projection_words, projection_kept}
use Rattle.node_typing.specs.Rows.{condition_typed}
use Rattle.type_check.proofs.ItemLemmas.{few-is_few}
use Rattle.type_check.proofs.LiteralLemmas.{same_heading-same}
use Rattle.type_check.proofs.PositionLemmas.{kept-positions}
use Rattle.declaration_typing.proofs.PositionLemmas.{held}
use Rattle.type_check.proofs.ScalarLemmas.{typed-is_scalar}

-- ---- kinds that agree

if-holds : (x y : Bool) → IsTrue (not x || y) → IsTrue x → IsTrue y
if-holds true y h e = h
if-holds false y h e = absurd (true≢false (sym e))

kind-agrees : (a : Name × Kind) (right : Heading) → IsTrue (agrees_in right a) → KindAgrees a right
kind-agrees a [] h = tt
kind-agrees a (b ∷ rest) h =
    let parts = and_parts (agrees_with a b) (agrees_in rest a) h in
    (λ e. same_kind-same a.1 b.1 (if-holds (bytes_eq a.0 b.0) (same_kind a.1 b.1) parts.0 e), kind-agrees a rest parts.1)

kinds-agree : (left right : Heading) → IsTrue (kinds_agree left right) → HaveEqualKinds left right
kinds-agree [] right h = tt
kinds-agree (a ∷ rest) right h =
    let parts = and_parts (agrees_in right a) (kinds_agree rest right) h in
    (kind-agrees a right parts.0, kinds-agree rest right parts.1)

-- ---- between two relations

same-sound : (place : Place) (left right : Heading) → IfOk (check place E13 (same_heading left right) >>= (λ same. Ok left)) (λ h. (left ≡ right) × (h ≡ left))
same-sound place left right =
    then-sound (λ _. IsTrue (same_heading left right)) (λ h. (left ≡ right) × (h ≡ left)) (check place E13 (same_heading left right)) _ (held place E13 (same_heading left right))
    (λ _ same. (same_heading-same left right same, refl))

agree-sound : (place : Place) (left right : Heading) → IfOk (check place E12 (kinds_agree left right) >>= (λ agree. Ok left)) (λ h. HaveEqualKinds left right × (h ≡ left))
agree-sound place left right =
    then-sound (λ _. IsTrue (kinds_agree left right)) (λ h. HaveEqualKinds left right × (h ≡ left)) (check place E12 (kinds_agree left right)) _ (held place E12 (kinds_agree left right))
    (λ _ agree. (kinds-agree left right agree, refl))

join-sound : (place : Place) (left right : Heading) → IfOk (infix_heading place Join left right) (IsInfix Join left right)
join-sound place left right =
    then-sound (λ _. IsTrue (kinds_agree left right)) (IsInfix Join left right) (check place _ (kinds_agree left right)) _ (held place _ (kinds_agree left right)) (λ _ agree.
    few (few_attributes place (joined_heading left right)) (kinds-agree left right agree) (few-is_few place (joined_heading left right)))
  where
    few : (r : OrFault Heading) → HaveEqualKinds left right → IfOk r (λ (to : Heading). (to ≡ joined_heading left right) × (length (joined_heading left right) ≤ most_attributes))
        → IfOk r (λ (h : Heading). HaveEqualKinds left right × (h ≡ joined_heading left right) × (length h ≤ most_attributes))
    few (Ok to) kinds h = (kinds, h.0, subst (λ (z : Heading). length z ≤ most_attributes) (sym h.0) h.1)
    few (Err e) kinds h = tt

pub infix-heading : (place : Place) (word : InfixWord) (left right : Heading) → IfOk (infix_heading place word left right) (IsInfix word left right)
infix-heading place Union left right = same-sound place left right
infix-heading place Intersect left right = same-sound place left right
infix-heading place Minus left right = same-sound place left right
infix-heading place Join left right = join-sound place left right
infix-heading place Matching left right = agree-sound place left right
infix-heading place NotMatching left right = agree-sound place left right

pub infix-sound : (sizes : List ℕ) (headings : Headings) (place : Place) (word : InfixWord) (l r : Tree) → IsTypedTree sizes headings l → IsTypedTree sizes headings r
    → IfOk (infix_rule place word l r) (IsTypedTree sizes headings)
infix-sound sizes headings place word l r left right =
    then-sound (IsInfix word (heading_of l) (heading_of r)) (IsTypedTree sizes headings) (infix_heading place word (heading_of l) (heading_of r)) _
    (infix-heading place word (heading_of l) (heading_of r)) (λ h is. (left, right, is))

-- ---- projections

pub kept-sound : (p : ProjectionP) (from : Heading) → IfOk (projection_kept p from) (ArePositions from)
kept-sound p from =
    then-sound (λ _. Unit {0}) (ArePositions from) (positions_typed from [] (projection_words p)) _ (any-given (positions_typed from [] (projection_words p)))
    (λ named _. kept-positions _ named from)

pub projection-sound : (sizes : List ℕ) (headings : Headings) (p : ProjectionP) (t : Tree) → IsTypedTree sizes headings t → IfOk (projection_rule p t) (IsTypedTree sizes headings)
projection-sound sizes headings p t typed =
    then-sound (ArePositions (heading_of t)) (IsTypedTree sizes headings) (projection_kept p (heading_of t)) _ (kept-sound p (heading_of t))
    (λ kept at. (typed, record { positions = at; headed = refl }))

-- ---- restrictions

module _ (types : List OrdinalNames) (ordinals : All IsOrdinalType types) where
  pub condition-sound : (place : Place) (from : Heading) (s : ScalarP) → IfOk (condition_typed types place from s) (λ (c : Expr). IsScalar (sizes_of types) from c Truth)
  condition-sound place from s =
      then-sound (λ (e : Expr × Kind). IsScalar (sizes_of types) from e.0 e.1) (λ (c : Expr). IsScalar (sizes_of types) from c Truth) (typed_scalar types from s) _
      (typed-is_scalar types ordinals from s) (λ e is.
      then-sound (λ _. IsTrue (same_kind e.1 Truth)) (λ (c : Expr). IsScalar (sizes_of types) from c Truth) (check place _ (same_kind e.1 Truth)) _ (held place _ (same_kind e.1 Truth))
      (λ _ truth. subst (λ (k : Kind). IsScalar (sizes_of types) from e.0 k) (same_kind-same e.1 Truth truth) is))

  pub restriction-sound : (headings : Headings) (place : Place) (s : ScalarP) (t : Tree) → IsTypedTree (sizes_of types) headings t
      → IfOk (restriction_rule types place s t) (IsTypedTree (sizes_of types) headings)
  restriction-sound headings place s t typed =
      then-sound (λ (c : Expr). IsScalar (sizes_of types) (heading_of t) c Truth) (IsTypedTree (sizes_of types) headings) (condition_typed types place (heading_of t) s) _
      (condition-sound place (heading_of t) s) (λ c is. (typed, record { condition = is; headed = refl }))

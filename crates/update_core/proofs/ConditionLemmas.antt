-- The conditions of changes are typed, and sweepable for the attributes on which the change works point by point.
use Rattle.std.specs.Prelude.{◌≡◌, ℕ, ◌<◌, true, false, ◌||◌, List, [], ◌∷◌, map, length, nat_eq, Option, Some, None, is_none, IsTrue, refl}
use Rattle.std.specs.List.{All, fold}
use Rattle.std.proofs.Common.{get_or, slice_get, sym, ap, ◌∙◌, subst, inl, inr}
use Rattle.std.proofs.lemmas.Bool.{and_from, or_from}
use Rattle.std.proofs.lemmas.List.Elements.{All-head, All-tail}
use Rattle.std.proofs.lemmas.Option.{slice_get-get_or}
use Rattle.std.specs.Cmp.{nat_eq_equiv}
use Rattle.base_core.proofs.MemberLemmas.{In-map, list_any-In}
use Rattle.base_core.proofs.SetLemmas.{In}
use Rattle.point_core.specs.declared.fault.Place.{Place}
use Rattle.value_core.specs.declared.kind.Kind.{Kind}
use Rattle.value_core.specs.declared.kind.Kind.TheVariants.{Truth, Char, Point, Span}
use Rattle.value_core.specs.Attributes.{among}
use Rattle.value_core.specs.Values.{Heading}
use Rattle.scalar_core.specs.Expressions.{Expr, constant, attribute, one, pair, and_expr, or_expr}
use Rattle.scalar_core.specs.Kinds.{IsTyped}
use Rattle.relation_core.specs.Parts.{no_attribute, kind_at}
use Rattle.tree_core.specs.Items.{PlainPortion}
use Rattle.meaning_core.specs.Histories.{type_of_kind, type_at}
use Rattle.scalar_core.specs.Sweeping.{names_any, unswept, first_place}
use Rattle.meaning_core.specs.Typing.{IsScalar, IsListIf, is_span, is_swept, has_declared}
use Rattle.meaning_core.specs.Updates.{swept_list, attributes_of_portion, IsPart, IsPortionIf, IsConditionIf, condition_is_swept}
use Rattle.update_core.specs.Updates.{condition_of, negated, lies_in, inside, inside_if}

-- ---- what holds of all

pub all-in : {X : Type 0} (P : X → Type 0) (xs : List X) (x : X) → All P xs → In x xs → P x
all-in P [] x all i = absurd i
all-in P (y ∷ ys) x all i = elim i [
  | inl e ↦ subst P (sym e) (All-head P y ys all)
  | inr j ↦ all-in P ys x (All-tail P y ys all) j
]

-- what holds of the parts of an AND and of it holds inside a portion
module _ (Q : Expr → Type 0) (place : Place) (heading : Heading) (both : (l r : Expr) → Q l → Q r → Q (and_expr place l r)) where
  fold-by : (ps : PlainPortion) (first : Expr) → Q first → ((p : ℕ × Expr) → In p ps → Q (lies_in place heading p)) → Q (fold (and_expr place) first (map (lies_in place heading) ps))
  fold-by [] first h each = h
  fold-by (p ∷ ps) first h each = fold-by ps (and_expr place first (lies_in place heading p)) (both first (lies_in place heading p) h (each p (inl refl))) (λ q i. each q (inr i))

  pub inside-by : (ps : PlainPortion) (c : Expr) → ((p : ℕ × Expr) → In p ps → Q (lies_in place heading p)) → Q c → Q (inside place heading ps c)
  inside-by [] c each h = h
  inside-by (p ∷ ps) c each h =
      both (fold (and_expr place) (lies_in place heading p) (map (lies_in place heading) ps)) c (fold-by ps (lies_in place heading p) (each p (inl refl)) (λ q i. each q (inr i))) h

-- ---- expressions that name no attribute

pub any-heading : (heading : Heading) (e : Expr) (kind : Kind) → IsTyped [] e kind → IsTyped heading e kind
any-heading heading (constant place k v) kind h = h
any-heading heading (attribute place i) kind h = let e = h.1 in absurd (cc)
any-heading heading (one op place e) kind h = (h.0, any-heading heading e h.0 h.1, h.2)
any-heading heading (pair op place l r) kind h = (h.0, h.1, any-heading heading l h.0 h.2, any-heading heading r h.1 h.3, h.4)
any-heading heading (and_expr place l r) kind h = (any-heading heading l Truth h.0, any-heading heading r Truth h.1, h.2)
any-heading heading (or_expr place l r) kind h = (any-heading heading l Truth h.0, any-heading heading r Truth h.1, h.2)

pub names-no : (commalist : List ℕ) (e : Expr) (kind : Kind) → IsTyped [] e kind → names_any commalist e ≡ false
names-no commalist (constant place k v) kind h = refl
names-no commalist (attribute place i) kind h = let e = h.1 in absurd (cc)
names-no commalist (one op place e) kind h = names-no commalist e h.0 h.1
names-no commalist (pair op place l r) kind h = or_from (names_any commalist l) (names_any commalist r) (names-no commalist l h.0 h.2) (names-no commalist r h.1 h.3)
names-no commalist (and_expr place l r) kind h = or_from (names_any commalist l) (names_any commalist r) (names-no commalist l Truth h.0) (names-no commalist r Truth h.1)
names-no commalist (or_expr place l r) kind h = or_from (names_any commalist l) (names_any commalist r) (names-no commalist l Truth h.0) (names-no commalist r Truth h.1)

-- ---- typed conditions

module _ (sizes : List ℕ) (heading : Heading) (place : Place) where
  abbrev pub IsCondition : Expr → Type 0
  IsCondition c = IsScalar sizes heading c Truth

  both-typed : (l r : Expr) → IsCondition l → IsCondition r → IsCondition (and_expr place l r)
  both-typed l r h k = record { declared = and_from (has_declared sizes l) (has_declared sizes r) h.declared k.declared; typed = (h.typed, k.typed, refl) }

  pub negated-typed : (c : Expr) → IsCondition c → IsCondition (negated place c)
  negated-typed c h = record { declared = h.declared; typed = (Truth, h.typed, (refl, refl)) }

  pub condition-typed : (o : Option Expr) → IsConditionIf sizes heading o → IsCondition (condition_of place o)
  condition-typed None h = record { declared = refl; typed = (refl, refl) }
  condition-typed (Some c) h = h

  span-of : (k : Kind) → IsTrue (is_span k) → k ≡ Span (type_of_kind k)
  span-of Truth h = absurd (cc)
  span-of Char h = absurd (cc)
  span-of (Point t) h = absurd (cc)
  span-of (Span t) h = refl

  part-typed : (p : ℕ × Expr) → p.0 < length heading → IsPart sizes heading p → IsCondition (lies_in place heading p)
  part-typed p l h =
      let t = type_at heading p.0 in
      let is : kind_at heading p.0 ≡ Span t = span-of (kind_at heading p.0) h.0 in
      let a = get_or heading p.0 no_attribute in
      let read : slice_get heading p.0 ≡ Some (a.0, Span t) = slice_get-get_or heading p.0 no_attribute l ∙ ap (λ (k : Kind). Some (a.0, k)) is in
      record {
        declared = h.1.declared;
        typed = (Span t, Span t, (a.0, read), subst (λ (k : Kind). IsTyped heading p.1 k) is (any-heading heading p.1 (kind_at heading p.0) h.1.typed), (refl, refl, refl));
      }

  inside-typed : (ps : PlainPortion) (c : Expr) → All (λ (i : ℕ). i < length heading) (attributes_of_portion ps) → All (IsPart sizes heading) ps → IsCondition c → IsCondition (inside place heading ps c)
  inside-typed ps c within parts h =
      inside-by IsCondition place heading both-typed ps c
      (λ p i. part-typed p (all-in (λ (j : ℕ). j < length heading) (attributes_of_portion ps) p.0 within ((In-map (λ (q : ℕ × Expr). q.0) p.0 ps).1 (p, i, refl))) (all-in (IsPart sizes heading) ps p parts i)) h

  pub change-typed : (commalist : Option (List ℕ)) (portion : Option PlainPortion) (c : Expr) → IsPortionIf sizes heading commalist portion → IsCondition c → IsCondition (inside_if place heading portion c)
  change-typed commalist None c is h = h
  change-typed None (Some []) c is h = absurd is
  change-typed None (Some (p ∷ ps)) c is h = inside-typed (p ∷ ps) c is.0.within is.1 h
  change-typed (Some commalist) (Some portion) c is h = absurd is

pub change-list : (sizes : List ℕ) (heading : Heading) (commalist : Option (List ℕ)) (portion : Option PlainPortion) → IsListIf heading commalist → IsPortionIf sizes heading commalist portion → IsListIf heading (swept_list commalist portion)
change-list sizes heading commalist None list is = list
change-list sizes heading None (Some []) list is = absurd is
change-list sizes heading None (Some (p ∷ ps)) list is = is.0
change-list sizes heading (Some commalist) (Some portion) list is = absurd is

-- ---- sweepable conditions

none-first : (places : List Place) → IsTrue (is_none (first_place places)) → places ≡ []
none-first [] h = refl
none-first (p ∷ places) h = absurd (cc)

module _ (commalist : List ℕ) (place : Place) where
  abbrev pub IsSwept : Expr → Type 0
  IsSwept c = unswept commalist c ≡ []

  pub swept-from : (c : Expr) → IsTrue (is_swept commalist c) → IsSwept c
  swept-from c h = none-first (unswept commalist c) h

  pub swept-to : (c : Expr) → IsSwept c → IsTrue (is_swept commalist c)
  swept-to c h = ap (λ places. is_none (first_place places)) h

  both-swept : (l r : Expr) → IsSwept l → IsSwept r → IsSwept (and_expr place l r)
  both-swept l r h k = rw (h, k) refl

  pub part-swept : (heading : Heading) (p : ℕ × Expr) → among commalist p.0 ≡ true → names_any commalist p.1 ≡ false → IsSwept (lies_in place heading p)
  part-swept heading p at names = rw (at, names) refl

pub member-among : (commalist : List ℕ) (i : ℕ) → In i commalist → among commalist i ≡ true
member-among commalist i h = (list_any-In (nat_eq i) commalist).1 (i, h, nat_eq_equiv.refl i)

abbrev pub IsSweptIf : Option (List ℕ) → Expr → Type 0
IsSweptIf None c = Unit {0}
IsSweptIf (Some commalist) c = unswept commalist c ≡ []

pub condition-swept : (commalist : Option (List ℕ)) (place : Place) (o : Option Expr) → IsTrue (condition_is_swept commalist o) → IsSweptIf commalist (condition_of place o)
condition-swept None place o h = tt
condition-swept (Some commalist) place None h = refl
condition-swept (Some commalist) place (Some c) h = swept-from commalist place c h

pub negated-swept : (commalist : Option (List ℕ)) (place : Place) (c : Expr) → IsSweptIf commalist c → IsSweptIf commalist (negated place c)
negated-swept None place c h = tt
negated-swept (Some commalist) place c h = h

inside-swept : (sizes : List ℕ) (heading : Heading) (place : Place) (ps : PlainPortion) (c : Expr) → All (IsPart sizes heading) ps
    → IsSwept (attributes_of_portion ps) place c → IsSwept (attributes_of_portion ps) place (inside place heading ps c)
inside-swept sizes heading place ps c parts h =
    let commalist = attributes_of_portion ps in
    inside-by (IsSwept commalist place) place heading (both-swept commalist place) ps c
    (λ p i. part-swept commalist place heading p (member-among commalist p.0 ((In-map (λ (q : ℕ × Expr). q.0) p.0 ps).1 (p, i, refl)))
    (names-no commalist p.1 (kind_at heading p.0) ((all-in (IsPart sizes heading) ps p parts i).1.typed))) h

pub change-swept : (sizes : List ℕ) (heading : Heading) (place : Place) (commalist : Option (List ℕ)) (portion : Option PlainPortion) (c : Expr) → IsPortionIf sizes heading commalist portion
    → IsSweptIf (swept_list commalist portion) c → IsSweptIf (swept_list commalist portion) (inside_if place heading portion c)
change-swept sizes heading place commalist None c is h = h
change-swept sizes heading place None (Some []) c is h = absurd is
change-swept sizes heading place None (Some (p ∷ ps)) c is h = inside-swept sizes heading place (p ∷ ps) c is.1 h
change-swept sizes heading place (Some commalist) (Some portion) c is h = absurd is

-- The positions of an operand that positions of its part stand for.
use Rattle.std.proofs.Common.{◌≡◌, inl, inr, ℕ, zero, suc, ◌<◌, Bool, true, false, List, [], ◌∷◌, map, length, get_or, refl, sym, ap, ap₂, ◌∙◌, subst, arith}
use Rattle.std.specs.Prelude.{nat_eq}
use Rattle.std.specs.Bool.{IsTrue}
use Rattle.std.specs.List.{All, AllByRecursion, IsDistinct}
use Rattle.std.specs.Ordering.{nat_cmp}
use Rattle.std.proofs.lemmas.Bool.{true≢false, eqb-true, eqb-false, eq-eqb}
use Rattle.std.proofs.lemmas.List.{get_or-map}
use Rattle.std.proofs.lemmas.List.Elements.{All-from_recursion}
use Rattle.base_core.proofs.SetLemmas.{In, Ascends}
use Rattle.base_core.proofs.MemberLemmas.{In-map, list_any-In}
use Rattle.base_core.proofs.SetOperatorLemmas.{AllAfter-In, same_tests}
use Rattle.base_core.proofs.OrderingLemmas.{nat_cmp-lt}
use Rattle.base_core.proofs.ListLemmas.{In-get_or, All-In}
use Rattle.value_core.specs.Attributes.{among}
use Rattle.value_core.specs.Values.{Heading}
use Rattle.value_core.specs.declared.kind.Kind.{Kind}
use Rattle.value_core.specs.declared.kind.Kind.TheVariants.{Span as SpanOf}
use Rattle.relation_core.specs.Parts.{no_attribute, kind_at, attributes_at}
use Rattle.u_set.specs.Boxes.{AreIntervals, type_of}
use Rattle.u_row.specs.Kept.{beneath}

-- ---- ascending positions differ

pub one_position : (kept : List ℕ) (i j : ℕ) → Ascends nat_cmp kept → i < length kept → j < length kept → get_or kept i 0 ≡ get_or kept j 0 → i ≡ j
one_position [] i j up l m e = absurd (omega arith)
one_position (k ∷ kept) zero zero up l m e = refl
one_position (k ∷ kept) zero (suc j) up l m e =
    let less : k < get_or kept j 0 = nat_cmp-lt k (get_or kept j 0) ((AllAfter-In nat_cmp k kept).0 up.0 (get_or kept j 0) (In-get_or kept j 0 (omega arith))) in
    absurd (omega (arith, less, e))
one_position (k ∷ kept) (suc i) zero up l m e =
    let less : k < get_or kept i 0 = nat_cmp-lt k (get_or kept i 0) ((AllAfter-In nat_cmp k kept).0 up.0 (get_or kept i 0) (In-get_or kept i 0 (omega arith))) in
    absurd (omega (arith, less, e))
one_position (k ∷ kept) (suc i) (suc j) up l m e = ap suc (one_position kept i j up.1 (omega arith) (omega arith) e)

-- a position is listed where it is a member
pub among_in : (commalist : List ℕ) (i : ℕ) → IsTrue (among commalist i) → In i commalist
among_in commalist i h =
    let w = (list_any-In (nat_eq i) commalist).0 h in
    let e : w.0 ≡ i = sym (eqb-true i w.0 w.2) in
    subst (λ k. In k commalist) e w.1

pub in_among : (commalist : List ℕ) (i : ℕ) → In i commalist → IsTrue (among commalist i)
in_among commalist i m = (list_any-In (nat_eq i) commalist).1 (i, m, eq-eqb i i refl)

pub in_all : {X : Type 0} (P : X → Type 0) (xs : List X) → All P xs → (x : X) → In x xs → P x
in_all P [] h x m = absurd m
in_all P (y ∷ ys) h x m = elim m [
  | inl e ↦ subst P (sym e) (h 0 y (omega arith))
  | inr n ↦ in_all P ys (λ j d l. h (suc j) d (omega arith)) x n
]

-- ---- positions of a part, and the positions beneath

module _ (from : Heading) (kept commalist : List ℕ) (within : All (λ (i : ℕ). i < length from) kept) (up : Ascends nat_cmp kept)
    (intervals : AreIntervals (attributes_at kept from) commalist) where
  below : (j : ℕ) → In j commalist → j < length kept
  below j m =
      let l = in_all (λ (i : ℕ). i < length (attributes_at kept from)) commalist intervals.within j m in
      subst (λ n. j < n) (same_many kept) l
    where
      same_many : (ks : List ℕ) → length (map (λ i. get_or from i no_attribute) ks) ≡ length ks
      same_many [] = refl
      same_many (k ∷ ks) = ap suc (same_many ks)

  -- what is listed of the part is listed beneath
  pub beneath_listed : (m : ℕ) → m < length kept → among commalist m ≡ among (beneath kept commalist) (get_or kept m 0)
  beneath_listed m l = same_tests (among commalist m) (among (beneath kept commalist) (get_or kept m 0)) (
    λ h. in_among (beneath kept commalist) (get_or kept m 0) ((In-map (λ j. get_or kept j 0) (get_or kept m 0) commalist).1 (m, among_in commalist m h, refl)),
    λ h.
        let w = (In-map (λ j. get_or kept j 0) (get_or kept m 0) commalist).0 (among_in (beneath kept commalist) (get_or kept m 0) h) in
        let e : w.0 ≡ m = sym (one_position kept m w.0 up l (below w.0 w.1) w.2) in
        in_among commalist m (subst (λ k. In k commalist) e w.1),
  )

  pub kind_beneath : (j : ℕ) → j < length kept → kind_at (attributes_at kept from) j ≡ kind_at from (get_or kept j 0)
  kind_beneath j l = ap (λ a. a.1) (get_or-map (λ i. get_or from i no_attribute) kept j 0 no_attribute l)

  beneath_apart : (js : List ℕ) (j : ℕ) → j < length kept → ((i : ℕ) → In i js → i < length kept) → AllByRecursion (λ k. nat_eq j k ≡ false) js
      → AllByRecursion (λ k. nat_eq (get_or kept j 0) k ≡ false) (map (λ i. get_or kept i 0) js)
  beneath_apart [] j l h d = tt
  beneath_apart (i ∷ js) j l h d = (
    differ (nat_eq (get_or kept j 0) (get_or kept i 0)) refl,
    beneath_apart js j l (λ k m. h k (inr m)) d.1,
  )
    where
      differ : (b : Bool) → nat_eq (get_or kept j 0) (get_or kept i 0) ≡ b → b ≡ false
      differ true e = absurd (eqb-false j i d.0 (one_position kept j i up l (h i (inl refl)) (eqb-true (get_or kept j 0) (get_or kept i 0) e)))
      differ false e = refl

  beneath_differ : (js : List ℕ) → ((i : ℕ) → In i js → i < length kept) → IsDistinct nat_eq js → IsDistinct nat_eq (map (λ i. get_or kept i 0) js)
  unfolding IsDistinct
  beneath_differ [] h d = tt
  beneath_differ (j ∷ js) h d = (beneath_apart js j (h j (inl refl)) (λ k m. h k (inr m)) d.0, beneath_differ js (λ k m. h k (inr m)) d.1)

  pub beneath_intervals : AreIntervals from (beneath kept commalist)
  beneath_intervals =
      let one : (i : ℕ) → In i (beneath kept commalist) → (i < length from) × (kind_at from i ≡ SpanOf (type_of (kind_at from i))) = λ i m.
      let w = (In-map (λ j. get_or kept j 0) i commalist).0 m in
      let l = below w.0 w.1 in
      let here : kind_at (attributes_at kept from) w.0 ≡ SpanOf (type_of (kind_at (attributes_at kept from) w.0)) =
      in_all (λ (j : ℕ). kind_at (attributes_at kept from) j ≡ SpanOf (type_of (kind_at (attributes_at kept from) j))) commalist intervals.spans w.0 w.1 in
      let there : kind_at from (get_or kept w.0 0) ≡ SpanOf (type_of (kind_at from (get_or kept w.0 0))) =
      subst (λ (k : Kind). k ≡ SpanOf (type_of k)) (kind_beneath w.0 l) here in (
        subst (λ k. k < length from) (sym w.2) (within w.0 0 l),
        subst (λ k. kind_at from k ≡ SpanOf (type_of (kind_at from k))) (sym w.2) there,
      ) in
      record {
        within = All-In (λ (i : ℕ). i < length from) (beneath kept commalist) (λ i m. (one i m).0);
        different = beneath_differ commalist below intervals.different;
        spans = All-In (λ (i : ℕ). kind_at from i ≡ SpanOf (type_of (kind_at from i))) (beneath kept commalist) (λ i m. (one i m).1);
      }

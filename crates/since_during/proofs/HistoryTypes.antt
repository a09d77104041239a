-- What HISTORY declares is typed: the headings of its relvars are declared, their constraints fit, and its view joins them.
use Rattle.std.specs.Prelude.{◌≡◌, ℕ, ◌<◌, ◌≤◌, Bool, true, false, not, ◌&&◌, ◌||◌, List, [], ◌∷◌, ◌++◌, length, nat_le, nat_eq, Some, slice_get, IsTrue, refl}
use Rattle.std.proofs.Common.{arith, sym, ap, ◌∙◌, subst, inl, inr, Ordering, Less, Equal, Greater}
use Rattle.std.specs.List.{list_all, list_any, IsDistinct}
use Rattle.std.specs.List.Sorted.{IsPermutation}
use Rattle.std.specs.Ordering.{nat_cmp}
use Rattle.std.specs.Str.{bytes_eq}
use Rattle.std.proofs.lemmas.Bool.{and_parts, and_from, eq-eqb, false_from_ne_true, le-leb}
use Rattle.std.proofs.lemmas.Cmp.{nat_cmp_total}
use Rattle.std.proofs.lemmas.List.{map-append}
use Rattle.std.proofs.lemmas.List.Elements.{All-cons, All-nil}
use Rattle.std.proofs.lemmas.List.Sorted.{IsPermutation-refl, IsPermutation-trans, IsPermutation-cons, IsPermutation-middle}
use Rattle.std.proofs.lemmas.Option.{slice_get-get_or}
use Rattle.base_core.specs.Sets.{placed, put}
use Rattle.base_core.proofs.MemberLemmas.{In-append, list_all-In, list_any-In}
use Rattle.base_core.proofs.SetLemmas.{In, Ascends}
use Rattle.base_core.proofs.SetOperatorLemmas.{is_set-Ascends}
use Rattle.base_core.proofs.ListLemmas.{All-In, IsDistinct-push, bytes_eq-sym}
use Rattle.point_core.specs.declared.any_type.AnyType.{AnyType}
use Rattle.value_core.specs.declared.constraint.Constraint.TheVariants.{Key, UKey, History}
use Rattle.value_core.specs.declared.kind.Kind.{Kind}
use Rattle.value_core.specs.declared.kind.Kind.TheVariants.{Point, Span}
use Rattle.value_core.specs.Attributes.{among}
use Rattle.value_core.specs.Headings.{has_name, IsHeadingOf}
use Rattle.value_core.specs.Limits.{most_attributes}
use Rattle.value_core.specs.Values.{Name, Heading, attribute_cmp, is_heading}
use Rattle.value_core.proofs.HeadingLemmas.{attribute_total}
use Rattle.relation_core.specs.Agreement.{names_of, position_of}
use Rattle.relation_core.specs.Parts.{no_attribute, kind_at, attributes_at}
use Rattle.relation_core.proofs.ApartLemmas.{apart_ascending, ascends_in_order}
use Rattle.relation_core.proofs.AttributeLemmas.{same_name, apart_no_repeat}
use Rattle.relation_core.proofs.FilterLemmas.{filter_all}
use Rattle.relation_core.proofs.HeadingLemmas.{heading_ascends}
use Rattle.tree_core.specs.declared.declaration.HistoryData.{HistoryData}
use Rattle.tree_core.specs.declared.tree.InfixWord.TheVariants.{Union}
use Rattle.tree_core.specs.Trees.{named}
use Rattle.meaning_core.specs.Histories.{with_attribute, all_but}
use Rattle.meaning_core.specs.Meanings.{positions_of, names_at}
use Rattle.meaning_core.specs.Typing.{IsList, are_in, is_declared, is_kind, is_span, is_type, not_named}
use Rattle.meaning_core.specs.WellMade.{AreAlike, AreDifferent, FitsHeadings, IsOver}
use Rattle.meaning_core.proofs.MadeLemmas.{Attribute}
use Rattle.update_core.proofs.PartLemmas.{infix-part}
use Rattle.since_during.specs.Histories.{IsHistoryData, since_heading, during_heading, key_in, span_of, rule_between}
use Rattle.since_during.proofs.HeadingLemmas.{put-in-order}
use Rattle.since_during.proofs.JoinedLemmas.{AreJoined}
use Rattle.since_during.proofs.MoreLemmas.{stands, not-there, from-more, old-more, own-more, more-other, all_but-ascends, all_but-within, without-one}
use Rattle.since_during.proofs.PlaceLemmas.{each-from, AreNamed, all-named, part-names, part-in, part-named, AreIn, places_in, are-different, kind-there, alike}
use Rattle.since_during.proofs.RoomLemmas.{room-one, room-two}

-- ---- headings

pub is-heading : (h : Heading) → Ascends attribute_cmp h → length h ≤ most_attributes → IsTrue (is_heading h)
is-heading h up few = and_from _ (nat_le (length h) most_attributes) ((is_set-Ascends attribute_cmp attribute_total h).1 up) (le-leb (length h) most_attributes few)

kinds-more : (sizes : List ℕ) (h : Heading) (n : Name) (k : Kind) → has_name h n ≡ false → IsTrue (list_all (λ a. is_kind sizes a.1) h) → IsTrue (is_kind sizes k)
    → IsTrue (list_all (λ a. is_kind sizes a.1) (with_attribute h n k))
kinds-more sizes h n k new old kind =
    (list_all-In (λ (a : Attribute). is_kind sizes a.1) (with_attribute h n k)).1 (λ a i. elim (from-more h n k new a i) [
      | inl e ↦ ap (λ (z : Attribute). is_kind sizes z.1) e ∙ kind
      | inr j ↦ (list_all-In (λ (b : Attribute). is_kind sizes b.1) h).0 old a j
    ])

pub put-permutes : {X : Type 0} (cmp : X → X → Ordering) (x : X) (xs : List X) → ((y : X) → In y xs → cmp x y ≡ Equal → ⊥) → IsPermutation (x ∷ xs) (put cmp x xs)
put-permutes cmp x [] h = IsPermutation-refl (x ∷ [])
put-permutes cmp x (y ∷ ys) h =
    elim (cmp x y) as (λ r. cmp x y ≡ r → IsPermutation (x ∷ y ∷ ys) (placed r x y ys (put cmp x ys))) [
      | Less ↦ λ e. IsPermutation-refl (x ∷ y ∷ ys)
      | Equal ↦ λ e. absurd (h y (inl refl) e)
      | Greater ↦ λ e. IsPermutation-trans (x ∷ y ∷ ys) (y ∷ x ∷ ys) (y ∷ put cmp x ys)
          (IsPermutation-middle (x ∷ []) y ys) (IsPermutation-cons y (x ∷ ys) (put cmp x ys) (put-permutes cmp x ys (λ z i. h z (inr i))))
    ] refl

-- the attribute and the others are the attributes of the heading with it
more-headed : (h : Heading) (n : Name) (k : Kind) → IsTrue (is_heading h) → has_name h n ≡ false → length (with_attribute h n k) ≤ most_attributes → IsHeadingOf ((n, k) ∷ not_named (n ∷ []) h) (with_attribute h n k)
more-headed h n k headed new few =
    let up = heading_ascends h headed in
    let apart : (b : Attribute) → In b h → attribute_cmp (n, k) b ≡ Equal → ⊥ = λ b i e. not-there h n k new b i (same_name (n, k) b e) in
    let others : not_named (n ∷ []) h ≡ h = filter_all (λ a. not (list_any (bytes_eq a.0) (n ∷ []))) h (λ z m.
    ap (λ (b : Bool). not (b || false)) (bytes_eq-sym z.0 n ∙ false_from_ne_true (bytes_eq n z.0) (not-there h n k new z m))) in
    subst (λ (l : Heading). IsHeadingOf ((n, k) ∷ l) (with_attribute h n k)) (sym others) (record {
      different = apart_no_repeat ((n, k) ∷ h) (apart, apart_ascending attribute_cmp h up);
      same = subst (λ (g : Heading). IsPermutation ((n, k) ∷ h) g) (put-in-order h n k headed) (put-permutes attribute_cmp (n, k) h apart);
      ordered = is-heading (with_attribute h n k) (ascends_in_order attribute_cmp attribute_total ((n, k) ∷ h)) few;
    })

-- ---- one interval attribute

listed-one : (g : Heading) (i : ℕ) (t : AnyType) → i < length g → kind_at g i ≡ Span t → IsList g (i ∷ [])
unfolding IsDistinct
listed-one g i t l e = record {
  within = All-cons (λ (j : ℕ). j < length g) i [] l (All-nil (λ (j : ℕ). j < length g));
  different = (tt, tt);
  spans = ap (λ (k : Kind). is_span k && true) e;
  few = omega arith;
}

module _ (h : HistoryData) (headed : IsTrue (is_heading h.heading)) (given : IsHistoryData h) where
  abbrev since : Heading
  since = since_heading h

  abbrev during : Heading
  during = during_heading h

  up : Ascends attribute_cmp h.heading
  up = heading_ascends h.heading headed

  since-up : Ascends attribute_cmp since
  since-up = ascends_in_order attribute_cmp attribute_total ((h.point, Point h.over) ∷ h.heading)

  during-up : Ascends attribute_cmp during
  during-up = ascends_in_order attribute_cmp attribute_total ((h.span, Span h.over) ∷ h.heading)

  since-headed : IsTrue (is_heading since)
  since-headed = is-heading since since-up (room-one h.heading h.point (Point h.over) given.few)

  during-headed : IsTrue (is_heading during)
  during-headed = is-heading during during-up (room-one h.heading h.span (Span h.over) given.few)

  module _ (sizes : List ℕ) (kinds : IsTrue (list_all (λ a. is_kind sizes a.1) h.heading)) (over : IsTrue (is_type sizes h.over)) where
    pub since-declared : IsTrue (is_declared sizes since)
    since-declared = and_from (is_heading since) (list_all (λ a. is_kind sizes a.1) since) since-headed (kinds-more sizes h.heading h.point (Point h.over) given.point kinds over)

    pub during-declared : IsTrue (is_declared sizes during)
    during-declared = and_from (is_heading during) (list_all (λ a. is_kind sizes a.1) during) during-headed (kinds-more sizes h.heading h.span (Span h.over) given.span kinds over)

  -- ---- the point and the interval

  point-at : (position_of since h.point < length since) × (slice_get since (position_of since h.point) ≡ Some (h.point, Point h.over))
  point-at =
      let at = stands since (h.point, Point h.over) since-up (own-more h.heading h.point (Point h.over) given.point up) in
      (at.0, slice_get-get_or since (position_of since h.point) no_attribute at.0 ∙ ap (λ (a : Attribute). Some a) at.1)

  point-kind : kind_at since (position_of since h.point) ≡ Point h.over
  point-kind = kind-there since since-up (h.point, Point h.over) (own-more h.heading h.point (Point h.over) given.point up)

  span-within : span_of h < length during
  span-within = (stands during (h.span, Span h.over) during-up (own-more h.heading h.span (Span h.over) given.span up)).0

  span-kind : kind_at during (span_of h) ≡ Span h.over
  span-kind = kind-there during during-up (h.span, Span h.over) (own-more h.heading h.span (Span h.over) given.span up)

  span-listed : IsList during (span_of h ∷ [])
  span-listed = listed-one during (span_of h) h.over span-within span-kind

  -- ---- the view

  pub history-joined : AreJoined h.over h.point h.span since during
  history-joined =
      let part = infix-part during (span_of h ∷ []) during-up (λ i m. elim m [ inl e ↦ subst (λ (j : ℕ). j < length during) (sym e) span-within | inr j ↦ absurd j ]) h.place Union
      (named h.place during h.during) (named h.place during h.during) refl refl in
      let wide = with_attribute since h.span (Span h.over) in
      let wide-up = ascends_in_order attribute_cmp attribute_total ((h.span, Span h.over) ∷ since) in
      let kept = all_but (position_of wide h.point) wide in
      let parts = are_in during (names_at during (span_of h ∷ [])) during in
      record {
        listed = span-listed;
        part = (and_parts parts parts part).0;
        point = (h.point, point-at.1);
        wide = more-headed since h.span (Span h.over) since-headed (more-other h.heading h.point (Point h.over) h.span given.span given.apart)
            (room-two h.heading h.point h.span (Point h.over) (Span h.over) given.few);
        narrow = record {
          positions = record {
            ascending = (is_set-Ascends nat_cmp nat_cmp_total kept).1 (all_but-ascends wide wide-up (position_of wide h.point));
            within = All-In (λ (j : ℕ). j < length wide) kept (all_but-within wide wide-up (position_of wide h.point));
          };
          headed = without-one h.heading h.point h.span (Point h.over) (Span h.over) up given.point given.span given.apart;
        };
      }

  -- ---- the constraints

  abbrev key : Heading
  key = attributes_at h.key h.heading

  key-in : AreIn key h.heading
  key-in a i = part-in h.heading up h.key given.key.within a i

  key-named : AreNamed key
  key-named = part-named h.heading up h.key given.key

  since-in : AreIn h.heading since
  since-in a i = old-more h.heading h.point (Point h.over) given.point up a i

  during-in : AreIn h.heading during
  during-in a i = old-more h.heading h.span (Span h.over) given.span up a i

  key-places : (g : Heading) → places_in g key ≡ key_in h g
  key-places g = ap (positions_of g) (part-names h.heading up h.key)

  since-key : AreDifferent since (key_in h since)
  since-key = subst (AreDifferent since) (key-places since) (are-different since since-up key (λ a i. since-in a (key-in a i)) key-named)

  during-key : AreDifferent during (key_in h during)
  during-key = subst (AreDifferent during) (key-places during) (are-different during during-up key (λ a i. during-in a (key-in a i)) key-named)

  pub since-fits : FitsHeadings since [] (Key (key_in h since))
  since-fits = since-key

  -- the key with the interval
  abbrev whole : Heading
  whole = key ++ (h.span, Span h.over) ∷ []

  whole-in : AreIn whole during
  whole-in a i = elim ((In-append a key ((h.span, Span h.over) ∷ [])).0 i) [
    | inl j ↦ during-in a (key-in a j)
    | inr j ↦ elim j [ inl e ↦ subst (λ (z : Attribute). In z during) (sym e) (own-more h.heading h.span (Span h.over) given.span up) | inr k ↦ absurd k ]
  ]

  whole-named : AreNamed whole
  whole-named =
      IsDistinct-push (λ (a b : Attribute). bytes_eq a.0 b.0) key (h.span, Span h.over) key-named
      (each-from (λ (a : Attribute). bytes_eq a.0 h.span ≡ false) key (λ a i. bytes_eq-sym a.0 h.span ∙ false_from_ne_true (bytes_eq h.span a.0) (not-there h.heading h.span (Span h.over) given.span a (key-in a i))))

  whole-places : places_in during whole ≡ key_in h during ++ span_of h ∷ []
  whole-places =
      ap (positions_of during) (map-append (λ (a : Attribute). a.0) key ((h.span, Span h.over) ∷ []))
      ∙ (map-append (position_of during) (names_of key) (h.span ∷ []) ∙ ap (λ (l : List ℕ). l ++ span_of h ∷ []) (key-places during))

  pub during-fits : FitsHeadings during [] (UKey (span_of h ∷ []) (key_in h during ++ span_of h ∷ []))
  during-fits =
      let all : List ℕ = key_in h during ++ span_of h ∷ [] in
      let member : In (span_of h) all = (In-append (span_of h) (key_in h during) (span_of h ∷ [])).1 (inr (inl refl)) in
      let is : among all (span_of h) ≡ true = (list_any-In (nat_eq (span_of h)) all).1 (span_of h, member, eq-eqb (span_of h) (span_of h) refl) in
      (span-listed, subst (AreDifferent during) whole-places (are-different during during-up whole whole-in whole-named), and_from (among all (span_of h)) true is refl)

  -- the rule
  key-alike : AreAlike during (key_in h during) since (key_in h since)
  key-alike =
      subst (λ (l : List ℕ). AreAlike during (key_in h during) since l) (key-places since)
      (subst (λ (l : List ℕ). AreAlike during l since (places_in since key)) (key-places during)
      (alike during since during-up since-up key (λ a i. during-in a (key-in a i)) (λ a i. since-in a (key-in a i))))

  pub rule-fits : FitsHeadings during since (History (rule_between h since during))
  rule-fits = (
    during-key,
    since-key,
    key-alike,
    are-different during during-up h.heading during-in (all-named h.heading up),
    are-different since since-up h.heading since-in (all-named h.heading up),
    alike during since during-up since-up h.heading during-in since-in,
    span-within,
    point-at.0,
    over-point,
  )
    where
      over-point : IsOver (kind_at during (span_of h)) (kind_at since (position_of since h.point))
      over-point = subst (λ (k : Kind). IsOver k (kind_at since (position_of since h.point))) (sym span-kind) point-kind

-- The heading of the attributes of two headings.
use Rattle.std.proofs.Common.{◌≡◌, ◌↔◌, inl, inr, ℕ, ◌+◌, ◌≤◌, ◌<◌, [], ◌∷◌, ◌++◌, length, refl, sym, ap, ap₂, ◌∙◌, subst, arith, Bool, true, false, not, if◌then◌else◌, Some, None}
use Rattle.std.specs.declared.cmp.Ordering.TheVariants.{Equal}
use Rattle.std.specs.Bool.{IsTrue}
use Rattle.std.specs.Cmp.Lexicographic.{texts_ties, nat_list_eq_equiv}
use Rattle.std.specs.List.{All, filter}
use Rattle.std.specs.List.Sorted.{IsPermutation}
use Rattle.std.specs.Ordering.{is_eq}
use Rattle.std.specs.Str.{bytes_eq}
use Rattle.std.proofs.lemmas.Bool.{true≢false, false_from_ne_true, not-true, not_from_false}
use Rattle.std.proofs.lemmas.List.{length-append}
use Rattle.std.proofs.lemmas.List.Folds.{list_any-append}
use Rattle.std.proofs.lemmas.List.Sorted.{IsPermutation-sym}
use Rattle.std.proofs.lemmas.Slice.Eq.{bytes_eq-Decides}
use Rattle.base_core.proofs.SetLemmas.{In, Ascends}
use Rattle.base_core.proofs.MemberLemmas.{In-append, In-map, In-filter, list_any-In, list_all-In}
use Rattle.base_core.proofs.SetOperatorLemmas.{In-permutation, length-in_order}
use Rattle.base_core.proofs.OrderingLemmas.{is_eq-Equal}
use Rattle.value_core.proofs.HeadingLemmas.{attribute_total}
use Rattle.value_core.specs.Headings.{has_name, repeat_after, first_repeat, most_attributes}
use Rattle.value_core.specs.Values.{Name, Heading, attribute_cmp, is_heading}
use Rattle.value_core.specs.declared.kind.Kind.{Kind}
use Rattle.relation_core.specs.Agreement.{names_of}
use Rattle.relation_core.specs.Joins.{joined_heading, KindAgrees, HaveEqualKinds}
use Rattle.relation_core.specs.Parts.{positions_in}
use Rattle.relation_core.proofs.AgreementLemmas.{positions_within}
use Rattle.relation_core.proofs.ApartLemmas.{Apart, Tells, from_in_order, into_in_order, length_apart, Apart-append, Apart-filter, apart_ascending, tells_ascending, ascends_in_order}
use Rattle.relation_core.proofs.FilterLemmas.{filter_all}
use Rattle.relation_core.proofs.HeadingLemmas.{one_list, neither, heading_ascends}

-- ---- names

pub name_is : (m n : Name) → IsTrue (bytes_eq m n) → m ≡ n
name_is m n e = (bytes_eq-Decides m n).0 e

pub same_name : (a b : Name × Kind) → attribute_cmp a b ≡ Equal → IsTrue (bytes_eq a.0 b.0)
same_name a b e = texts_ties a.0 b.0 ∙ ap is_eq e

pub ties_by_name : (a b : Name × Kind) → a.0 ≡ b.0 → attribute_cmp a b ≡ Equal
ties_by_name a b e = is_eq-Equal (attribute_cmp a b) (sym (texts_ties a.0 b.0) ∙ (ap (bytes_eq a.0) (sym e) ∙ nat_list_eq_equiv.refl a.0))

pub named_In : (heading : Heading) (a : Name × Kind) → In a heading → IsTrue (has_name heading a.0)
named_In heading a i = (list_any-In (λ b. bytes_eq b.0 a.0) heading).1 (a, i, nat_list_eq_equiv.refl a.0)

-- ---- kinds

kind_of_one : (a : Name × Kind) (right : Heading) (b : Name × Kind) → KindAgrees a right → In b right → IsTrue (bytes_eq a.0 b.0) → a.1 ≡ b.1
kind_of_one a [] b h i e = absurd i
kind_of_one a (c ∷ rest) b h i e = elim i [
  | inl k ↦ h.0 (subst (λ (z : Name × Kind). IsTrue (bytes_eq a.0 z.0)) k e) ∙ ap (λ (z : Name × Kind). z.1) (sym k)
  | inr j ↦ kind_of_one a rest b h.1 j e
]

kinds_are : (left right : Heading) (a b : Name × Kind) → HaveEqualKinds left right → In a left → In b right → IsTrue (bytes_eq a.0 b.0) → a.1 ≡ b.1
kinds_are [] right a b h i j e = absurd i
kinds_are (c ∷ rest) right a b h i j e = elim i [
  | inl k ↦ kind_of_one a right b (subst (λ (z : Name × Kind). KindAgrees z right) (sym k) h.0) j e
  | inr m ↦ kinds_are rest right a b h.1 m j e
]

attribute : Name → Kind → Name × Kind
attribute n k = (n, k)

-- attributes of two headings with one name are one
pub one_attribute : (left right : Heading) (a b : Name × Kind) → HaveEqualKinds left right → In a left → In b right → IsTrue (bytes_eq a.0 b.0) → a ≡ b
unfolding attribute
one_attribute left right a b h i j e = ap₂ attribute (name_is a.0 b.0 e) (kinds_are left right a b h i j e)

module _ (left right : Heading) (first : Ascends attribute_cmp left) (second : Ascends attribute_cmp right) (kinds : HaveEqualKinds left right) where
  -- ---- the attributes of both

  pub both_tell : Tells attribute_cmp (left ++ right)
  both_tell a b i j e = elim ((In-append a left right).0 i) [
    | inl p ↦ elim ((In-append b left right).0 j) [
      | inl q ↦ tells_ascending attribute_cmp attribute_total left first a b p q e
      | inr q ↦ one_attribute left right a b kinds p q (same_name a b e)
    ]
    | inr p ↦ elim ((In-append b left right).0 j) [
      | inl q ↦ sym (one_attribute left right b a kinds q p (subst (λ m. IsTrue (bytes_eq m a.0)) (name_is a.0 b.0 (same_name a b e)) (nat_list_eq_equiv.refl a.0)))
      | inr q ↦ tells_ascending attribute_cmp attribute_total right second a b p q e
    ]
  ]

  pub In-joined : (a : Name × Kind) → In a (joined_heading left right) ↔ In a (left ++ right)
  In-joined a = (from_in_order attribute_cmp a (left ++ right), into_in_order attribute_cmp a (left ++ right) both_tell)

  pub joined_ascends : Ascends attribute_cmp (joined_heading left right)
  joined_ascends = ascends_in_order attribute_cmp attribute_total (left ++ right)

  -- ---- those of the one, and the new ones of the other

  is_new : Name × Kind → Bool
  is_new a = not (has_name left a.0)

  listed : Heading
  listed = left ++ filter (λ a. not (has_name left a.0)) right

  known_or_new : (a : Name × Kind) → In a right → (b : Bool) → has_name left a.0 ≡ b → In a (left ++ filter (λ a. not (has_name left a.0)) right)
  known_or_new a i true e =
      let w = (list_any-In (λ b. bytes_eq b.0 a.0) left).0 e in
      let same : w.0 ≡ a = one_attribute left right w.0 a kinds w.1 i w.2 in
      (In-append a left (filter (λ a. not (has_name left a.0)) right)).1 (inl (subst (λ z. In z left) same w.1))
  known_or_new a i false e =
      (In-append a left (filter (λ a. not (has_name left a.0)) right)).1 (inr ((In-filter (λ a. not (has_name left a.0)) a right).1 (i, not_from_false (has_name left a.0) e)))

  In-listed : (a : Name × Kind) → In a (left ++ filter (λ a. not (has_name left a.0)) right) ↔ In a (left ++ right)
  In-listed a = (
    λ i. elim ((In-append a left (filter (λ a. not (has_name left a.0)) right)).0 i) [
      | inl p ↦ (In-append a left right).1 (inl p)
      | inr p ↦ (In-append a left right).1 (inr ((In-filter (λ a. not (has_name left a.0)) a right).0 p).0)
    ],
    λ i. elim ((In-append a left right).0 i) [
      | inl p ↦ (In-append a left (filter (λ a. not (has_name left a.0)) right)).1 (inl p)
      | inr p ↦ known_or_new a p (has_name left a.0) refl
    ],
  )

  pub listed_apart : Apart attribute_cmp (left ++ filter (λ a. not (has_name left a.0)) right)
  listed_apart =
      Apart-append attribute_cmp left (filter (λ a. not (has_name left a.0)) right) (apart_ascending attribute_cmp left first)
      (Apart-filter attribute_cmp (λ a. not (has_name left a.0)) right (apart_ascending attribute_cmp right second)) (λ a b i j e.
      let here : has_name left b.0 ≡ true = subst (λ m. has_name left m ≡ true) (name_is a.0 b.0 (same_name a b e)) (named_In left a i) in
      true≢false (sym here ∙ not-true (has_name left b.0) ((In-filter (λ a. not (has_name left a.0)) b right).0 j).1))

  pub heading_is_joined : (list heading : Heading) → list ≡ left ++ filter (λ a. not (has_name left a.0)) right → IsPermutation list heading → IsTrue (is_heading heading) → heading ≡ joined_heading left right
  heading_is_joined list heading e moved ordered =
      one_list attribute_cmp attribute_total heading (joined_heading left right) (heading_ascends heading ordered) joined_ascends (λ a. (
        λ i. (In-joined a).1 ((In-listed a).0 (subst (λ (l : Heading). In a l) e (In-permutation heading list a (IsPermutation-sym list heading moved) i))),
        λ i. In-permutation list heading a moved (subst (λ (l : Heading). In a l) (sym e) ((In-listed a).1 ((In-joined a).0 i))),
      ))

  pub few_listed : length (joined_heading left right) ≤ most_attributes → length (left ++ filter (λ a. not (has_name left a.0)) right) ≤ most_attributes
  few_listed few =
      let all = left ++ filter (λ a. not (has_name left a.0)) right in
      let tells : Tells attribute_cmp (left ++ filter (λ a. not (has_name left a.0)) right) = λ a b i j e. both_tell a b ((In-listed a).0 i) ((In-listed b).0 j) e in
      let one = one_list attribute_cmp attribute_total (joined_heading left right) _ joined_ascends (ascends_in_order attribute_cmp attribute_total all) (λ a. (
        λ i. into_in_order attribute_cmp a all tells ((In-listed a).1 ((In-joined a).0 i)),
        λ i. (In-joined a).1 ((In-listed a).0 (from_in_order attribute_cmp a all i)),
      )) in
      let size = length_apart attribute_cmp all listed_apart in
      let same = ap (λ (h : Heading). length h) one in
      omega (arith, few, size, same)

-- ---- attributes that differ repeat no name

none_again : (prefix rest : Heading) (n : ℕ) → ((a : Name × Kind) → In a rest → has_name prefix a.0 ≡ false) → Apart attribute_cmp rest → repeat_after prefix n rest ≡ None
none_again prefix [] n h apart = refl
none_again prefix (a ∷ rest) n h apart =
    let here : has_name prefix a.0 ≡ false = h a (inl refl) in
    let more = none_again (prefix ++ a ∷ []) rest (n + 1) (λ b i.
    let other : bytes_eq a.0 b.0 ≡ false = false_from_ne_true (bytes_eq a.0 b.0) (λ e. apart.0 b i (ties_by_name a b (name_is a.0 b.0 e))) in
    list_any-append (λ (c : Name × Kind). bytes_eq c.0 b.0) prefix (a ∷ []) ∙ neither (has_name prefix b.0) (bytes_eq a.0 b.0) (h b (inr i)) other) apart.1 in
    ap (λ t. if t then Some n else repeat_after (prefix ++ a ∷ []) (n + 1) rest) here ∙ more

pub apart_no_repeat : (list : Heading) → Apart attribute_cmp list → first_repeat list ≡ None
apart_no_repeat list apart = none_again [] list 0 (λ a i. refl) apart

-- ---- the attributes of two lists, one after the other

pub none_known : (list : Heading) → filter (λ a. not (has_name [] a.0)) list ≡ list
none_known list = filter_all (λ a. not (has_name [] a.0)) list (λ z i. refl)

pub places_within : (left right : Heading) → All (λ (i : ℕ). i < length (left ++ right)) (positions_in (left ++ right) (joined_heading left right))
places_within left right =
    positions_within (left ++ right) (names_of (joined_heading left right)) ((list_all-In (has_name (left ++ right)) (names_of (joined_heading left right))).1 (λ n i.
    let a = (In-map (λ b. b.0) n (joined_heading left right)).0 i in
    subst (λ m. IsTrue (has_name (left ++ right) m)) (sym a.2) (named_In (left ++ right) a.0 (from_in_order attribute_cmp a.0 (left ++ right) a.1))))

-- ---- where headings may be joined

kind_from : (a : Name × Kind) (right : Heading) → ((b : Name × Kind) → In b right → IsTrue (bytes_eq a.0 b.0) → a.1 ≡ b.1) → KindAgrees a right
kind_from a [] h = tt
kind_from a (b ∷ rest) h = (h b (inl refl), kind_from a rest (λ c i. h c (inr i)))

-- attributes with one name have one kind
pub kinds_from : (left right : Heading) → ((a b : Name × Kind) → In a left → In b right → IsTrue (bytes_eq a.0 b.0) → a.1 ≡ b.1) → HaveEqualKinds left right
kinds_from [] right h = tt
kinds_from (a ∷ rest) right h = (kind_from a right (λ b i. h a b (inl refl) i), kinds_from rest right (λ c b i. h c b (inr i)))

-- there are at most as many attributes as in both
pub few_joined : (left right : Heading) → length (joined_heading left right) ≤ length left + length right
few_joined left right =
    let h = length-in_order attribute_cmp (left ++ right) in
    let k = length-append left right in
    omega (arith, h, k)

pub to_name : (heading : Heading) (n : Name) → IsTrue (has_name heading n) → In n (names_of heading)
to_name heading n e =
    let w = (list_any-In (λ b. bytes_eq b.0 n) heading).0 e in
    (In-map (λ b. b.0) n heading).1 (w.0, w.1, sym (name_is w.0.0 n w.2))

pub of_name : (heading : Heading) (n : Name) → In n (names_of heading) → IsTrue (has_name heading n)
of_name heading n i =
    let a = (In-map (λ b. b.0) n heading).0 i in
    subst (λ m. IsTrue (has_name heading m)) (sym a.2) (named_In heading a.0 a.1)

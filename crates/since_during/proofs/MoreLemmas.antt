-- A heading with one attribute more: its attributes, where they stand, and what is left without one of them.
--     In-get_or, stands      where an attribute stands
--     not-there, old-more, own-more, from-more, more-other      the attributes of a heading with one more
--     all_but-ascends, all_but-within      the positions but one
--     without-one      what is left of a heading with two more without the first of them
use Rattle.std.proofs.Common.{◌≡◌, ◌⊎◌, inl, inr, ℕ, suc, ◌<◌, Bool, true, false, cond, not, List, [], ◌∷◌, length, map, get_or, refl, sym, ap, ap₂, ◌∙◌, subst, arith, nat_eq, Less, IsTrue}
use Rattle.std.specs.Cmp.Lexicographic.{texts_ties}
use Rattle.std.specs.Ordering.{is_eq, nat_cmp}
use Rattle.std.specs.Str.{bytes_eq}
use Rattle.std.proofs.lemmas.Bool.{true≢false, false_from_ne_true, eqb-true, eq-eqb, not-true, not_from_false}
use Rattle.base_core.proofs.MemberLemmas.{In-map, In-filter, list_any-In}
use Rattle.base_core.proofs.SetLemmas.{In, AllAfter, Ascends}
use Rattle.base_core.proofs.SetOperatorLemmas.{AllAfter-In, Ascends-filter, Ascends-map}
use Rattle.base_core.proofs.OrderingLemmas.{lt-nat_cmp, nat_cmp-lt}
use Rattle.base_core.proofs.ListLemmas.{In-get_or}
use Rattle.value_core.specs.Headings.{has_name}
use Rattle.value_core.specs.declared.kind.Kind.{Kind}
use Rattle.value_core.specs.Values.{Name, Heading, attribute_cmp}
use Rattle.value_core.proofs.HeadingLemmas.{attribute_total}
use Rattle.relation_core.specs.Agreement.{names_of, position_of}
use Rattle.relation_core.specs.Parts.{no_attribute, attributes_at}
use Rattle.relation_core.proofs.ApartLemmas.{Tells, from_in_order, into_in_order, tells_ascending, ascends_in_order}
use Rattle.relation_core.proofs.AttributeLemmas.{name_is, same_name, named_In}
use Rattle.relation_core.proofs.HeadingLemmas.{one_list, attributes_ascend}
use Rattle.meaning_core.specs.Histories.{with_attribute, all_but}
use Rattle.meaning_core.specs.Meanings.{positions_of}
use Rattle.meaning_core.proofs.MadeLemmas.{Attribute, own_name}
use Rattle.meaning_core.proofs.PositionLemmas.{position-back}

-- ---- where an attribute stands

abbrev StandsAt : Heading → Attribute → ℕ → Type 0
StandsAt g a j = (j < length g) × (get_or g j no_attribute ≡ a)

pub stands : (g : Heading) (a : Attribute) → Ascends attribute_cmp g → In a g → (position_of g a.0 < length g) × (get_or g (position_of g a.0) no_attribute ≡ a)
stands [] a up i = absurd i
stands (b ∷ rest) a up i = elim i [
  | inl e ↦
      let own : bytes_eq b.0 a.0 ≡ true = ap (λ (z : Attribute). bytes_eq b.0 z.0) e ∙ own_name b.0 in
      subst (λ (t : Bool). StandsAt (b ∷ rest) a (cond t 0 (suc (position_of rest a.0)))) (sym own) (omega arith, sym e)
  | inr j ↦
      let off : bytes_eq b.0 a.0 ≡ false = texts_ties b.0 a.0 ∙ ap is_eq ((AllAfter-In attribute_cmp b rest).0 up.0 a j) in
      let more = stands rest a up.1 j in
      subst (λ (t : Bool). StandsAt (b ∷ rest) a (cond t 0 (suc (position_of rest a.0)))) (sym off) (omega (arith, more.0), more.1)
]

-- ---- one attribute more

module _ (h : Heading) (n : Name) (k : Kind) (new : has_name h n ≡ false) where
  pub not-there : (b : Attribute) → In b h → bytes_eq n b.0 ≡ true → ⊥
  not-there b i e =
      let same : n ≡ b.0 = name_is n b.0 e in
      true≢false (sym (subst (λ (m : Name). IsTrue (has_name h m)) (sym same) (named_In h b i)) ∙ new)

  pub from-more : (b : Attribute) → In b (with_attribute h n k) → (b ≡ (n, k)) ⊎ In b h
  from-more b i = from_in_order attribute_cmp b ((n, k) ∷ h) i

  module _ (up : Ascends attribute_cmp h) where
    tells : Tells attribute_cmp ((n, k) ∷ h)
    tells x y i j e =
        elim i [
          | inl p ↦ elim j [
            | inl q ↦ p ∙ sym q
            | inr m ↦ absurd (not-there y m (ap (λ (z : Attribute). bytes_eq z.0 y.0) (sym p) ∙ same_name x y e))
          ]
          | inr l ↦ elim j [
            | inl q ↦
                let one : x.0 ≡ n = name_is x.0 y.0 (same_name x y e) ∙ ap (λ (z : Attribute). z.0) q in
                absurd (not-there x l (ap (λ (m : Name). bytes_eq n m) one ∙ own_name n))
            | inr m ↦ tells_ascending attribute_cmp attribute_total h up x y l m e
          ]
        ]

    pub old-more : (b : Attribute) → In b h → In b (with_attribute h n k)
    old-more b i = into_in_order attribute_cmp b ((n, k) ∷ h) tells (inr i)

    pub own-more : In (n, k) (with_attribute h n k)
    own-more = into_in_order attribute_cmp (n, k) ((n, k) ∷ h) tells (inl refl)

pub more-other : (h : Heading) (n : Name) (k : Kind) (m : Name) → has_name h m ≡ false → bytes_eq n m ≡ false → has_name (with_attribute h n k) m ≡ false
more-other h n k m old other =
    false_from_ne_true (has_name (with_attribute h n k) m) (λ e.
    let w = (list_any-In (λ (b : Attribute). bytes_eq b.0 m) (with_attribute h n k)).0 e in
    elim (from_in_order attribute_cmp w.0 ((n, k) ∷ h) w.1) [
      | inl p ↦ true≢false (sym w.2 ∙ (ap (λ (z : Attribute). bytes_eq z.0 m) p ∙ other))
      | inr j ↦ true≢false (sym ((list_any-In (λ (b : Attribute). bytes_eq b.0 m) h).1 (w.0, j, w.2)) ∙ old)
    ])

-- ---- the positions but one

indices : Heading → List ℕ
indices [] = []
indices (a ∷ rest) = 0 ∷ map suc (indices rest)

positions-behind : (a : Attribute) (rest some : Heading) → AllAfter attribute_cmp a some → positions_of (a ∷ rest) (names_of some) ≡ map suc (positions_of rest (names_of some))
positions-behind a rest [] after = refl
positions-behind a rest (b ∷ some) after =
    let off : bytes_eq a.0 b.0 ≡ false = texts_ties a.0 b.0 ∙ ap is_eq after.0 in
    ap₂ (λ (t : Bool) (l : List ℕ). cond t 0 (suc (position_of rest b.0)) ∷ l) off (positions-behind a rest some after.1)

positions-all : (g : Heading) → Ascends attribute_cmp g → positions_of g (names_of g) ≡ indices g
unfolding indices
positions-all [] up = refl
positions-all (a ∷ rest) up =
    ap₂ (λ (t : Bool) (l : List ℕ). cond t 0 (suc (position_of rest a.0)) ∷ l) (own_name a.0) (positions-behind a rest rest up.0 ∙ ap (map suc) (positions-all rest up.1))

less-more : (i j : ℕ) → nat_cmp i j ≡ Less → nat_cmp (suc i) (suc j) ≡ Less
less-more i j e = let l = nat_cmp-lt i j e in lt-nat_cmp (suc i) (suc j) (omega (arith, l))

first-of-all : (is : List ℕ) → AllAfter nat_cmp 0 (map suc is)
first-of-all [] = tt
first-of-all (i ∷ is) = (lt-nat_cmp 0 (suc i) (omega arith), first-of-all is)

indices-ascend : (g : Heading) → Ascends nat_cmp (indices g)
unfolding indices
indices-ascend [] = tt
indices-ascend (a ∷ rest) = (first-of-all (indices rest), Ascends-map nat_cmp nat_cmp suc less-more (indices rest) (indices-ascend rest))

indices-within : (g : Heading) (i : ℕ) → In i (indices g) → i < length g
unfolding indices
indices-within [] i m = absurd m
indices-within (a ∷ rest) i m = elim m [
  | inl e ↦ omega (arith, e)
  | inr j ↦ let w = (In-map suc i (indices rest)).0 j in let l = indices-within rest w.0 w.1 in let e = w.2 in omega (arith, l, e)
]

module _ (g : Heading) (up : Ascends attribute_cmp g) (k : ℕ) where
  pub all_but-ascends : Ascends nat_cmp (all_but k g)
  all_but-ascends =
      Ascends-filter nat_cmp (λ j. not (nat_eq k j)) (positions_of g (names_of g)) (subst (λ (l : List ℕ). Ascends nat_cmp l) (sym (positions-all g up)) (indices-ascend g))

  pub all_but-within : (i : ℕ) → In i (all_but k g) → i < length g
  all_but-within i m =
      indices-within g i (subst (λ (l : List ℕ). In i l) (positions-all g up) ((In-filter (λ j. not (nat_eq k j)) i (positions_of g (names_of g))).0 m).0)

-- ---- without the first of two more

module _ (h : Heading) (p i : Name) (point span : Kind) (up : Ascends attribute_cmp h) (no-point : has_name h p ≡ false) (no-span : has_name h i ≡ false) (apart : bytes_eq p i ≡ false) where
  abbrev since : Heading
  since = with_attribute h p point

  abbrev during : Heading
  during = with_attribute h i span

  abbrev wide : Heading
  wide = with_attribute since i span

  since-up : Ascends attribute_cmp since
  since-up = ascends_in_order attribute_cmp attribute_total ((p, point) ∷ h)

  wide-up : Ascends attribute_cmp wide
  wide-up = ascends_in_order attribute_cmp attribute_total ((i, span) ∷ since)

  since-other : has_name since i ≡ false
  since-other = more-other h p point i no-span apart

  point-wide : In (p, point) wide
  point-wide = old-more since i span since-other since-up (p, point) (own-more h p point no-point up)

  abbrev kept : List ℕ
  kept = all_but (position_of wide p) wide

  left-in : (a : Attribute) (j : ℕ) → In j kept → a ≡ get_or wide j no_attribute → In a during
  left-in a j m e =
      let parts = (In-filter (λ l. not (nat_eq (position_of wide p) l)) j (positions_of wide (names_of wide))).0 m in
      let l = all_but-within wide wide-up (position_of wide p) j m in
      let back : position_of wide a.0 ≡ j = ap (λ (z : Attribute). position_of wide z.0) e ∙ position-back wide j no_attribute wide-up l in
      let there : In a wide = subst (λ (z : Attribute). In z wide) (sym e) (In-get_or wide j no_attribute l) in
      elim (from-more since i span since-other a there) [
        | inl q ↦ subst (λ (z : Attribute). In z during) (sym q) (own-more h i span no-span up)
        | inr s ↦ elim (from-more h p point no-point a s) [
          | inl q ↦
              let same : position_of wide p ≡ j = ap (λ (z : Attribute). position_of wide z.0) (sym q) ∙ back in
              absurd (true≢false (sym (eq-eqb (position_of wide p) j same) ∙ not-true (nat_eq (position_of wide p) j) parts.1))
          | inr o ↦ old-more h i span no-span up a o
        ]
      ]

  -- an attribute of another name
  kept-in : (a : Attribute) → In a wide → bytes_eq p a.0 ≡ false → In a (attributes_at kept wide)
  kept-in a there other =
      let at = stands wide a wide-up there in
      let point-at = stands wide (p, point) wide-up point-wide in
      let differ : nat_eq (position_of wide p) (position_of wide a.0) ≡ false = false_from_ne_true (nat_eq (position_of wide p) (position_of wide a.0)) (λ e.
      let one : position_of wide p ≡ position_of wide a.0 = eqb-true (position_of wide p) (position_of wide a.0) e in
      let same : (p, point) ≡ a = sym point-at.1 ∙ (ap (λ (j : ℕ). get_or wide j no_attribute) one ∙ at.1) in
      true≢false (sym (ap (λ (z : Attribute). bytes_eq p z.0) (sym same) ∙ own_name p) ∙ other)) in
      let among : In (position_of wide a.0) (positions_of wide (names_of wide)) = (In-map (position_of wide) (position_of wide a.0) (names_of wide)).1 (a.0, (In-map (λ (z : Attribute). z.0) a.0 wide).1 (a, there, refl), refl) in
      (In-map (λ (j : ℕ). get_or wide j no_attribute) a kept).1
      (position_of wide a.0, (In-filter (λ l. not (nat_eq (position_of wide p) l)) (position_of wide a.0) (positions_of wide (names_of wide))).1 (among, not_from_false (nat_eq (position_of wide p) (position_of wide a.0)) differ), sym at.1)

  into-left : (a : Attribute) → In a during → In a (attributes_at kept wide)
  into-left a m = elim (from-more h i span no-span a m) [
    | inl q ↦ kept-in a (subst (λ (z : Attribute). In z wide) (sym q) (own-more since i span since-other since-up)) (ap (λ (z : Attribute). bytes_eq p z.0) q ∙ apart)
    | inr o ↦ kept-in a (old-more since i span since-other since-up a (old-more h p point no-point up a o)) (false_from_ne_true (bytes_eq p a.0) (λ e. not-there h p point no-point a o e))
  ]

  pub without-one : during ≡ attributes_at kept wide
  without-one =
      one_list attribute_cmp attribute_total during (attributes_at kept wide) (ascends_in_order attribute_cmp attribute_total ((i, span) ∷ h))
      (attributes_ascend wide kept wide-up (all_but-ascends wide wide-up (position_of wide p)) (all_but-within wide wide-up (position_of wide p)))
      (λ a. (into-left a, λ m. let w = (In-map (λ (j : ℕ). get_or wide j no_attribute) a kept).0 m in left-in a w.0 w.1 w.2))

-- Histories: which rows contradict each other, told by hashes.
use Rattle.std.proofs.Common.{◌≡◌, ◌↔◌, ◌⊎◌, inl, inr, ℕ, ℤ, pos, ◌-ℤ◌, ◌≤ℤ◌, List, [], ◌∷◌, ◌++◌, map, length, IsPermutation, suc, ◌<◌, refl, sym, ap, ap₂, ◌∙◌, subst, arith, Bool, true, false, not, ◌&&◌, ◌||◌, if◌then◌else◌}
use Rattle.std.specs.Prelude.{int_lt}
use Rattle.std.specs.Bool.{IsTrue}
use Rattle.std.specs.Cmp.{tied_then}
use Rattle.std.specs.List.{All, list_any}
use Rattle.std.specs.Ordering.{eq_by_cmp, is_eq}
use Rattle.std.proofs.Math.Bool.{and_assoc}
use Rattle.std.proofs.lemmas.Bool.{true≢false, both_ways, not-true}
use Rattle.std.proofs.lemmas.Int.{ints, by_lt_z}
use Rattle.std.proofs.lemmas.List.{map-append}
use Rattle.std.proofs.lemmas.List.Elements.{All-append}
use Rattle.std.proofs.lemmas.List.Sorted.{list_any-IsPermutation}
use Rattle.base_core.proofs.SetLemmas.{In}
use Rattle.base_core.proofs.MemberLemmas.{list_all-In}
use Rattle.base_core.proofs.SetOperatorLemmas.{same_tests}
use Rattle.base_core.proofs.IntLemmas.{lt-int_lt, int_lt-lt}
use Rattle.point_core.specs.Whole.{least_whole}
use Rattle.point_core.specs.declared.any_type.AnyType.{AnyType}
use Rattle.interval_core.specs.Members.{Span, has_member}
use Rattle.interval_core.proofs.MembersLemmas.{has_member-between}
use Rattle.scalar_core.specs.Operations.{number_of}
use Rattle.value_core.specs.Attributes.{value_at, span_of}
use Rattle.value_core.specs.Values.{Row, Heading, Relation, IsRelation, row_cmp, value_cmp, fits, fits_heading}
use Rattle.value_core.specs.declared.constraint.HistoryRule.{HistoryRule}
use Rattle.value_core.specs.declared.kind.Kind.{Kind}
use Rattle.value_core.specs.declared.kind.Kind.TheVariants.{Truth, Char, Point, Span as SpanOf}
use Rattle.relation_core.specs.Agreement.{part_of}
use Rattle.relation_core.specs.Parts.{kind_at}
use Rattle.meaning_core.specs.WellMade.{AreAlike, IsOver}
use Rattle.u_constraints.specs.Constraints.{agree_on, contradict, keeps_history}
use Rattle.u_constraints.proofs.FitLemmas.{value_fits, span_that_fits}
use Rattle.u_constraints.specs.Hashes.{Hash, reaches, is_any_reached, begun, begin_hash, end_hash, is_overrun, is_touched}
use Rattle.relation_core.proofs.AgreementLemmas.{list_any-map}

-- ---- parts at two lists of positions

both_parts : (p q : Row) (r s : Row) → length p ≡ length q → eq_by_cmp row_cmp (p ++ r) (q ++ s) ≡ (eq_by_cmp row_cmp p q && eq_by_cmp row_cmp r s)
both_parts [] [] r s e = refl
both_parts [] (w ∷ q) r s e = absurd (omega (arith, e))
both_parts (v ∷ p) [] r s e = absurd (omega (arith, e))
both_parts (v ∷ p) (w ∷ q) r s e =
    let more : eq_by_cmp row_cmp (p ++ r) (q ++ s) ≡ (eq_by_cmp row_cmp p q && eq_by_cmp row_cmp r s) = both_parts p q r s (omega (arith, e)) in
    sym (tied_then (value_cmp v w) (row_cmp (p ++ r) (q ++ s)))
    ∙ (ap (λ b. is_eq (value_cmp v w) && b) more
    ∙ (sym (and_assoc (is_eq (value_cmp v w)) (eq_by_cmp row_cmp p q) (eq_by_cmp row_cmp r s)) ∙ ap (λ b. b && eq_by_cmp row_cmp r s) (tied_then (value_cmp v w) (row_cmp p q))))

parts_length : (is : List ℕ) (x : Row) → length (part_of is x) ≡ length is
parts_length [] x = refl
parts_length (i ∷ is) x = ap suc (parts_length is x)

-- rows agree on two lists where they agree on each
agree_on_both : (here there here' there' : List ℕ) (y x : Row) → length here ≡ length there
    → agree_on (here ++ here') (there ++ there') y x ≡ (agree_on here there y x && agree_on here' there' y x)
agree_on_both here there here' there' y x e =
    let size : length (part_of here y) ≡ length (part_of there x) = parts_length here y ∙ (e ∙ sym (parts_length there x)) in
    ap₂ (eq_by_cmp row_cmp) (map-append _ here here') (map-append _ there there') ∙ both_parts (part_of here y) (part_of there x) (part_of here' y) (part_of there' x) size

-- ---- one row of each relvar

mixed : (k a c m d : Bool) → (IsTrue m → IsTrue d) → (IsTrue d → IsTrue c ⊎ IsTrue m) → (k && (c || (a && m))) ≡ ((k && c) || ((k && a) && d))
mixed false a c m d f g = refl
mixed true a true m d f g = refl
mixed true false false m d f g = refl
mixed true true false m d f g = same_tests m d (f, λ h. elim (g h) [ inl e ↦ absurd (true≢false (sym e)) | inr e ↦ e ])

not_lt : (a b : ℤ) → IsTrue (not (int_lt a b)) ↔ (b ≤ℤ a)
not_lt a b = (
  λ h. by_lt_z a b (λ u. absurd (both_ways (int_lt a b) (not-true (int_lt a b) h) (lt-int_lt a b u))) (λ u. omega (arith, ints)),
  λ l. elim (int_lt a b) as (λ c. int_lt a b ≡ c → IsTrue (not c)) [
    | true ↦ λ e. let u = int_lt-lt a b e in absurd (omega (arith, ints))
    | false ↦ λ e. refl
  ] refl,
)

begun_up : (p e : ℤ) → least_whole ≤ℤ e → (p -ℤ pos 1) ≤ℤ e → begun true p ≤ℤ e
begun_up p e w h =
    elim (int_lt least_whole p) as (λ c. int_lt least_whole p ≡ c → (if c then p -ℤ pos 1 else p) ≤ℤ e) [
      | true ↦ λ q. h
      | false ↦ λ q. let l = (not_lt least_whole p).0 (ap not q) in omega (arith, ints)
    ] refl

begun_down : (p e : ℤ) → begun true p ≤ℤ e → (p -ℤ pos 1) ≤ℤ e
begun_down p e =
    elim (int_lt least_whole p) as (λ c. (if c then p -ℤ pos 1 else p) ≤ℤ e → (p -ℤ pos 1) ≤ℤ e) [
      | true ↦ λ h. h
      | false ↦ λ h. omega (arith, ints)
    ]

-- an interval that holds the point directly before has not ended before that point. And the other way round, unless it has not ended
-- before the next point either
held_not_ended : (i : Span) (p : ℤ) → least_whole ≤ℤ i.1 → IsTrue (has_member i (p -ℤ pos 1)) → IsTrue (not (int_lt i.1 (begun true p)))
held_not_ended i p w h = (not_lt i.1 (begun true p)).1 (begun_up p i.1 w ((has_member-between i (p -ℤ pos 1)).0 h).1)

not_ended_held : (i : Span) (p : ℤ) → i.0 ≤ℤ i.1 → IsTrue (not (int_lt i.1 (begun true p))) → IsTrue (not (int_lt i.1 p)) ⊎ IsTrue (has_member i (p -ℤ pos 1))
not_ended_held i p o h =
    let last : (p -ℤ pos 1) ≤ℤ i.1 = begun_down p i.1 ((not_lt i.1 (begun true p)).0 h) in
    by_lt_z i.1 p
    (λ u. let first : i.0 ≤ℤ (p -ℤ pos 1) = omega (arith, ints) in inr ((has_member-between i (p -ℤ pos 1)).1 (first, last)))
    (λ u. let most : p ≤ℤ i.1 = omega (arith, ints) in inl ((not_lt i.1 p).1 most))

-- ---- tests of all rows

any_in : {X : Type 0} (p q : X → Bool) (xs : List X) → ((x : X) → In x xs → p x ≡ q x) → list_any p xs ≡ list_any q xs
any_in p q [] h = refl
any_in p q (x ∷ xs) h = ap₂ (λ a b. a || b) (h x (inl refl)) (any_in p q xs (λ y i. h y (inr i)))

four : (a b c d : Bool) → ((a || b) || (c || d)) ≡ ((a || c) || (b || d))
four true b c d = refl
four false true true d = refl
four false true false d = refl
four false false c d = refl

any_or : {X : Type 0} (p q : X → Bool) (xs : List X) → list_any (λ x. p x || q x) xs ≡ (list_any p xs || list_any q xs)
any_or p q [] = refl
any_or p q (x ∷ xs) = ap (λ b. (p x || q x) || b) (any_or p q xs) ∙ four (p x) (q x) (list_any p xs) (list_any q xs)

reached_rows : (b e : Row → Hash) (others rows : List Row) → is_any_reached (map b others) (map e rows) ≡ list_any (λ x. list_any (λ y. reaches (b x) (e y)) rows) others
reached_rows b e others rows =
    list_any-map (λ m. list_any (reaches m) (map e rows)) b others ∙ (λ t. list_any (λ x. list_any-map (reaches (b x)) e rows t) others)

-- ends in another order reach the same
reached_moved : (begins ends moved : List Hash) → IsPermutation ends moved → is_any_reached begins moved ≡ is_any_reached begins ends
reached_moved begins ends moved is t = list_any (λ m. sym (list_any-IsPermutation (reaches m) ends moved is) t) begins

-- what a search among the ends in order tells of the rows
pub told_of_rows : (here here' there there' : List ℕ) (span span' point point' : ℕ) (touching : Bool) (rows others : List Row) (begins ends bs es : List Hash) (r : Bool)
    → here ≡ here' → there ≡ there' → span ≡ span' → point ≡ point' → IsPermutation (map (end_hash here span) rows) ends → begins ≡ map (begin_hash there point touching) others
    → bs ≡ begins → es ≡ ends → r ≡ is_any_reached bs es → r ≡ is_any_reached (map (begin_hash there' point' touching) others) (map (end_hash here' span') rows)
told_of_rows here here' there there' span span' point point' touching rows others begins ends bs es r a b c d moved z y x told =
    told
    ∙ ap₂ is_any_reached (y ∙ z) x
    ∙ reached_moved (map (begin_hash there point touching) others) (map (end_hash here span) rows) ends moved
    ∙ (λ t. is_any_reached (map (begin_hash (b t) (d t) touching) others) (map (end_hash (a t) (c t)) rows))

-- ---- the rows of both

module _ (h : HistoryRule) (size : length h.key_here ≡ length h.key_there) where
  -- a row has not ended before the other began, or before the point directly before
  abbrev overruns : Row → Row → Bool
  overruns x y = reaches (begin_hash h.key_there h.point_there false x) (end_hash h.key_here h.span_here y)

  abbrev touches : Row → Row → Bool
  touches x y = reaches (begin_hash (h.key_there ++ h.all_there) h.point_there true x) (end_hash (h.key_here ++ h.all_here) h.span_here y)

  contradicts : (x y : Row) → (span_of (value_at y h.span_here)).0 ≤ℤ (span_of (value_at y h.span_here)).1 → least_whole ≤ℤ (span_of (value_at y h.span_here)).1
      → contradict h x y ≡ (overruns x y || touches x y)
  contradicts x y o w =
      let i : Span = span_of (value_at y h.span_here) in
      let p : ℤ = number_of (value_at x h.point_there) in
      let d : Bool = not (int_lt i.1 (begun true p)) in
      mixed (agree_on h.key_here h.key_there y x) (agree_on h.all_here h.all_there y x) (not (int_lt i.1 p)) (has_member i (p -ℤ pos 1)) d (held_not_ended i p w) (not_ended_held i p o)
      ∙ ap (λ b. overruns x y || (b && d)) (sym (agree_on_both h.key_here h.key_there h.all_here h.all_there y x size))

  module _ (t : AnyType) (rows : List Row) (fit : (y : Row) → In y rows → IsTrue (fits (SpanOf t) (value_at y h.span_here))) (others : List Row) where
    any_contradicts : (x : Row) → list_any (contradict h x) rows ≡ (list_any (overruns x) rows || list_any (touches x) rows)
    any_contradicts x =
        any_in (contradict h x) (λ y. overruns x y || touches x y) rows (λ y m.
        let s = span_that_fits t (value_at y h.span_here) (fit y m) in
        contradicts x y s.0 s.1)
        ∙ any_or (overruns x) (touches x) rows

    kept_by_hashes : keeps_history h rows others ≡ not (is_overrun h rows others || is_touched h rows others)
    kept_by_hashes =
        (λ t. not (list_any (λ x. any_contradicts x t) others))
        ∙ ap not (any_or (λ x. list_any (overruns x) rows) (λ x. list_any (touches x) rows) others)
        ∙ ap₂ (λ a b. not (a || b)) (sym (reached_rows (begin_hash h.key_there h.point_there false) (end_hash h.key_here h.span_here) others rows))
        (sym (reached_rows (begin_hash (h.key_there ++ h.all_there) h.point_there true) (end_hash (h.key_here ++ h.all_here) h.span_here) others rows))

-- ---- what a rule that fits says

alike_length : (h : Heading) (is : List ℕ) (g : Heading) (js : List ℕ) → AreAlike h is g js → length is ≡ length js
alike_length h [] g [] a = refl
alike_length h [] g (j ∷ js) a = absurd a
alike_length h (i ∷ is) g [] a = absurd a
alike_length h (i ∷ is) g (j ∷ js) a = ap suc (alike_length h is g js a.1)

over_an_interval : (k j : Kind) → IsOver k j → (t : AnyType) × (k ≡ SpanOf t)
over_an_interval Truth j h = absurd h
over_an_interval Char j h = absurd h
over_an_interval (Point t) j h = absurd h
over_an_interval (SpanOf t) j h = (t, refl)

pub both_within : (n : ℕ) (is js list : List ℕ) → list ≡ is ++ js → All (λ (i : ℕ). i < n) is → All (λ (i : ℕ). i < n) js → All (λ (i : ℕ). i < n) list
both_within n is js list e a b = subst (All (λ (i : ℕ). i < n)) (sym e) (All-append (λ (i : ℕ). i < n) is js a b)

pub over_at : (h : Heading) (i j : ℕ) (k : Kind) → i ≡ j → IsOver (kind_at h j) k → (t : AnyType) × (kind_at h i ≡ SpanOf t)
over_at h i j k e o = let w = over_an_interval (kind_at h j) k o in (w.0, ap (kind_at h) e ∙ w.1)

all_fit : (r : Relation) (i : ℕ) (t : AnyType) → IsRelation r → i < length r.heading → kind_at r.heading i ≡ SpanOf t → (y : Row) → In y r.rows → IsTrue (fits (SpanOf t) (value_at y i))
all_fit r i t is l kind y m = value_fits r.heading y i (SpanOf t) ((list_all-In (fits_heading r.heading) r.rows).0 is.fitting y m) l kind

-- ---- the answer, from what is so of the hashes

module _ (h : HistoryRule) (of other : Relation) (is : IsRelation of) (alike : AreAlike of.heading h.key_here other.heading h.key_there) (within : h.span_here < length of.heading)
    (over : IsOver (kind_at of.heading h.span_here) (kind_at other.heading h.point_there)) where
  by_hashes : keeps_history h of.rows other.rows ≡ not (is_overrun h of.rows other.rows || is_touched h of.rows other.rows)
  by_hashes =
      let span = over_an_interval (kind_at of.heading h.span_here) (kind_at other.heading h.point_there) over in
      kept_by_hashes h (alike_length of.heading h.key_here other.heading h.key_there alike) span.0 of.rows (all_fit of h.span_here span.0 is within span.1) other.rows

  pub broken_where_overrun : (found : Bool) → found ≡ is_overrun h of.rows other.rows → found ≡ true → false ≡ keeps_history h of.rows other.rows
  broken_where_overrun found e so = sym (by_hashes ∙ ap (λ b. not (b || is_touched h of.rows other.rows)) (sym e ∙ so))

  pub else_by_touch : (found touched : Bool) → found ≡ is_overrun h of.rows other.rows → found ≡ false → touched ≡ is_touched h of.rows other.rows → not touched ≡ keeps_history h of.rows other.rows
  else_by_touch found touched e so f = ap not f ∙ sym (by_hashes ∙ ap (λ b. not (b || is_touched h of.rows other.rows)) (sym e ∙ so))

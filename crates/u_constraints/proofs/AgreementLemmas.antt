-- Rows agree at positions exactly where their boxes have the same sides and the same parts of labels.
use Rattle.std.proofs.Common.{◌≡◌, inl, inr, ℕ, pos, Bool, true, false, not, List, [], ◌∷◌, map, get_or, refl, sym, ap, ap₂, ◌∙◌, nat_eq, if◌then◌else◌}
use Rattle.std.specs.Bool.{IsTrue}
use Rattle.std.specs.List.{IsDistinct}
use Rattle.base_core.proofs.SetLemmas.{In}
use Rattle.base_core.proofs.ListLemmas.{map-In}
use Rattle.point_core.specs.Points.{line_of}
use Rattle.value_core.specs.Attributes.{value_at, span_of, among}
use Rattle.value_core.specs.Values.{Value, Row, Heading, truth, interval}
use Rattle.relation_core.specs.Agreement.{part_of}
use Rattle.relation_core.specs.Parts.{kind_at}
use Rattle.meaning_core.specs.WellMade.{AreAlike, AreAmong}
use Rattle.u_set.specs.Boxes.{IsShaped, type_of, others, spans_at}
use Rattle.u_set.proofs.BoxLemmas.{value_at-get}
use Rattle.u_row.specs.Kept.{unlisted, inner}
use Rattle.u_row.proofs.BeneathLemmas.{among_in}
use Rattle.u_row.proofs.LabelLemmas.{map_twice, inner_values}
use Rattle.u_constraints.specs.Constraints.{counterpart}
use Rattle.u_constraints.proofs.CounterpartLemmas.{Beside, beside_more, beside_both, beside_kinds, at_counterpart, in_key, IsPair, all_pairs, are_listed}

-- ---- lists made alike

abbrev pub no_value : Value
no_value = truth false

abbrev pub at : Row → ℕ → Value
at row i = get_or row i no_value

abbrev first : {X : Type 0} → X → List X → X
first d [] = d
first d (x ∷ xs) = x

abbrev rest : {X : Type 0} → List X → List X
rest [] = []
rest (x ∷ xs) = xs

-- what two functions make of a list is the same of each of its members
pub same_of : {X Y : Type 0} (f g : X → Y) (d : Y) (xs : List X) → map f xs ≡ map g xs → (x : X) → In x xs → f x ≡ g x
same_of f g d [] e x m = absurd m
same_of f g d (z ∷ zs) e x m = elim m [
  | inl q ↦ ap f q ∙ ap (first d) e ∙ sym (ap g q)
  | inr w ↦ same_of f g d zs (ap rest e) x w
]

module _ (x y : Row) where
  same_beside : (is ts : List ℕ) → Beside (λ i t. Unit {0}) is ts → map (at x) is ≡ map (at y) ts → Beside (λ i t. at x i ≡ at y t) is ts
  same_beside [] [] h e = tt
  same_beside [] (t ∷ ts) h e = absurd h
  same_beside (i ∷ is) [] h e = absurd h
  same_beside (i ∷ is) (t ∷ ts) h e = (ap (first no_value) e, same_beside is ts h.1 (ap rest e))

  module _ (commalist commalist' : List ℕ) where
    abbrev kept : Bool → ℕ → List ℕ → List ℕ
    kept b i is = if not b then i ∷ is else is

    -- the values at what is not unpacked
    unlisted_same : (is ts : List ℕ) → Beside (λ i t. (at x i ≡ at y t) × (among commalist i ≡ among commalist' t)) is ts → map (at x) (unlisted commalist is) ≡ map (at y) (unlisted commalist' ts)
    unlisted_same [] [] h = refl
    unlisted_same [] (t ∷ ts) h = absurd h
    unlisted_same (i ∷ is) [] h = absurd h
    unlisted_same (i ∷ is) (t ∷ ts) h =
        let more = unlisted_same is ts h.1 in
        ap (λ b. map (at x) (kept b i (unlisted commalist is))) h.0.1
        ∙ (elim (among commalist' t) as (λ b. map (at x) (kept b i (unlisted commalist is)) ≡ map (at y) (kept b t (unlisted commalist' ts))) [
          | true ↦ more
          | false ↦ ap₂ (λ (v : Value) (vs : List Value). v ∷ vs) h.0.0 more
        ])

    -- and with those that are unpacked all values
    all_same : (is ts : List ℕ) → Beside (λ i t. (IsTrue (among commalist i) → at x i ≡ at y t) × (among commalist i ≡ among commalist' t)) is ts
        → map (at x) (unlisted commalist is) ≡ map (at y) (unlisted commalist' ts) → map (at x) is ≡ map (at y) ts
    all_same [] [] h e = refl
    all_same [] (t ∷ ts) h e = absurd h
    all_same (i ∷ is) [] h e = absurd h
    all_same (i ∷ is) (t ∷ ts) h e =
        let more : map (at x) (unlisted commalist is) ≡ map (at y) (unlisted commalist' ts) → map (at x) is ≡ map (at y) ts = all_same is ts h.1 in
        let told : (b : Bool) → among commalist i ≡ b → map (at x) (kept b i (unlisted commalist is)) ≡ map (at y) (kept b t (unlisted commalist' ts)) = λ b q.
        sym (ap (λ c. map (at x) (kept c i (unlisted commalist is))) q) ∙ e ∙ ap (λ c. map (at y) (kept c t (unlisted commalist' ts))) (sym h.0.1 ∙ q) in
        elim (among commalist i) as (λ b. among commalist i ≡ b → map (at x) (i ∷ is) ≡ map (at y) (t ∷ ts)) [
          | true ↦ λ q. ap₂ (λ (v : Value) (vs : List Value). v ∷ vs) (h.0.0 q) (more (told true q))
          | false ↦ λ q.
              let u = told false q in
              ap₂ (λ (v : Value) (vs : List Value). v ∷ vs) (ap (first no_value) u) (more (ap rest u))
        ] refl

-- ---- rows of two headings

module _ (h g : Heading) (here there commalist : List ℕ) (alike : AreAlike h here g there) (lies : AreAmong here commalist) (d : IsDistinct nat_eq here) (d' : IsDistinct nat_eq there) where
  abbrev commalist' : List ℕ
  commalist' = map (counterpart here there) commalist

  -- two lists of one length
  long : Beside (λ i t. Unit {0}) here there
  long = beside_more (λ i t. kind_at h i ≡ kind_at g t) (λ i t. Unit {0}) (λ i t e. tt) here there (beside_kinds h g here there alike)

  module _ (x y : Row) where
    -- rows that agree have one box, but for the labels' other values
    pub sides_agree : part_of here x ≡ part_of there y → spans_at commalist x ≡ spans_at commalist' y
    sides_agree e =
        let each = same_beside x y here there long e in
        map-In (λ i. span_of (value_at x i)) (λ i. span_of (value_at y (counterpart here there i))) commalist (λ i m.
        let v : at x i ≡ at y (counterpart here there i) = at_counterpart (λ i t. at x i ≡ at y t) here there each i (in_key here commalist lies i m) in
        ap span_of (value_at-get x i ∙ v ∙ sym (value_at-get y (counterpart here there i))))
        ∙ sym (map_twice (λ i. span_of (value_at y i)) (counterpart here there) commalist)

    -- and the same values at what is not unpacked
    pub rest_agrees : part_of here x ≡ part_of there y → part_of (unlisted commalist here) x ≡ part_of (unlisted commalist' there) y
    rest_agrees e =
        unlisted_same x y commalist commalist' here there (beside_both (λ i t. at x i ≡ at y t) (λ i t. among commalist i ≡ among commalist' t) here there (same_beside x y here there long e) (are_listed here there commalist lies d d' long))

    pub labels_agree : part_of here x ≡ part_of there y → part_of (inner commalist here) (others commalist x) ≡ part_of (inner commalist' there) (others commalist' y)
    labels_agree e = inner_values commalist here x no_value ∙ rest_agrees e ∙ sym (inner_values commalist' there y no_value)

    -- and the other way round
    pub boxes_agree : IsShaped h commalist x → IsShaped g commalist' y → spans_at commalist x ≡ spans_at commalist' y → part_of (inner commalist here) (others commalist x) ≡ part_of (inner commalist' there) (others commalist' y) → part_of here x ≡ part_of there y
    boxes_agree sx sy spans labels =
        let spans' : map (λ i. span_of (value_at x i)) commalist ≡ map (λ i. span_of (value_at y (counterpart here there i))) commalist = spans ∙ map_twice (λ i. span_of (value_at y i)) (counterpart here there) commalist in
        let listed = are_listed here there commalist lies d d' long in
        let kinds = beside_kinds h g here there alike in
        let pairs = all_pairs here there commalist lies d d' long in
        let facts = beside_both (IsPair here there) (λ i t. (among commalist i ≡ among commalist' t) × (kind_at h i ≡ kind_at g t)) here there pairs (beside_both (λ i t. among commalist i ≡ among commalist' t) (λ i t. kind_at h i ≡ kind_at g t) here there listed kinds) in
        all_same x y commalist commalist' here there
        (beside_more (λ i t. IsPair here there i t × ((among commalist i ≡ among commalist' t) × (kind_at h i ≡ kind_at g t))) (λ i t. (IsTrue (among commalist i) → at x i ≡ at y t) × (among commalist i ≡ among commalist' t))
        (λ i t f. (
          λ m.
              let there_too : IsTrue (among commalist' t) = sym f.1.0 ∙ m in
              let span : span_of (value_at x i) ≡ span_of (value_at y t) =
              same_of (λ i. span_of (value_at x i)) (λ i. span_of (value_at y (counterpart here there i))) (pos 0, pos 0) commalist spans' i (among_in commalist i m) ∙ ap (λ j. span_of (value_at y j)) f.0.0 in
              sym (value_at-get x i) ∙ sx.spans i m ∙ (λ s. interval (line_of (type_of (f.1.1 s))) (span s)) ∙ sym (sy.spans t there_too) ∙ value_at-get y t,
          f.1.0,
        )) here there facts)
        (sym (inner_values commalist here x no_value) ∙ labels ∙ inner_values commalist' there y no_value)

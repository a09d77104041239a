-- Rows that are exchanged with those that stand ready, place by place.
--     AreExchanged      those at the first so many places are exchanged
--     exchanged_more      one place more
--     ended      one of the lists ends there
--     exchanged_forward, exchanged_back, exchanged_places      all are
--     exchanged_length, renewed-length      there are as many places
use Rattle.std.proofs.Common.{◌≡◌, ◌⊎◌, inl, inr, ℕ, zero, suc, ◌<◌, ◌≤◌, min, List, [], ◌∷◌, get_or, set, length, refl, sym, ap, ◌∙◌, subst, arith, Option, Some, None}
use Rattle.std.proofs.lemmas.Bool.{cases_lt}
use Rattle.std.proofs.lemmas.Int.{clamps}
use Rattle.value_core.specs.Values.{Relation}
use Rattle.stored_views.specs.NextRows.{newer, older, renewed, IsNextTo, AreNextTo}

-- those at the first so many places are exchanged: the stored ones were and are, and those that stand ready were and are
abbrev pub AreExchanged : ℕ → List (Option Relation) → List (Option Relation) → List (Option Relation) → List (Option Relation) → Type 0
AreExchanged zero before rows next after = (next ≡ before) × (after ≡ rows)
AreExchanged (suc i) (n ∷ before) (o ∷ rows) (m ∷ next) (p ∷ after) = (m ≡ older n o) × (p ≡ newer n o) × AreExchanged i before rows next after
AreExchanged (suc i) before rows next after = ⊥

pub exchanged_more : (i : ℕ) (before rows next after : List (Option Relation)) → AreExchanged i before rows next after → i < length next → i < length after
    → AreExchanged (suc i) before rows (set next i (older (get_or next i None) (get_or after i None))) (set after i (newer (get_or next i None) (get_or after i None)))
exchanged_more zero before rows next after are l k = by before rows next after are.0 are.1 l k
  where
    by : (bs rs ns qs : List (Option Relation)) → ns ≡ bs → qs ≡ rs → 0 < length ns → 0 < length qs
        → AreExchanged 1 bs rs (set ns 0 (older (get_or ns 0 None) (get_or qs 0 None))) (set qs 0 (newer (get_or ns 0 None) (get_or qs 0 None)))
    by bs rs [] qs e d l k = absurd (omega (arith, l))
    by bs rs (m ∷ ns) [] e d l k = absurd (omega (arith, k))
    by [] rs (m ∷ ns) (p ∷ qs) e d l k = absurd (cc)
    by (b ∷ bs) [] (m ∷ ns) (p ∷ qs) e d l k = absurd (cc)
    by (b ∷ bs) (r ∷ rs) (m ∷ ns) (p ∷ qs) e d l k =
        let one : m ≡ b = cc in
        let two : p ≡ r = cc in
        let more : ns ≡ bs = cc in
        let rest : qs ≡ rs = cc in
        ((λ i. older (one i) (two i)), (λ i. newer (one i) (two i)), (more, rest))
exchanged_more (suc i) [] rows next after are l k = absurd are
exchanged_more (suc i) (n ∷ before) [] next after are l k = absurd are
exchanged_more (suc i) (n ∷ before) (o ∷ rows) [] after are l k = absurd are
exchanged_more (suc i) (n ∷ before) (o ∷ rows) (m ∷ next) [] are l k = absurd are
exchanged_more (suc i) (n ∷ before) (o ∷ rows) (m ∷ next) (p ∷ after) are l k =
    (are.0, are.1, exchanged_more i before rows next after are.2 (omega (arith, l)) (omega (arith, k)))

-- ---- all places

-- one of the lists ends where so many places are exchanged
pub ended : (a b i : ℕ) → min a b ≤ i → (a ≤ i) ⊎ (b ≤ i)
ended a b i l =
    elim (cases_lt i a) [
      | inl lt ↦ let m : b ≤ i = omega (arith, clamps, l, lt) in inr m
      | inr le ↦ inl le
    ]

nothing_left : (before rows : List (Option Relation)) → (length rows ≤ 0) ⊎ (length before ≤ 0) → renewed before rows ≡ rows
nothing_left [] rows end = refl
nothing_left (n ∷ before) [] end = refl
nothing_left (n ∷ before) (o ∷ rows) (inl l) = absurd (omega (arith, l))
nothing_left (n ∷ before) (o ∷ rows) (inr l) = absurd (omega (arith, l))

shorter : (a b i : ℕ) → (suc a ≤ suc i) ⊎ (suc b ≤ suc i) → (a ≤ i) ⊎ (b ≤ i)
shorter a b i (inl l) = inl (omega (arith, l))
shorter a b i (inr l) = inr (omega (arith, l))

place_back : (n o m p : Option Relation) → IsNextTo n o → m ≡ older n o → p ≡ newer n o → newer m p ≡ o
place_back n o m p to e d = (λ i. newer (e i) (d i)) ∙ by n o to
  where
    by : (x y : Option Relation) → IsNextTo x y → newer (older x y) (newer x y) ≡ y
    by None y h = refl
    by (Some x) None h = absurd h
    by (Some x) (Some y) h = refl

place_to : (n o m p : Option Relation) → IsNextTo n o → m ≡ older n o → p ≡ newer n o → IsNextTo m p
place_to n o m p to e d = subst (λ (T : Type 0). T) (λ i. IsNextTo (sym e i) (sym d i)) (by n o to)
  where
    by : (x y : Option Relation) → IsNextTo x y → IsNextTo (older x y) (newer x y)
    by None y h = tt
    by (Some x) None h = absurd h
    by (Some x) (Some y) h = tt

pub exchanged_forward : (i : ℕ) (before rows next after : List (Option Relation)) → AreExchanged i before rows next after → (length rows ≤ i) ⊎ (length before ≤ i) → after ≡ renewed before rows
exchanged_forward zero before rows next after are end = are.1 ∙ sym (nothing_left before rows end)
exchanged_forward (suc i) [] rows next after are end = absurd are
exchanged_forward (suc i) (n ∷ before) [] next after are end = absurd are
exchanged_forward (suc i) (n ∷ before) (o ∷ rows) [] after are end = absurd are
exchanged_forward (suc i) (n ∷ before) (o ∷ rows) (m ∷ next) [] are end = absurd are
exchanged_forward (suc i) (n ∷ before) (o ∷ rows) (m ∷ next) (p ∷ after) are end =
    let more = exchanged_forward i before rows next after are.2 (shorter (length rows) (length before) i end) in
    λ t. are.1 t ∷ more t

pub exchanged_back : (i : ℕ) (before rows next after : List (Option Relation)) → AreExchanged i before rows next after → (length rows ≤ i) ⊎ (length before ≤ i) → AreNextTo before rows
    → renewed next after ≡ rows
exchanged_back zero before rows next after are end to = (λ t. renewed (are.0 t) (are.1 t)) ∙ nothing_left before rows end
exchanged_back (suc i) [] rows next after are end to = absurd are
exchanged_back (suc i) (n ∷ before) [] next after are end to = absurd are
exchanged_back (suc i) (n ∷ before) (o ∷ rows) [] after are end to = absurd are
exchanged_back (suc i) (n ∷ before) (o ∷ rows) (m ∷ next) [] are end to = absurd are
exchanged_back (suc i) (n ∷ before) (o ∷ rows) (m ∷ next) (p ∷ after) are end to =
    let more = exchanged_back i before rows next after are.2 (shorter (length rows) (length before) i end) to.1 in
    let here = place_back n o m p to.0 are.0 are.1 in
    λ t. here t ∷ more t

pub exchanged_places : (i : ℕ) (before rows next after : List (Option Relation)) → AreExchanged i before rows next after → AreNextTo before rows → AreNextTo next after
exchanged_places zero before rows next after are to = subst (λ (T : Type 0). T) (λ t. AreNextTo (sym are.0 t) (sym are.1 t)) to
exchanged_places (suc i) [] rows next after are to = absurd are
exchanged_places (suc i) (n ∷ before) [] next after are to = absurd are
exchanged_places (suc i) (n ∷ before) (o ∷ rows) [] after are to = absurd are
exchanged_places (suc i) (n ∷ before) (o ∷ rows) (m ∷ next) [] are to = absurd are
exchanged_places (suc i) (n ∷ before) (o ∷ rows) (m ∷ next) (p ∷ after) are to =
    (place_to n o m p to.0 are.0 are.1, exchanged_places i before rows next after are.2 to.1)

-- ---- how many places there are

pub exchanged_length : (i : ℕ) (before rows next after : List (Option Relation)) → AreExchanged i before rows next after → (length next ≡ length before) × (length after ≡ length rows)
exchanged_length zero before rows next after are = (ap length are.0, ap length are.1)
exchanged_length (suc i) [] rows next after are = absurd are
exchanged_length (suc i) (n ∷ before) [] next after are = absurd are
exchanged_length (suc i) (n ∷ before) (o ∷ rows) [] after are = absurd are
exchanged_length (suc i) (n ∷ before) (o ∷ rows) (m ∷ next) [] are = absurd are
exchanged_length (suc i) (n ∷ before) (o ∷ rows) (m ∷ next) (p ∷ after) are =
    let more = exchanged_length i before rows next after are.2 in
    (ap suc more.0, ap suc more.1)

pub renewed-length : (next rows : List (Option Relation)) → length (renewed next rows) ≡ length rows
renewed-length [] rows = refl
renewed-length (n ∷ next) [] = refl
renewed-length (n ∷ next) (o ∷ rows) = ap suc (renewed-length next rows)

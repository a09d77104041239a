-- The positions whose values tell which rows a new one is held against.
--     Relate      positions of a constraint's key, of which none is unpacked
--     told_relate, told_within      the ones that are told
use Rattle.std.proofs.Common.{◌≡◌, inl, inr, ℕ, zero, suc, ◌<◌, true, false, not, List, [], ◌∷◌, ◌++◌, length, arith, Option, None, Some, refl, sym, ap, ◌∙◌, subst, if◌then◌else◌}
use Rattle.std.specs.Bool.{IsTrue}
use Rattle.std.specs.List.{All, list_all}
use Rattle.base_core.proofs.SetLemmas.{In}
use Rattle.base_core.proofs.MemberLemmas.{In-append, In-filter, list_all-In}
use Rattle.base_core.proofs.ListLemmas.{All-In}
use Rattle.value_core.specs.Attributes.{among}
use Rattle.value_core.specs.Values.{Heading}
use Rattle.value_core.specs.declared.constraint.Constraint.{Constraint}
use Rattle.value_core.specs.declared.constraint.Constraint.TheVariants.{Key, Packed, WhenUnpacked, UKey, Foreign, History}
use Rattle.meaning_core.specs.WellMade.{AreAmong, FitsHeadings}
use Rattle.u_row.specs.Kept.{unlisted}
use Rattle.u_row.proofs.BeneathLemmas.{in_among, in_all}
use Rattle.u_constraints.specs.Growth.{outside_below, telling}

-- none of the positions is unpacked
abbrev pub AreOutside : List ℕ → List ℕ → Type 0
AreOutside commalist positions = IsTrue (list_all (λ i. not (among commalist i)) positions)

-- rows that the constraint holds against one another have the same values at the positions
abbrev pub Relate : Constraint → List ℕ → Type 0
Relate (Key k) positions = AreAmong k positions
Relate (Packed commalist) positions = AreOutside commalist positions
Relate (WhenUnpacked commalist k) positions = AreAmong k positions × AreOutside commalist positions
Relate (UKey commalist k) positions = AreAmong k positions × AreOutside commalist positions
Relate (Foreign commalist here name there) positions = ⊥
Relate (History h) positions = ⊥

-- ---- without what is unpacked

among_itself : (k : List ℕ) → AreAmong k k
among_itself k = (list_all-In (among k) k).1 (λ i m. in_among k i m)

unlisted_among : (commalist k : List ℕ) → AreAmong k (unlisted commalist k)
unlisted_among commalist k = (list_all-In (among k) (unlisted commalist k)).1 (λ i m. in_among k i ((In-filter (λ j. not (among commalist j)) i k).0 m).0)

unlisted_outside : (commalist k : List ℕ) → AreOutside commalist (unlisted commalist k)
unlisted_outside commalist k = (list_all-In (λ i. not (among commalist i)) (unlisted commalist k)).1 (λ i m. ((In-filter (λ j. not (among commalist j)) i k).0 m).1)

unlisted_within : (n : ℕ) (commalist k : List ℕ) → All (λ (i : ℕ). i < n) k → All (λ (i : ℕ). i < n) (unlisted commalist k)
unlisted_within n commalist k h = All-In (λ (i : ℕ). i < n) (unlisted commalist k) (λ i m. in_all (λ (i : ℕ). i < n) k h i ((In-filter (λ j. not (among commalist j)) i k).0 m).0)

-- ---- below a number

in_below : (commalist : List ℕ) (n i : ℕ) → In i (outside_below commalist n) → (i < n) × IsTrue (not (among commalist i))
in_below commalist zero i m = absurd m
in_below commalist (suc n) i m =
    let rest = outside_below commalist n in
    elim (among commalist n) as (λ b. among commalist n ≡ b → In i (if b then rest else rest ++ n ∷ []) → (i < suc n) × IsTrue (not (among commalist i))) [
      | true ↦ λ e m. let w = in_below commalist n i m in let l = w.0 in (omega (arith, l), w.1)
      | false ↦ λ e m. elim ((In-append i rest (n ∷ [])).0 m) [
        | inl u ↦ let w = in_below commalist n i u in let l = w.0 in (omega (arith, l), w.1)
        | inr u ↦ elim u [
          | inl q ↦ (omega (arith, q), ap (λ j. not (among commalist j)) q ∙ ap not e)
          | inr v ↦ absurd v
        ]
      ]
    ] refl m

below_outside : (commalist : List ℕ) (n : ℕ) → AreOutside commalist (outside_below commalist n)
below_outside commalist n = (list_all-In (λ i. not (among commalist i)) (outside_below commalist n)).1 (λ i m. (in_below commalist n i m).1)

below_within : (commalist : List ℕ) (n : ℕ) → All (λ (i : ℕ). i < n) (outside_below commalist n)
below_within commalist n = All-In (λ (i : ℕ). i < n) (outside_below commalist n) (λ i m. (in_below commalist n i m).0)

-- ---- the ones that are told

abbrev or_these : List ℕ → Option (List ℕ) → List ℕ
or_these d None = d
or_these d (Some v) = v

same_positions : (p q : List ℕ) → Some p ≡ Some q → q ≡ p
same_positions p q e = sym (ap (or_these p) e)

pub told_relate : (c : Constraint) (n : ℕ) (positions : List ℕ) → Some positions ≡ telling c n → Relate c positions
told_relate (Key k) n positions e = subst (λ (p : List ℕ). AreAmong k p) (same_positions positions k e) (among_itself k)
told_relate (Packed commalist) n positions e = subst (λ (p : List ℕ). AreOutside commalist p) (same_positions positions (outside_below commalist n) e) (below_outside commalist n)
told_relate (WhenUnpacked commalist k) n positions e =
    subst (λ (p : List ℕ). AreAmong k p × AreOutside commalist p) (same_positions positions (unlisted commalist k) e) (unlisted_among commalist k, unlisted_outside commalist k)
told_relate (UKey commalist k) n positions e = subst (λ (p : List ℕ). AreAmong k p × AreOutside commalist p) (same_positions positions (unlisted commalist k) e) (unlisted_among commalist k, unlisted_outside commalist k)
told_relate (Foreign commalist here name there) n positions e = let never : ⊥ = cc in absurd never
told_relate (History h) n positions e = let never : ⊥ = cc in absurd never

pub told_within : (c : Constraint) (h g : Heading) (positions : List ℕ) → FitsHeadings h g c → Some positions ≡ telling c (length h) → All (λ (i : ℕ). i < length h) positions
told_within (Key k) h g positions fits e = subst (All (λ (i : ℕ). i < length h)) (same_positions positions k e) fits.within
told_within (Packed commalist) h g positions fits e = subst (All (λ (i : ℕ). i < length h)) (same_positions positions (outside_below commalist (length h)) e) (below_within commalist (length h))
told_within (WhenUnpacked commalist k) h g positions fits e =
    subst (All (λ (i : ℕ). i < length h)) (same_positions positions (unlisted commalist k) e) (unlisted_within (length h) commalist k fits.1.within)
told_within (UKey commalist k) h g positions fits e =
    subst (All (λ (i : ℕ). i < length h)) (same_positions positions (unlisted commalist k) e) (unlisted_within (length h) commalist k fits.1.within)
told_within (Foreign commalist here name there) h g positions fits e = let never : ⊥ = cc in absurd never
told_within (History rule) h g positions fits e = let never : ⊥ = cc in absurd never

-- where none are told, the constraint names another relvar
abbrev pub Names : Constraint → Type 0
Names (Foreign commalist here name there) = Unit {0}
Names (History h) = Unit {0}
Names _ = ⊥

pub told_none : (c : Constraint) (n : ℕ) → None ≡ telling c n → Names c
told_none (Key k) n e = let never : ⊥ = cc in absurd never
told_none (Packed commalist) n e = let never : ⊥ = cc in absurd never
told_none (WhenUnpacked commalist k) n e = let never : ⊥ = cc in absurd never
told_none (UKey commalist k) n e = let never : ⊥ = cc in absurd never
told_none (Foreign commalist here name there) n e = tt
told_none (History h) n e = tt

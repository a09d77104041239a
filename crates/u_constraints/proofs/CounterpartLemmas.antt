-- Positions here and there that stand for one another.
--     Beside      what holds of the positions at one place of two lists
--     are_listed      a position here is unpacked exactly where its counterpart is
use Rattle.std.proofs.Common.{◌≡◌, inl, inr, ℕ, zero, suc, ◌+◌, ◌<◌, true, false, List, [], ◌∷◌, map, drop, length, get_or, refl, sym, ap, ap₂, ◌∙◌, subst, arith, nat_eq, if◌then◌else◌}
use Rattle.std.specs.List.{AllByRecursion, IsDistinct}
use Rattle.std.proofs.lemmas.Bool.{eqb-true, eqb-false, eq-eqb}
use Rattle.base_core.proofs.SetLemmas.{In}
use Rattle.base_core.proofs.MemberLemmas.{In-map, list_all-In}
use Rattle.base_core.proofs.SetOperatorLemmas.{same_tests}
use Rattle.value_core.specs.Attributes.{among}
use Rattle.value_core.specs.Values.{Heading}
use Rattle.relation_core.specs.Parts.{kind_at}
use Rattle.meaning_core.specs.WellMade.{AreAlike, AreAmong}
use Rattle.u_row.proofs.BeneathLemmas.{among_in, in_among}
use Rattle.u_constraints.specs.Constraints.{counterpart}

-- ---- two lists of one length, place by place

abbrev pub Beside : (ℕ → ℕ → Type 0) → List ℕ → List ℕ → Type 0
Beside Q [] [] = Unit {0}
Beside Q [] (t ∷ ts) = ⊥
Beside Q (i ∷ is) [] = ⊥
Beside Q (i ∷ is) (t ∷ ts) = Q i t × Beside Q is ts

pub beside_turned : (Q : ℕ → ℕ → Type 0) (is ts : List ℕ) → Beside Q is ts → Beside (λ t i. Q i t) ts is
beside_turned Q [] [] h = tt
beside_turned Q [] (t ∷ ts) h = absurd h
beside_turned Q (i ∷ is) [] h = absurd h
beside_turned Q (i ∷ is) (t ∷ ts) h = (h.0, beside_turned Q is ts h.1)

pub beside_both : (Q R : ℕ → ℕ → Type 0) (is ts : List ℕ) → Beside Q is ts → Beside R is ts → Beside (λ i t. Q i t × R i t) is ts
beside_both Q R [] [] h k = tt
beside_both Q R [] (t ∷ ts) h k = absurd h
beside_both Q R (i ∷ is) [] h k = absurd h
beside_both Q R (i ∷ is) (t ∷ ts) h k = ((h.0, k.0), beside_both Q R is ts h.1 k.1)

pub beside_more : (Q R : ℕ → ℕ → Type 0) → ((i t : ℕ) → Q i t → R i t) → (is ts : List ℕ) → Beside Q is ts → Beside R is ts
beside_more Q R f [] [] h = tt
beside_more Q R f [] (t ∷ ts) h = absurd h
beside_more Q R f (i ∷ is) [] h = absurd h
beside_more Q R f (i ∷ is) (t ∷ ts) h = (f i t h.0, beside_more Q R f is ts h.1)

pub beside_kinds : (h g : Heading) (here there : List ℕ) → AreAlike h here g there → Beside (λ i t. kind_at h i ≡ kind_at g t) here there
beside_kinds h g [] [] a = tt
beside_kinds h g [] (t ∷ ts) a = absurd a
beside_kinds h g (i ∷ is) [] a = absurd a
beside_kinds h g (i ∷ is) (t ∷ ts) a = (a.0, beside_kinds h g is ts a.1)

pub alike_itself : (h : Heading) (positions : List ℕ) → AreAlike h positions h positions
alike_itself h [] = tt
alike_itself h (i ∷ is) = (refl, alike_itself h is)

pub alike_many : (h g : Heading) (here there : List ℕ) → AreAlike h here g there → length here ≡ length there
alike_many h g [] [] a = refl
alike_many h g [] (t ∷ ts) a = absurd a
alike_many h g (i ∷ is) [] a = absurd a
alike_many h g (i ∷ is) (t ∷ ts) a = ap suc (alike_many h g is ts a.1)

-- ---- counterparts

-- what holds place by place holds of a position and its counterpart
pub at_counterpart : (Q : ℕ → ℕ → Type 0) (here there : List ℕ) → Beside Q here there → (i : ℕ) → In i here → Q i (counterpart here there i)
at_counterpart Q [] there h i m = absurd m
at_counterpart Q (k ∷ ks) [] h i m = absurd h
at_counterpart Q (k ∷ ks) (t ∷ ts) h i m =
    elim (nat_eq k i) as (λ b. nat_eq k i ≡ b → Q i (if b then t else counterpart ks ts i)) [
      | true ↦ λ e. subst (λ z. Q z t) (eqb-true k i e) h.0
      | false ↦ λ e. elim m [
        | inl q ↦ absurd (eqb-false k i e (sym q))
        | inr w ↦ at_counterpart Q ks ts h.1 i w
      ]
    ] refl

paired_behind : (k t : ℕ) (ks ts is us : List ℕ) → AllByRecursion (λ j. nat_eq k j ≡ false) is → Beside (λ i u. counterpart ks ts i ≡ u) is us
    → Beside (λ i u. counterpart (k ∷ ks) (t ∷ ts) i ≡ u) is us
paired_behind k t ks ts [] [] d h = tt
paired_behind k t ks ts [] (u ∷ us) d h = absurd h
paired_behind k t ks ts (i ∷ is) [] d h = absurd h
paired_behind k t ks ts (i ∷ is) (u ∷ us) d h = (ap (λ b. if b then t else counterpart ks ts i) d.0 ∙ h.0, paired_behind k t ks ts is us d.1 h.1)

-- each of different positions has its own counterpart
pub paired : (here there : List ℕ) → IsDistinct nat_eq here → Beside (λ i t. Unit {0}) here there → Beside (λ i t. counterpart here there i ≡ t) here there
unfolding IsDistinct
paired [] [] d h = tt
paired [] (t ∷ ts) d h = absurd h
paired (k ∷ ks) [] d h = absurd h
paired (k ∷ ks) (t ∷ ts) d h = (
  ap (λ b. if b then t else counterpart ks ts k) (eq-eqb k k refl),
  paired_behind k t ks ts ks ts d.0 (paired ks ts d.1 h.1),
)

not_equal : (k i : ℕ) → (k ≡ i → ⊥) → nat_eq k i ≡ false
not_equal k i n = elim (nat_eq k i) as (λ b. nat_eq k i ≡ b → b ≡ false) [ true ↦ λ e. absurd (n (eqb-true k i e)) | false ↦ λ e. refl ] refl

behind_other : (here there : List ℕ) (at position : ℕ) → at < length here → length here ≡ length there → (get_or here at 0 ≡ position → ⊥)
    → counterpart (drop (suc at) here) (drop (suc at) there) position ≡ counterpart (drop at here) (drop at there) position
behind_other [] there at position l e other = absurd (omega (arith, l))
behind_other (k ∷ ks) [] at position l e other = absurd (omega (arith, e))
behind_other (k ∷ ks) (t ∷ ts) zero position l e other = sym (ap (λ b. if b then t else counterpart ks ts position) (not_equal k position other))
behind_other (k ∷ ks) (t ∷ ts) (suc at) position l e other = behind_other ks ts at position (omega (arith, l)) (omega (arith, e)) other

-- the search for a position goes on behind another
pub counterpart_next : (here there : List ℕ) (at position : ℕ) → at < length here → length here ≡ length there → (get_or here at 0 ≡ position → ⊥)
    → counterpart (drop (at + 1) here) (drop (at + 1) there) position ≡ counterpart (drop at here) (drop at there) position
counterpart_next here there at position l e other =
    let next : suc at ≡ at + 1 = omega arith in
    subst (λ n. counterpart (drop n here) (drop n there) position ≡ counterpart (drop at here) (drop at there) position) next (behind_other here there at position l e other)

-- where both lists are one a position is its own counterpart
own_counterpart : (ks : List ℕ) (i : ℕ) → counterpart ks ks i ≡ i
own_counterpart [] i = refl
own_counterpart (k ∷ ks) i =
    elim (nat_eq k i) as (λ b. nat_eq k i ≡ b → (if b then k else counterpart ks ks i) ≡ i) [
      | true ↦ λ e. eqb-true k i e
      | false ↦ λ e. own_counterpart ks i
    ] refl

pub own_list : (ks commalist : List ℕ) → commalist ≡ map (counterpart ks ks) commalist
own_list ks [] = refl
own_list ks (i ∷ commalist) = ap₂ (λ j js. j ∷ js) (sym (own_counterpart ks i)) (own_list ks commalist)

-- ---- what is unpacked

pub in_key : (key commalist : List ℕ) → AreAmong key commalist → (i : ℕ) → In i commalist → In i key
in_key key commalist h i m = among_in key i ((list_all-In (among key) commalist).0 h i m)

-- the one is the counterpart of the other, and the other way round
abbrev pub IsPair : List ℕ → List ℕ → ℕ → ℕ → Type 0
IsPair here there i t = (counterpart here there i ≡ t) × (counterpart there here t ≡ i)

module _ (here there commalist : List ℕ) (lies : AreAmong here commalist) (d : IsDistinct nat_eq here) (d' : IsDistinct nat_eq there) (long : Beside (λ i t. Unit {0}) here there) where
  pub all_pairs : Beside (IsPair here there) here there
  all_pairs =
      let back : Beside (λ t i. counterpart there here t ≡ i) there here = paired there here d' (beside_turned (λ i t. Unit {0}) here there long) in
      beside_both (λ i t. counterpart here there i ≡ t) (λ i t. counterpart there here t ≡ i) here there (paired here there d long)
      (beside_turned (λ t i. counterpart there here t ≡ i) there here back)

  listed : (i t : ℕ) → IsPair here there i t → among commalist i ≡ among (map (counterpart here there) commalist) t
  listed i t p =
      same_tests (among commalist i) (among (map (counterpart here there) commalist) t) (
        λ h. in_among (map (counterpart here there) commalist) t ((In-map (counterpart here there) t commalist).1 (i, among_in commalist i h, sym p.0)),
        λ h.
            let w = (In-map (counterpart here there) t commalist).0 (among_in (map (counterpart here there) commalist) t h) in
            let q = at_counterpart (IsPair here there) here there all_pairs w.0 (in_key here commalist lies w.0 w.1) in
            let e : i ≡ w.0 = sym p.1 ∙ ap (counterpart there here) w.2 ∙ q.1 in
            in_among commalist i (subst (λ j. In j commalist) (sym e) w.1),
      )

  pub are_listed : Beside (λ i t. among commalist i ≡ among (map (counterpart here there) commalist) t) here there
  are_listed = beside_more (IsPair here there) (λ i t. among commalist i ≡ among (map (counterpart here there) commalist) t) listed here there all_pairs

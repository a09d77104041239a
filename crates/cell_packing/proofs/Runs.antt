-- What follows from the definitions of packed rows.
use Rattle.std.proofs.Common.{◌≡◌, ℤ, ◌≤ℤ◌, List, [], ◌∷◌, ◌↔◌, arith, sym, subst, refl}
use Rattle.std.proofs.lemmas.Int.{ints, by_lt_z}
use Rattle.interval_core.specs.Members.{Span}
use Rattle.cell_packing.specs.Packed.{IsRun, IsPacked, Has}

pub IsRun-iff : (P Q : ℤ → Type 0) → ((p : ℤ) → P p ↔ Q p) → (i : Span) → IsRun P i → IsRun Q i
IsRun-iff P Q e i r = record {
  some = r.some;
  each = λ p a b. (e p).0 (r.each p a b);
  before = λ q. r.before ((e _).1 q);
  after = λ q. r.after ((e _).1 q);
}

-- a packed form depends on the set alone
pub IsPacked-iff : (S S' : List ℤ → Type 0) (is : List Span) → ((ps : List ℤ) → S ps ↔ S' ps) → IsPacked S is → IsPacked S' is
IsPacked-iff S S' [] e h = (e []).0 h
IsPacked-iff S S' (i ∷ is) e h = IsRun-iff _ _ (λ p. (IsPacked-iff _ _ is (λ ps. e (p ∷ ps)), IsPacked-iff _ _ is (λ ps. ((e (p ∷ ps)).1, (e (p ∷ ps)).0)))) i h

-- all points of a packed row are in the set
pub IsPacked-points : (S : List ℤ → Type 0) (is : List Span) (ps : List ℤ) → IsPacked S is → Has is ps → S ps
IsPacked-points S [] [] h g = h
IsPacked-points S [] (p ∷ ps) h g = absurd g
IsPacked-points S (i ∷ is) [] h g = absurd g
IsPacked-points S (i ∷ is) (p ∷ ps) h g = IsPacked-points (λ ps. S (p ∷ ps)) is ps (h.each p g.0 g.1) g.2

-- two runs of one set that share a point are one
pub IsRun-first : (P : ℤ → Type 0) (i j : Span) (p : ℤ) → IsRun P i → IsRun P j → i.0 ≤ℤ p → p ≤ℤ j.1 → i.0 ≤ℤ j.0
IsRun-first P i j p r s a d =
    by_lt_z j.0 i.0 (λ l. absurd (r.before (s.each _ (omega (arith, ints)) (omega (arith, ints))))) (λ h. h)

pub IsRun-last : (P : ℤ → Type 0) (i j : Span) (p : ℤ) → IsRun P i → IsRun P j → p ≤ℤ i.1 → j.0 ≤ℤ p → j.1 ≤ℤ i.1
IsRun-last P i j p r s b c =
    by_lt_z i.1 j.1 (λ l. absurd (r.after (s.each _ (omega (arith, ints)) (omega (arith, ints))))) (λ h. h)

le_both : (a b : ℤ) → a ≤ℤ b → b ≤ℤ a → a ≡ b
le_both a b h g = omega (arith, ints)

pub IsRun-one : (P : ℤ → Type 0) (i j : Span) (p : ℤ) → IsRun P i → IsRun P j → i.0 ≤ℤ p → p ≤ℤ i.1 → j.0 ≤ℤ p → p ≤ℤ j.1 → i ≡ j
IsRun-one P i j p r s a b c d =
    let f = le_both i.0 j.0 (IsRun-first P i j p r s a d) (IsRun-first P j i p s r c b) in
    let g = le_both i.1 j.1 (IsRun-last P j i p s r d a) (IsRun-last P i j p r s b c) in
    λ t. (f t, g t)

-- two packed boxes of one set that share a place are one
pub IsPacked-one : (S : List ℤ → Type 0) (is js : List Span) (ps : List ℤ) → IsPacked S is → IsPacked S js → Has is ps → Has js ps → is ≡ js
IsPacked-one S [] [] ps r s a b = refl
IsPacked-one S [] (j ∷ js) [] r s a b = absurd b
IsPacked-one S [] (j ∷ js) (p ∷ ps) r s a b = absurd a
IsPacked-one S (i ∷ is) [] [] r s a b = absurd a
IsPacked-one S (i ∷ is) [] (p ∷ ps) r s a b = absurd b
IsPacked-one S (i ∷ is) (j ∷ js) [] r s a b = absurd a
IsPacked-one S (i ∷ is) (j ∷ js) (p ∷ ps) r s a b =
    let P : ℤ → Type 0 = λ q. IsPacked (λ qs. S (q ∷ qs)) is in
    let e : is ≡ js = IsPacked-one (λ qs. S (p ∷ qs)) is js ps (r.each p a.0 a.1) (s.each p b.0 b.1) a.2 b.2 in
    let s' : IsRun P j = subst (λ ks. IsRun (λ q. IsPacked (λ qs. S (q ∷ qs)) ks) j) (sym e) s in
    let f : i ≡ j = IsRun-one P i j p r s' a.0 a.1 b.0 b.1 in
    λ t. f t ∷ e t

-- To pack one side after the other is to pack slices of the last side.
use Rattle.std.proofs.Common.{◌≡◌, ℕ, zero, suc, ◌<◌, ◌≤◌, ◌≢◌, ℤ, List, [], ◌∷◌, length, get_or, set, drop, ◌↔◌, arith, sym, subst, refl, get_or-set_other}
use Rattle.std.proofs.Math.ListN.{length-set}
use Rattle.std.proofs.lemmas.Int.{ints}
use Rattle.std.proofs.Math.Seq.{drop-length}
use Rattle.interval_core.specs.Members.{Span, at_point}
use Rattle.cell_packing.specs.Packed.{IsRun, IsPacked, IsPackedTo, packs, points_of, ArePoints, firsts, nowhere, onto, sides_back}
use Rattle.cell_packing.proofs.Runs.{IsRun-iff}

-- only the sides before j count
IsPackedTo-set : (j : ℕ) (S : List ℤ → Type 0) (y : List Span) (m : ℕ) (v : Span) (rest : List ℤ) → j ≤ m → IsPackedTo j S (set y m v) rest ≡ IsPackedTo j S y rest
IsPackedTo-set zero S y m v rest h = refl
IsPackedTo-set (suc j) S y m v rest h =
    let ne : j ≢ m = omega arith in
    let e : get_or (set y m v) j nowhere ≡ get_or y j nowhere = rw get_or-set_other in
    λ t. IsRun (λ p. IsPackedTo-set j S y m v (p ∷ rest) (omega arith) t) (e t)

drop-set : (y : List Span) (j : ℕ) (v : Span) → j < length y → drop j (set y j v) ≡ v ∷ drop (suc j) y
drop-set [] j v h = absurd (omega arith)
drop-set (x ∷ xs) zero v h = refl
drop-set (x ∷ xs) (suc j) v h = drop-set xs j v (omega arith)

pub drop_at : (y : List Span) (j : ℕ) → j < length y → drop j y ≡ get_or y j nowhere ∷ drop (suc j) y
drop_at [] j h = absurd (omega arith)
drop_at (x ∷ xs) zero h = refl
drop_at (x ∷ xs) (suc j) h = drop_at xs j (omega arith)

IsRun-outside : (A : Type 0) (P : ℤ → Type 0) (i : Span) → IsRun (λ p. A × P p) i ↔ A × IsRun P i
IsRun-outside A P i = (
  λ r.
      let some = r.some in
      let a : A = (r.each i.0 (omega (arith, ints)) some).0 in
      (a, record { some = r.some; each = λ p f g. (r.each p f g).1; before = λ q. r.before (a, q); after = λ q. r.after (a, q) }),
  λ g. record { some = g.1.some; each = λ p f h. (g.0, g.1.each p f h); before = λ q. g.1.before q.1; after = λ q. g.1.after q.1 },
)

-- the rows packed on the first j sides
pub packs_iff : (j : ℕ) (S : List ℤ → Type 0) (y : List Span) → j ≤ length y → packs j (points_of S) y ↔ ArePoints (drop j y) × IsPackedTo j S y (firsts (drop j y))
packs_iff zero S y h = (λ g. g, λ g. g)
packs_iff (suc j) S y h =
    let A : Type 0 = ArePoints (drop (suc j) y) in
    let rest : List ℤ = firsts (drop (suc j) y) in
    let here : (p : ℤ) → packs j (points_of S) (set y j (at_point p)) ↔ A × IsPackedTo j S y (p ∷ rest) = λ p.
    let ih = packs_iff j S (set y j (at_point p)) (omega (arith, length-set y j (at_point p))) in
    let e : drop j (set y j (at_point p)) ≡ at_point p ∷ drop (suc j) y = drop-set y j (at_point p) h in
    let k = IsPackedTo-set j S y j (at_point p) (p ∷ rest) (omega arith) in
    let Q : List Span → Type 0 = λ zs. ArePoints zs × IsPackedTo j S (set y j (at_point p)) (firsts zs) in (
      λ g. let w : Q (at_point p ∷ drop (suc j) y) = subst Q e (ih.0 g) in (w.0.1, subst (λ T. T) k w.1),
      λ g. let w : Q (at_point p ∷ drop (suc j) y) = ((refl, g.0), subst (λ T. T) (sym k) g.1) in ih.1 (subst Q (sym e) w),
    )
    in
    let i : Span = get_or y j nowhere in (
      λ g. (IsRun-outside A _ i).0 (IsRun-iff _ _ here i g),
      λ g. IsRun-iff _ _ (λ p. ((here p).1, (here p).0)) i ((IsRun-outside A _ i).1 g),
    )

-- by the side's number, and from the last side inward
pub IsPackedTo-is : (j : ℕ) (S : List ℤ → Type 0) (y : List Span) (rest : List ℤ) → IsPackedTo j S y rest ≡ IsPacked (λ ps. S (onto ps rest)) (sides_back j y)
IsPackedTo-is zero S y rest = refl
IsPackedTo-is (suc j) S y rest = λ t. IsRun (λ p. IsPackedTo-is j S y (p ∷ rest) t) (get_or y j nowhere)

-- the whole: packed on one side after the other is packed from the last side inward
pub packs_is : (S : List ℤ → Type 0) (y : List Span) → packs (length y) (points_of S) y ↔ IsPacked (λ ps. S (onto ps [])) (sides_back (length y) y)
packs_is S y =
    let w = packs_iff (length y) S y (omega arith) in
    let e = drop-length y in
    let k = IsPackedTo-is (length y) S y [] in
    let Q : List Span → Type 0 = λ zs. ArePoints zs × IsPackedTo (length y) S y (firsts zs) in (
      λ g. let q : Q [] = subst Q e (w.0 g) in subst (λ T. T) k q.1,
      λ g. w.1 (subst Q (sym e) (tt, subst (λ T. T) (sym k) g)),
    )

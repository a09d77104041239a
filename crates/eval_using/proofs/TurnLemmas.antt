-- Values at the places from the first on.
use Rattle.std.proofs.Common.{◌≡◌, ℕ, suc, ◌+◌, ◌<◌, List, [], ◌∷◌, ◌++◌, length, get_or, arith, false, sym, ap, ap₂, refl, ◌∙◌}
use Rattle.value_core.specs.Values.{Row, Value, truth}
use Rattle.relation_core.specs.Agreement.{part_of}

-- the value that stands behind others
behind : (zs xs : Row) (x d : Value) → get_or (zs ++ x ∷ xs) (length zs) d ≡ x
behind [] xs x d = refl
behind (z ∷ zs) xs x d = behind zs xs x d

moved : (zs xs : Row) (x : Value) → (zs ++ x ∷ []) ++ xs ≡ zs ++ x ∷ xs
moved [] xs x = refl
moved (z ∷ zs) xs x = ap (λ vs. z ∷ vs) (moved zs xs x)

longer : (zs : Row) (x : Value) → length (zs ++ x ∷ []) ≡ suc (length zs)
longer [] x = refl
longer (z ∷ zs) x = ap suc (longer zs x)

part_rest : (zs xs ys : Row) (ps : List ℕ) → length ps ≡ length xs → ((i : ℕ) → i < length ps → get_or ps i 0 ≡ length zs + i) → part_of ps (zs ++ (xs ++ ys)) ≡ xs
part_rest zs [] ys [] n h = refl
part_rest zs [] ys (p ∷ ps) n h = absurd (omega (arith, n))
part_rest zs (x ∷ xs) ys [] n h = absurd (omega (arith, n))
part_rest zs (x ∷ xs) ys (p ∷ ps) n h =
    let first = h 0 (omega arith) in
    let at : p ≡ length zs = omega (arith, first) in
    let here : get_or (zs ++ x ∷ (xs ++ ys)) p (truth false) ≡ x = ap (λ i. get_or (zs ++ x ∷ (xs ++ ys)) i (truth false)) at ∙ behind zs (xs ++ ys) x (truth false) in
    let rest : part_of ps ((zs ++ x ∷ []) ++ (xs ++ ys)) ≡ xs = part_rest (zs ++ x ∷ []) xs ys ps (omega (arith, n)) (λ i k. let e = h (suc i) (omega (arith, k)) in let l = longer zs x in omega (arith, e, l)) in
    ap₂ (λ v vs. v ∷ vs) here (ap (part_of ps) (sym (moved zs (xs ++ ys) x)) ∙ rest)

-- the values at the places from the first on are those that stand there
pub part_in_turn : (xs ys : Row) (ps : List ℕ) → length ps ≡ length xs → ((i : ℕ) → i < length ps → get_or ps i 0 ≡ i) → part_of ps (xs ++ ys) ≡ xs
part_in_turn xs ys ps n h = part_rest [] xs ys ps n (λ i k. let e = h i k in omega (arith, e))

-- Where a name stands among the names of two lists.
use Rattle.std.proofs.Common.{◌≡◌, ℕ, suc, ◌+◌, ◌<◌, ◌≤◌, Bool, true, false, List, [], ◌∷◌, ◌++◌, length, map, refl, sym, ap, ◌∙◌, if◌then◌else◌, nat_lt, arith, Result, Ok, Err, IfOk}
use Rattle.std.proofs.lemmas.Bool.{ltb-true, ltb-false}
use Rattle.std.specs.Str.{bytes_eq}
use Rattle.value_core.specs.Values.{Name}
use Rattle.meaning_core.specs.Places.{place_among}

first-step : (b : Bool) (p q l : ℕ) → (p < l → q ≡ p) → (if b then 0 else suc p) < suc l → (if b then 0 else suc q) ≡ (if b then 0 else suc p)
first-step true p q l h below = refl
first-step false p q l h below = let less : p < l = omega arith in ap suc (h less)

behind-step : (b : Bool) (p q l r : ℕ) → (l ≤ p → q ≡ l + r) → suc l ≤ (if b then 0 else suc p) → (if b then 0 else suc q) ≡ suc l + r
behind-step true p q l r h past = absurd (omega arith)
behind-step false p q l r h past = let more : l ≤ p = omega arith in let e : q ≡ l + r = h more in omega (arith, e)

-- at its place among the first
among-first : (names others : List Name) (name : Name) → place_among names name < length names → place_among (names ++ others) name ≡ place_among names name
among-first [] others name below = absurd (omega arith)
among-first (n ∷ names) others name below =
    first-step (bytes_eq n name) (place_among names name) (place_among (names ++ others) name) (length names) (among-first names others name) below

-- or behind them, at its place among the others
among-behind : (names others : List Name) (name : Name) → length names ≤ place_among names name → place_among (names ++ others) name ≡ length names + place_among others name
among-behind [] others name past = omega arith
among-behind (n ∷ names) others name past =
    behind-step (bytes_eq n name) (place_among names name) (place_among (names ++ others) name) (length names) (place_among others name) (among-behind names others name) past

either : (names others : List Name) (name : Name) (at made : ℕ) → at ≡ place_among names name → made ≡ length names → (b : Bool) → nat_lt at made ≡ b
    → (if b then at else made + place_among others name) ≡ place_among (names ++ others) name
either names others name at made here many true e =
    let less : at < made = ltb-true at made e in here ∙ sym (among-first names others name (omega (arith, here, many, less)))
either names others name at made here many false e =
    let past : made ≤ at = ltb-false at made e in
    ap (λ (m : ℕ). m + place_among others name) many ∙ sym (among-behind names others name (omega (arith, here, many, past)))

pub place-behind : {E : Type 0} (names others : List Name) (name : Name) (answer : Result ℕ E) (at made : ℕ) → at ≡ place_among names name → made ≡ length names
    → IfOk answer (λ p. p ≡ (if nat_lt at made then at else made + place_among others name)) → IfOk answer (λ p. p ≡ place_among (names ++ others) name)
place-behind names others name (Err e) at made here many h = tt
place-behind names others name (Ok p) at made here many h = h ∙ either names others name at made here many (nat_lt at made) refl

pub many-mapped : {A B : Type 0} (f : A → B) (xs : List A) → length xs ≡ length (map f xs)
many-mapped f [] = refl
many-mapped f (x ∷ xs) = ap suc (many-mapped f xs)

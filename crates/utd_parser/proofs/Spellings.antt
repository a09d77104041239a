-- Which terminal is spelled so.
use Rattle.std.proofs.Common.{◌≡◌, ℕ, suc, List, [], ◌∷◌, length, Bool, ◌==◌, ◌&&◌, true, false, cond, refl, sym, ap, subst}
use Rattle.std.specs.Cmp.Lexicographic.{pointwise}
use Rattle.utd_syntax.specs.declared.terminal.Terminal.{Terminal}
use Rattle.utd_syntax.specs.Table.{same_bytes}
use Rattle.utd_syntax.specs.Terminals.{spelling, spelled_among}

-- bytes that are the same one by one
pub same-pointwise : (xs ys : List ℕ) → pointwise (λ x y. x == y) xs ys ≡ same_bytes xs ys
same-pointwise [] [] = refl
same-pointwise [] (y ∷ ys) = refl
same-pointwise (x ∷ xs) [] = refl
same-pointwise (x ∷ xs) (y ∷ ys) = ap (λ b. (x == y) && b) (same-pointwise xs ys)

-- the first of them, and one behind it
pub among-first : (list : List Terminal) (x : Terminal) (xs : List Terminal) (other : Terminal) (b : List ℕ) → list ≡ x ∷ xs → same_bytes (spelling x) b ≡ true → x ≡ spelled_among list other b
among-first list x xs other b is e = subst (λ l. x ≡ spelled_among l other b) (sym is) (ap (λ c. cond c x (spelled_among xs other b)) (sym e))

pub among-later : (list : List Terminal) (x : Terminal) (xs : List Terminal) (other : Terminal) (b : List ℕ) → list ≡ x ∷ xs → same_bytes (spelling x) b ≡ false → spelled_among xs other b ≡ spelled_among list other b
among-later list x xs other b is e = subst (λ l. spelled_among xs other b ≡ spelled_among l other b) (sym is) (ap (λ c. cond c x (spelled_among xs other b)) (sym e))

and-false : (b c : Bool) → c ≡ false → (b && c) ≡ false
and-false true c e = e
and-false false c e = refl

-- bytes of another number are others
pub other-length : (xs ys : List ℕ) → (length xs ≡ length ys → ⊥) → same_bytes xs ys ≡ false
other-length [] [] h = absurd (h refl)
other-length [] (y ∷ ys) h = refl
other-length (x ∷ xs) [] h = refl
other-length (x ∷ xs) (y ∷ ys) h = and-false (x == y) (same_bytes xs ys) (other-length xs ys (λ e. h (ap suc e)))

-- The first elements of lists.
use Rattle.std.proofs.Common.{◌≡◌, ℕ, suc, ◌+◌, ◌<◌, ◌≤◌, List, [], ◌∷◌, ◌++◌, length, drop, get_or, sym, ◌∙◌, ap, arith, length-append, length-drop, drop-cons}

head : ℕ → List ℕ → ℕ
head d [] = d
head d (x ∷ xs) = x

tail : List ℕ → List ℕ
tail [] = []
tail (x ∷ xs) = xs

pub same-head : (x y : ℕ) (xs ys : List ℕ) → x ∷ xs ≡ y ∷ ys → x ≡ y
unfolding head
same-head x y xs ys e = ap (head x) e

pub same-tail : (x y : ℕ) (xs ys : List ℕ) → x ∷ xs ≡ y ∷ ys → xs ≡ ys
unfolding tail
same-tail x y xs ys e = ap tail e

pub nil-cons : (y : ℕ) (ys : List ℕ) → [] ≡ y ∷ ys → ⊥
nil-cons y ys e = let n : 0 ≡ suc (length ys) = ap length e in omega (arith, n)

-- the element at an index, and those behind it
pub drop-at : (xs : List ℕ) (i x : ℕ) → i < length xs → x ≡ get_or xs i x → drop i xs ≡ x ∷ drop (i + 1) xs
drop-at xs i x lt is =
    let on : suc i ≡ i + 1 = omega arith in
    drop-cons xs i x lt ∙ ap (λ z. z ∷ drop (suc i) xs) (sym is) ∙ ap (λ n. x ∷ drop n xs) on

-- how long a front is, by what is behind it
pub prefix-length : (all prefix rest : List ℕ) (n : ℕ) → all ≡ prefix ++ rest → n ≤ length all → rest ≡ drop n all → length prefix ≡ n
prefix-length all prefix rest n is le behind =
    let a : length all ≡ length prefix + length rest = ap length is ∙ length-append prefix rest in
    let b : length rest ≡ length (drop n all) = ap length behind in
    omega (arith, a, b, length-drop n all)

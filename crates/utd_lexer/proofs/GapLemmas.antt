-- White space and comments at the front of characters.
use Rattle.std.proofs.Common.{◌≡◌, ◌≢◌, ℕ, ◌+◌, ◌<◌, ◌≤◌, List, [], ◌∷◌, ◌++◌, length, drop, get_or, true, Some, None, refl, sym, ◌∙◌, ap, subst, arith, length-append, length-drop, append_assoc, append-nil}
use Rattle.std.proofs.lemmas.List.{drop_all, get_or_default}
use Rattle.utd_lexer.specs.Parts.{is_space, Lacks, LacksEnd}
use Rattle.utd_lexer.specs.Tokens.{blank, block, line, last}
use Rattle.utd_lexer.specs.Prefixes.{GapFront}
use Rattle.utd_lexer.proofs.ListLemmas.{same-head, same-tail, drop-at, prefix-length}

no_space : (c : ℕ) → c ≡ 47 → is_space c ≡ true → ⊥
no_space c e h = let f : is_space 47 ≡ true = ap is_space (sym e) ∙ h in cc

-- a comment /* .. */

-- the comment does not end in these characters
abbrev pub NoEnd : List ℕ → Type 0
NoEnd cs = (bs rest : List ℕ) → cs ≡ bs ++ 42 ∷ (47 ∷ rest) → ⊥

-- an end that lies in what is left is one of the whole, and where there is none in it, the whole has none
abbrev pub BlockGoesOn : List ℕ → List ℕ → Type 0
BlockGoesOn left all = ((bs rest : List ℕ) → LacksEnd bs → left ≡ bs ++ 42 ∷ (47 ∷ rest) → (cs : List ℕ) × LacksEnd cs × (all ≡ cs ++ 42 ∷ (47 ∷ rest)))
    × (NoEnd left → NoEnd all)

pub lacks-more : (x y : ℕ) (xs bs rest : List ℕ) → (x ≡ 42 → y ≡ 47 → ⊥) → y ∷ xs ≡ bs ++ 42 ∷ (47 ∷ rest) → LacksEnd bs → LacksEnd (x ∷ bs)
lacks-more x y xs [] rest never is h = tt
lacks-more x y xs (b ∷ bs) rest never is h = (λ e f. never e (same-head y b xs _ is ∙ f), h)

pub no-end-more : (x y : ℕ) (xs : List ℕ) → (x ≡ 42 → y ≡ 47 → ⊥) → NoEnd (y ∷ xs) → NoEnd (x ∷ (y ∷ xs))
no-end-more x y xs never h [] rest is = never (same-head x 42 _ _ is) (same-head y 47 xs rest (same-tail x 42 _ _ is))
no-end-more x y xs never h (b ∷ bs) rest is = h bs rest (same-tail x b _ _ is)

pub block-more : (x y : ℕ) (xs all : List ℕ) → (x ≡ 42 → y ≡ 47 → ⊥) → BlockGoesOn (x ∷ (y ∷ xs)) all → BlockGoesOn (y ∷ xs) all
block-more x y xs all never on = (
  λ bs rest lacks is. on.0 (x ∷ bs) rest (lacks-more x y xs bs rest never is lacks) (ap (λ z. x ∷ z) is),
  λ h. on.1 (no-end-more x y xs never h),
)

pub block-step : (all : List ℕ) (n x y : ℕ) → n + 1 < length all → x ≡ get_or all n x → y ≡ get_or all (n + 1) y → (x ≡ 42 → y ≡ 47 → ⊥) → BlockGoesOn (drop n all) all → BlockGoesOn (drop (n + 1) all) all
block-step all n x y lt a b never on =
    let first : n < length all = omega arith in
    let d : drop n all ≡ x ∷ drop (n + 1) all = drop-at all n x first a in
    let e : drop (n + 1) all ≡ y ∷ drop (n + 1 + 1) all = drop-at all (n + 1) y lt b in
    subst (λ z. BlockGoesOn z all) (sym e) (block-more x y (drop (n + 1 + 1) all) all never (subst (λ z. BlockGoesOn z all) (d ∙ ap (λ z. x ∷ z) e) on))

pub block-step-other : (all : List ℕ) (n x : ℕ) → n + 1 < length all → x ≡ get_or all n x → x ≢ 42 → BlockGoesOn (drop n all) all → BlockGoesOn (drop (n + 1) all) all
block-step-other all n x lt a h on = block-step all n x (get_or all (n + 1) 0) lt a (get_or_default all (n + 1) 0 (get_or all (n + 1) 0) lt) (λ e f. h e) on

pub block-found : (all : List ℕ) (n x y : ℕ) → n + 1 < length all → x ≡ get_or all n x → y ≡ get_or all (n + 1) y → x ≡ 42 → y ≡ 47 → BlockGoesOn (drop n all) all → GapFront (47 ∷ (42 ∷ all)) (Some (n + 4))
block-found all n x y lt a b p q on =
    let first : n < length all = omega arith in
    let rest : List ℕ = drop (n + 1 + 1) all in
    let d : drop n all ≡ x ∷ drop (n + 1) all = drop-at all n x first a in
    let e : drop (n + 1) all ≡ y ∷ rest = drop-at all (n + 1) y lt b in
    let is : drop n all ≡ [] ++ 42 ∷ (47 ∷ rest) = d ∙ ap (λ z. x ∷ z) e ∙ ap (λ z. z ∷ (y ∷ rest)) p ∙ ap (λ z. 42 ∷ (z ∷ rest)) q in
    let r = on.0 [] rest tt is in
    let whole : all ≡ (r.0 ++ 42 ∷ (47 ∷ [])) ++ rest = r.2 ∙ sym (append_assoc r.0 (42 ∷ (47 ∷ [])) rest) in
    let two : n + 1 + 1 ≤ length all = omega arith in
    let len : length (r.0 ++ 42 ∷ (47 ∷ [])) ≡ n + 1 + 1 = prefix-length all (r.0 ++ 42 ∷ (47 ∷ [])) rest (n + 1 + 1) whole two refl in
    (block r.0, rest, ap (λ z. 47 ∷ (42 ∷ z)) whole, r.1, omega (arith, len))

pub no-end-short : (cs : List ℕ) → length cs ≤ 1 → NoEnd cs
no-end-short cs le bs rest is =
    let n : length cs ≡ length bs + length (42 ∷ (47 ∷ rest)) = ap length is ∙ length-append bs (42 ∷ (47 ∷ rest)) in
    omega (arith, n)

pub no-block : (all : List ℕ) → NoEnd all → GapFront (47 ∷ (42 ∷ all)) None
no-block all never (blank c) rest is h = no_space c (sym (same-head 47 c (42 ∷ all) rest is)) h
no-block all never (block bs) rest is h =
    never bs rest (same-tail 42 42 all _ (same-tail 47 47 (42 ∷ all) _ is) ∙ append_assoc bs (42 ∷ (47 ∷ [])) rest)
no-block all never (line bs) rest is h = let e : 42 ≡ 47 = same-head 42 47 all _ (same-tail 47 47 (42 ∷ all) _ is) in omega (arith, e)
no-block all never (last bs) rest is h = let e : 42 ≡ 47 = same-head 42 47 all _ (same-tail 47 47 (42 ∷ all) _ is) in omega (arith, e)

pub block-none : (all : List ℕ) (n : ℕ) → length all ≤ n + 1 → BlockGoesOn (drop n all) all → GapFront (47 ∷ (42 ∷ all)) None
block-none all n le on =
    let short : length (drop n all) ≤ 1 = omega (arith, length-drop n all) in
    no-block all (on.1 (no-end-short (drop n all) short))

-- a comment // ..

abbrev pub LineGoesOn : List ℕ → List ℕ → Type 0
LineGoesOn left all = ((bs rest : List ℕ) → Lacks 10 bs → left ≡ bs ++ 10 ∷ rest → (cs : List ℕ) × Lacks 10 cs × (all ≡ cs ++ 10 ∷ rest))
    × (Lacks 10 left → Lacks 10 all)

pub line-step : (all : List ℕ) (n x : ℕ) → n < length all → x ≡ get_or all n x → x ≢ 10 → LineGoesOn (drop n all) all → LineGoesOn (drop (n + 1) all) all
line-step all n x lt a never on =
    let d : drop n all ≡ x ∷ drop (n + 1) all = drop-at all n x lt a in
    let h : LineGoesOn (x ∷ drop (n + 1) all) all = subst (λ z. LineGoesOn z all) d on in
    (λ bs rest lacks is. h.0 (x ∷ bs) rest (never, lacks) (ap (λ z. x ∷ z) is), λ lacks. h.1 (never, lacks))

pub line-found : (all : List ℕ) (n x : ℕ) → n < length all → x ≡ get_or all n x → x ≡ 10 → LineGoesOn (drop n all) all → GapFront (47 ∷ (47 ∷ all)) (Some (n + 3))
line-found all n x lt a p on =
    let rest : List ℕ = drop (n + 1) all in
    let is : drop n all ≡ [] ++ 10 ∷ rest = drop-at all n x lt a ∙ ap (λ z. z ∷ rest) p in
    let r = on.0 [] rest tt is in
    let whole : all ≡ (r.0 ++ 10 ∷ []) ++ rest = r.2 ∙ sym (append_assoc r.0 (10 ∷ []) rest) in
    let one : n + 1 ≤ length all = omega arith in
    let len : length (r.0 ++ 10 ∷ []) ≡ n + 1 = prefix-length all (r.0 ++ 10 ∷ []) rest (n + 1) whole one refl in
    (line r.0, rest, ap (λ z. 47 ∷ (47 ∷ z)) whole, r.1, omega (arith, len))

pub line-open : (all : List ℕ) (n : ℕ) → n ≤ length all → length all ≤ n → LineGoesOn (drop n all) all → GapFront (47 ∷ (47 ∷ all)) (Some (n + 2))
line-open all n within le on =
    let none : drop n all ≡ [] = drop_all n all le in
    let lacks : Lacks 10 (drop n all) = subst (Lacks 10) (sym none) tt in
    (last all, [], sym (append-nil (47 ∷ (47 ∷ all))), (on.1 lacks, refl), omega arith)

-- what begins with another character is neither

pub space-found : (cs : List ℕ) (c : ℕ) (rest : List ℕ) → cs ≡ c ∷ rest → is_space c ≡ true → GapFront cs (Some 1)
space-found cs c rest is h = (blank c, rest, is, h, refl)

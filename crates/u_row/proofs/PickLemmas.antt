-- Values that are brought to the front of their own list by swaps, one for each of the positions, which rise.
use Rattle.std.proofs.Common.{◌≡◌, ℕ, zero, suc, ◌+◌, ◌<◌, ◌≤◌, ◌⊎◌, inl, inr, List, ◌∷◌, [], map, min, length, get_or, take, refl, sym, ap, ◌∙◌, arith}
use Rattle.std.specs.List.{All, AllPairs, SwappedAt}
use Rattle.std.proofs.lemmas.List.{length-map, length-take, get_or-map, get_or-take, same_lists}

abbrev pub Rise : List ℕ → Type 0
Rise ps = AllPairs (λ (a b : ℕ). a < b) ps

abbrev pub AreBelow : ℕ → List ℕ → Type 0
AreBelow n ps = All (λ (i : ℕ). i < n) ps

pub last_or_before : (k n : ℕ) → k < n + 1 → (k ≡ n) ⊎ (k < n)
last_or_before zero zero l = inl refl
last_or_before zero (suc n) l = inr (omega arith)
last_or_before (suc k) zero l = absurd (omega arith)
last_or_before (suc k) (suc n) l = elim (last_or_before k n (omega (arith, l))) [
  | inl e ↦ inl (ap suc e)
  | inr h ↦ inr (omega (arith, h))
]

-- ---- whether positions rise

-- the first n rise, and are below a count and below what the next one is to be at least
abbrev pub AreTried : List ℕ → ℕ → ℕ → ℕ → Type 0
AreTried ps count least n = ((j k d : ℕ) → j < k → k < n → get_or ps j d < get_or ps k d)
    × ((k d : ℕ) → k < n → get_or ps k d < count)
    × ((k d : ℕ) → k < n → get_or ps k d < least)

pub tried_none : (ps : List ℕ) (count least : ℕ) → AreTried ps count least 0
tried_none ps count least = ((λ j k d l h. absurd (omega (arith, h))), (λ k d h. absurd (omega (arith, h))), (λ k d h. absurd (omega (arith, h))))

-- ---- positions that rise

pub at_least : (ps : List ℕ) → Rise ps → (n : ℕ) → n < length ps → n ≤ get_or ps n 0
at_least ps rise zero l = omega arith
at_least ps rise (suc n) l =
    let before = at_least ps rise n (omega (arith, l)) in
    let next = rise n (suc n) 0 (omega arith) l in
    omega (arith, before, next)

pub no_more : (ps : List ℕ) (n m : ℕ) → Rise ps → AreBelow n ps → length ps ≡ m → length ps ≤ n
no_more ps n zero rise below e = omega (arith, e)
no_more ps n (suc m) rise below e =
    let low = at_least ps rise m (omega (arith, e)) in
    let high = below m 0 (omega (arith, e)) in
    omega (arith, low, high, e)

-- ---- swaps

-- the values at the first n positions stand at the first n places, and those past these positions where they stood
abbrev pub ArePicked : {X : Type 0} → List ℕ → List X → List X → ℕ → Type 0
ArePicked {X} ps xs ys n = (length ys ≡ length xs)
    × ((k : ℕ) (d : X) → k < n → get_or ys k d ≡ get_or xs (get_or ps k 0) d)
    × ((k : ℕ) (d : X) → ((j : ℕ) → j < n → get_or ps j 0 < k) → get_or ys k d ≡ get_or xs k d)

pub picked_none : {X : Type 0} (ps : List ℕ) (xs : List X) → ArePicked ps xs xs 0
picked_none ps xs = (refl, (λ k d h. absurd (omega (arith, h))), (λ k d h. refl))

pub picked_more : {X : Type 0} (ps : List ℕ) (xs ys zs : List X) (n p : ℕ) → Rise ps → n < length ps → get_or ps n 0 ≡ p → length zs ≡ length ys → SwappedAt ys zs n p → ArePicked ps xs ys n → ArePicked ps xs zs (n + 1)
picked_more {X} ps xs ys zs n p rise l is long s h = (long ∙ h.0, prefix, back)
  where
    least : n ≤ p
    least =
        let a = at_least ps rise n l in
        omega (arith, a, is)

    past : (j : ℕ) → j < n → get_or ps j 0 < p
    past j b =
        let a = rise j n 0 b l in
        omega (arith, a, is)

    prefix : (k : ℕ) (d : X) → k < n + 1 → get_or zs k d ≡ get_or xs (get_or ps k 0) d
    prefix k d b = elim (last_or_before k n b) [
      | inl e ↦
          let place : get_or ps k 0 ≡ p = ap (λ (m : ℕ). get_or ps m 0) e ∙ is in
          ap (λ (m : ℕ). get_or zs m d) e ∙ s.0 d ∙ h.2 p d past ∙ sym (ap (λ (m : ℕ). get_or xs m d) place)
      | inr c ↦
          let a = least in
          s.2 k d (λ e. omega (arith, c, e)) (λ e. omega (arith, a, c, e)) ∙ h.1 k d c
    ]

    back : (k : ℕ) (d : X) → ((j : ℕ) → j < n + 1 → get_or ps j 0 < k) → get_or zs k d ≡ get_or xs k d
    back k d up =
        let a = least in
        let b = up n (omega arith) in
        s.2 k d (λ e. omega (arith, a, b, is, e)) (λ e. omega (arith, b, is, e)) ∙ h.2 k d (λ j c. up j (omega (arith, c)))

item : {X : Type 0} (xs : List X) (k : ℕ) → k < length xs → X
item [] k l = absurd (omega (arith, l))
item (x ∷ xs) k l = x

pub picked_all : {X Y : Type 0} (f : X → Y) (e : Y) (ps : List ℕ) (xs ys zs : List X) (n : ℕ) → Rise ps → AreBelow (length xs) ps → length ps ≤ n → ArePicked ps xs ys n → zs ≡ take (length ps) ys
    → map f zs ≡ map (λ (i : ℕ). get_or (map f xs) i e) ps
picked_all {X} {Y} f e ps xs ys zs n rise below whole h cut = same_lists _ _ (length-map zs f ∙ long ∙ sym (length-map ps _)) each
  where
    long : length zs ≡ length ps
    long =
        let few = no_more ps (length xs) (length ps) rise below refl in
        let taken : length zs ≡ min (length ps) (length ys) = ap length cut ∙ length-take (length ps) ys in
        let same = h.0 in
        omega (arith, few, taken, same)

    each : (k : ℕ) (d : Y) → k < length (map f zs) → get_or (map f zs) k d ≡ get_or (map (λ (i : ℕ). get_or (map f xs) i e) ps) k d
    each k d l =
        let count = length-map zs f in
        let same = long in
        let l' : k < length zs = omega (arith, l, count) in
        let m : k < length ps = omega (arith, l', same) in
        let x = item zs k l' in
        let b : get_or ps k 0 < length xs = below k 0 m in
        get_or-map f zs k x d l'
        ∙ ap f (ap (λ (us : List X). get_or us k x) cut ∙ get_or-take (length ps) ys k x m ∙ h.1 k x (omega (arith, m, whole)))
        ∙ sym (get_or-map f xs (get_or ps k 0) x e b)
        ∙ sym (get_or-map (λ (i : ℕ). get_or (map f xs) i e) ps k 0 d m)

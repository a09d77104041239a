-- What is among the elements of a list.
use Rattle.std.proofs.Common.{◌≡◌, ℕ, zero, suc, Bool, true, false, cond, ℤ, pos, negsuc, ◌+ℤ◌, ◌-ℤ◌, ◌≤ℤ◌, ◌<ℤ◌, List, [], ◌∷◌, ◌++◌, map, ◌↔◌, ◌⊎◌, inl, inr, arith, sym, ap, subst, refl, ◌∙◌}
use Rattle.std.proofs.lemmas.Int.{ints, by_lt_z}
use Rattle.std.proofs.lemmas.Bool.{and_parts, and_from, true≢false}
use Rattle.std.specs.List.{filter, flat_map, list_all, All, AllByRecursion}
use Rattle.std.proofs.lemmas.List.Elements.{All-from_recursion}
use Rattle.interval_core.specs.Members.{Span, numbers_from, count_of, members}
use Rattle.cell_packing.specs.Covering.{Among}

pub among_append : {X : Type 0} (x : X) (xs ys : List X) → Among x (xs ++ ys) ↔ Among x xs ⊎ Among x ys
among_append x [] ys = (λ h. inr h, λ h. elim h [ inl w ↦ absurd w | inr w ↦ w ])
among_append x (y ∷ xs) ys =
    let ih = among_append x xs ys in (
      λ h. elim h [ inl w ↦ inl (inl w) | inr w ↦ elim (ih.0 w) [ inl v ↦ inl (inr v) | inr v ↦ inr v ] ],
      λ h. elim h [ inl w ↦ elim w [ inl v ↦ inl v | inr v ↦ inr (ih.1 (inl v)) ] | inr w ↦ inr (ih.1 (inr w)) ],
    )

pub among_map : {X Y : Type 0} (f : X → Y) (y : Y) (xs : List X) → Among y (map f xs) ↔ ((x : X) × Among x xs × (f x ≡ y))
among_map f y [] = (λ h. absurd h, λ h. h.1)
among_map f y (x ∷ xs) =
    let ih = among_map f y xs in (
      λ h. elim h [ inl e ↦ (x, inl refl, e) | inr w ↦ let v = ih.0 w in (v.0, inr v.1, v.2) ],
      λ h. elim h.1 [ inl e ↦ inl (ap f e ∙ h.2) | inr w ↦ inr (ih.1 (h.0, w, h.2)) ],
    )

pub among_flat : {X Y : Type 0} (f : X → List Y) (y : Y) (xs : List X) → Among y (flat_map f xs) ↔ ((x : X) × Among x xs × Among y (f x))
among_flat f y [] = (λ h. absurd h, λ h. h.1)
among_flat f y (x ∷ xs) =
    let ih = among_flat f y xs in
    let a = among_append y (f x) (flat_map f xs) in (
      λ h. elim (a.0 h) [ inl w ↦ (x, inl refl, w) | inr w ↦ let v = ih.0 w in (v.0, inr v.1, v.2) ],
      λ h. elim h.1 [ inl e ↦ a.1 (inl (subst (λ z. Among y (f z)) (sym e) h.2)) | inr w ↦ a.1 (inr (ih.1 (h.0, w, h.2))) ],
    )

pub among_filter : {X : Type 0} (p : X → Bool) (y : X) (xs : List X) → Among y (filter p xs) ↔ Among y xs × (p y ≡ true)
among_filter p y [] = (λ h. absurd h, λ h. h.0)
among_filter p y (x ∷ xs) =
    let ih = among_filter p y xs in
    elim (p x) as (λ b. p x ≡ b → Among y (cond b (x ∷ filter p xs) (filter p xs)) ↔ Among y (x ∷ xs) × (p y ≡ true)) [
      | true ↦ λ e. (
        λ h. elim h [ inl w ↦ (inl w, subst (λ z. p z ≡ true) w e) | inr w ↦ let v = ih.0 w in (inr v.0, v.1) ],
        λ h. elim h.0 [ inl w ↦ inl w | inr w ↦ inr (ih.1 (w, h.1)) ],
      )
      | false ↦ λ e. (
        λ h. let v = ih.0 h in (inr v.0, v.1),
        λ h. elim h.0 [ inl w ↦ absurd (true≢false (sym h.1 ∙ ap p (sym w) ∙ e)) | inr w ↦ ih.1 (w, h.1) ],
      )
    ] refl

among_numbers_from : (n : ℕ) (b p : ℤ) → Among p (numbers_from n b) ↔ (b ≤ℤ p) × (p <ℤ (b +ℤ pos n))
among_numbers_from zero b p = (λ h. absurd h, λ h. let k = h.0 in let l = h.1 in absurd (omega (arith, ints)))
among_numbers_from (suc n) b p =
    let ih = among_numbers_from n (b +ℤ pos 1) p in (
      λ h. elim h [ inl e ↦ (omega (arith, ints), omega (arith, ints)) | inr w ↦ let v = ih.0 w in let k = v.0 in let l = v.1 in (omega (arith, ints), omega (arith, ints)) ],
      λ h. let k = h.0 in let l = h.1 in by_lt_z b p (λ u. inr (ih.1 (omega (arith, ints), omega (arith, ints)))) (λ u. inl (omega (arith, ints))),
    )

pub among_members : (i : Span) (p : ℤ) → Among p (members i) ↔ (i.0 ≤ℤ p) × (p ≤ℤ i.1)
unfolding members
among_members i p = go ((i.1 +ℤ pos 1) -ℤ i.0) refl
  where
    go : (d : ℤ) → (i.1 +ℤ pos 1) -ℤ i.0 ≡ d → Among p (numbers_from (count_of d) i.0) ↔ (i.0 ≤ℤ p) × (p ≤ℤ i.1)
    go (pos n) e = let w = among_numbers_from n i.0 p in (
      λ h. let v = w.0 h in let k = v.0 in let l = v.1 in (k, omega (arith, ints)),
      λ h. let k = h.0 in let l = h.1 in w.1 (k, omega (arith, ints)),
    )
    go (negsuc n) e = (λ h. absurd h, λ h. let k = h.0 in let l = h.1 in absurd (omega (arith, ints)))

pub all_among : {X : Type 0} (t : X → Bool) (xs : List X) → (list_all t xs ≡ true) ↔ ((x : X) → Among x xs → t x ≡ true)
all_among t [] = (λ e x h. absurd h, λ h. refl)
all_among t (x ∷ xs) =
    let ih = all_among t xs in (
      λ e y h. let w = and_parts (t x) (list_all t xs) e in elim h [ inl v ↦ subst (λ z. t z ≡ true) v w.0 | inr v ↦ ih.0 w.1 y v ],
      λ h. and_from (t x) (list_all t xs) (h x (inl refl)) (ih.1 (λ y m. h y (inr m))),
    )

pub all_from_members : {X : Type 0} (P : X → Type 0) (xs : List X) → ((x : X) → Among x xs → P x) → All P xs
all_from_members P xs h = All-from_recursion P xs (go xs h)
  where
    go : (ys : List _) → ((x : _) → Among x ys → P x) → AllByRecursion P ys
    go [] h = tt
    go (y ∷ ys) h = (h y (inl refl), go ys (λ x w. h x (inr w)))

pub each_from_members : {X : Type 0} (A : X → Type 0) (xs : List X) → ((x : X) → Among x xs → A x) → AllByRecursion A xs
each_from_members A [] h = tt
each_from_members A (x ∷ xs) h = (h x (inl refl), each_from_members A xs (λ y m. h y (inr m)))

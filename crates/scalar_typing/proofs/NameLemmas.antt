-- The first of a list that passes stands at its place, and passes.
use Rattle.std.specs.Prelude.{◌≡◌, ◌<◌, ℕ, zero, suc, ◌+◌, Bool, true, false, List, [], ◌∷◌, length, Option, Some, slice_get, if◌then◌else◌, refl}
use Rattle.std.proofs.Common.{arith, ap, subst}
use Rattle.scalar_typing.specs.Names.{first_from}

module _ {X : Type 0} (p : X → Bool) where
  -- x stands at place i of the list, whose first has the place n
  abbrev pub StandsAt : ℕ → List X → ℕ → X → Type 0
  StandsAt n xs i x = (k : ℕ) × (i ≡ n + k) × (k < length xs) × (slice_get xs k ≡ Some x) × (p x ≡ true)

  here : (n : ℕ) (y : X) (ys : List X) (i : ℕ) (x : X) → p y ≡ true → ◌≡◌ {A = Option (ℕ × X)} (Some (n, y)) (Some (i, x)) → StandsAt n (y ∷ ys) i x
  here n y ys i x passes e =
      let pair : ◌≡◌ {A = ℕ × X} (n, y) (i, x) = cc in
      let place : n ≡ i = ap (λ (q : ℕ × X). q.0) pair in
      let same : y ≡ x = ap (λ (q : ℕ × X). q.1) pair in
      (zero, omega arith, omega arith, ap Some same, subst (λ z. p z ≡ true) same passes)

  later : (n : ℕ) (y : X) (ys : List X) (i : ℕ) (x : X) → StandsAt (n + 1) ys i x → StandsAt n (y ∷ ys) i x
  later n y ys i x h = (suc h.0, omega (arith, h.1), omega (arith, h.2), h.3, h.4)

  stands-if : (b : Bool) (n : ℕ) (y : X) (ys : List X) (i : ℕ) (x : X) → p y ≡ b →
      (first_from p (n + 1) ys ≡ Some (i, x) → StandsAt (n + 1) ys i x) →
      (if b then Some (n, y) else first_from p (n + 1) ys) ≡ Some (i, x) → StandsAt n (y ∷ ys) i x
  stands-if true n y ys i x passes rest e = here n y ys i x passes e
  stands-if false n y ys i x fails rest e = later n y ys i x (rest e)

  pub first-stands : (n : ℕ) (xs : List X) (i : ℕ) (x : X) → first_from p n xs ≡ Some (i, x) → StandsAt n xs i x
  first-stands n [] i x e = absurd cc
  first-stands n (y ∷ ys) i x e = stands-if (p y) n y ys i x refl (first-stands (n + 1) ys i x) e

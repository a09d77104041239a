-- The label of a row that is made of values of another stands in the label of that one.
use Rattle.std.proofs.Common.{◌≡◌, ℕ, zero, suc, ◌+◌, ◌<◌, Bool, true, false, not, List, [], ◌∷◌, map, length, get_or, refl, sym, ap, ap₂, ◌∙◌, subst, arith, if◌then◌else◌}
use Rattle.std.specs.Bool.{IsTrue}
use Rattle.std.specs.List.{filter}
use Rattle.std.proofs.lemmas.Bool.{not-true}
use Rattle.base_core.proofs.SetLemmas.{In}
use Rattle.base_core.proofs.MemberLemmas.{In-map, In-filter}
use Rattle.base_core.proofs.ListLemmas.{map-In}
use Rattle.value_core.specs.Attributes.{among}
use Rattle.u_set.specs.Boxes.{unless, others_from, others}
use Rattle.u_row.specs.Kept.{place_in_label, unlisted, inner}

-- ---- the place of a position, counted from its front

abbrev place_from : ℕ → List ℕ → ℕ → ℕ
place_from n commalist zero = 0
place_from n commalist (suc i) = if among commalist n then place_from (suc n) commalist i else suc (place_from (suc n) commalist i)

abbrev one_more : Bool → ℕ → ℕ
one_more b m = if b then m else suc m

swapped : (a b : Bool) (m : ℕ) → one_more a (one_more b m) ≡ one_more b (one_more a m)
swapped true true m = refl
swapped true false m = refl
swapped false true m = refl
swapped false false m = refl

place_last : (n : ℕ) (commalist : List ℕ) (i : ℕ) → place_from n commalist (suc i) ≡ one_more (among commalist (n + i)) (place_from n commalist i)
place_last n commalist zero =
    let z : n ≡ n + 0 = omega arith in
    ap (λ k. one_more (among commalist k) 0) z
place_last n commalist (suc i) =
    let s : suc n + i ≡ n + suc i = omega arith in
    ap (one_more (among commalist n)) (place_last (suc n) commalist i ∙ ap (λ k. one_more (among commalist k) (place_from (suc n) commalist i)) s)
    ∙ swapped (among commalist n) (among commalist (n + suc i)) (place_from (suc n) commalist i)

place_is : (commalist : List ℕ) (i : ℕ) → place_in_label commalist i ≡ place_from 0 commalist i
place_is commalist zero = refl
place_is commalist (suc i) =
    let z : i ≡ 0 + i = omega arith in
    ap (one_more (among commalist i)) (place_is commalist i) ∙ ap (λ k. one_more (among commalist k) (place_from 0 commalist i)) z ∙ sym (place_last 0 commalist i)

from_prefix : (commalist : List ℕ) (i : ℕ) → among commalist i ≡ false → among commalist (0 + i) ≡ false
from_prefix commalist i e =
    let z : 0 + i ≡ i = omega arith in
    ap (among commalist) z ∙ e

-- ---- lists made alike

pub map_twice : {X Y Z : Type 0} (f : Y → X) (g : Z → Y) (ks : List Z) → map f (map g ks) ≡ map (λ k. f (g k)) ks
map_twice f g [] = refl
map_twice f g (k ∷ ks) = ap (λ xs. f (g k) ∷ xs) (map_twice f g ks)

-- ---- the value at a place

module _ {X : Type 0} where
  value_from : (n : ℕ) (commalist : List ℕ) (xs : List X) (i : ℕ) (d : X) → among commalist (n + i) ≡ false → get_or (others_from n commalist xs) (place_from n commalist i) d ≡ get_or xs i d
  value_from n commalist [] i d e = refl
  value_from n commalist (x ∷ xs) zero d e =
      let z : n + 0 ≡ n = omega arith in
      let here : among commalist n ≡ false = ap (among commalist) (sym z) ∙ e in
      ap (λ b. get_or (unless b x (others_from (suc n) commalist xs)) 0 d) here
  value_from n commalist (x ∷ xs) (suc i) d e =
      let s : suc n + i ≡ n + suc i = omega arith in
      let more = value_from (suc n) commalist xs i d (ap (among commalist) s ∙ e) in
      elim (among commalist n) as (λ b. get_or (unless b x (others_from (suc n) commalist xs)) (if b then place_from (suc n) commalist i else suc (place_from (suc n) commalist i)) d ≡ get_or xs i d) [
        | true ↦ more
        | false ↦ more
      ]

  -- the label has the value of a position that is not listed at its place
  pub value_in_label : (commalist : List ℕ) (xs : List X) (i : ℕ) (d : X) → among commalist i ≡ false → get_or (others commalist xs) (place_in_label commalist i) d ≡ get_or xs i d
  value_in_label commalist xs i d e = ap (λ k. get_or (others commalist xs) k d) (place_is commalist i) ∙ value_from 0 commalist xs i d (from_prefix commalist i e)

  within_from : (n : ℕ) (commalist : List ℕ) (xs : List X) (i : ℕ) → among commalist (n + i) ≡ false → i < length xs → place_from n commalist i < length (others_from n commalist xs)
  within_from n commalist [] i e l = absurd (omega arith)
  within_from n commalist (x ∷ xs) zero e l =
      let z : n + 0 ≡ n = omega arith in
      let here : among commalist n ≡ false = ap (among commalist) (sym z) ∙ e in
      subst (λ b. 0 < length (unless b x (others_from (suc n) commalist xs))) (sym here) (omega arith)
  within_from n commalist (x ∷ xs) (suc i) e l =
      let s : suc n + i ≡ n + suc i = omega arith in
      let more = within_from (suc n) commalist xs i (ap (among commalist) s ∙ e) (omega arith) in
      elim (among commalist n) as (λ b. (if b then place_from (suc n) commalist i else suc (place_from (suc n) commalist i)) < length (unless b x (others_from (suc n) commalist xs))) [
        | true ↦ more
        | false ↦ omega (arith, more)
      ]

  pub place_within : (commalist : List ℕ) (xs : List X) (i : ℕ) → among commalist i ≡ false → i < length xs → place_in_label commalist i < length (others commalist xs)
  place_within commalist xs i e l = subst (λ k. k < length (others commalist xs)) (sym (place_is commalist i)) (within_from 0 commalist xs i (from_prefix commalist i e) l)

  -- ---- values at positions

  -- the label's values at the inner places are the row's at the positions that are not listed
  pub inner_values : (commalist kept : List ℕ) (xs : List X) (d : X) → map (λ k. get_or (others commalist xs) k d) (inner commalist kept) ≡ map (λ k. get_or xs k d) (unlisted commalist kept)
  inner_values commalist kept xs d =
      map_twice (λ k. get_or (others commalist xs) k d) (place_in_label commalist) (unlisted commalist kept)
      ∙ map-In (λ k. get_or (others commalist xs) (place_in_label commalist k) d) (λ k. get_or xs k d) (unlisted commalist kept) (λ k i.
      value_in_label commalist xs k d (not-true (among commalist k) ((In-filter (λ j. not (among commalist j)) k kept).0 i).1))

  kept_from : (n : ℕ) (commalist listed kept : List ℕ) (f : ℕ → X) → ((m : ℕ) → m < length kept → among commalist (n + m) ≡ among listed (get_or kept m 0))
      → others_from n commalist (map f kept) ≡ map f (unlisted listed kept)
  kept_from n commalist listed [] f h = refl
  kept_from n commalist listed (k ∷ kept) f h =
      let z : n ≡ n + 0 = omega arith in
      let here : among commalist n ≡ among listed k = ap (among commalist) z ∙ h 0 (omega arith) in
      let more : others_from (suc n) commalist (map f kept) ≡ map f (unlisted listed kept) =
      kept_from (suc n) commalist listed kept f (λ m l.
      let s : suc n + m ≡ n + suc m = omega arith in
      ap (among commalist) s ∙ h (suc m) (omega arith)) in
      ap₂ (λ b xs. unless b (f k) xs) here more
      ∙ (elim (among listed k) as (λ b. unless b (f k) (map f (unlisted listed kept)) ≡ map f (if not b then k ∷ unlisted listed kept else unlisted listed kept)) [ true ↦ refl | false ↦ refl ])

  -- so the label of the values at positions is made of the label of the whole, where the listed ones among them are those that are
  -- listed of the whole
  pub label_of_kept : (commalist listed kept : List ℕ) (xs : List X) (d : X) → ((m : ℕ) → m < length kept → among commalist m ≡ among listed (get_or kept m 0))
      → others commalist (map (λ k. get_or xs k d) kept) ≡ map (λ k. get_or (others listed xs) k d) (inner listed kept)
  label_of_kept commalist listed kept xs d h =
      kept_from 0 commalist listed kept (λ k. get_or xs k d) (λ m l.
      let z : 0 + m ≡ m = omega arith in
      ap (among commalist) z ∙ h m l) ∙ sym (inner_values listed kept xs d)

  -- the inner places lie in the label
  pub inner_within : (commalist kept : List ℕ) (xs : List X) → ((i : ℕ) → In i kept → i < length xs) → (i : ℕ) → In i (inner commalist kept) → i < length (others commalist xs)
  inner_within commalist kept xs h i m =
      let w = (In-map (place_in_label commalist) i (unlisted commalist kept)).0 m in
      let v = (In-filter (λ j. not (among commalist j)) w.0 kept).0 w.1 in
      subst (λ k. k < length (others commalist xs)) (sym w.2) (place_within commalist xs w.0 (not-true (among commalist w.0) v.1) (h w.0 v.0))

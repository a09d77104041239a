-- The numbering of a side, from its steps.
use Rattle.std.proofs.Common.{◌≡◌, ℕ, ◌+◌, ◌*◌, ◌<◌, ◌≤◌, min, ℤ, pos, ◌+ℤ◌, ◌-ℤ◌, List, [], ◌∷◌, map, length, get_or, inl, inr, arith, sym, ap, subst, refl, ◌∙◌}
use Rattle.std.proofs.lemmas.Int.{ints}
use Rattle.std.specs.List.{All, AllByRecursion}
use Rattle.std.specs.List.Sorted.{IsPermutation}
use Rattle.std.proofs.lemmas.List.{length-map}
use Rattle.std.proofs.lemmas.List.Elements.{recursion_from_All}
use Rattle.std.proofs.lemmas.List.Sorted.{Contains-permutation, IsPermutation-sym}
use Rattle.cell_packing.specs.Packed.{no_cells}
use Rattle.cell_packing.specs.Covering.{Among}
use Rattle.cell_packing.proofs.Order.{among_contains, contains_among}
use Rattle.cell_packing.proofs.AmongLemmas.{all_from_members}
use Rattle.cell_core.specs.Numbering.{cut_at, span_at, numbers_of, ends, HasTag, AreEnds, IsCellAt}
use Rattle.cell_core.proofs.Numbers.{cut_end, length_ends, ends_even, ends_odd}

pub among_all : {X : Type 0} (P : X → Type 0) (xs : List X) (x : X) → All P xs → Among x xs → P x
among_all P xs x a h = go xs (recursion_from_All P xs a) h
  where
    go : (ys : List _) → AllByRecursion P ys → Among x ys → P x
    go [] a h = absurd h
    go (y ∷ ys) a h = elim h [ inl e ↦ subst P e a.0 | inr w ↦ go ys a.1 w ]

pub among_moved : {X : Type 0} (xs ys : List X) → IsPermutation xs ys → (x : X) → Among x xs → Among x ys
among_moved xs ys p x h = contains_among ys x (Contains-permutation xs ys x p (among_contains xs x h))

pub all_moved : {X : Type 0} (P : X → Type 0) (xs ys : List X) → IsPermutation xs ys → All P xs → All P ys
all_moved P xs ys p a = all_from_members P ys (λ x h. among_all P xs x a (among_moved ys xs (IsPermutation-sym xs ys p) x h))

tag_by : {X : Type 0} (xs : List (X × ℕ)) (tag : ℕ) → HasTag xs tag → (x : X × ℕ) × Among x xs × (x.1 ≡ tag)
tag_by [] tag h = absurd h
tag_by (x ∷ xs) tag h = elim h [ inl e ↦ (x, inl refl, e) | inr w ↦ let v = tag_by xs tag w in (v.0, inr v.1, v.2) ]

tag_from : {X : Type 0} (xs : List (X × ℕ)) (x : X × ℕ) → Among x xs → HasTag xs x.1
tag_from [] x h = absurd h
tag_from (y ∷ ys) x h = elim h [ inl e ↦ inl (ap (λ (z : _ × ℕ). z.1) e) | inr w ↦ inr (tag_from ys x w) ]

tag_moved : {X : Type 0} (xs ys : List (X × ℕ)) → IsPermutation xs ys → (tag : ℕ) → HasTag xs tag → HasTag ys tag
tag_moved xs ys p tag h = let w = tag_by xs tag h in subst (HasTag ys) w.2 (tag_from ys w.0 (among_moved xs ys p w.0 w.1))

pub points_listed : {P : Type 0} (n : P → ℤ) (has : P → Type 0) (high : ℤ) (spans : List (P × P)) (count : ℕ) (list : List (P × ℕ)) → AreEnds n has high spans count list → All (λ x. has x.0) list
points_listed n has high spans count list ends = all_from_members (λ x. has x.0) list (λ x h. (ends.placed x h).2)

pub grid_points_listed : {P : Type 0} (n : P → ℤ) (has : P → Type 0) (high : ℤ) (spans : List (P × P)) (count : ℕ) (list : List (P × ℕ)) → length spans ≡ count → AreEnds n has high spans count list → All (λ x. x.1 < 2 * count) list
grid_points_listed n has high spans count list e ends = all_from_members (λ x. x.1 < 2 * count) list (λ x h. let p = (ends.placed x h).0 in let l = length_ends n spans in omega arith)

module _ {P : Type 0} (n : P → ℤ) (has : P → Type 0) (high : ℤ) (spans : List (P × P)) (list : List (P × ℕ)) (all : AreEnds n has high spans (length spans) list) where
  module _ (sorted : List (P × ℕ)) (moved : IsPermutation list sorted) (cuts : List P) (table : List ℕ) (rest last : ℕ) (is_last : last ≡ length cuts) (below : length cuts ≤ rest)
      (at : (tag : ℕ) → tag < 2 * length spans → IsCellAt n cuts (high +ℤ pos 1) rest sorted tag (get_or table tag 0)) where
    abbrev top : ℤ
    top = high +ℤ pos 1

    at_tag : (tag : ℕ) → tag < 2 * length spans → (cut_at (map n cuts) top (min (get_or table tag 0) last) ≡ get_or (ends n spans) tag (pos 0)) × (min (get_or table tag 0) last ≤ length cuts)
    at_tag tag h =
        let c : ℕ = get_or table tag 0 in
        elim (at tag h) [
          | inl w ↦
              let p = all.placed (w.0, tag) (among_moved sorted list (IsPermutation-sym list sorted moved) (w.0, tag) w.1) in
              let b : c < length cuts = w.3 in
              let e : min c last ≡ c = omega arith in
              (ap (cut_at (map n cuts) top) e ∙ w.2 ∙ sym p.1, omega arith)
          | inr w ↦
              let b : c ≡ rest = w.0 in
              let e : min c last ≡ length cuts = omega arith in (
                elim (all.found tag h) [
                  | inl v ↦ absurd (w.1 (tag_moved list sorted moved tag v))
                  | inr v ↦ ap (cut_at (map n cuts) top) (e ∙ sym (length-map cuts n)) ∙ cut_end (map n cuts) top ∙ sym v
                ],
                omega arith,
              )
        ]

    module _ (cells : List (ℕ × ℕ)) (pairs : (r : ℕ) (d : ℕ × ℕ) → r < length spans → get_or cells r d ≡ (min (get_or table (2 * r) 0) last, min (get_or table (2 * r + 1) 0) last)) where
      pub spans_of : (r : ℕ) (d : P × P) → r < length spans → span_at (map n cuts) top (get_or cells r no_cells) ≡ numbers_of n (get_or spans r d)
      spans_of r d h =
          let a = (at_tag (2 * r) (omega arith)).0 ∙ ends_even n spans r d h in
          let b = (at_tag (2 * r + 1) (omega arith)).0 ∙ ends_odd n spans r d h in
          let e : cut_at (map n cuts) top (min (get_or table (2 * r + 1) 0) last) -ℤ pos 1 ≡ n (get_or spans r d).1 = omega (arith, ints) in
          ap (span_at (map n cuts) top) (pairs r no_cells h) ∙ (λ t. (a t, e t))

      pub cells_within : (r : ℕ) → r < length spans → (get_or cells r no_cells).1 ≤ length cuts
      cells_within r h =
          let b = (at_tag (2 * r + 1) (omega arith)).1 in
          subst (λ (x : ℕ × ℕ). x.1 ≤ length cuts) (sym (pairs r no_cells h)) b

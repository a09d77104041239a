-- What a rule is asked at cells: the numbers in order, and the first of each label.
use Rattle.std.proofs.Common.{◌≡◌, ◌↔◌, zero, suc, ◌<◌, refl, List, [], ◌∷◌, map, length, get_or, inl, inr, arith, sym, ◌∙◌}
use Rattle.std.specs.Prelude.{ℕ, eqb}
use Rattle.std.specs.List.{All}
use Rattle.std.specs.List.Retain.{IsFiltered, DiffersFromLast}
use Rattle.std.specs.List.Sorted.{IsPermutation, IsSorted}
use Rattle.std.specs.Ordering.{nat_cmp, eq_by_cmp}
use Rattle.std.proofs.lemmas.Bool.Decides.{nat_tests}
use Rattle.std.proofs.lemmas.Cmp.{nat_cmp_total}
use Rattle.std.proofs.lemmas.List.Filters.{dedup_is}
use Rattle.std.proofs.lemmas.List.{get_or_default}
use Rattle.cell_packing.specs.Covering.{Among}
use Rattle.cell_packing.proofs.AmongLemmas.{among_map}
use Rattle.cell_boxes.specs.Rows.{IsRow}
use Rattle.cell_boxes.proofs.RowLemmas.{among_row, row_all}
use Rattle.u_summarize.specs.Asked.{numbers_at}
use Rattle.base_core.specs.Sets.{in_order}
use Rattle.base_core.proofs.SetLemmas.{In, In-in_order, in_order_of_sorted}
use Rattle.cell_core.proofs.OrderLemmas.{nat_separates}

pub get_in : {X Y : Type 0} (f : X → Y) (xs : List X) (i : ℕ) (d : X) → get_or (map f xs) i (f d) ≡ f (get_or xs i d)
get_in f [] i d = refl
get_in f (x ∷ xs) zero d = refl
get_in f (x ∷ xs) (suc i) d = get_in f xs i d

ties : (x y : ℕ) → eqb x y ≡ eq_by_cmp nat_cmp x y
ties x y = grind (arith, nat_tests)

-- what a sort and a dedup leave
pub numbers_from_sort : (given sorted kept : List ℕ) → IsPermutation given sorted → IsSorted nat_cmp sorted → IsFiltered (DiffersFromLast eqb) [] sorted kept
    → kept ≡ in_order nat_cmp given
numbers_from_sort given sorted kept moved up filtered =
    dedup_is eqb sorted kept filtered ∙ in_order_of_sorted nat_cmp nat_cmp_total nat_separates eqb ties given sorted moved up

-- ---- numbers at places

pub in_among : {X : Type 0} (x : X) (xs : List X) → In x xs ↔ Among x xs
in_among x [] = (λ h. h, λ h. h)
in_among x (y ∷ ys) =
    let w = in_among x ys in (
      λ h. elim h [ inl e ↦ inl (sym e) | inr m ↦ inr (w.0 m) ],
      λ h. elim h [ inl e ↦ inl (sym e) | inr m ↦ inr (w.1 m) ],
    )

-- a number among them stands at some place
pub from_places : (numbers a : List ℕ) (m : ℕ) → Among m (numbers_at numbers a) → (i : ℕ) × Among i a × (get_or numbers i 0 ≡ m)
from_places numbers a m h =
    (among_map (λ i. get_or numbers i 0) m a).0 ((in_among m (map (λ i. get_or numbers i 0) a)).0 ((In-in_order nat_cmp nat_cmp_total nat_separates m (map (λ i. get_or numbers i 0) a)).0 ((in_among m (numbers_at numbers a)).1 h)))

pub to_places : (numbers a : List ℕ) (m i : ℕ) → Among i a → get_or numbers i 0 ≡ m → Among m (numbers_at numbers a)
to_places numbers a m i h e =
    (in_among m (numbers_at numbers a)).0 ((In-in_order nat_cmp nat_cmp_total nat_separates m (map (λ i. get_or numbers i 0) a)).1 ((in_among m (map (λ i. get_or numbers i 0) a)).1 ((among_map (λ i. get_or numbers i 0) m a).1 (i, h, e))))

-- a place within the numbers has one
pub placed : (numbers a : List ℕ) → All (λ (i : ℕ). i < length numbers) a → (i m : ℕ) → Among i a → get_or numbers i 0 ≡ m → IsRow numbers i m
placed numbers a inside i m h e =
    let w = among_row a i h in
    let b : i < length numbers = row_all (λ (z : ℕ). z < length numbers) a inside w.0 i w.1 in
    (b, get_or_default numbers i m 0 b ∙ e)
